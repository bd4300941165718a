-- What a body's checks leave to whoever reads on: the list, and the whole report, lie within the body.
use Rattle.std.specs.Prelude.{cond, List, [], ◌∷◌, ℕ, ◌+◌, ◌-◌, ◌*◌, ◌≤◌, ltb, length}
use Rattle.wire.specs.Numbers.{part}
use Rattle.frame.specs.Message.{Attested}
use Rattle.frame.specs.Table.{shape_of, body_length}
use Rattle.frame.specs.Decode.{count_in, list_place, signer_count_in, attested_in}

-- a list whose entries have this stride
pub record WholeList (stride : ℕ) (b : List ℕ) : Type 0 where
  pub wide : (shape_of 6).entry ≤ stride
  pub within : list_place + count_in b * stride ≤ length b

-- how long the FINAL body at the start of a list of bytes is
abbrev pub final_length : List ℕ → ℕ
final_length b = body_length 6 (count_in b) (signer_count_in b)

-- a FINAL body, at the start of a list of bytes that may be longer
pub record WholeReport (b : List ℕ) : Type 0 where
  pub within : final_length b ≤ length b

-- the bytes from start on, `len` of them; none where that part does not lie within the list
abbrev pub part_of : List ℕ → ℕ → ℕ → List ℕ
part_of b start len = cond (ltb (length b) start) [] (cond (ltb (length b - start) len) [] (part b start len))

-- the report that a call hands out, if it does: its part is not empty
abbrev pub report_of : List ℕ → List Attested
report_of [] = []
report_of (b ∷ bs) = attested_in (b ∷ bs) ∷ []
