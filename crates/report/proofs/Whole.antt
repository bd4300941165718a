-- What lies within a body that holds a whole list or a whole report, a part that lies within some bytes, and the members that entries begin with. Other crates cite it.
use mathlib.Core.List.{List, [], ◌∷◌, map}
use mathlib.Core.Path.{◌≡◌, refl, sym, ap, ap₂, ◌∙◌}
use Prim.Native.Nat.{ℕ, zero, suc, ◌+◌, ◌-◌, ◌*◌, ◌≤◌, ◌<◌}
use native.Mathlib.Omega.{arith}
use borrow.Author.Tests.{le-ltb}
use lib.Dec.{eqb}
use lib.ListN.{length, get_or, take, drop, length-map}
use lib.Seq.{get_or-take}
use Rattle.wire.specs.Numbers.{part}
use Rattle.quorum.specs.First.{column, first_repeat, distinct}
use Rattle.frame.specs.Table.{shape_of, body_length}
use Rattle.frame.specs.Decode.{entries, signer_count_in, list_place, list_end, SignersIn}
use Rattle.frame.proofs.Entries.{length_entries}
use Rattle.report.specs.Whole.{WholeList, WholeReport, part_of}

-- ---- places

pub list_stride : {stride : ℕ} {b : List ℕ} → WholeList stride b → 0 < stride
unfolding shape_of
list_stride h = omega (arith, h.wide)

pub signer_stride : 0 < (shape_of 6).signer
unfolding shape_of
signer_stride = omega arith

module _ {b : List ℕ} (h : WholeReport b) where
  pub report_head : list_place ≤ length b
  unfolding body_length
  report_head = omega (arith, h.within)

  pub report_list_end : list_end b < length b
  unfolding body_length
  report_list_end = omega (arith, h.within)

  pub report_list : WholeList (shape_of 6).entry b
  unfolding body_length
  report_list = record { wide = omega arith; within = omega (arith, h.within) }

  pub report_signers : list_end b + 1 + signer_count_in b * (shape_of 6).signer ≤ length b
  unfolding body_length
  report_signers = omega (arith, h.within)

  pub report_signer : (i : ℕ) → i < signer_count_in b → SignersIn i b
  report_signer i known = record { known = known; within = h.within }

-- ---- parts

pub part_within : (b : List ℕ) (start len : ℕ) → start + len ≤ length b → part_of b start len ≡ part b start len
part_within b start len h = rw (le-ltb (length b) start (omega arith), le-ltb (length b - start) len (omega arith))

pub part_none : (b : List ℕ) → part_of b 0 0 ≡ []
part_none b = part_within b 0 0 (omega arith)

-- ---- members

-- one part of each entry: as many as there are entries
pub length_each : {A B : Type 0} (part : A → B) (says : List ℕ → A) (stride many : ℕ) (l : List ℕ) → length (map part (entries says stride many l)) ≡ many
length_each part says stride many l = length-map (entries says stride many l) part ∙ length_entries says stride many l

-- whatever entries say: if their first byte is their member's number, their members are a column
module _
    {A : Type 0}
    (member : A → ℕ)
    (says : List ℕ → A)
    (first : (e : List ℕ) → member (says e) ≡ get_or e 0 0)
    (stride : ℕ)
    (wide : 0 < stride)
  where
    pub members_column : (many : ℕ) (l : List ℕ) → map member (entries says stride many l) ≡ column stride many l
    unfolding entries column
    members_column zero l = refl
    members_column (suc many) l = ap₂ (λ (x : ℕ) (xs : List ℕ). x ∷ xs) (first (take stride l) ∙ get_or-take stride l 0 0 wide) (members_column many (drop stride l))

    -- so a first repeat in the column is one among the members
    pub repeat_members : (many : ℕ) (l : List ℕ) {r : ℕ} → r ≡ first_repeat (column stride many l) → r ≡ first_repeat (map member (entries says stride many l))
    repeat_members many l e = e ∙ ap first_repeat (sym (members_column many l))

    pub distinct_members : (many : ℕ) (l : List ℕ) {r : ℕ} → r ≡ first_repeat (column stride many l) → distinct (map member (entries says stride many l)) ≡ eqb r many
    distinct_members many l e = ap₂ eqb (sym (repeat_members many l e)) (length_each member says stride many l)
