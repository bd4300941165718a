-- What stands at the start of some bytes is read from there, whatever comes behind it: entries, and a report's body.
use mathlib.Core.Path.{◌≡◌, refl, sym, ap, ap₂, ◌∙◌}
use mathlib.Core.Bool.{true}
use mathlib.Core.List.{List, ◌∷◌, ◌++◌}
use Prim.Native.Nat.{ℕ, zero, suc, ◌+◌, ◌*◌, ◌≤◌, ◌<◌}
use native.Mathlib.Nat.{mul-suc, add_comm}
use native.Mathlib.Omega.{arith}
use lib.ListN.{get_or, take, drop}
use lib.Seq.{get_or-take, take-take}
use Rattle.wire.specs.Numbers.{part}
use Rattle.frame.specs.Message.{Attested}
use Rattle.frame.specs.Encode.{attested_bytes}
use Rattle.frame.specs.Decode.{entries, attested_in}
use Rattle.frame.specs.Range.{good_attested}
use Rattle.frame.specs.Claims.{WritableAttested}
use Rattle.frame.proofs.Access.{part_of_take}
use Rattle.frame.proofs.Ranges.{good_attested_facts}
use Rattle.frame.proofs.RoundTrip.{attested_front}

-- ---- bytes that agree so far

-- entries are read of the bytes that they have
entries_front : {A : Type 0} (says : List ℕ → A) (stride many : ℕ) (l : List ℕ) → entries says stride many (take (stride * many) l) ≡ entries says stride many l
unfolding entries
entries_front says stride zero l = refl
entries_front says stride (suc many) l =
    let n = stride * suc many in
    let e : n ≡ stride + stride * many = mul-suc stride many ∙ add_comm (stride * many) stride in
    ap₂ ◌∷◌
    (ap says (take-take stride n l (omega arith)))
    (sym (entries_front says stride many (drop stride (take n l))) ∙ ap (entries says stride many) (part_of_take (stride * many) stride n l (omega arith)) ∙ entries_front says stride many (drop stride l))

-- two lists whose first n bytes are the same
module _ (b c : List ℕ) (n : ℕ) (same : take n b ≡ take n c) where
  pub byte_same : (i : ℕ) → i < n → get_or b i 0 ≡ get_or c i 0
  byte_same i h = sym (get_or-take n b i 0 h) ∙ ap (λ (l : List ℕ). get_or l i 0) same ∙ get_or-take n c i 0 h

  pub part_same : (at k : ℕ) → at + k ≤ n → part b at k ≡ part c at k
  part_same at k h = sym (part_of_take k at n b h) ∙ ap (λ (l : List ℕ). part l at k) same ∙ part_of_take k at n c h

  pub entries_same : {A : Type 0} (says : List ℕ → A) (stride many at : ℕ) → at + stride * many ≤ n → entries says stride many (drop at b) ≡ entries says stride many (drop at c)
  entries_same says stride many at h =
      sym (entries_front says stride many (drop at b))
      ∙ ap (entries says stride many) (part_same at (stride * many) h)
      ∙ entries_front says stride many (drop at c)

-- ---- a report's body

pub record Stands (n : ℕ) (a : Attested) (b : List ℕ) : Type 0 where
  pub good : good_attested n a ≡ true
  pub writable : WritableAttested a
  pub rest : List ℕ
  pub bytes : b ≡ attested_bytes a ++ rest

pub stands_says : (n : ℕ) (a : Attested) (b : List ℕ) → Stands n a b → attested_in b ≡ a
stands_says n a b s = ap attested_in s.bytes ∙ attested_front a s.writable s.rest (good_attested_facts n a s.good).head.epoch.most
