-- Laws of the parts of a case: a list of members, and the tables behind it.
use mathlib.Core.List.{List, [], ◌∷◌}
use mathlib.Core.Path.{◌≡◌, refl, ap}
use Prim.Native.Nat.{ℕ, ◌+◌, ◌-◌, ◌*◌, ◌≤◌}
use native.Mathlib.Omega.{arith}
use lib.ListN.{length, get_or, take, drop, length-take, length-drop}
use Rattle.config.specs.Limits.{signature_size}
use Rattle.frame.specs.Decode.{entries}

-- entries of one byte each, as many as there are bytes, are the bytes
pub entries_one : (l : List ℕ) → entries (λ e. get_or e 0 0) 1 (length l) l ≡ l
unfolding entries
entries_one [] = refl
entries_one (x ∷ l) = ap (λ (r : List ℕ). x ∷ r) (entries_one l)

-- behind the values of n members stand their signatures
pub signatures_long : (l : List ℕ) (n : ℕ) → length l ≡ (8 + signature_size) * n → signature_size * n ≤ length (take (length l - 8 * n) (drop (8 * n) l))
signatures_long l n h = simp (length-take, length-drop) (omega arith)
