-- A law of permutations: entries of one byte are the list itself.
use mathlib.Core.List.{List, [], ◌∷◌}
use mathlib.Core.Path.{◌≡◌, refl, ap}
use Prim.Native.Nat.{ℕ}
use lib.ListN.{length, get_or}
use Rattle.quorum.specs.First.{column}
use Rattle.frame.specs.Decode.{entries}

pub entries_bytes : (l : List ℕ) → entries (λ (e : List ℕ). get_or e 0 0) 1 (length l) l ≡ l
unfolding entries
entries_bytes [] = refl
entries_bytes (x ∷ l) = ap (λ (m : List ℕ). x ∷ m) (entries_bytes l)

pub column_bytes : (l : List ℕ) → column 1 (length l) l ≡ l
unfolding column
column_bytes [] = refl
column_bytes (x ∷ l) = ap (λ (m : List ℕ). x ∷ m) (column_bytes l)
