-- Entries of a list, of whatever type: where they stand, of two lists put together, and where one place is set.
use mathlib.Core.Path.{◌≡◌, refl, ap}
use mathlib.Core.Logic.{◌⊎◌, inl, inr}
use mathlib.Core.List.{List, [], ◌∷◌, ◌++◌}
use Prim.Native.Nat.{ℕ, zero, suc, ◌<◌}
use native.Mathlib.Omega.{arith}
use lib.ListN.{length, get_or, set}
use Rattle.quorum.specs.First.{OneOf}
use Rattle.quorum.proofs.Cases.{cases}

pub one_of_front : {A : Type 0} (x : A) (l m : List A) → OneOf x l → OneOf x (l ++ m)
one_of_front x [] m h = absurd h
one_of_front x (a ∷ l) m (inl e) = inl e
one_of_front x (a ∷ l) m (inr h) = inr (one_of_front x l m h)

pub one_of_back : {A : Type 0} (x : A) (l m : List A) → OneOf x m → OneOf x (l ++ m)
one_of_back x [] m h = h
one_of_back x (a ∷ l) m h = inr (one_of_back x l m h)

pub one_of_either : {A : Type 0} (x : A) (l m : List A) → OneOf x (l ++ m) → OneOf x l ⊎ OneOf x m
one_of_either x [] m h = inr h
one_of_either x (a ∷ l) m (inl e) = inl (inl e)
one_of_either x (a ∷ l) m (inr h) = cases (one_of_either x l m h) (λ k. inl (inr k)) (λ k. inr k)

-- an entry within a list is one of it
pub one_at : {A : Type 0} (l : List A) (i : ℕ) (none : A) → i < length l → OneOf (get_or l i none) l
one_at [] i none h = absurd (omega arith)
one_at (a ∷ l) zero none h = inl refl
one_at (a ∷ l) (suc i) none h = inr (one_at l i none (omega arith))

-- within a list it does not matter what stands past its end
pub within : {A : Type 0} (l : List A) (i : ℕ) (a b : A) → i < length l → get_or l i a ≡ get_or l i b
within [] i a b h = absurd (omega arith)
within (x ∷ l) zero a b h = refl
within (x ∷ l) (suc i) a b h = within l i a b (omega arith)

-- where one place is set, each place is as it was, or is that place and has the new entry
pub set_either : {A : Type 0} (l : List A) (i k : ℕ) (a none : A) → (get_or (set l i a) k none ≡ get_or l k none) ⊎ ((k ≡ i) × (get_or (set l i a) k none ≡ a))
set_either [] i k a none = inl refl
set_either (b ∷ l) zero zero a none = inr (refl, refl)
set_either (b ∷ l) zero (suc k) a none = inl refl
set_either (b ∷ l) (suc i) zero a none = inl refl
set_either (b ∷ l) (suc i) (suc k) a none = cases (set_either l i k a none) (λ e. inl e) (λ e. inr (ap suc e.0, e.1))
