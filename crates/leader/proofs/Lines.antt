-- Laws of the pass that compares two lists.
use mathlib.Core.Bool.{true, false, ◌&&◌, and-false}
use mathlib.Core.List.{List, [], ◌∷◌}
use mathlib.Core.Path.{◌≡◌, refl, ap}
use Prim.Native.Nat.{ℕ, suc, ◌+◌, ◌≤◌, ◌<◌}
use native.Mathlib.Numerals.{add-one}
use native.Mathlib.Omega.{arith}
use lib.IntN.{ℤ}
use lib.ListN.{length, get_or, drop, length-map, get_or-map, drop_of_length-le}
use lib.Seq.{drop-cons}
use Rattle.frame.specs.Message.{Observation, no_observation}
use Rattle.outbox.specs.Written.{observed, observations}
use Rattle.leader.specs.Takes.{same_entry, same_list}

pub same_apart : (xs ys : List Observation) → (length xs ≡ length ys → ⊥) → same_list xs ys ≡ false
unfolding same_list
same_apart [] [] h = absurd (h refl)
same_apart [] (y ∷ ys) h = refl
same_apart (x ∷ xs) [] h = refl
same_apart (x ∷ xs) (y ∷ ys) h = rw (same_apart xs ys (λ e. h (ap suc e)), and-false)

-- the observations of a line of members
module _ (own : List ℕ) (values : List ℤ) where
  pub length_own : length (observations own values) ≡ length own
  length_own = length-map own (observed values)

  -- for a loop: entry i, and the others
  module _ (xs : List Observation) (many : length xs ≡ length own) where
    pub same_next : (i : ℕ) → i < length own → same_list (drop i xs) (drop i (observations own values)) ≡ same_entry (get_or xs i no_observation) (observed values (get_or own i 0)) && same_list (drop (i + 1) xs) (drop (i + 1) (observations own values))
    unfolding same_list
    same_next i h =
        let ys = observations own values in
        rw (add-one, drop-cons xs i no_observation (omega arith), drop-cons ys i (observed values 0) (rw length_own h), get_or-map (observed values) own i 0)

    pub same_end : (i : ℕ) → length own ≤ i → same_list (drop i xs) (drop i (observations own values)) ≡ true
    unfolding same_list
    same_end i h =
        let ys = observations own values in
        rw (drop_of_length-le xs {i = i} (omega arith), drop_of_length-le ys {i = i} (rw length_own h))
