-- Laws of values: their order, lists that do not fall, and the median.
use mathlib.Core.Bool.{true, not, ◌&&◌, false≢true}
use mathlib.Core.List.{List, [], ◌∷◌}
use mathlib.Core.Path.{◌≡◌, refl, sym, ap, ◌∙◌}
use Prim.Native.Nat.{ℕ, zero, suc, ◌-◌, ◌/◌, ◌≤◌, ◌<◌}
use native.Mathlib.Omega.{arith}
use borrow.Author.Tests.{leb-true, le-leb}
use lib.Dec.{leb}
use lib.IntN.{ℤ, pos, negsuc}
use lib.ListN.{length, get_or, drop, length-map, get_or-map}
use lib.Signed.{lt_z, le_z}
use Rattle.price.specs.Median.{median_place, median_of}
use Rattle.quorum.proofs.Cases.{leb_not_ltb}
use Rattle.frame.specs.Message.{Observation, no_observation}
use Rattle.report.specs.Stands.{values_of, not_falling}

-- ---- the order of values

pub le_z_same : (v : ℤ) → le_z v v ≡ true
le_z_same (pos a) = le-leb a a (omega arith)
le_z_same (negsuc a) = le-leb a a (omega arith)

leb_trans : (a b c : ℕ) → leb a b ≡ true → leb b c ≡ true → leb a c ≡ true
leb_trans a b c e g = le-leb a c (omega (arith, leb-true a b e, leb-true b c g))

pub le_z_trans : (u v w : ℤ) → le_z u v ≡ true → le_z v w ≡ true → le_z u w ≡ true
le_z_trans (pos a) (pos b) (pos c) e g = leb_trans a b c e g
le_z_trans (pos a) (pos b) (negsuc c) e g = g
le_z_trans (pos a) (negsuc b) w e g = absurd (false≢true e)
le_z_trans (negsuc a) (pos b) (pos c) e g = refl
le_z_trans (negsuc a) (pos b) (negsuc c) e g = absurd (false≢true g)
le_z_trans (negsuc a) (negsuc b) (pos c) e g = refl
le_z_trans (negsuc a) (negsuc b) (negsuc c) e g = leb_trans c b a g e

-- one value is not above another exactly if the other is not below it
pub le_not_lt : (v w : ℤ) → le_z v w ≡ not (lt_z w v)
le_not_lt (pos a) (pos b) = leb_not_ltb a b
le_not_lt (pos a) (negsuc b) = refl
le_not_lt (negsuc a) (pos b) = refl
le_not_lt (negsuc a) (negsuc b) = leb_not_ltb b a

-- ---- lists that do not fall

falling_from : (l : List Observation) (j : ℕ) → suc j < length l → not_falling (drop j (values_of l)) ≡ not (lt_z (get_or l (suc j) no_observation).value (get_or l j no_observation).value) && not_falling (drop (suc j) (values_of l))
unfolding not_falling
falling_from [] j h = absurd (omega arith)
falling_from (o ∷ []) j h = absurd (omega arith)
falling_from (o ∷ p ∷ l) zero h = rw (le_not_lt o.value p.value)
falling_from (o ∷ p ∷ l) (suc j) h = falling_from (p ∷ l) j (omega arith)

-- for a loop: entry i and the one before it, and the others
pub falling_next : (l : List Observation) (i : ℕ) → 0 < i → i < length l → not_falling (drop (i - 1) (values_of l)) ≡ not (lt_z (get_or l i no_observation).value (get_or l (i - 1) no_observation).value) && not_falling (drop i (values_of l))
falling_next l zero g h = absurd (omega arith)
falling_next l (suc j) g h = let e : suc j - 1 ≡ j = omega arith in rw e (falling_from l j h)

-- at its end: one entry has none before it
pub falling_end : (l : List ℤ) (j : ℕ) → length l ≤ suc j → not_falling (drop j l) ≡ true
unfolding not_falling
falling_end [] zero h = refl
falling_end [] (suc j) h = refl
falling_end (v ∷ []) zero h = refl
falling_end (v ∷ w ∷ l) zero h = absurd (omega arith)
falling_end (v ∷ l) (suc j) h = falling_end l j (omega arith)

-- ---- the median

pub median_values : (l : List Observation) → (get_or l (median_place (length l)) no_observation).value ≡ median_of (values_of l)
median_values l =
    sym (get_or-map (λ (o : Observation). o.value) l (length l / 2) no_observation)
    ∙ ap (λ (m : ℕ). get_or (values_of l) (m / 2) (pos 0)) (sym (length-map l (λ (o : Observation). o.value)))
