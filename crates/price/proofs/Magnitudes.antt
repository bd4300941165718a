-- Magnitudes of integers: of one below zero, and of a difference by the two signs.
use mathlib.Core.Path.{◌≡◌, refl, sym, ◌∙◌, ap, subst}
use mathlib.Core.Bool.{Bool, true, false, not, beq}
use Prim.Native.Nat.{ℕ, suc, zero, ◌+◌, ◌-◌, ◌<◌, ◌≤◌}
use native.Mathlib.Omega.{arith}
use lib.Dec.{T, ltb}
use lib.IntN.{ℤ, pos, negsuc, nat_abs, ◌-ℤ◌, sub_ℕ}
use lib.Signed.{lt_z, non_neg}
use mir.Syntax.{w64}
use mir.Val.{SFits, Fits, to_z, of_z}
use mir.ValLaws.{to_z-of_z}
use borrow.Author.Tests.{lt-ltb, le-ltb, ltb-true, ltb-false}
use Rattle.price.specs.Deviation.{distance_of}

-- what a signed operation, and a call with a signed argument, reads back from the bits of x
pub back : (x : ℤ) → SFits w64 x → to_z w64 (of_z w64 x) ≡ x
back = to_z-of_z w64

-- a − b by the order of the two
pub sub_le : (a b : ℕ) → b ≤ a → sub_ℕ a b ≡ pos (a - b)
sub_le a b h = rw (le-ltb a b h)

pub sub_lt : (a b : ℕ) → a < b → sub_ℕ a b ≡ negsuc (b - suc a)
sub_lt a b h = rw (lt-ltb a b h)

-- −1 − x, for an x below zero
pub flip : (n : ℕ) → negsuc 0 -ℤ negsuc n ≡ pos n
flip n = sub_le (suc n) 1 (omega arith) ∙ ap pos (omega arith)

-- what −1 − x is, for an x below zero
pub record Below (x : ℤ) : Type 0 where
  pub fits : SFits w64 (negsuc 0 -ℤ x)
  pub nonneg : T (non_neg (negsuc 0 -ℤ x))
  pub one_less : nat_abs (negsuc 0 -ℤ x) + 1 ≡ nat_abs x

pub below : (x : ℤ) → SFits w64 x → lt_z x (pos 0) ≡ true → Below x
below (pos n) f h = let e : n < 0 = ltb-true n 0 h in absurd (omega arith)
below (negsuc n) f h =
    record {
      fits = subst (λ z. SFits w64 z) (sym (flip n)) (record { sfits = f.sfits });
      nonneg = subst (λ z. T (non_neg z)) (sym (flip n)) tt;
      one_less = ap (λ z. nat_abs z + 1) (flip n) ∙ omega arith;
    }

pub not_below_lem : (x : ℤ) → lt_z x (pos 0) ≡ false → T (non_neg x)
not_below_lem (pos n) h = tt
not_below_lem (negsuc n) h = let z : ◌≡◌ {A = ℕ} 0 1 = cc in absurd (omega arith)

pub sign : (x : ℤ) → lt_z x (pos 0) ≡ not (non_neg x)
sign (pos n) = le-ltb n 0 (omega arith)
sign (negsuc n) = refl

pub nat_abs_fits : (x : ℤ) → SFits w64 x → Fits w64 (nat_abs x)
nat_abs_fits (pos n) f = record { fits = omega (arith, f.sfits) }
nat_abs_fits (negsuc n) f = record { fits = omega (arith, f.sfits) }

-- ---- the distance of two integers, by their signs and magnitudes

nat_abs_sub : (a b : ℕ) → (a - b) + (b - a) ≡ nat_abs (sub_ℕ a b)
nat_abs_sub a b = go (ltb a b) refl
  where
    go : (t : Bool) → ltb a b ≡ t → (a - b) + (b - a) ≡ nat_abs (sub_ℕ a b)
    go true e = let h = ltb-true a b e in omega (arith, ap nat_abs (sub_lt a b h))
    go false e = let h = ltb-false a b e in omega (arith, ap nat_abs (sub_le a b h))

never : {X : Type 0} → true ≡ false → X
never e = absurd (subst T e tt)

-- whether two integers lie on one side of 0
abbrev pub together : ℤ → ℤ → Bool
together a b = beq (not (non_neg a)) (not (non_neg b))

module _ (a b : ℕ) where
  -- on one side of 0 the distance is that of the magnitudes
  pub same_side : (old new : ℤ) → a ≡ nat_abs old → b ≡ nat_abs new → together old new ≡ true → (a - b) + (b - a) ≡ distance_of old new
  same_side (pos zero) (pos n) p q e = omega arith
  same_side (pos (suc m)) (pos n) p q e = omega (arith, nat_abs_sub n (suc m))
  same_side (negsuc m) (negsuc n) p q e = omega (arith, nat_abs_sub (suc m) (suc n))
  same_side (pos m) (negsuc n) p q e = never (sym e)
  same_side (negsuc m) (pos n) p q e = never (sym e)

  -- on both sides it is the sum of the magnitudes
  pub other_side : (old new : ℤ) → a ≡ nat_abs old → b ≡ nat_abs new → together old new ≡ false → a + b ≡ distance_of old new
  other_side (pos zero) (negsuc n) p q e = omega (arith, nat_abs_sub 0 (suc n))
  other_side (pos (suc m)) (negsuc n) p q e = omega arith
  other_side (negsuc m) (pos n) p q e = omega arith
  other_side (pos m) (pos n) p q e = never e
  other_side (negsuc m) (negsuc n) p q e = never e

  -- and that sum fits 64 bits: one of the two is below 2^63
  pub other_fits : (old new : ℤ) → SFits w64 old → SFits w64 new → a ≡ nat_abs old → b ≡ nat_abs new → together old new ≡ false → Fits w64 (a + b)
  other_fits (pos m) (negsuc n) f g p q e = record { fits = omega (arith, f.sfits, g.sfits) }
  other_fits (negsuc m) (pos n) f g p q e = record { fits = omega (arith, f.sfits, g.sfits) }
  other_fits (pos m) (pos n) f g p q e = never e
  other_fits (negsuc m) (negsuc n) f g p q e = never e
