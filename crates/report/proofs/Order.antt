-- The order of reports by epoch, then round: what the test says in numbers, and that it carries over a third report.
use mathlib.Core.Path.{◌≡◌, refl, sym, ap, ◌∙◌, subst}
use mathlib.Core.Bool.{Bool, true, false, ◌&&◌, ◌||◌, false≢true}
use mathlib.Core.Logic.{◌⊎◌, inl, inr}
use Prim.Native.Nat.{ℕ, ◌≤◌, ◌<◌}
use native.Mathlib.Omega.{arith}
use borrow.Author.Tests.{ltb-true, ltb-false, eqb-true, eqb-false, lt-ltb, le-ltb, eq-eqb, ne_eqb}
use lib.Dec.{ltb, eqb}
use Rattle.quorum.proofs.Cases.{cases}
use Rattle.report.specs.Newer.{newer}

-- what the test says, in numbers
abbrev pub Above : ℕ → ℕ → ℕ → ℕ → Type 0
Above e r e' r' = (e' < e) ⊎ ((e ≡ e') × (r' < r))

abbrev NotAbove : ℕ → ℕ → ℕ → ℕ → Type 0
NotAbove e r e' r' = (e < e') ⊎ ((e ≡ e') × (r ≤ r'))

above : (e r e' r' : ℕ) → newer e r e' r' ≡ true → Above e r e' r'
above e r e' r' = go (ltb e' e) (eqb e e') (ltb r' r) refl refl refl
  where
    go : (p q s : Bool) → ltb e' e ≡ p → eqb e e' ≡ q → ltb r' r ≡ s → (p || q && s) ≡ true → Above e r e' r'
    go true q s f g h k = inl (ltb-true e' e f)
    go false true true f g h k = inr (eqb-true e e' g, ltb-true r' r h)
    go false true false f g h k = absurd (false≢true k)
    go false false s f g h k = absurd (false≢true k)

not_above : (e r e' r' : ℕ) → newer e r e' r' ≡ false → NotAbove e r e' r'
not_above e r e' r' = go (ltb e' e) (eqb e e') (ltb r' r) refl refl refl
  where
    go : (p q s : Bool) → ltb e' e ≡ p → eqb e e' ≡ q → ltb r' r ≡ s → (p || q && s) ≡ false → NotAbove e r e' r'
    go true q s f g h k = absurd (false≢true (sym k))
    go false true true f g h k = absurd (false≢true (sym k))
    go false true false f g h k = inr (eqb-true e e' g, ltb-false r' r h)
    go false false s f g h k = let ne = eqb-false e e' g in inl (omega (arith, ltb-false e' e f))

pub newer_of : (e r e' r' : ℕ) → Above e r e' r' → newer e r e' r' ≡ true
newer_of e r e' r' (inl h) = rw (lt-ltb e' e h)
newer_of e r e' r' (inr (h, g)) = rw (le-ltb e' e (omega arith), eq-eqb e e' h, lt-ltb r' r g)

not_newer_of : (e r e' r' : ℕ) → NotAbove e r e' r' → newer e r e' r' ≡ false
not_newer_of e r e' r' (inl h) = rw (le-ltb e' e (omega arith), ne_eqb e e' (λ q. omega arith))
not_newer_of e r e' r' (inr (h, g)) = rw (le-ltb e' e (omega arith), eq-eqb e e' h, le-ltb r' r g)

-- newer than a newer one
pub newer_trans : (a b c d e f : ℕ) → newer a b c d ≡ true → newer c d e f ≡ true → newer a b e f ≡ true
newer_trans a b c d e f p q =
    newer_of a b e f
    (cases (above a b c d p)
    (λ h. cases (above c d e f q) (λ g. inl (omega arith)) (λ g. inl (omega arith)))
    (λ h. cases (above c d e f q) (λ g. inl (omega arith)) (λ g. inr (omega arith))))

-- not newer than one that is not newer
pub not_newer_trans : (a b c d e f : ℕ) → newer a b c d ≡ false → newer c d e f ≡ false → newer a b e f ≡ false
not_newer_trans a b c d e f p q =
    not_newer_of a b e f
    (cases (not_above a b c d p)
    (λ h. cases (not_above c d e f q) (λ g. inl (omega arith)) (λ g. inl (omega arith)))
    (λ h. cases (not_above c d e f q) (λ g. inl (omega arith)) (λ g. inr (omega arith))))

-- of two reports not both are newer
pub newer_not : (a b c d : ℕ) → newer a b c d ≡ true → newer c d a b ≡ false
newer_not a b c d p = not_newer_of c d a b (cases (above a b c d p) (λ h. inl h) (λ h. inr (omega arith)))

pub newer_self : (a b : ℕ) → newer a b a b ≡ false
newer_self a b = not_newer_of a b a b (inr (omega arith))

-- the same one or a newer one, of anything that has an epoch and a round: what is newer than that is newer, and so it carries over a third
module _ {A : Type 0} (epoch round : A → ℕ) where
  abbrev NotOlder : A → A → Type 0
  NotOlder a b = (b ≡ a) ⊎ (newer (epoch b) (round b) (epoch a) (round a) ≡ true)

  pub newer_not_older : (e r : ℕ) (a b : A) → NotOlder a b → newer e r (epoch b) (round b) ≡ true → newer e r (epoch a) (round a) ≡ true
  newer_not_older e r a b (inl same) h = ap (λ (x : A). newer e r (epoch x) (round x)) (sym same) ∙ h
  newer_not_older e r a b (inr above) h = newer_trans e r (epoch b) (round b) (epoch a) (round a) h above

  pub not_older_trans : (a b c : A) → NotOlder a b → NotOlder b c → NotOlder a c
  not_older_trans a b c h (inl same) = subst (NotOlder a) (sym same) h
  not_older_trans a b c h (inr above) = inr (newer_not_older (epoch c) (round c) a b h above)
