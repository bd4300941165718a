-- What the relation of two rounds tells: 1 where they are the same, above 1 where the first is the later one.
use mathlib.Core.Path.{◌≡◌, refl}
use mathlib.Core.Bool.{Bool, true, false, cond}
use Prim.Native.Nat.{ℕ}
use native.Mathlib.Omega.{arith}
use borrow.Author.Tests.{ltb-true, ltb-false, eqb-true, eqb-false, lt-ltb, le-ltb}
use lib.Dec.{eqb, ltb}
use Rattle.follower.specs.Takes.{relation_of}

same_if : (r own : ℕ) (below same : Bool) → ltb r own ≡ below → eqb r own ≡ same → same ≡ eqb (cond below 0 (cond same 1 2)) 1
same_if r own true true h e = absurd (omega (arith, ltb-true r own h, eqb-true r own e))
same_if r own true false h e = refl
same_if r own false true h e = refl
same_if r own false false h e = refl

above_if : (r own : ℕ) (below same : Bool) → ltb r own ≡ below → eqb r own ≡ same → ltb own r ≡ ltb 1 (cond below 0 (cond same 1 2))
above_if r own true same h e = le-ltb own r (omega (arith, ltb-true r own h))
above_if r own false true h e = le-ltb own r (omega (arith, eqb-true r own e))
above_if r own false false h e =
    let other = eqb-false r own e in
    lt-ltb own r (omega (arith, ltb-false r own h))

module _ (r own x : ℕ) (h : x ≡ relation_of r own) where
  pub same_round : eqb r own ≡ eqb x 1
  same_round = rw h (same_if r own (ltb r own) (eqb r own) refl refl)

  pub later_round : ltb own r ≡ ltb 1 x
  later_round = rw h (above_if r own (ltb r own) (eqb r own) refl refl)
