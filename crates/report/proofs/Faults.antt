-- Laws of faults: Done is answered where nothing is wrong, and of two faults there is none where neither is.
use mathlib.Core.Bool.{Bool, true, false, cond, false≢true}
use mathlib.Core.Path.{◌≡◌, refl, sym, ap, ◌∙◌}
use Prim.Native.Nat.{ℕ, ◌≤◌, ◌<◌}
use native.Mathlib.Omega.{arith}
use borrow.Author.Tests.{lt-ltb, le-ltb, ltb-false, eqb-true, eq-eqb}
use lib.Dec.{eqb, ltb}
use Rattle.std.specs.Prelude.{Ok, Err}
use Rattle.config.specs.Codes.{is_done}
use Rattle.config.proofs.Passed.{stage_passed}
use Rattle.quorum.specs.First.{first_at}
use Rattle.quorum.proofs.First.{first_law}
use Rattle.report.specs.declared.Fault.{Fault}
use Rattle.report.specs.declared.Fault.TheVariants as fault
use Rattle.report.specs.Faults.{Standing, Nothing, code_of, first_fault}

-- a fault is answered with another code than that of a rule that ran
pub wrong_code : (x : Fault) → is_done (code_of (Err x)) ≡ false
wrong_code fault.Few = refl
wrong_code fault.Falling = refl
wrong_code fault.Twice = refl
wrong_code fault.TooFewSigners = refl
wrong_code (fault.SignerTwice i) = refl
wrong_code (fault.ClearBit i) = refl

pub done_nothing : (x : Standing) → is_done (code_of x) ≡ true → x ≡ Nothing
done_nothing (Ok tt) e = refl
done_nothing (Err x) e = absurd (false≢true (sym (wrong_code x) ∙ e))

pub first_nothing : (x y : Standing) → first_fault x y ≡ Nothing → (x ≡ Nothing) × (y ≡ Nothing)
first_nothing (Ok tt) y e = (refl, e)
first_nothing (Err x) y e = absurd (false≢true (sym (wrong_code x) ∙ ap (λ (z : Standing). is_done (code_of z)) e))

-- a test with its fault, and the tests after it
pub test_nothing : (t : Bool) (x rest : Standing) → is_done (code_of x) ≡ false → cond t x rest ≡ Nothing → (t ≡ false) × (rest ≡ Nothing)
test_nothing t x rest w e =
    let p = stage_passed code_of t x rest w (ap (λ (z : Standing). is_done (code_of z)) e) in
    (p.0, done_nothing rest p.1)

-- ---- the fault at a first place

module _ (wrong : ℕ → Standing) where
  -- for the code that found the place r
  pub fault_at : (r place n : ℕ) → r ≡ place → r < n → wrong r ≡ cond (ltb place n) (wrong place) Nothing
  fault_at r place n e h = rw (← e, lt-ltb r n h)

  pub fault_none : (r place n : ℕ) → r ≡ place → n ≤ r → Nothing ≡ cond (ltb place n) (wrong place) Nothing
  fault_none r place n e h = rw (← e, le-ltb r n h)

  -- there is none exactly if no place is found
  pub first_at_nothing : (p : ℕ → Bool) (n : ℕ) → is_done (code_of (wrong (first_at p n))) ≡ false → cond (ltb (first_at p n) n) (wrong (first_at p n)) Nothing ≡ Nothing → eqb (first_at p n) n ≡ true
  first_at_nothing p n w e =
      let h = ltb-false (first_at p n) n (test_nothing (ltb (first_at p n) n) (wrong (first_at p n)) Nothing w e).0 in
      eq-eqb (first_at p n) n (omega (arith, (first_law p n).within))

  pub nothing_first_at : (p : ℕ → Bool) (n : ℕ) → eqb (first_at p n) n ≡ true → cond (ltb (first_at p n) n) (wrong (first_at p n)) Nothing ≡ Nothing
  nothing_first_at p n e = sym (fault_none (first_at p n) (first_at p n) n refl (omega (arith, eqb-true (first_at p n) n e)))
