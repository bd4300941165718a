-- A message that is taken meets its rule's conditions, and nothing is wrong with it; so a FINAL-ECHO is taken only from a member without a mark.
use mathlib.Core.Path.{◌≡◌, refl}
use mathlib.Core.Bool.{Bool, true, false, cond}
use Prim.Native.Nat.{ℕ, ◌-◌}
use native.Mathlib.Omega.{arith}
use Rattle.std.specs.Prelude.{Ok, Err}
use Rattle.quorum.specs.Marks.{marked}
use Rattle.frame.specs.Message.{Attested, Message, final_echo}
use Rattle.report.specs.Faults.{Standing, Nothing}
use Rattle.follower.specs.declared.Follower.{Follower}
use Rattle.follower.specs.Takes.{takes, fault_of, Taken, Ignored, wrong_or_taken, finding_of}
use Rattle.follower.proofs.Taken.{taken_echo}

taken_if : (t : Bool) (x : Standing) → cond t (wrong_or_taken x) Ignored ≡ Taken → (t ≡ true) × (x ≡ Nothing)
taken_if true (Ok tt) e = (refl, refl)
taken_if true (Err x) e = absurd (cc)
taken_if false x e = absurd (cc)

module _ (s : Follower) (f epoch leader j bits : ℕ) where
  pub finding_taken : (m : Message) → finding_of s f epoch leader j bits m ≡ Taken → (takes s epoch leader j m ≡ true) × (fault_of f bits m ≡ Nothing)
  unfolding finding_of
  finding_taken m e = taken_if (takes s epoch leader j m) (fault_of f bits m) e

  -- "none from j yet"
  pub taken_unmarked : (a : Attested) → finding_of s f epoch leader j bits (final_echo a) ≡ Taken → marked s.marks (j - 1) ≡ false
  taken_unmarked a e = (taken_echo s epoch leader j a (finding_taken (final_echo a) e).0).1
