-- What it tells of an event that a leader takes it: its conditions, one by one; so its rule is one of those that a run goes by.
use mathlib.Core.Bool.{Bool, true, false, not, ◌&&◌, ◌||◌}
use mathlib.Core.List.{List}
use mathlib.Core.Logic.{◌⊎◌, inl, inr}
use mathlib.Core.Path.{◌≡◌, refl}
use Prim.Native.Nat.{ℕ, ◌-◌, ◌*◌, ◌≤◌, ◌<◌}
use native.Mathlib.Omega.{arith}
use borrow.Author.Tests.{ltb-true, eqb-true, not-true}
use lib.Dec.{eqb, ltb}
use lib.IntN.{ℤ}
use Rattle.config.specs.declared.Config.{Config}
use Rattle.config.proofs.Facts.{and_five}
use Rattle.quorum.specs.Marks.{marked}
use Rattle.quorum.proofs.Cases.{cases}
use Rattle.frame.specs.Message.{Observation, observe, report}
use Rattle.frame.proofs.Ranges.{OneTo}
use Rattle.leader.specs.declared.Leader.{Leader}
use Rattle.leader.specs.State.{collecting, in_grace, reporting}
use Rattle.leader.specs.Takes.{current, takes, fires_grace, observed_by}
use Rattle.leader.specs.Rules.{observing, closing, reporting_from}
use Rattle.leader.specs.Runs.{Next, by_observe, by_grace, by_report}

-- ---- T_grace

-- it leads
pub grace_leads : (n f : ℕ) (s : Leader) (leads : Bool) → fires_grace n f s leads ≡ true → leads ≡ true
grace_leads n f s true h = refl
grace_leads n f s false h = h

pub fired_grace : (n f : ℕ) (s : Leader) → fires_grace n f s true ≡ true → (s.phase ≡ in_grace) × (2 * f < observed_by n s)
fired_grace n f s e =
    let p = and_five true (eqb s.t_grace 1) (eqb s.phase in_grace) (ltb (2 * f) (observed_by n s)) (ltb 0 s.round) e in
    (eqb-true s.phase in_grace p.2, ltb-true (2 * f) (observed_by n s) p.3)

pub grace_next : (c : Config) (s : Leader) (leads : Bool) → fires_grace c.n c.f s leads ≡ true → Next c s (closing s).leader
grace_next c s leads h = by_grace (rw (grace_leads c.n c.f s leads h) at h)

-- ---- a message

-- it leads, and the message is of its epoch and round
pub record InTime (s : Leader) (leads : Bool) (epoch e r : ℕ) : Type 0 where
  pub leading : leads ≡ true
  pub epoch_same : e ≡ epoch
  pub round_same : r ≡ s.round

-- with what the phase and the member's mark are to be
in_time : (s : Leader) (leads : Bool) (epoch e r : ℕ) (phase new : Bool) → current leads epoch e && phase && eqb r s.round && new ≡ true → InTime s leads epoch e r × (phase ≡ true) × (new ≡ true)
in_time s leads epoch e r phase new h =
    let p = and_five leads (eqb e epoch) phase (eqb r s.round) new h in
    (record { leading = p.0; epoch_same = eqb-true e epoch p.1; round_same = eqb-true r s.round p.3 }, p.2, p.4)

-- an OBSERVE comes while collecting or in grace, and is the member's first
pub record TakenObserve (s : Leader) (leads : Bool) (epoch j e r : ℕ) : Type 0 where
  pub in_time : InTime s leads epoch e r
  pub least : 1 ≤ s.phase
  pub most : s.phase ≤ in_grace
  pub new : marked s.observed (j - 1) ≡ false

-- a REPORT comes after that
pub record TakenReport (s : Leader) (leads : Bool) (epoch e r : ℕ) : Type 0 where
  pub in_time : InTime s leads epoch e r
  pub phase : s.phase ≡ reporting

module _ (s : Leader) (leads : Bool) (epoch j e r : ℕ) where
  pub taken_observe : (v : ℤ) (g : List ℕ) → takes s leads epoch j (observe e r v g) ≡ true → TakenObserve s leads epoch j e r
  taken_observe v g h =
      let (time, phase, new) = in_time s leads epoch e r (eqb s.phase collecting || eqb s.phase in_grace) (not (marked s.observed (j - 1))) h in
      cases (or-true (eqb s.phase collecting) (eqb s.phase in_grace) phase)
      (λ h. let k = eqb-true s.phase collecting h in record { in_time = time; least = omega arith; most = omega arith; new = not-true _ new })
      (λ h. let k = eqb-true s.phase in_grace h in record { in_time = time; least = omega arith; most = omega arith; new = not-true _ new })
    where
      or-true : (a b : Bool) → a || b ≡ true → (a ≡ true) ⊎ (b ≡ true)
      or-true true b e = inl refl
      or-true false b e = inr e

  pub taken_report : (xs : List Observation) (g : List ℕ) → takes s leads epoch j (report e r xs g) ≡ true → TakenReport s leads epoch e r
  taken_report xs g h =
      let (time, phase, new) = in_time s leads epoch e r (eqb s.phase reporting) (not (marked s.reported (j - 1))) h in
      record { in_time = time; phase = eqb-true s.phase reporting phase }

-- so its rule is one of the leader's own
module _ (c : Config) (s : Leader) (leads : Bool) (epoch j e r : ℕ) where
  pub observe_next : (v : ℤ) (g : List ℕ) → OneTo c.n j → takes s leads epoch j (observe e r v g) ≡ true → Next c s (observing c s j v).leader
  observe_next v g o h =
      let k = (taken_observe s leads epoch j e r v g h).in_time in
      by_observe epoch j v g o.least o.most (rw (k.leading, k.epoch_same, k.round_same) at h)

  pub report_next : (xs : List Observation) (g : List ℕ) → OneTo c.n j → takes s leads epoch j (report e r xs g) ≡ true → Next c s (reporting_from c s j).leader
  report_next xs g o h =
      let k = (taken_report s leads epoch j e r xs g h).in_time in
      by_report epoch j xs g o.least o.most (rw (k.leading, k.epoch_same, k.round_same) at h)
