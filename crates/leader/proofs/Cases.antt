-- Cases, said once: what each rule with a test comes to where the test holds, and where it does not.
use mathlib.Core.Bool.{Bool, true, false, not, ◌&&◌, ◌||◌, and-true, and-false}
use mathlib.Core.List.{List}
use mathlib.Core.Path.{◌≡◌, refl, sym, ◌∙◌}
use Prim.Native.Nat.{ℕ, zero, suc, ◌+◌, ◌-◌, ◌*◌, ◌≤◌, ◌<◌}
use native.Mathlib.Omega.{arith}
use borrow.Author.Tests.{eqb-true, eqb-false, eq-eqb, ne_eqb, ltb-true, lt-ltb, le-ltb}
use lib.Dec.{eqb, ltb}
use lib.IntN.{ℤ}
use Rattle.config.specs.declared.Config.{Config}
use Rattle.config.specs.declared.Timer.TheVariants as timer
use Rattle.quorum.specs.Marks.{marked}
use Rattle.quorum.proofs.Cases.{either}
use Rattle.frame.specs.Message.{Message, Observation, Signed, Attested, new_epoch, observe_req, observe, report_req, report, final, final_echo}
use Rattle.frame.specs.Decode.{message_of}
use Rattle.frame.proofs.Messages.{by_kind}
use Rattle.leader.specs.declared.Leader.{Leader}
use Rattle.leader.specs.declared.Led.{Led}
use Rattle.leader.specs.declared.Asking.TheVariants as asking
use Rattle.leader.specs.State.{collecting, in_grace, reporting, empty_round}
use Rattle.leader.specs.Takes.{observed_by, reported_by, takes}
use Rattle.leader.specs.Rules.{led, stays, next_round, with_observation, with_grace, observing, with_report, now_finished, reporting_from}

-- every round asks for observations; whether T_round runs is told, and kept
pub round_cases : (P : Led → Type 0) (c : Config) (s : Leader) → P (led (empty_round collecting (s.round + 1) 0) asking.Observations timer.Stop timer.Stop) → P (led (empty_round collecting (s.round + 1) 1) asking.Observations timer.Start timer.Stop) → P (next_round c s)
unfolding next_round
round_cases P c s p q =
    either P (eqb s.round c.r_max) (led (empty_round collecting (s.round + 1) 0) asking.Observations timer.Stop timer.Stop) (led (empty_round collecting (s.round + 1) 1) asking.Observations timer.Start timer.Stop) (λ e. p) (λ e. q)

pub observing_cases : (P : Led → Type 0) (c : Config) (s : Leader) (j : ℕ) (v : ℤ) → (observed_by c.n (with_observation s j v) ≡ 2 * c.f + 1 → P (led (with_grace (with_observation s j v)) asking.Nothing timer.Leave timer.Start)) → ((observed_by c.n (with_observation s j v) ≡ 2 * c.f + 1 → ⊥) → P (stays (with_observation s j v))) → P (observing c s j v)
unfolding observing
observing_cases P c s j v f g =
    let t = with_observation s j v in
    either P (eqb (observed_by c.n t) (2 * c.f + 1)) (led (with_grace t) asking.Nothing timer.Leave timer.Start) (stays t)
    (λ e. f (eqb-true _ _ e)) (λ e. g (eqb-false _ _ e))

pub reporting_cases : (P : Led → Type 0) (c : Config) (s : Leader) (j : ℕ) → (c.f < reported_by c.n (with_report s j) → P (led (now_finished (with_report s j)) asking.Final timer.Leave timer.Leave)) → P (stays (with_report s j)) → P (reporting_from c s j)
unfolding reporting_from
reporting_cases P c s j f g =
    let t = with_report s j in
    either P (ltb c.f (reported_by c.n t)) (led (now_finished t) asking.Final timer.Leave timer.Leave) (stays t)
    (λ e. f (ltb-true _ _ e)) (λ e. g)

-- ---- the same, for the code's own tests

module _ (c : Config) (s : Leader) where
  pub round_last : s.round ≡ c.r_max → next_round c s ≡ led (empty_round collecting (s.round + 1) 0) asking.Observations timer.Stop timer.Stop
  unfolding next_round
  round_last e = rw (eq-eqb s.round c.r_max e)

  pub round_more : (s.round ≡ c.r_max → ⊥) → next_round c s ≡ led (empty_round collecting (s.round + 1) 1) asking.Observations timer.Start timer.Stop
  unfolding next_round
  round_more e = rw (ne_eqb s.round c.r_max e)

  -- of the count r that a call gave
  module _ (j r : ℕ) where
    pub observing_at : (v : ℤ) → r ≡ observed_by c.n (with_observation s j v) → r ≡ 2 * c.f + 1 → observing c s j v ≡ led (with_grace (with_observation s j v)) asking.Nothing timer.Leave timer.Start
    unfolding observing
    observing_at v e h = rw (eq-eqb _ _ (sym e ∙ h))

    pub observing_off : (v : ℤ) → r ≡ observed_by c.n (with_observation s j v) → (r ≡ 2 * c.f + 1 → ⊥) → observing c s j v ≡ stays (with_observation s j v)
    unfolding observing
    observing_off v e h = rw (ne_eqb _ _ (λ g. h (e ∙ g)))

    pub reporting_many : r ≡ reported_by c.n (with_report s j) → c.f < r → reporting_from c s j ≡ led (now_finished (with_report s j)) asking.Final timer.Leave timer.Leave
    unfolding reporting_from
    reporting_many e h = rw (lt-ltb c.f (reported_by c.n (with_report s j)) (rw (← e) h))

    pub reporting_few : r ≡ reported_by c.n (with_report s j) → r ≤ c.f → reporting_from c s j ≡ stays (with_report s j)
    unfolding reporting_from
    reporting_few e h = rw (le-ltb c.f (reported_by c.n (with_report s j)) (rw (← e) h))

-- ---- which phase, which kind

-- while collecting or in grace, by the phase's number
open_phase : (phase : ℕ) → 1 ≤ phase → phase ≤ 2 → eqb phase collecting || eqb phase in_grace ≡ true
open_phase zero low high = absurd (omega arith)
open_phase (suc zero) low high = refl
open_phase (suc (suc zero)) low high = refl
open_phase (suc (suc (suc phase))) low high = absurd (omega arith)

module _ (s : Leader) (leads : Bool) (epoch j e r : ℕ) where
  pub observe_open : (v : ℤ) (g : List ℕ) → 1 ≤ s.phase → s.phase ≤ 2 → leads && eqb e epoch && eqb r s.round && not (marked s.observed (j - 1)) ≡ takes s leads epoch j (observe e r v g)
  observe_open v g low high = rw (open_phase s.phase low high, and-true (leads && eqb e epoch))

  pub observe_shut : (v : ℤ) (g : List ℕ) → (s.phase ≡ collecting → ⊥) → (s.phase ≡ in_grace → ⊥) → false ≡ takes s leads epoch j (observe e r v g)
  observe_shut v g p q = rw (ne_eqb s.phase collecting p, ne_eqb s.phase in_grace q, and-false (leads && eqb e epoch))

  pub report_open : (xs : List Observation) (g : List ℕ) → s.phase ≡ reporting → leads && eqb e epoch && eqb r s.round && not (marked s.reported (j - 1)) ≡ takes s leads epoch j (report e r xs g)
  report_open xs g h = rw (eq-eqb s.phase reporting h, and-true (leads && eqb e epoch))

  pub report_shut : (xs : List Observation) (g : List ℕ) → (s.phase ≡ reporting → ⊥) → false ≡ takes s leads epoch j (report e r xs g)
  report_shut xs g h = rw (ne_eqb s.phase reporting h, and-false (leads && eqb e epoch))

-- what holds of every message that is not a leader's holds of a body of another kind than OBSERVE and REPORT
pub other_kind : (P : Message → Type 0) → ((e : ℕ) → P (new_epoch e)) → ((e r : ℕ) → P (observe_req e r)) → ((e r : ℕ) (xs : List Signed) → P (report_req e r xs)) → ((a : Attested) → P (final a)) → ((a : Attested) → P (final_echo a)) → (kind : ℕ) (b : List ℕ) → 1 ≤ kind → kind ≤ 7 → (kind ≡ 3 → ⊥) → (kind ≡ 5 → ⊥) → P (message_of kind b)
other_kind P one two four six seven kind b low high p q =
    by_kind P b kind low high (λ _. one _) (λ _. two _ _) (λ e. absurd (p e)) (λ _. four _ _ _) (λ e. absurd (q e)) (λ _. six _) (λ _. seven _)
