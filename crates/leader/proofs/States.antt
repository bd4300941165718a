-- States that rules lead to: tables stay in range, each phase tells how many have observed, and within a round no phase comes again.
use mathlib.Core.Bool.{true}
use mathlib.Core.List.{List}
use mathlib.Core.Path.{◌≡◌, ◌∙◌}
use Prim.Native.Nat.{ℕ, suc, ◌-◌, ◌*◌, ◌≤◌}
use native.Mathlib.Nat.{le_refl}
use native.Mathlib.Omega.{arith}
use borrow.Author.Rules.{rules}
use borrow.Author.Tests.{leb-true, le-leb}
use lib.Dec.{leb}
use lib.IntN.{ℤ}
use lib.ListN.{length, length-set, length-replicate}
use Rattle.config.specs.Limits.{members}
use Rattle.config.specs.declared.Config.{Config}
use Rattle.config.proofs.Facts.{and_five}
use Rattle.quorum.specs.Marks.{flags}
use Rattle.quorum.proofs.Cases.{cases, split}
use Rattle.quorum.proofs.Marks.{marks_more, marks_none, flags_mark, flags_none}
use Rattle.frame.specs.Message.{observe}
use Rattle.leader.specs.declared.Leader.{Leader}
use Rattle.leader.specs.State.{collecting, finished, good_leader}
use Rattle.leader.specs.Takes.{takes, observed_by}
use Rattle.leader.specs.Rules.{with_observation, closing}
use Rattle.leader.specs.Runs.{Next, by_round, by_observe, by_grace, by_report, Lived, begun, then}
use Rattle.leader.specs.Claims.{Counted}
use Rattle.leader.proofs.Cases.{round_cases, observing_cases, reporting_cases}
use Rattle.leader.proofs.Taken.{taken_observe, taken_report, fired_grace}

-- ---- in range

pub record InRange (s : Leader) : Type 0 where
  pub phase : s.phase ≤ finished
  pub t_round : s.t_round ≤ 1
  pub t_grace : s.t_grace ≤ 1
  pub observed : flags s.observed ≡ true
  pub reported : flags s.reported ≡ true

pub good_facts : (s : Leader) → good_leader s ≡ true → InRange s
unfolding good_leader
good_facts s h =
    let p = and_five (leb s.phase finished) (leb s.t_round 1) (leb s.t_grace 1) (flags s.observed) (flags s.reported) h in
    record { phase = leb-true _ _ p.0; t_round = leb-true _ _ p.1; t_grace = leb-true _ _ p.2; observed = p.3; reported = p.4 }

pub facts_good : (s : Leader) → InRange s → good_leader s ≡ true
unfolding good_leader
facts_good s r =
    rw (le-leb s.phase finished r.phase, le-leb s.t_round 1 r.t_round, le-leb s.t_grace 1 r.t_grace, r.observed, r.reported)

pub next_in_range : (c : Config) (s t : Leader) → Next c s t → InRange s → InRange t
unfolding closing
next_in_range c s t by_round r =
    let none = flags_none members in
    round_cases (λ l. InRange l.leader) c s (search rules) (search rules)
next_in_range c s t (by_observe epoch j v g low high e) r =
    let flag = flags_mark s.observed (j - 1) r.observed in
    observing_cases (λ l. InRange l.leader) c s j v (λ e. search rules) (λ e. search rules)
next_in_range c s t (by_grace e) r = search rules
next_in_range c s t (by_report epoch j xs g low high e) r =
    let flag = flags_mark s.reported (j - 1) r.reported in
    reporting_cases (λ l. InRange l.leader) c s j (λ e. search rules) (search rules)

-- ---- how many have observed

-- what every rule keeps: the count fits the phase, and the table has a place for each member
pub record Tallied (c : Config) (s : Leader) : Type 0 where
  pub counted : Counted c s
  pub long : length s.observed ≡ members

-- an OBSERVE that is taken is one more
pub observe_more : (c : Config) (s : Leader) (epoch j : ℕ) (v : ℤ) (g : List ℕ) → c.n ≤ members → length s.observed ≡ members → 1 ≤ j → j ≤ c.n → takes s true epoch j (observe epoch s.round v g) ≡ true → observed_by c.n (with_observation s j v) ≡ suc (observed_by c.n s)
observe_more c s epoch j v g small long low high e = marks_more c.n j s.observed low high (omega arith) (taken_observe s true epoch j epoch s.round v g e).new

next_tallied : (c : Config) (s t : Leader) → c.n ≤ members → Next c s t → Tallied c s → Tallied c t
unfolding closing
next_tallied c s t small by_round k =
    let none = marks_none c.n members in
    let long = length-replicate {A = ℕ} members 0 in
    round_cases (λ l. Tallied c l.leader) c s (record { counted = omega arith; long = long }) (record { counted = omega arith; long = long })
next_tallied c s t small (by_observe epoch j v g low high e) k =
    let more = observe_more c s epoch j v g small k.long low high e in
    let long = length-set s.observed (j - 1) 1 ∙ k.long in
    observing_cases (λ l. Tallied c l.leader) c s j v
    (λ at. record { counted = omega arith; long = long })
    (λ off. record {
      counted = record {
        few = λ p. omega (arith, off, k.counted.few p);
        grace = λ p. omega (arith, k.counted.grace p);
        asked = λ p. omega (arith, k.counted.asked p);
        done = λ p. omega (arith, k.counted.done p);
      };
      long = long;
    })
next_tallied c s t small (by_grace e) k =
    record { counted = omega (arith, (fired_grace c.n c.f s e).1); long = k.long }
next_tallied c s t small (by_report epoch j xs g low high e) k =
    let asked = k.counted.asked (taken_report s true epoch j epoch s.round xs g e).phase in
    reporting_cases (λ l. Tallied c l.leader) c s j (λ e. record { counted = omega arith; long = k.long }) (search rules)

pub lived_tallied : (c : Config) {s : Leader} → c.n ≤ members → Lived c s → Tallied c s
lived_tallied c small begun = record { counted = omega arith; long = length-replicate {A = ℕ} members 0 }
lived_tallied c small (then {s = s} {t = t} l next) = next_tallied c s t small next (lived_tallied c small l)

-- ---- in which order

-- an OBSERVE that makes more than 2f comes while the leader still collects
pub still_collecting : (c : Config) (s : Leader) (epoch j : ℕ) (v : ℤ) (g : List ℕ) → Counted c s → observed_by c.n s ≤ 2 * c.f → takes s true epoch j (observe epoch s.round v g) ≡ true → s.phase ≡ collecting
still_collecting c s epoch j v g k few e =
    let t = taken_observe s true epoch j epoch s.round v g e in
    cases (split s.phase collecting)
    (λ h. omega (arith, t.least))
    (λ h. absurd (omega (arith, k.grace (omega (arith, t.most)))))

pub phase_rises : (c : Config) (s t : Leader) → Next c s t → s.round ≡ t.round → s.phase ≤ t.phase
unfolding closing
phase_rises c s t by_round e = absurd (round_cases (λ l. s.round ≡ l.leader.round → ⊥) c s (λ q. omega arith) (λ q. omega arith) e)
phase_rises c s t (by_observe epoch j v g low high h) e =
    let k = taken_observe s true epoch j epoch s.round v g h in
    observing_cases (λ l. s.phase ≤ l.leader.phase) c s j v (λ at. k.most) (λ off. le_refl s.phase)
phase_rises c s t (by_grace h) e = omega (arith, (fired_grace c.n c.f s h).0)
phase_rises c s t (by_report epoch j xs g low high h) e =
    reporting_cases (λ l. s.phase ≤ l.leader.phase) c s j (λ e. omega (arith, (taken_report s true epoch j epoch s.round xs g h).phase)) (le_refl s.phase)
