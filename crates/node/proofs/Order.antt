-- Demand 3: after a list of NEWEPOCH the numbers are those of the closed form, and the order of epoch messages, or of observations, decides nothing.
use mathlib.Core.Path.{◌≡◌, refl, sym, ap, ◌∙◌}
use mathlib.Core.List.{List, [], ◌∷◌}
use Prim.Native.Nat.{ℕ}
use native.Mathlib.Omega.{arith}
use Rattle.config.proofs.Facts.{good_facts}
use Rattle.quorum.specs.Sort.{Perm}
use Rattle.quorum.proofs.Sort.{length_perm}
use Rattle.pacemaker.specs.declared.Pace.{Pace}
use Rattle.pacemaker.specs.Claims as pacemaker
use Rattle.pacemaker.proofs.Claims.{after_any_list as after_any_pace, order_decides_nothing as epochs_in_any_order}
use Rattle.leader.proofs.Claims.{order_decides_nothing as observations_in_any_order}
use Rattle.node.specs.declared.Fired.TheVariants as fired
use Rattle.node.specs.State.{with_leader, epoch_of}
use Rattle.node.specs.Event.{Whole, whole, Delivery, delivers, fires, Effect, done}
use Rattle.node.specs.Effects.{timing}
use Rattle.node.specs.Calls.{step, frames_of}
use Rattle.node.specs.Runs.{run, deliveries, AllOf, observations}
use Rattle.node.specs.Typed.{TypedWhole}
use Rattle.node.specs.Claims.{ClosedForm, AfterAnyList, EpochOrderDecidesNothing, ObservationOrderDecidesNothing}
use Rattle.node.proofs.Steps.{step_done}
use Rattle.node.proofs.Turns.{done_config}
use Rattle.node.proofs.Runs.{reachable_config, reachable_lived}
use Rattle.node.proofs.Epochs.{arrived, arrived_pace, heard_all, pace_after, all_from, all_arrive, highest_heard}
use Rattle.node.proofs.Observations.{all_seen_lem, all_fresh}

-- what the pacemaker's closed form says of a state with that pace
closed_form : (w v : Whole) (ds : List Delivery) (q : Pace) → v.node.pace ≡ q → pacemaker.ClosedForm w.node.config.n w.node.config.f w.node.pace (heard_all ds) q → ClosedForm w ds v
closed_form w v ds q e p = record { heard = λ j a b. rw (e, ← highest_heard j ds) (p.heard j a b); highest = rw e p.highest; epoch = rw e p.epoch }

pub after_any_list : AfterAnyList
after_any_list w ds r started h =
    let good = good_facts w.node.config (reachable_config w r) in
    let q = pace_after w (heard_all ds) in
    closed_form w (run w (deliveries ds)) ds q (ap (λ (v : Whole). v.node.pace) (all_arrive w ds h) ∙ arrived_pace w q)
    (after_any_pace w.node.config.n w.node.config.f w.node.pace (heard_all ds) (omega arith) (reachable_lived w r) (all_from w ds h))

pub epoch_order_decides_nothing : EpochOrderDecidesNothing
epoch_order_decides_nothing w ds ds' r started h h' same =
    let good = good_facts w.node.config (reachable_config w r) in
    all_arrive w ds h
    ∙ ap (arrived w) (epochs_in_any_order w.node.config.n w.node.config.f w.node.pace (heard_all ds) (heard_all ds') (omega arith) (reachable_lived w r) (all_from w ds h) (all_from w ds' h') (λ j a b. highest_heard j ds ∙ same j a b ∙ sym (highest_heard j ds')))
    ∙ sym (all_arrive w ds' h')

-- ---- observations

observed_same : (w : Whole) (ds ds' : List Delivery) → TypedWhole w → AllOf 3 w ds → AllOf 3 w ds' → Perm (observations ds) (observations ds') → run w (deliveries ds) ≡ run w (deliveries ds')
observed_same w [] [] t h h' r = refl
observed_same w [] (d ∷ ds') t h h' r = absurd (omega (arith, length_perm r))
observed_same w (d ∷ ds) ds' t (kind, h, rest) h' r =
    let n = w.node in
    let good = good_facts n.config (done_config w (delivers d) h) in
    let f = all_fresh w (d ∷ ds) t.node.observed (kind, h, rest) in
    let same = observations_in_any_order n.config (epoch_of n) n.leader w.signatures _ _ (omega arith) t.node.observed f.from f.none f.apart r in
    all_seen_lem w (d ∷ ds) (kind, h, rest)
    ∙ (λ i. whole (with_leader n (same.leader i)) w.kept (same.signatures_kept i))
    ∙ sym (all_seen_lem w ds' h')

-- what T_grace does is a matter of the state, whatever the time
grace_effect : (w : Whole) (time : ℕ) (f : Effect) → step w (fires fired.Grace time) ≡ done f → f ≡ timing w fired.Grace
grace_effect w time f e = sym (step_done w (fires fired.Grace time) f e).1

pub observation_order_decides_nothing : ObservationOrderDecidesNothing
observation_order_decides_nothing w ds ds' t h h' r =
    let same = observed_same w ds ds' t h h' r in
    record {
      whole_after = same;
      request = λ time time' f f' e e'. ap (λ (x : Effect). frames_of w.node.config x.sent) (grace_effect _ time f e ∙ ap (λ (v : Whole). timing v fired.Grace) same ∙ sym (grace_effect _ time' f' e'));
    }
