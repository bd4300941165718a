-- What an event that is not refused makes of epoch and round: they stay, a higher epoch begins, or the follower takes a message. So a claim over runs goes by four cases.
use mathlib.Core.Path.{◌≡◌, refl, sym, ap, ◌∙◌}
use mathlib.Core.Bool.{true, false}
use mathlib.Core.List.{List}
use mathlib.Core.Logic.{◌⊎◌, inl, inr}
use Prim.Native.Nat.{ℕ, ◌<◌}
use native.Mathlib.Omega.{arith}
use borrow.Author.Tests.{ltb-true, ltb-false}
use Rattle.config.specs.Bounds.{good_config}
use Rattle.config.specs.Answers.{Answer}
use Rattle.config.specs.Answers as answer
use Rattle.frame.specs.Message.{Message}
use Rattle.frame.specs.Decode.{message_in}
use Rattle.frame.specs.Check.{frame_answer}
use Rattle.pacemaker.specs.declared.Pace.{Pace}
use Rattle.pacemaker.specs.declared.Paced.{Paced}
use Rattle.pacemaker.specs.Rules.{start_of, resend_of, change_leader_of, progress_of, new_epoch_of}
use Rattle.pacemaker.specs.Runs as pacemaker
use Rattle.pacemaker.specs.Runs.{Next}
use Rattle.pacemaker.proofs.Claims.{nothing_falls, tells_what_rose}
use Rattle.follower.specs.declared.Raised.{Raised}
use Rattle.follower.specs.declared.Raised.TheVariants as raised
use Rattle.follower.specs.Takes.{Taken}
use Rattle.follower.specs.Takes.{finding_of}
use Rattle.leader.specs.declared.Led.{Led}
use Rattle.leader.proofs.Taken.{grace_leads, taken_observe, taken_report}
use Rattle.node.specs.State.{epoch_of, leader_now, leads}
use Rattle.node.specs.Event.{Whole, Delivery, Event, delivers, Effect, Step, refused, done}
use Rattle.node.specs.Effects.{pacing, moving, raising, following, leading, effect_of}
use Rattle.node.specs.Calls.{step}
use Rattle.node.specs.Runs.{Done}
use Rattle.node.proofs.Checks.{node_facts}
use Rattle.node.proofs.Steps.{good_node_lem, step_done}
use Rattle.node.proofs.Ruled.{Says, Ruled, by_start, by_resend, by_progress, by_round, by_grace, by_hearing, by_moving, by_following, by_observe, by_report, step_ruled, heard_next}

pub data Turn (w : Whole) : Event → Effect → Type 0 where
  -- the pacemaker's rules, in the same epoch
  paced : {e : Event} (p : Paced) → Next w.node.config.n w.node.config.f w.node.pace p.pace → p.pace.epoch ≡ epoch_of w.node → Turn w e (pacing w p)
  -- its move to a higher one
  moved : {e : Event} (p : Paced) → Next w.node.config.n w.node.config.f w.node.pace p.pace → epoch_of w.node < p.pace.epoch → Turn w e (moving w p)
  -- the follower's rules
  followed : (d : Delivery) (m : Message) → Says w.node d m → finding_of w.node.follower w.node.config.f (epoch_of w.node) (leader_now w.node) d.link d.bits m ≡ Taken → Turn w (delivers d) (following w d m)
  -- the leader's
  led : {e : Event} (l : Led) (signatures : List ℕ) → leads w.node ≡ true → Turn w e (leading w l signatures)

-- ---- NEWEPOCH moves the node exactly where its epoch rises

module _ (n f : ℕ) (p : Pace) (j x : ℕ) where
  moved_rises : (new_epoch_of n f p j x).moved ≡ true → p.epoch < (new_epoch_of n f p j x).pace.epoch
  moved_rises e = ltb-true _ _ (sym (tells_what_rose n f p j x).moved ∙ e)

  unmoved_stays : Next n f p (new_epoch_of n f p j x).pace → (new_epoch_of n f p j x).moved ≡ false → (new_epoch_of n f p j x).pace.epoch ≡ p.epoch
  unmoved_stays t e =
      omega (arith, ltb-false p.epoch (new_epoch_of n f p j x).pace.epoch (sym (tells_what_rose n f p j x).moved ∙ e), (nothing_falls n f p _ t).epoch)

-- ---- what the follower raises leaves the epoch

pub raising_next : (n f : ℕ) (x : Raised) (p : Pace) → ((raising x p).pace ≡ p) ⊎ Next n f p (raising x p).pace
raising_next n f raised.Nothing p = inl refl
raising_next n f raised.Progress p = inr pacemaker.by_progress
raising_next n f raised.ChangeLeader p = inr pacemaker.by_change

pub raising_epoch : (x : Raised) (p : Pace) → (raising x p).pace.epoch ≡ p.epoch
unfolding progress_of change_leader_of
raising_epoch raised.Nothing p = refl
raising_epoch raised.Progress p = refl
raising_epoch raised.ChangeLeader p = refl

-- ---- which of the four a rule is

ruled_turn : (w : Whole) (e : Event) (f : Effect) → Ruled w e f → Turn w e f
unfolding start_of resend_of change_leader_of
ruled_turn w e f (by_start time) = paced _ pacemaker.by_start refl
ruled_turn w e f (by_resend time h) = paced _ pacemaker.by_resend refl
ruled_turn w e f (by_progress time h) = paced _ pacemaker.by_change refl
ruled_turn w e f (by_round time h g) = led _ _ h
ruled_turn w e f (by_grace time h) = led _ _ (grace_leads w.node.config.n w.node.config.f w.node.leader _ h)
ruled_turn w e f (by_hearing d x s h) = let t = heard_next w.node d x s in paced _ t (unmoved_stays _ _ w.node.pace d.link x t h)
ruled_turn w e f (by_moving d x s h) = moved _ (heard_next w.node d x s) (moved_rises _ _ w.node.pace d.link x h)
ruled_turn w e f (by_following d m s t h) = followed d m s t
ruled_turn w e f (by_observe d x r v g s t) = led _ _ (taken_observe w.node.leader _ (epoch_of w.node) d.link x r v g t).in_time.leading
ruled_turn w e f (by_report d x r xs g s t h) = led _ _ (taken_report w.node.leader _ (epoch_of w.node) d.link x r xs g t).in_time.leading

-- so what holds of a refusal and of the four holds of a step
pub step_turns : (P : Step → Type 0) (w : Whole) (e : Event) → ((a : Answer) → P (refused a)) → ((f : Effect) → Turn w e f → P (done f)) → P (step w e)
step_turns P w e r t = go (step w e) refl
  where
    go : (s : Step) → step w e ≡ s → P s
    go (refused a) h = r a
    go (done f) h = t f (ruled_turn w e f (step_ruled w e f h).1)

-- ---- an event that is not refused

pub done_step : (w : Whole) (e : Event) → Done (step w e) → step w e ≡ done (effect_of w e)
done_step w e = go (step w e) refl
  where
    go : (s : Step) → step w e ≡ s → Done s → s ≡ done (effect_of w e)
    go (refused a) h d = absurd d
    go (done f) h d = ap done (sym (step_done w e f h).1)

pub done_config : (w : Whole) (e : Event) → Done (step w e) → good_config w.node.config ≡ true
done_config w e h = (node_facts w.node (good_node_lem w.node w.kept (step_ruled w e _ (done_step w e h)).0)).config

-- whichever rule it came to, its frame passed
ruled_passes : (w : Whole) (d : Delivery) (f : Effect) → Ruled w (delivers d) f → frame_answer d.frame w.node.config.n w.node.config.number d.link ≡ answer.Done
ruled_passes w d f (by_hearing k x s h) = s.passes
ruled_passes w d f (by_moving k x s h) = s.passes
ruled_passes w d f (by_following k m s t h) = s.passes
ruled_passes w d f (by_observe k x r v g s t) = s.passes
ruled_passes w d f (by_report k x r xs g s t h) = s.passes

pub done_says : (w : Whole) (d : Delivery) → Done (step w (delivers d)) → Says w.node d (message_in d.frame)
done_says w d h = record { passes = ruled_passes w d _ (step_ruled w (delivers d) _ (done_step w (delivers d) h)).1; says = refl }
