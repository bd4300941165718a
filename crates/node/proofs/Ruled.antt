-- A step that is done has run one of ten rules. With each stands what its conditions tell, so that a claim over steps goes by these cases.
use mathlib.Core.Path.{◌≡◌, refl, ap, ◌∙◌}
use mathlib.Core.Bool.{true, false, not, cond, false≢true}
use mathlib.Core.List.{List}
use Prim.Native.Nat.{ℕ, ◌-◌}
use borrow.Author.Tests.{not-false}
use lib.Dec.{eqb}
use lib.IntN.{ℤ}
use Rattle.config.specs.Codes.{number_of, is_done}
use Rattle.config.specs.Answers as answer
use Rattle.config.proofs.Facts.{and-true}
use Rattle.config.proofs.Passed.{itself, stage_passed}
use Rattle.wire.specs.Numbers.{Bytes}
use Rattle.quorum.proofs.Cases.{either}
use Rattle.frame.specs.Message.{Observation, Message, new_epoch, observe_req, observe, report_req, report, final, final_echo}
use Rattle.frame.specs.Encode.{body_bytes}
use Rattle.frame.specs.Decode.{trailer_place, kind_in, length_in, body_in, message_in}
use Rattle.frame.specs.Range.{good_message}
use Rattle.frame.specs.Claims.{ReadAs, ReadWell}
use Rattle.frame.proofs.Ranges.{OneTo}
use Rattle.frame.proofs.Entries.{bytes_part}
use Rattle.frame.proofs.Framed.{checked_frame}
use Rattle.frame.proofs.Claims.{body_is_one, read_is_good}
use Rattle.pacemaker.specs.declared.Paced.{Paced}
use Rattle.pacemaker.specs.Rules as pacemaker
use Rattle.pacemaker.specs.Runs.{Next, by_newepoch}
use Rattle.std.specs.Prelude.{Ok, Err}
use Rattle.follower.specs.declared.Objection.TheVariants as objection
use Rattle.follower.specs.Takes.{Finding, Taken, finding_of, answer_of}
use Rattle.leader.specs.Takes as leader
use Rattle.leader.specs.Rules.{next_round, no_signatures, closing}
use Rattle.node.specs.declared.Node.{Node}
use Rattle.node.specs.declared.Fired.{Fired}
use Rattle.node.specs.declared.Fired.TheVariants as fired
use Rattle.node.specs.State.{epoch_of, leader_now, leads, good_state}
use Rattle.node.specs.Event.{Whole, Delivery, Event, starts, delivers, fires, Effect, Step, refused, done}
use Rattle.node.specs.Answers.{firing, ending, follower_answer, leader_answer, rule_answer, past_last, event_answer}
use Rattle.node.specs.Effects.{pacing, moving, hearing, following, leading, led_by, delivering, effect_of}
use Rattle.node.specs.Calls.{step}
use Rattle.node.specs.Runs.{settled_in, after}
use Rattle.node.proofs.Checks.{state_passed, timer_passed, delivery_passed}
use Rattle.node.proofs.Steps.{step_done}

-- ---- the rules

-- what the frame of a delivery says, which passed its checks
abbrev pub Says : Node → Delivery → Message → Type 0
Says n d m = ReadAs d.frame n.config.n n.config.number d.link m

-- what a NEWEPOCH comes to for the pacemaker
abbrev pub heard_from : Node → ℕ → ℕ → Paced
heard_from n j x = pacemaker.new_epoch_of n.config.n n.config.f n.pace j x

pub data Ruled (w : Whole) : Event → Effect → Type 0 where
  by_start : (time : ℕ) → Ruled w (starts time) (pacing w (pacemaker.start_of w.node.pace))
  by_resend : (time : ℕ) → pacemaker.fires_resend w.node.pace ≡ true → Ruled w (fires fired.Resend time) (pacing w (pacemaker.resend_of w.node.pace))
  by_progress : (time : ℕ) → pacemaker.past_end w.node.pace ≡ false → Ruled w (fires fired.Progress time) (pacing w (pacemaker.change_leader_of w.node.pace))
  by_round : (time : ℕ) → leads w.node ≡ true → leader.past_end w.node.leader ≡ false → Ruled w (fires fired.Round time) (leading w (next_round w.node.config w.node.leader) (no_signatures w.signatures))
  by_grace : (time : ℕ) → leader.fires_grace w.node.config.n w.node.config.f w.node.leader (leads w.node) ≡ true → Ruled w (fires fired.Grace time) (leading w (closing w.node.leader) w.signatures)
  by_hearing : (d : Delivery) (x : ℕ) → Says w.node d (new_epoch x) → (heard_from w.node d.link x).moved ≡ false → Ruled w (delivers d) (pacing w (heard_from w.node d.link x))
  by_moving : (d : Delivery) (x : ℕ) → Says w.node d (new_epoch x) → (heard_from w.node d.link x).moved ≡ true → Ruled w (delivers d) (moving w (heard_from w.node d.link x))
  by_following : (d : Delivery) (m : Message) → Says w.node d m → finding_of w.node.follower w.node.config.f (epoch_of w.node) (leader_now w.node) d.link d.bits m ≡ Taken → past_last w.node m ≡ false → Ruled w (delivers d) (following w d m)
  by_observe : (d : Delivery) (e r : ℕ) (v : ℤ) (g : List ℕ) → Says w.node d (observe e r v g) → leader.takes w.node.leader (leads w.node) (epoch_of w.node) d.link (observe e r v g) ≡ true → Ruled w (delivers d) (led_by w d.link (observe e r v g))
  by_report : (d : Delivery) (e r : ℕ) (xs : List Observation) (g : List ℕ) → Says w.node d (report e r xs g) → leader.takes w.node.leader (leads w.node) (epoch_of w.node) d.link (report e r xs g) ≡ true → leader.stands w.node.config.n w.node.leader d.bits (report e r xs g) ≡ true → Ruled w (delivers d) (led_by w d.link (report e r xs g))

-- ---- a timer that is not refused

module _ (w : Whole) where
  timer_ruled : (t : Fired) (time : ℕ) → (firing w.node t ≡ true) × (ending w.node t ≡ false) → Ruled w (fires t time) (effect_of w (fires t time))
  unfolding firing ending
  timer_ruled fired.Resend time (h, g) = by_resend time h
  timer_ruled fired.Progress time (h, g) = by_progress time g
  timer_ruled fired.Round time (h, g) = by_round time (and-true (leads w.node) (eqb w.node.leader.t_round 1) h).0 g
  timer_ruled fired.Grace time (h, g) = by_grace time h

  -- ---- a delivery that is not refused

  module _ (d : Delivery) where
    follower_taken : (m : Message) → is_done (follower_answer w.node d.link d.bits m) ≡ true → finding_of w.node.follower w.node.config.f (epoch_of w.node) (leader_now w.node) d.link d.bits m ≡ Taken
    unfolding follower_answer number_of
    follower_taken m h = go _ h
      where
        go : (v : Finding) → is_done (answer_of v) ≡ true → v ≡ Taken
        go (Err objection.Ignored) e = absurd (false≢true e)
        go (Err (objection.Wrong x)) e = absurd (false≢true e)
        go (Ok tt) e = refl

    leader_taken : (m : Message) → is_done (leader_answer w.node d.link d.bits m) ≡ true → (leader.takes w.node.leader (leads w.node) (epoch_of w.node) d.link m ≡ true) × (leader.stands w.node.config.n w.node.leader d.bits m ≡ true)
    unfolding leader_answer number_of
    leader_taken m h =
        let n = w.node in
        let stands = leader.stands n.config.n n.leader d.bits m in
        let p = stage_passed itself (not (leader.takes n.leader (leads n) (epoch_of n) d.link m)) answer.Ignored (cond (not stands) answer.Proof answer.Done) refl h in
        let q = stage_passed itself (not stands) answer.Proof answer.Done refl p.1 in
        (not-false _ p.0, not-false _ q.0)

    hearing_ruled : (x : ℕ) → Says w.node d (new_epoch x) → Ruled w (delivers d) (hearing w d.link x)
    unfolding hearing
    hearing_ruled x s = either (Ruled w (delivers d)) (heard_from w.node d.link x).moved _ _ (by_moving d x s) (by_hearing d x s)

    message_ruled : (m : Message) → Says w.node d m → is_done (rule_answer w.node d.link d.bits m) ≡ true → past_last w.node m ≡ false → Ruled w (delivers d) (delivering w d m)
    message_ruled (new_epoch x) s h g = hearing_ruled x s
    message_ruled (observe_req e r) s h g = by_following d (observe_req e r) s (follower_taken (observe_req e r) h) g
    message_ruled (observe e r v u) s h g = by_observe d e r v u s (leader_taken (observe e r v u) h).0
    message_ruled (report_req e r xs) s h g = by_following d (report_req e r xs) s (follower_taken (report_req e r xs) h) g
    message_ruled (report e r xs u) s h g = let p = leader_taken (report e r xs u) h in by_report d e r xs u s p.0 p.1
    message_ruled (final a) s h g = by_following d (final a) s (follower_taken (final a) h) g
    message_ruled (final_echo a) s h g = by_following d (final_echo a) s (follower_taken (final_echo a) h) g

    delivery_ruled : is_done (event_answer w.node (delivers d)) ≡ true → Ruled w (delivers d) (effect_of w (delivers d))
    delivery_ruled h =
        let (passes, rule, past) = delivery_passed w.node d.link d.time d.commit d.bits d.frame h in
        message_ruled (message_in d.frame) (record { passes = passes; says = refl }) rule past

-- ---- a step that is done

ruled : (w : Whole) (e : Event) → is_done (event_answer w.node e) ≡ true → Ruled w e (effect_of w e)
ruled w (starts time) h = by_start time
ruled w (delivers d) h = delivery_ruled w d h
ruled w (fires t time) h = timer_ruled w t time (timer_passed w.node t time h)

pub step_ruled : (w : Whole) (e : Event) (f : Effect) → step w e ≡ done f → (good_state w.node w.kept ≡ true) × Ruled w e f
step_ruled w e f h =
    let p = step_done w e f h in
    let q = state_passed true w.node w.kept (event_answer w.node e) p.0 in
    (q.good, rw p.1 at (ruled w e q.done))

-- what a step keeps, whether it is refused or done
pub kept_by_steps : (P : Whole → Type 0) (w : Whole) (e : Event) → P w → ((f : Effect) → good_state w.node w.kept ≡ true → Ruled w e f → P f.whole_after) → P (after w e)
kept_by_steps P w e p q = go (step w e) refl
  where
    go : (s : Step) → step w e ≡ s → P (settled_in w s)
    go (refused a) h = p
    go (done f) h = let (good, r) = step_ruled w e f h in q f good r

-- no rule changes the configuration
pub config_ruled : {w : Whole} {e : Event} {f : Effect} → Ruled w e f → f.whole_after.node.config ≡ w.node.config
unfolding pacing moving following leading
config_ruled (by_start time) = refl
config_ruled (by_resend time h) = refl
config_ruled (by_progress time h) = refl
config_ruled (by_round time h g) = refl
config_ruled (by_grace time h) = refl
config_ruled (by_hearing d x s h) = refl
config_ruled (by_moving d x s h) = refl
config_ruled (by_following d m s h g) = refl
config_ruled (by_observe d e r v g s h) = refl
config_ruled (by_report d e r xs g s h q) = refl

-- ---- what a delivery that passed tells

module _ (n : Node) (d : Delivery) {m : Message} (s : Says n d m) where
  pub said_link : OneTo n.config.n d.link
  said_link =
      let p = checked_frame d.frame n.config.n n.config.number d.link s.passes in
      record { least = rw p.sender at p.least; most = rw p.sender at p.most }

  pub said_range : good_message n.config.n m ≡ true
  said_range = rw s.says at (checked_frame d.frame n.config.n n.config.number d.link s.passes).range

  pub said_well : Bytes d.frame → ReadWell n.config.n m
  said_well b = rw s.says at (read_is_good d.frame n.config.n n.config.number d.link b s.passes)

  -- its body is bytes of the frame
  pub said_bytes : Bytes d.frame → Bytes (body_bytes m)
  said_bytes b =
      let f = d.frame in
      let p = checked_frame f n.config.n n.config.number d.link s.passes in
      let body : Bytes (body_in f) = bytes_part f (trailer_place f - length_in f) (length_in f) b in
      let same : body_in f ≡ body_bytes m = body_is_one n.config.n (kind_in f) (body_in f) p.kind body p.answer ∙ ap body_bytes s.says in
      rw same at body

-- so a NEWEPOCH runs one of the pacemaker's own rules
pub heard_next : (n : Node) (d : Delivery) (x : ℕ) → Says n d (new_epoch x) → Next n.config.n n.config.f n.pace (heard_from n d.link x).pace
heard_next n d x s = let o = said_link n d s in by_newepoch d.link x o.least o.most
