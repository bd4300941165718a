-- What a call comes to: the step of its event, refused or done; and what becomes of a node that was made, of one that could not be, and of a NEWEPOCH.
use mathlib.Core.Path.{◌≡◌, refl, sym, ap, ◌∙◌}
use mathlib.Core.Bool.{Bool, true, false, not, cond, ◌&&◌, false≢true, and-true as and-unit}
use mathlib.Core.List.{List}
use Prim.Native.Nat.{ℕ}
use native.Mathlib.Omega.{arith}
use borrow.Author.Tests.{not-false}
use lib.Dec.{leb}
use Rattle.config.specs.Bounds.{good_config}
use Rattle.config.specs.Codes.{number_of, is_done}
use Rattle.config.specs.Answers.{Answer}
use Rattle.config.specs.Answers as answer
use Rattle.config.specs.declared.Config.{Config}
use Rattle.config.specs.declared.Saved.{Saved}
use Rattle.config.proofs.Facts.{and-true}
use Rattle.config.proofs.Passed.{itself, stage_passed, answer_told}
use Rattle.quorum.proofs.Cases.{test_false}
use Rattle.quorum.proofs.Marks.{flags_none}
use Rattle.frame.specs.Message.{new_epoch}
use Rattle.frame.specs.Decode.{epoch_in, kind_in, body_in, message_of, message_in}
use Rattle.pacemaker.specs.State.{good_pace}
use Rattle.follower.specs.State.{good_follower}
use Rattle.leader.specs.State.{good_leader}
use Rattle.node.specs.declared.Node.{Node}
use Rattle.node.specs.State.{restored_node, good_node, good_kept, good_state}
use Rattle.node.specs.Event.{Whole, whole, Event, delivers, Effect, refused, done}
use Rattle.node.specs.Answers.{message_answer, delivery_answer, after_state, answer_to}
use Rattle.node.specs.Effects.{effect_of}
use Rattle.node.specs.Calls.{restore_answer, step, Out, out, refusing, settled, in_room, called, unarmed_of}
use Rattle.node.specs.Claims.{RefusalChangesNothing, RefusedIsNoNode, MadeIsGood, NewEpochIsTaken, CallIsTheStep, OneOut, OneResult}

-- ---- a state in range

pub good_node_lem : (n : Node) (kept : List ℕ) → good_state n kept ≡ true → good_node n ≡ true
unfolding good_state
good_node_lem n kept h = (and-true (good_node n) (good_kept n kept) h).0

-- ---- making one

-- a state that is restored is in range exactly where its configuration is and what was sent is not below the epoch
restored_good : (c : Config) (s : Saved) → good_node (restored_node c s) ≡ good_config c && leb s.epoch s.highest
unfolding good_node good_pace good_follower good_leader
restored_good c s = simp (flags_none, and-unit)

pub made_is_good : MadeIsGood
unfolding restore_answer good_state good_kept number_of
made_is_good c s kept h =
    let p = stage_passed itself (not (good_config c)) answer.Config (cond (not (leb s.epoch s.highest)) answer.State answer.Done) refl h in
    let q = stage_passed itself (not (leb s.epoch s.highest)) answer.State answer.Done refl p.1 in
    rw (restored_good c s, not-false (good_config c) p.0, not-false (leb s.epoch s.highest) q.0)

-- the other way round: a node in range could be restored
good_made : (c : Config) (s : Saved) → good_node (restored_node c s) ≡ true → is_done (restore_answer c s) ≡ true
unfolding restore_answer number_of
good_made c s h =
    let p = and-true (good_config c) (leb s.epoch s.highest) (sym (restored_good c s) ∙ h) in
    rw (p.0, p.1)

-- ---- a call

module _ (w : Whole) (e : Event) (outbox : List ℕ) (at : ℕ) where
  abbrev answered : Answer
  answered = answer_to (in_room w outbox at) w e

  called_done : is_done answered ≡ true → called w e outbox at ≡ settled (effect_of w e) outbox at
  unfolding called
  called_done h = rw h

  pub called_refused : is_done answered ≡ false → called w e outbox at ≡ out (refusing answered w.node) outbox w.kept w.signatures
  unfolding called
  called_refused h = rw h

  -- the answer that the call gives
  pub called_answer : (called w e outbox at).result.answer ≡ answered
  unfolding called settled
  called_answer =
      answer_told (λ (r : Out). r.result.answer) answered (settled (effect_of w e) outbox at) (out (refusing answered w.node) outbox w.kept w.signatures) refl refl

pub refusal_changes_nothing : RefusalChangesNothing
refusal_changes_nothing w e outbox at h =
    rw (called_refused w e outbox at (ap is_done (sym (called_answer w e outbox at)) ∙ h))
    (record { node = refl; written = refl; timers = refl; handed = refl; outbox_same = refl; kept = refl; signatures = refl })

pub refused_is_no_node : RefusedIsNoNode
unfolding after_state good_state
refused_is_no_node c s e outbox kept signatures at h =
    let bad : good_node (restored_node c s) ≡ false = test_false _ (λ g. false≢true (sym h ∙ good_made c s g)) in
    called_answer (whole (restored_node c s) kept signatures) e outbox at ∙ rw bad

-- ---- the step

module _ (w : Whole) (e : Event) where
  -- what is done was refused by no check, and is what the event's rule does
  pub step_done : (f : Effect) → step w e ≡ done f → (is_done (answer_to true w e) ≡ true) × (effect_of w e ≡ f)
  unfolding step
  step_done f h = go (is_done (answer_to true w e)) h
    where
      go : (b : Bool) → cond b (done (effect_of w e)) (refused (answer_to true w e)) ≡ done f → (b ≡ true) × (effect_of w e ≡ f)
      go true h = (refl, cc)
      go false h = let z : ◌≡◌ {A = ℕ} 0 1 = cc in absurd (omega arith)

  step_refused : (a : Answer) → step w e ≡ refused a → (is_done (answer_to true w e) ≡ false) × (answer_to true w e ≡ a)
  unfolding step
  step_refused a h = go (is_done (answer_to true w e)) h
    where
      go : (b : Bool) → cond b (done (effect_of w e)) (refused (answer_to true w e)) ≡ refused a → (b ≡ false) × (answer_to true w e ≡ a)
      go true h = let z : ◌≡◌ {A = ℕ} 0 1 = cc in absurd (omega arith)
      go false h = (refl, cc)

no_room : (good : Bool) → cond (not good) answer.State answer.Room ≡ cond good answer.Room answer.State
no_room true = refl
no_room false = refl

pub call_is_the_step : CallIsTheStep
unfolding after_state
call_is_the_step w e outbox at =
    record {
      refusal = λ a room h.
          let p = step_refused w e a h in
          called_refused w e outbox at (rw room p.0) ∙ rw (room, p.1);
      rule = λ f room h.
          let p = step_done w e f h in
          called_done w e outbox at (rw room p.0) ∙ rw p.1;
      no_room = λ room. called_answer w e outbox at ∙ rw room (no_room (good_state w.node w.kept));
    }

one_out : (x : Out) → OneOut x
one_out x r r' o o' k k' g g' h h' =
    let same = h ∙ sym h' in
    (ap (λ (y : Out). y.result) same, ap (λ (y : Out). y.outbox) same, ap (λ (y : Out). y.kept) same, ap (λ (y : Out). y.signatures) same)

pub one_result : OneResult
one_result w e time outbox at c s =
    record {
      call = one_out (called w e outbox at);
      unarmed = one_out (unarmed_of w.node time outbox at w.kept w.signatures);
      fresh = λ r r' h h'. h ∙ sym h';
      restore = λ r r' h h'. h ∙ sym h';
    }

-- ---- NEWEPOCH

pub new_epoch_in : (f : List ℕ) → kind_in f ≡ 1 → message_in f ≡ new_epoch (epoch_in (body_in f))
unfolding message_of
new_epoch_in f h = rw h

pub new_epoch_is_taken : NewEpochIsTaken
unfolding after_state delivery_answer message_answer number_of
new_epoch_is_taken w d outbox at good started room passes kind times =
    called_answer w (delivers d) outbox at ∙ rw (good, room, passes, times, new_epoch_in d.frame kind, started)
