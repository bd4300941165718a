-- Each call ends with an answer that document 01 lists for it: every test of a call's checks hands on one of two answers, and both are listed.
use mathlib.Core.Path.{◌≡◌, refl, sym, ap, ◌∙◌}
use mathlib.Core.Bool.{Bool, false, not, ◌&&◌, false≢true}
use mathlib.Core.List.{List, [], ◌∷◌}
use Prim.Native.Nat.{ℕ, ◌+◌}
use lib.Dec.{eqb, leb}
use lib.ListN.{length}
use Rattle.config.specs.Bounds.{good_time, good_commit, good_config}
use Rattle.config.specs.Codes.{number_of, is_done}
use Rattle.config.specs.Answers.{Answer}
use Rattle.config.specs.Answers as answer
use Rattle.config.specs.declared.Config.{Config}
use Rattle.config.specs.declared.Saved.{Saved}
use Rattle.config.proofs.Facts.{done_only}
use Rattle.quorum.specs.First.{among}
use Rattle.quorum.proofs.Cases.{test_false}
use Rattle.frame.specs.Message.{Message, new_epoch, observe_req, observe, report_req, report, final, final_echo}
use Rattle.frame.specs.Table.{good_kind, trailer_length}
use Rattle.frame.specs.Decode.{kind_in, sender_in, length_in, body_in, message_in}
use Rattle.frame.specs.Check.{after_sender, other_sender, after_kind, after_version, other_feed, after_short, too_short, frame_answer}
use Rattle.report.proofs.Listed.{In, either_in, body_in_lem}
use Rattle.pacemaker.specs.State.{is_started}
use Rattle.pacemaker.specs.Rules as pacemaker
use Rattle.std.specs.Prelude.{Ok, Err}
use Rattle.follower.specs.declared.Objection.TheVariants as objection
use Rattle.follower.specs.Takes.{Finding, finding_of, answer_of}
use Rattle.leader.specs.Takes as leader
use Rattle.node.specs.declared.Node.{Node}
use Rattle.node.specs.declared.Fired.{Fired}
use Rattle.node.specs.State.{nothing_saved, epoch_of, leader_now, leads, good_state}
use Rattle.node.specs.Event.{Delivery, Event, starts, delivers, fires}
use Rattle.node.specs.Answers.{start_answer, firing, ending, timer_answer, unarmed_answer, follower_answer, leader_answer, rule_answer, past_last, message_answer, delivery_answer, event_answer, after_state}
use Rattle.node.specs.Calls.{restore_answer, restore_of, fresh_of, out, refusing, in_room}
use Rattle.node.specs.Claims.{listed, UnarmedChangesNothing, AnswersAreListed}
use Rattle.node.proofs.Steps.{called_refused, called_answer}

-- ---- a delivery

module _ (d : Delivery) where
  abbrev all : List ℕ
  all = listed (delivers d)

  frame_in : (f : List ℕ) (n number link : ℕ) → In all (frame_answer f n number link)
  unfolding number_of frame_answer after_short after_version after_kind after_sender
  frame_in f n number link =
      either_in all (too_short f) _ _ refl
      (either_in all (other_feed f n number) _ _ refl
      (either_in all (not (good_kind (kind_in f))) _ _ refl
      (either_in all (other_sender (sender_in f) n link) _ _ refl
      (either_in all (not (eqb (length_in f + trailer_length) (length f))) _ _ refl (body_in_lem all n (kind_in f) (body_in f) refl refl refl)))))

  finding_in : (v : Finding) → In all (answer_of v)
  unfolding number_of
  finding_in (Err objection.Ignored) = refl
  finding_in (Err (objection.Wrong x)) = refl
  finding_in (Ok tt) = refl

  module _ (n : Node) (j bits : ℕ) where
    follower_in : (m : Message) → In all (follower_answer n j bits m)
    unfolding follower_answer
    follower_in m = finding_in (finding_of n.follower n.config.f (epoch_of n) (leader_now n) j bits m)

    leader_in : (m : Message) → In all (leader_answer n j bits m)
    unfolding number_of leader_answer
    leader_in m =
        either_in all (not (leader.takes n.leader (leads n) (epoch_of n) j m)) _ _ refl
        (either_in all (not (leader.stands n.config.n n.leader bits m)) _ _ refl refl)

    rule_in : (m : Message) → In all (rule_answer n j bits m)
    unfolding number_of
    rule_in (new_epoch e) = refl
    rule_in (observe_req e r) = follower_in (observe_req e r)
    rule_in (observe e r v g) = leader_in (observe e r v g)
    rule_in (report_req e r xs) = follower_in (report_req e r xs)
    rule_in (report e r xs g) = leader_in (report e r xs g)
    rule_in (final a) = follower_in (final a)
    rule_in (final_echo a) = follower_in (final_echo a)

    message_in_lem : (m : Message) → In all (message_answer n j bits m)
    unfolding number_of message_answer
    message_in_lem m =
        either_in all (not (is_started n.pace)) _ _ refl
        (either_in all (not (is_done (rule_answer n j bits m))) _ _ (rule_in m)
        (either_in all (past_last n m) _ _ refl refl))

-- ---- all of them

event_in : (n : Node) (e : Event) → In (listed e) (event_answer n e)
unfolding number_of start_answer timer_answer delivery_answer
event_in n (starts time) =
    let l = listed (starts time) in
    either_in l (not (good_time time)) _ _ refl (either_in l (not (pacemaker.may_start n.pace)) _ _ refl refl)
event_in n (fires t time) =
    let l = listed (fires t time) in
    either_in l (not (good_time time)) _ _ refl (either_in l (not (firing n t)) _ _ refl (either_in l (ending n t) _ _ refl refl))
event_in n (delivers d) =
    let l = listed (delivers d) in
    let a = frame_answer d.frame n.config.n n.config.number d.link in
    either_in l (not (is_done a)) _ _ (frame_in d d.frame n.config.n n.config.number d.link)
    (either_in l (not (good_time d.time && good_commit d.commit)) _ _ refl (message_in_lem d n d.link d.bits (message_in d.frame)))

-- STATE and ROOM are listed for every call
first_in : (e : Event) → In (listed e) answer.State × In (listed e) answer.Room
unfolding number_of
first_in (starts time) = (refl, refl)
first_in (fires t time) = (refl, refl)
first_in (delivers d) = (refl, refl)

state_in : (e : Event) (room : Bool) (n : Node) (kept : List ℕ) → In (listed e) (after_state room n kept (event_answer n e))
unfolding after_state
state_in e room n kept =
    let (state, full) = first_in e in
    either_in (listed e) (not (good_state n kept)) _ _ state (either_in (listed e) (not room) _ _ full (event_in n e))

-- ---- a timer that is none of the four

module _ (room : Bool) (n : Node) (kept : List ℕ) (time : ℕ) where
  abbrev unarmed : Answer
  unarmed = after_state room n kept (unarmed_answer time)

  unarmed_in : In (2 ∷ 3 ∷ 9 ∷ 1 ∷ []) unarmed
  unfolding number_of after_state unarmed_answer
  unarmed_in =
      let l : List ℕ = 2 ∷ 3 ∷ 9 ∷ 1 ∷ [] in
      either_in l (not (good_state n kept)) _ _ refl (either_in l (not room) _ _ refl (either_in l (not (good_time time)) _ _ refl refl))

  -- none of them is DONE
  unarmed_refused : is_done unarmed ≡ false
  unfolding number_of
  unarmed_refused = test_false (is_done unarmed) (λ h. false≢true (ap (λ (a : Answer). among (number_of a) (2 ∷ 3 ∷ 9 ∷ 1 ∷ [])) (sym (done_only unarmed h)) ∙ unarmed_in))

-- it asks for nothing but its time
unarmed_answer_lem : (n : Node) (t : Fired) (time : ℕ) → firing n t ≡ false → timer_answer n t time ≡ unarmed_answer time
unfolding timer_answer unarmed_answer
unarmed_answer_lem n t time h = rw h

pub unarmed_changes_nothing : UnarmedChangesNothing
unarmed_changes_nothing w time outbox at =
    let n = w.node in
    let room = in_room w outbox at in
    record {
      same = λ t h.
          let e = ap (λ (a : Answer). after_state room n w.kept a) (unarmed_answer_lem n t time h) in
          called_refused w (fires t time) outbox at (ap is_done e ∙ unarmed_refused room n w.kept time)
          ∙ ap (λ (a : Answer). out (refusing a n) outbox w.kept w.signatures) e;
      answer_listed = unarmed_in room n w.kept time;
      nothing = record { node = refl; written = refl; timers = refl; handed = refl; outbox_same = refl; kept = refl; signatures = refl };
    }

restore_in : (c : Config) (s : Saved) → In (0 ∷ 12 ∷ 2 ∷ []) (restore_answer c s)
unfolding number_of restore_answer
restore_in c s =
    either_in (0 ∷ 12 ∷ 2 ∷ []) (not (good_config c)) _ _ refl (either_in (0 ∷ 12 ∷ 2 ∷ []) (not (leb s.epoch s.highest)) _ _ refl refl)

-- what was never saved is not below itself
fresh_in : (c : Config) → In (0 ∷ 12 ∷ []) (restore_answer c nothing_saved)
unfolding number_of restore_answer
fresh_in c = either_in (0 ∷ 12 ∷ []) (not (good_config c)) _ _ refl refl

pub answers_are_listed : AnswersAreListed
unfolding fresh_of restore_of
answers_are_listed w e outbox at c s =
    record {
      call = rw (called_answer w e outbox at) (state_in e (in_room w outbox at) w.node w.kept);
      fresh = fresh_in c;
      restore = restore_in c s;
    }
