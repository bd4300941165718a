-- Document 01, "Codes": what each event is answered, "First match wins." STATE and ROOM come before all of these.
use Rattle.std.specs.Prelude.{Bool, false, not, cond, ◌&&◌, List, ℕ}
use Rattle.config.specs.Bounds.{good_time, good_commit}
use Rattle.config.specs.Codes.{is_done}
use Rattle.config.specs.Answers.{Answer}
use Rattle.config.specs.Answers.{Done, Ignored, State, Room, Range, Proof, End}
use Rattle.config.specs.declared.Commit.{Commit}
use Rattle.frame.specs.Message.{Message, new_epoch, observe_req, observe, report_req, report, final, final_echo}
use Rattle.frame.specs.Decode.{message_in}
use Rattle.frame.specs.Check.{frame_answer}
use Rattle.pacemaker.specs.State.{is_started}
use Rattle.pacemaker.specs.Rules as pacemaker
use Rattle.follower.specs.Takes.{finding_of, answer_of}
use Rattle.follower.specs.Rules.{halts}
use Rattle.leader.specs.Takes as leader
use Rattle.node.specs.declared.Node.{Node}
use Rattle.node.specs.declared.Fired.{Fired}
use Rattle.node.specs.declared.Fired.TheVariants as fired
use Rattle.node.specs.State.{epoch_of, leader_now, leads, good_state}
use Rattle.node.specs.Event.{Whole, Event, starts, delivers, fires}

-- ---- Start: 9, 1

-- 1: "Start twice"
unfoldable pub start_answer : Node → ℕ → Answer
start_answer n time = cond (not (good_time time)) Range (cond (not (pacemaker.may_start n.pace)) Ignored Done)

-- ---- a timer: 9, 1, 11

-- the conditions of each timer's rule, its being armed included
unfoldable pub firing : Node → Fired → Bool
firing n fired.Resend = pacemaker.fires_resend n.pace
firing n fired.Progress = pacemaker.fires_progress n.pace
firing n fired.Round = leader.fires_round n.leader (leads n)
firing n fired.Grace = leader.fires_grace n.config.n n.config.f n.leader (leads n)

-- 11: "a move past the last epoch, or a round past 255"
unfoldable pub ending : Node → Fired → Bool
ending n fired.Resend = false
ending n fired.Progress = pacemaker.past_end n.pace
ending n fired.Round = leader.past_end n.leader
ending n fired.Grace = false

-- 1: "an unarmed timer, or one whose rule's conditions fail"
unfoldable pub timer_answer : Node → Fired → ℕ → Answer
timer_answer n t time =
    cond (not (good_time time)) Range (cond (not (firing n t)) Ignored (cond (ending n t) End Done))

-- a timer that is none of the four is an unarmed one: 9, 1
unfoldable pub unarmed_answer : ℕ → Answer
unarmed_answer time = cond (not (good_time time)) Range Ignored

-- ---- a delivery: 4, 5, 6, 7, 8, 9, 1, 10, 11

-- 1: "a well-formed message whose rule's conditions fail"; 10: "conditions hold, check fails"
unfoldable pub follower_answer : Node → ℕ → ℕ → Message → Answer
follower_answer n j bits m = answer_of (finding_of n.follower n.config.f (epoch_of n) (leader_now n) j bits m)

unfoldable pub leader_answer : Node → ℕ → ℕ → Message → Answer
leader_answer n j bits m =
    cond (not (leader.takes n.leader (leads n) (epoch_of n) j m)) Ignored (cond (not (leader.stands n.config.n n.leader bits m)) Proof Done)

-- each kind's rule; NEWEPOCH's has no conditions
abbrev pub rule_answer : Node → ℕ → ℕ → Message → Answer
rule_answer n j bits (new_epoch e) = Done
rule_answer n j bits (observe_req e r) = follower_answer n j bits (observe_req e r)
rule_answer n j bits (observe e r v g) = leader_answer n j bits (observe e r v g)
rule_answer n j bits (report_req e r xs) = follower_answer n j bits (report_req e r xs)
rule_answer n j bits (report e r xs g) = leader_answer n j bits (report e r xs g)
rule_answer n j bits (final a) = follower_answer n j bits (final a)
rule_answer n j bits (final_echo a) = follower_answer n j bits (final_echo a)

-- 11: a request that halts raises changeleader, and there is no epoch past the last one
abbrev pub past_last : Node → Message → Bool
past_last n m = halts n.config m && pacemaker.past_end n.pace

-- 1: "any event but Start before Start"; then 1 and 10 of the rule, then 11
unfoldable pub message_answer : Node → ℕ → ℕ → Message → Answer
message_answer n j bits m =
    cond (not (is_started n.pace)) Ignored
    (cond (not (is_done (rule_answer n j bits m))) (rule_answer n j bits m)
    (cond (past_last n m) End Done))

-- 4 to 9 of the frame, then 9 of the time and the commit
unfoldable pub delivery_answer : Node → ℕ → ℕ → Commit → ℕ → List ℕ → Answer
delivery_answer n link time commit bits frame =
    let a = frame_answer frame n.config.n n.config.number link in
    cond (not (is_done a)) a
    (cond (not (good_time time && good_commit commit)) Range (message_answer n link bits (message_in frame)))

-- ---- all of them

abbrev pub event_answer : Node → Event → Answer
event_answer n (starts time) = start_answer n time
event_answer n (delivers d) = delivery_answer n d.link d.time d.commit d.bits d.frame
event_answer n (fires t time) = timer_answer n t time

-- 2, 3, then the event's own: `room` says whether the lent buffers have their sizes
unfoldable pub after_state : Bool → Node → List ℕ → Answer → Answer
after_state room n kept a = cond (not (good_state n kept)) State (cond (not room) Room a)

abbrev pub answer_to : Bool → Whole → Event → Answer
answer_to room w e = after_state room w.node w.kept (event_answer w.node e)
