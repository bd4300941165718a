-- How the checks of a call stand one after another: what a check that passed tells, and that STATE and ROOM come before the event's own.
use mathlib.Core.Bool.{Bool, true, false, not, cond, ◌&&◌}
use mathlib.Core.List.{List}
use mathlib.Core.Path.{◌≡◌, refl, ap}
use Prim.Native.Nat.{ℕ}
use borrow.Author.Tests.{not-false}
use Rattle.config.specs.Bounds.{good_config, good_time, good_commit}
use Rattle.config.specs.Codes.{number_of, is_done}
use Rattle.config.specs.Answers.{Answer}
use Rattle.config.specs.Answers as answer
use Rattle.config.specs.declared.Commit.{Commit}
use Rattle.config.proofs.Facts.{and-true}
use Rattle.config.proofs.Passed.{itself, stage_passed, answer_passed}
use Rattle.frame.specs.Message.{Message}
use Rattle.frame.specs.Decode.{message_in}
use Rattle.frame.specs.Check.{frame_answer}
use Rattle.pacemaker.specs.State.{good_pace, is_started}
use Rattle.follower.specs.State.{good_follower}
use Rattle.leader.specs.State.{good_leader}
use Rattle.node.specs.declared.Node.{Node}
use Rattle.node.specs.declared.Fired.{Fired}
use Rattle.node.specs.State.{good_node, good_kept, good_state}
use Rattle.node.specs.Answers.{firing, ending, timer_answer, rule_answer, past_last, message_answer, delivery_answer, after_state}

-- ---- STATE and ROOM

pub record NodeGood (n : Node) : Type 0 where
  pub config : good_config n.config ≡ true
  pub pace : good_pace n.pace ≡ true
  pub follower : good_follower n.follower ≡ true
  pub leader : good_leader n.leader ≡ true

pub node_facts : (n : Node) → good_node n ≡ true → NodeGood n
unfolding good_node
node_facts n h =
    let p = and-true (good_config n.config && good_pace n.pace && good_follower n.follower) (good_leader n.leader) h in
    let q = and-true (good_config n.config && good_pace n.pace) (good_follower n.follower) p.0 in
    let r = and-true (good_config n.config) (good_pace n.pace) q.0 in
    record { config = r.0; pace = r.1; follower = q.1; leader = p.1 }

pub record StatePassed (room : Bool) (n : Node) (kept : List ℕ) (a : Answer) : Type 0 where
  pub good : good_state n kept ≡ true
  pub roomy : room ≡ true
  pub done : is_done a ≡ true

module _ (room : Bool) (n : Node) (kept : List ℕ) (a : Answer) where
  pub state_passed : is_done (after_state room n kept a) ≡ true → StatePassed room n kept a
  unfolding after_state number_of
  state_passed h =
      let p = stage_passed itself (not (good_state n kept)) answer.State (cond (not room) answer.Room a) refl h in
      let q = stage_passed itself (not room) answer.Room a refl p.1 in
      record { good = not-false _ p.0; roomy = not-false _ q.0; done = q.1 }

  pub state_config : is_done (after_state room n kept a) ≡ true → good_config n.config ≡ true
  unfolding good_state
  state_config h = (node_facts n (and-true (good_node n) (good_kept n kept) (state_passed h).good).0).config

  -- whether they pass does not depend on what comes behind them
  pub state_then : after_state room n kept a ≡ cond (is_done (after_state room n kept answer.Done)) a (after_state room n kept answer.Done)
  unfolding after_state number_of
  state_then = go (good_state n kept) room
    where
      go : (good roomy : Bool) → let before : Answer → Answer = (λ (x : Answer). cond (not good) answer.State (cond (not roomy) answer.Room x)) in before a ≡ cond (is_done (before answer.Done)) a (before answer.Done)
      go true true = refl
      go true false = refl
      go false roomy = refl

-- ---- the event's own

module _ (n : Node) where
  pub timer_passed : (t : Fired) (time : ℕ) → is_done (timer_answer n t time) ≡ true → (firing n t ≡ true) × (ending n t ≡ false)
  unfolding timer_answer number_of
  timer_passed t time h =
      let last = cond (ending n t) answer.End answer.Done in
      let p = stage_passed itself (not (good_time time)) answer.Range (cond (not (firing n t)) answer.Ignored last) refl h in
      let q = stage_passed itself (not (firing n t)) answer.Ignored last refl p.1 in
      (not-false _ q.0, (stage_passed itself (ending n t) answer.End answer.Done refl q.1).0)

  message_passed : (link bits : ℕ) (m : Message) → is_done (message_answer n link bits m) ≡ true → (is_done (rule_answer n link bits m) ≡ true) × (past_last n m ≡ false)
  unfolding message_answer number_of
  message_passed link bits m h =
      let said = rule_answer n link bits m in
      let last = cond (past_last n m) answer.End answer.Done in
      let p = stage_passed itself (not (is_started n.pace)) answer.Ignored (cond (not (is_done said)) said last) refl h in
      let q = answer_passed itself said said last refl p.1 in
      (ap is_done q.0, (stage_passed itself (past_last n m) answer.End answer.Done refl q.1).0)

  pub delivery_passed : (link time : ℕ) (commit : Commit) (bits : ℕ) (frame : List ℕ) → is_done (delivery_answer n link time commit bits frame) ≡ true → (frame_answer frame n.config.n n.config.number link ≡ answer.Done) × (is_done (rule_answer n link bits (message_in frame)) ≡ true) × (past_last n (message_in frame) ≡ false)
  unfolding delivery_answer number_of
  delivery_passed link time commit bits frame h =
      let timely = good_time time && good_commit commit in
      let last = message_answer n link bits (message_in frame) in
      let said = frame_answer frame n.config.n n.config.number link in
      let p = answer_passed itself said said (cond (not timely) answer.Range last) refl h in
      let q = stage_passed itself (not timely) answer.Range last refl p.1 in
      let r = message_passed link bits (message_in frame) q.1 in
      (p.0, r.0, r.1)
