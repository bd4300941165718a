-- From the checks' answers to what the rules require.
use mathlib.Core.Bool.{Bool, true, false, ◌&&◌}
use mathlib.Core.List.{List}
use mathlib.Core.Path.{◌≡◌}
use Prim.Native.Nat.{ℕ, ◌+◌, ◌≤◌, ◌<◌}
use borrow.Author.Tests.{leb-true, le-ltb}
use lib.Dec.{leb}
use lib.ListN.{length}
use Rattle.config.specs.Limits.{members, outbox_size, kept_size, signatures_size}
use Rattle.config.specs.Bounds.{good_config}
use Rattle.config.specs.Codes.{is_done}
use Rattle.config.specs.Answers.{Answer}
use Rattle.config.specs.Answers.{Done}
use Rattle.config.specs.declared.Commit.{Commit}
use Rattle.config.specs.declared.Config.{Config}
use Rattle.config.proofs.Facts.{good_facts, and-true}
use Rattle.frame.specs.Decode.{kind_in, body_in, attested_in}
use Rattle.frame.specs.Range.{good_attested}
use Rattle.frame.specs.Check.{frame_answer}
use Rattle.frame.proofs.Framed.{checked_frame}
use Rattle.follower.specs.State.{is_set}
use Rattle.node.specs.declared.Node.{Node}
use Rattle.node.specs.declared.Fired.{Fired}
use Rattle.node.specs.State.{good_node, good_kept, good_state, roomy}
use Rattle.node.specs.Answers.{ending, timer_answer, delivery_answer, after_state}
use Rattle.node.specs.Ready.{Room, Sound, Taken}
use Rattle.node.proofs.Checks.{node_facts, state_passed, state_config, timer_passed, delivery_passed}

-- ---- members

-- how many members a configuration in range has
pub members_some : (c : Config) → good_config c ≡ true → 0 < c.n
members_some c h = (good_facts c h).feed.members.some

pub members_most : (c : Config) → good_config c ≡ true → c.n ≤ members
members_most c h = (good_facts c h).feed.members.most

pub node_members : (n : Node) → good_node n ≡ true → n.config.n ≤ members
node_members n h = members_most n.config (node_facts n h).config

-- ---- bodies

-- the body of a frame that passed is its sender's, of its kind and in range
pub sound_frame : (c : Config) (link : ℕ) (frame : List ℕ) → good_config c ≡ true → frame_answer frame c.n c.number link ≡ Done → Sound c link (kind_in frame) (body_in frame)
sound_frame c link frame good h =
    let p = checked_frame frame c.n c.number link h in
    let kind = and-true (leb 1 (kind_in frame)) (leb (kind_in frame) 7) p.kind in
    record {
      config = good;
      kind_first = leb-true _ _ kind.0;
      kind_last = leb-true _ _ kind.1;
      body_good = p.answer;
      member_first = rw p.sender at p.least;
      member_last = rw p.sender at p.most;
    }

-- ---- STATE and ROOM

-- a report that is kept in a buffer of full size is in range
pub kept_good : (n : Node) (kept : List ℕ) → good_state n kept ≡ true → kept_size ≤ length kept → is_set n.follower.kept ≡ true → good_attested n.config.n (attested_in kept) ≡ true
unfolding good_state good_kept
kept_good n kept h long e = rw (e, le-ltb (length kept) kept_size long) at (and-true (good_node n) (good_kept n kept) h).1

pub room_facts : (outbox : List ℕ) (at : ℕ) (kept signatures : List ℕ) → roomy (length outbox) at (length kept) (length signatures) ≡ true → Room outbox at kept signatures
unfolding roomy
room_facts outbox at kept signatures h =
    let p = and-true (leb (at + outbox_size) (length outbox) && leb kept_size (length kept)) (leb signatures_size (length signatures)) h in
    let q = and-true (leb (at + outbox_size) (length outbox)) (leb kept_size (length kept)) p.0 in
    record { from = leb-true _ _ q.0; report = leb-true _ _ q.1; signed = leb-true _ _ p.1 }

-- ---- calls

module _ (n : Node) (outbox : List ℕ) (at : ℕ) (kept signatures : List ℕ) where
  abbrev room : Bool
  room = roomy (length outbox) at (length kept) (length signatures)

  abbrev answered : Answer → Bool
  answered a = is_done (after_state room n kept a)

  pub with_room : (a : Answer) → answered a ≡ true → Room outbox at kept signatures
  with_room a h = room_facts outbox at kept signatures (state_passed room n kept a h).roomy

  pub ready_timer : (t : Fired) (time : ℕ) → answered (timer_answer n t time) ≡ true → (good_config n.config ≡ true) × (ending n t ≡ false) × Room outbox at kept signatures
  ready_timer t time h =
      let a = timer_answer n t time in
      (state_config room n kept a h, (timer_passed n t time (state_passed room n kept a h).done).1, with_room a h)

  pub ready_delivery : (link time : ℕ) (commit : Commit) (bits : ℕ) (frame : List ℕ) → answered (delivery_answer n link time commit bits frame) ≡ true → Taken n link frame kept × Room outbox at kept signatures
  ready_delivery link time commit bits frame h =
      let a = delivery_answer n link time commit bits frame in
      let p = state_passed room n kept a h in
      let q = delivery_passed n link time commit bits frame p.done in
      let r = with_room a h in
      (record { config = state_config room n kept a h; frame_good = q.0; not_past = q.2; held = kept_good n kept p.good r.report }, r)
