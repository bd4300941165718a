-- What every step keeps: a state in range stays in range, the body that is kept included, and numbers stay what their types hold.
use mathlib.Core.Path.{◌≡◌, refl, ap, ◌∙◌}
use mathlib.Core.Bool.{Bool, true, false, cond, ◌||◌, or-true}
use mathlib.Core.List.{List, map}
use Prim.Native.Nat.{ℕ, ◌≤◌}
use borrow.Author.Tests.{ltb-false}
use lib.Dec.{ltb}
use lib.ListN.{length}
use Rattle.config.specs.Limits.{members, kept_size}
use Rattle.config.specs.declared.Config.{Config}
use Rattle.config.specs.declared.Commit.{Commit}
use Rattle.config.proofs.Facts.{and-true, good_facts}
use Rattle.wire.proofs.Overlay.{length_over}
use Rattle.quorum.specs.Marks.{flags}
use Rattle.quorum.proofs.Cases.{cases, test}
use Rattle.price.specs.Median.{median_of}
use Rattle.frame.specs.Message.{Signed, Attested, Message, new_epoch, observe_req, observe, report_req, report, final, final_echo}
use Rattle.frame.specs.Encode.{attested_bytes}
use Rattle.frame.specs.Decode.{attested_in}
use Rattle.frame.specs.Range.{good_attested}
use Rattle.frame.specs.Claims.{ReadWell}
use Rattle.report.specs.Stands.{values_of}
use Rattle.report.specs.Kept.{kept_bytes, keeping}
use Rattle.report.proofs.Claims.{kept_says_the_report}
use Rattle.pacemaker.specs.declared.Paced.{Paced}
use Rattle.pacemaker.specs.State.{good_pace}
use Rattle.pacemaker.specs.Runs as pace
use Rattle.pacemaker.proofs.Claims as paced
use Rattle.follower.specs.declared.Followed.{Followed}
use Rattle.follower.specs.declared.Raised.{Raised}
use Rattle.follower.specs.declared.Raised.TheVariants as raised
use Rattle.follower.specs.State.{is_set}
use Rattle.follower.specs.Rules.{received, follow_of, kept_of}
use Rattle.follower.proofs.State.{good_round}
use Rattle.follower.proofs.Rules.{requested_each, asked_each, echoed_each}
use Rattle.follower.proofs.Claims as followed
use Rattle.leader.specs.declared.Led.{Led}
use Rattle.leader.specs.State.{good_leader, no_round}
use Rattle.leader.specs.Runs.{Next, by_round as led_round}
use Rattle.leader.proofs.Taken.{grace_next, observe_next, report_next}
use Rattle.leader.proofs.Claims as led
use Rattle.node.specs.declared.Node.{Node}
use Rattle.node.specs.State.{epoch_of, leads, good_node, good_kept, good_state, with_pace, with_leader, with_round}
use Rattle.node.specs.Event.{Whole, Delivery, Event, Effect}
use Rattle.node.specs.Effects.{pacing, moving, raising, following, leading}
use Rattle.node.specs.Typed.{TypedEvent}
use Rattle.node.specs.Claims.{GoodStaysGood}
use Rattle.node.proofs.Checks.{NodeGood, node_facts}
use Rattle.node.proofs.Ruled.{Ruled, by_start, by_resend, by_progress, by_round, by_grace, by_hearing, by_moving, by_following, by_observe, by_report, kept_by_steps, said_link, said_well, heard_next}
use Rattle.node.proofs.Cases.{begun_cases}

-- ---- a state and its parts

state_parts : (n : Node) (kept : List ℕ) → good_state n kept ≡ true → NodeGood n × (good_kept n kept ≡ true)
unfolding good_state
state_parts n kept h =
    let p = and-true (good_node n) (good_kept n kept) h in
    (node_facts n p.0, p.1)

parts_state : (n : Node) (kept : List ℕ) → NodeGood n → good_kept n kept ≡ true → good_state n kept ≡ true
unfolding good_state good_node
parts_state n kept p k = rw (p.config, p.pace, p.follower, p.leader, k)

abbrev Fine : Whole → Type 0
Fine w = good_state w.node w.kept ≡ true

-- a report that is kept: in a buffer of full size it is what the buffer says
keeping_good : (n : ℕ) (a : Attested) (buffer : List ℕ) → n ≤ members → ReadWell n (final a) → ltb (length (keeping buffer (attested_bytes a))) kept_size || good_attested n (attested_in (keeping buffer (attested_bytes a))) ≡ true
keeping_good n a buffer few w =
    cases (test (ltb (length buffer) kept_size))
    (λ short. rw (length_over buffer 0 (kept_bytes (attested_bytes a)), short))
    (λ full.
    let says = kept_says_the_report n a buffer few w.range w.writable (ltb-false (length buffer) kept_size full) in
    let short = ltb (length (keeping buffer (attested_bytes a))) kept_size in
    ap (λ (t : Bool). short || t) (ap (good_attested n) says ∙ w.range) ∙ or-true short)

no_round_good : good_leader no_round ≡ true
unfolding good_leader flags
no_round_good = refl

-- ---- each rule

module _ (w : Whole) (p : NodeGood w.node) (k : good_kept w.node w.kept ≡ true) where
  abbrev c : Config
  c = w.node.config

  good_pacing : (q : Paced) → pace.Next c.n c.f w.node.pace q.pace → Fine (pacing w q).whole_after
  unfolding pacing good_kept
  good_pacing q next =
      parts_state (with_pace w.node q.pace) w.kept
      (record { config = p.config; pace = paced.good_stays_good c.n c.f w.node.pace q.pace next p.pace; follower = p.follower; leader = p.leader }) k

  good_leading : (l : Led) (signatures : List ℕ) → Next c w.node.leader l.leader → Fine (leading w l signatures).whole_after
  unfolding leading good_kept
  good_leading l signatures next =
      parts_state (with_leader w.node l.leader) w.kept
      (record { config = p.config; pace = p.pace; follower = p.follower; leader = led.good_stays_good c w.node.leader l.leader next p.leader }) k

  good_moving : (q : Paced) → pace.Next c.n c.f w.node.pace q.pace → Fine (moving w q).whole_after
  unfolding moving good_kept
  good_moving q next =
      parts_state (moving w q).whole_after.node (moving w q).whole_after.kept
      (record {
        config = p.config;
        pace = paced.good_stays_good c.n c.f w.node.pace q.pace next p.pace;
        follower = good_round 1 0 refl;
        leader = begun_cases (λ l. good_leader l.leader ≡ true) c q.pace.epoch (led.good_stays_good c no_round _ led_round no_round_good) no_round_good;
      })
      refl

  -- the kept body, after a message that is followed
  abbrev Kept : Message → Followed → Type 0
  Kept m d = good_kept (with_round w.node w.node.pace d.follower) (kept_of w.node.follower w.kept m) ≡ true

  -- a FINAL-ECHO is kept where nothing was
  echo_kept : (a : Attested) → ReadWell c.n (final a) → (t : Bool) → is_set w.node.follower.kept ≡ t → let kept = cond t w.kept (keeping w.kept (attested_bytes a)) in ltb (length kept) kept_size || good_attested c.n (attested_in kept) ≡ true
  unfolding good_kept
  echo_kept a r true e = rw e at k
  echo_kept a r false e = keeping_good c.n a w.kept (good_facts c p.config).feed.members.most r

  followed_kept : (j time : ℕ) (commit : Commit) (m : Message) → ReadWell c.n m → Kept m (follow_of c w.node.follower j time commit m)
  unfolding good_kept received
  followed_kept j time commit (observe_req e r) v = requested_each (Kept (observe_req e r)) c w.node.follower r refl refl
  followed_kept j time commit (report_req e r xs) v = asked_each (Kept (report_req e r xs)) c w.node.follower time commit (median_of (values_of (map (λ (x : Signed). x.said) xs))) k k
  followed_kept j time commit (final a) v = keeping_good c.n a w.kept (good_facts c p.config).feed.members.most v
  followed_kept j time commit (final_echo a) v =
      let held = echo_kept a (record { range = v.range; writable = v.writable }) (is_set w.node.follower.kept) refl in
      echoed_each (Kept (final_echo a)) c w.node.follower j held held
  followed_kept j time commit (new_epoch e) v = k
  followed_kept j time commit (observe e r u g) v = k
  followed_kept j time commit (report e r xs g) v = k

  raised_good : (r : Raised) → good_pace (raising r w.node.pace).pace ≡ true
  raised_good raised.Nothing = p.pace
  raised_good raised.Progress = paced.good_stays_good c.n c.f w.node.pace _ pace.by_progress p.pace
  raised_good raised.ChangeLeader = paced.good_stays_good c.n c.f w.node.pace _ pace.by_change p.pace

  good_following : (d : Delivery) (m : Message) → ReadWell c.n m → Fine (following w d m).whole_after
  unfolding following good_kept
  good_following d m v =
      let s = w.node.follower in
      let r = follow_of c s d.link d.time d.commit m in
      parts_state (following w d m).whole_after.node (following w d m).whole_after.kept
      (record { config = p.config; pace = raised_good r.raised; follower = followed.good_stays_good c s d.link d.time d.commit m p.follower; leader = p.leader })
      (followed_kept d.link d.time d.commit m v)

-- ---- all of them

good_ruled : {w : Whole} {e : Event} {f : Effect} → NodeGood w.node → good_kept w.node w.kept ≡ true → Ruled w e f → TypedEvent e → Fine f.whole_after
good_ruled {w} p k (by_start time) u = good_pacing w p k _ pace.by_start
good_ruled {w} p k (by_resend time h) u = good_pacing w p k _ pace.by_resend
good_ruled {w} p k (by_progress time h) u = good_pacing w p k _ pace.by_change
good_ruled {w} p k (by_round time h g) u = good_leading w p k _ _ led_round
good_ruled {w} p k (by_grace time h) u = good_leading w p k _ _ (grace_next w.node.config w.node.leader (leads w.node) h)
good_ruled {w} p k (by_hearing d x s h) u = good_pacing w p k _ (heard_next w.node d x s)
good_ruled {w} p k (by_moving d x s h) u = good_moving w p k _ (heard_next w.node d x s)
good_ruled {w} p k (by_following d m s h g) u = good_following w p k d m (said_well w.node d s u.frame)
good_ruled {w} p k (by_observe d e r v g s h) u =
    let n = w.node in
    good_leading w p k _ _ (observe_next n.config n.leader (leads n) (epoch_of n) d.link e r v g (said_link n d s) h)
good_ruled {w} p k (by_report d e r xs g s h q) u =
    let n = w.node in
    good_leading w p k _ _ (report_next n.config n.leader (leads n) (epoch_of n) d.link e r xs g (said_link n d s) h)

pub good_stays_good : GoodStaysGood
good_stays_good w e u h =
    kept_by_steps Fine w e h
    (λ f good r. let (p, k) = state_parts w.node w.kept good in good_ruled p k r u)
