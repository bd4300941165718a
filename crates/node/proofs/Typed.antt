-- Numbers stay what their types hold, whatever a step does: bytes stay bytes, tables as long as they are, epochs, rounds and values in their widths.
use mathlib.Core.Path.{◌≡◌, refl, ap, ◌∙◌}
use mathlib.Core.Bool.{true, false}
use mathlib.Core.List.{List}
use Prim.Native.Nat.{ℕ, ◌+◌, ◌-◌, ◌*◌, ◌^◌, ◌≤◌, ◌<◌, zero-le}
use native.Mathlib.Omega.{arith}
use borrow.Author.Tests.{ltb-false}
use lib.Dec.{lit<}
use lib.IntN.{ℤ, pos}
use lib.ListN.{length, get_or, replicate, length-set}
use mir.Syntax.{w64}
use mir.Val.{SFits}
use Rattle.config.specs.Limits.{members, last_epoch, last_round, signature_size, report_signatures, signatures_size, kept_size}
use Rattle.config.specs.declared.Config.{Config}
use Rattle.config.specs.declared.Commit.{Commit}
use Rattle.config.specs.declared.Saved.{Saved}
use Rattle.wire.specs.Numbers.{Bytes}
use Rattle.wire.proofs.Numbers.{bytes_append, bytes_replicate, bytes_over}
use Rattle.quorum.proofs.Cases.{either}
use Rattle.quorum.proofs.Each.{each_replicate, each_set}
use Rattle.frame.specs.Message.{Message, new_epoch, observe_req, observe, report_req, report, final, final_echo}
use Rattle.frame.specs.Encode.{attested_bytes, body_bytes}
use Rattle.frame.specs.Range.{good_message}
use Rattle.frame.proofs.Ranges.{good_head_facts}
use Rattle.report.specs.Kept.{kept_bytes, keeping}
use Rattle.pacemaker.specs.declared.Pace.{Pace}
use Rattle.pacemaker.specs.declared.Paced.{Paced}
use Rattle.pacemaker.specs.Rules as pacemaker
use Rattle.pacemaker.specs.Claims.{InRange}
use Rattle.pacemaker.proofs.Settle.{step_is}
use Rattle.pacemaker.proofs.Claims as paced
use Rattle.follower.specs.declared.Follower.{Follower}
use Rattle.follower.specs.declared.Followed.{Followed}
use Rattle.follower.specs.declared.Raised.{Raised}
use Rattle.follower.specs.declared.Raised.TheVariants as raised
use Rattle.follower.specs.State.{is_set, in_round}
use Rattle.follower.specs.Rules.{follow_of, kept_of}
use Rattle.follower.proofs.Rules.{requested_each, by_request, in_round_each}
use Rattle.leader.specs.declared.Leader.{Leader}
use Rattle.leader.specs.declared.Led.{Led}
use Rattle.leader.specs.State.{idle, collecting, empty_round, no_round}
use Rattle.leader.specs.Takes as leader
use Rattle.leader.specs.Rules.{next_round, no_signatures, observing, closing, reporting_from}
use Rattle.leader.proofs.Cases.{round_cases, observing_cases, reporting_cases}
use Rattle.node.specs.declared.Node.{Node}
use Rattle.node.specs.State.{restored_node, with_pace, with_leader}
use Rattle.node.specs.Event.{Whole, whole, Delivery, Event, Effect}
use Rattle.node.specs.Answers.{past_last}
use Rattle.node.specs.Effects.{pacing, moving, raising, following, leading}
use Rattle.node.specs.Typed.{TypedNode, TypedWhole, TypedEvent}
use Rattle.node.specs.Claims.{TypedStaysTyped}
use Rattle.node.proofs.Written.{heard_in_range}
use Rattle.node.proofs.Ruled.{Says, heard_from, Ruled, by_start, by_resend, by_progress, by_round, by_grace, by_hearing, by_moving, by_following, by_observe, by_report, kept_by_steps, said_range, said_well, said_bytes}
use Rattle.node.proofs.Cases.{begun_cases}
use Rattle.node.proofs.Followed.{raised_past}

-- ---- what types hold

record TypedPace (p : Pace) : Type 0 where
  range : InRange p
  heard : length p.heard ≡ members

record TypedFollower (s : Follower) : Type 0 where
  round : s.round ≤ last_round
  marks : length s.marks ≡ members

record TypedLeader (s : Leader) : Type 0 where
  round : s.round ≤ last_round
  values : length s.values ≡ members
  value : (k : ℕ) → SFits w64 (get_or s.values k (pos 0))
  observed : length s.observed ≡ members
  reported : length s.reported ≡ members

typed_node : (n : Node) → n.config.number < 2 ^ 64 → TypedPace n.pace → TypedFollower n.follower → TypedLeader n.leader → TypedNode n
typed_node n number p f l =
    record {
      number = number;
      pace = p.range;
      heard = p.heard;
      round = f.round;
      marks = f.marks;
      leader_round = l.round;
      values = l.values;
      value = l.value;
      observed = l.observed;
      reported = l.reported;
    }

-- ---- the parts

zero_fits : SFits w64 (pos 0)
zero_fits = record { sfits = lit< tt }

typed_round : (phase round t_round : ℕ) → round ≤ last_round → TypedLeader (empty_round phase round t_round)
typed_round phase round t_round h =
    record { round = h; values = refl; value = each_replicate (SFits w64) (pos 0) members zero_fits; observed = refl; reported = refl }

-- a NEWEPOCH changes one place of what was heard
heard_length : (n f : ℕ) (p : Pace) (j x : ℕ) → length (pacemaker.new_epoch_of n f p j x).pace.heard ≡ length p.heard
heard_length n f p j x = ap (λ (q : Pace). length q.heard) (step_is n f p j x) ∙ length-set p.heard (j - 1) _

typed_heard : (n : Node) (d : Delivery) (x : ℕ) → Says n d (new_epoch x) → TypedPace n.pace → TypedPace (heard_from n d.link x).pace
typed_heard n d x s t =
    record { range = heard_in_range n d x s t.range; heard = heard_length n.config.n n.config.f n.pace d.link x ∙ t.heard }

typed_raised : (r : Raised) (p : Pace) → (r ≡ raised.ChangeLeader → pacemaker.past_end p ≡ false) → TypedPace p → TypedPace (raising r p).pace
unfolding pacemaker.progress_of pacemaker.change_leader_of
typed_raised raised.Nothing p h t = t
typed_raised raised.Progress p h t = record { range = (paced.others_stay_in_range p t.range).progress; heard = t.heard }
typed_raised raised.ChangeLeader p h t = record { range = paced.change_in_range p (h refl) t.range; heard = t.heard }

typed_followed : (c : Config) (s : Follower) (j time : ℕ) (commit : Commit) (m : Message) → good_message c.n m ≡ true → TypedFollower s → TypedFollower (follow_of c s j time commit m).follower
typed_followed c s j time commit m h t =
    let Typed : Followed → Type 0 = λ d. TypedFollower d.follower in
    let long = length-set s.marks (j - 1) 1 ∙ t.marks in
    by_request (λ m. good_message c.n m ≡ true → Typed (follow_of c s j time commit m))
    (λ e r h.
    let fresh : (live : ℕ) → TypedFollower (in_round live r) = λ live. record { round = (good_head_facts e r h).round.most; marks = refl } in
    requested_each Typed c s r (fresh 0) (fresh s.live))
    (λ m q h. in_round_each c s j time commit Typed
    (record { round = t.round; marks = t.marks })
    (record { round = t.round; marks = t.marks })
    (record { round = t.round; marks = t.marks })
    (record { round = t.round; marks = long })
    (record { round = t.round; marks = long })
    t m q)
    m h

-- ---- the buffers

bytes_keeping : (kept body : List ℕ) → Bytes kept → Bytes body → Bytes (keeping kept body)
bytes_keeping kept body b g = bytes_over kept 0 (kept_bytes body) b (bytes_append body (replicate (kept_size - length body) 0) g (bytes_replicate (kept_size - length body)))

bytes_kept : (s : Follower) (kept : List ℕ) (m : Message) → Bytes kept → Bytes (body_bytes m) → Bytes (kept_of s kept m)
unfolding body_bytes
bytes_kept s kept (observe_req e r) b g = bytes_over kept 0 (replicate kept_size 0) b (bytes_replicate kept_size)
bytes_kept s kept (final a) b g = bytes_keeping kept (attested_bytes a) b g
bytes_kept s kept (final_echo a) b g = either Bytes (is_set s.kept) _ _ (λ e. b) (λ e. bytes_keeping kept (attested_bytes a) b g)
bytes_kept s kept (new_epoch e) b g = b
bytes_kept s kept (observe e r v u) b g = b
bytes_kept s kept (report_req e r xs) b g = b
bytes_kept s kept (report e r xs u) b g = b

bytes_reset : (signatures : List ℕ) → Bytes signatures → Bytes (no_signatures signatures)
bytes_reset signatures b = bytes_over signatures 0 (replicate signatures_size 0) b (bytes_replicate signatures_size)

-- ---- each rule

module _ (w : Whole) (t : TypedWhole w) where
  abbrev n : Node
  n = w.node

  abbrev c : Config
  c = w.node.config

  own_pace : TypedPace n.pace
  own_pace = record { range = t.node.pace; heard = t.node.heard }

  own_follower : TypedFollower n.follower
  own_follower = record { round = t.node.round; marks = t.node.marks }

  own_leader : TypedLeader n.leader
  own_leader = record { round = t.node.leader_round; values = t.node.values; value = t.node.value; observed = t.node.observed; reported = t.node.reported }

  typed_pacing : (p : Paced) → TypedPace p.pace → TypedWhole (pacing w p).whole_after
  unfolding pacing
  typed_pacing p q =
      record { node = typed_node (with_pace n p.pace) t.node.number q own_follower own_leader; kept = t.kept; signatures = t.signatures }

  typed_leading : (l : Led) (signatures : List ℕ) → TypedLeader l.leader → Bytes signatures → TypedWhole (leading w l signatures).whole_after
  unfolding leading
  typed_leading l signatures q b =
      record { node = typed_node (with_leader n l.leader) t.node.number own_pace own_follower q; kept = t.kept; signatures = b }

  typed_moving : (p : Paced) → TypedPace p.pace → TypedWhole (moving w p).whole_after
  unfolding moving
  typed_moving p q =
      let P : Led → Type 0 = λ l. TypedLeader l.leader in
      let l = begun_cases P c p.pace.epoch (round_cases P c no_round (typed_round collecting 1 0 (omega arith)) (typed_round collecting 1 1 (omega arith))) (typed_round idle 0 0 zero-le) in
      record {
        node = typed_node (moving w p).whole_after.node t.node.number q (record { round = zero-le; marks = refl }) l;
        kept = bytes_over w.kept 0 (replicate kept_size 0) t.kept (bytes_replicate kept_size);
        signatures = bytes_reset w.signatures t.signatures;
      }

  typed_following : (d : Delivery) (m : Message) → good_message c.n m ≡ true → Bytes (body_bytes m) → past_last n m ≡ false → TypedWhole (following w d m).whole_after
  unfolding following
  typed_following d m h b past =
      let r = follow_of c n.follower d.link d.time d.commit m in
      record {
        node = typed_node (following w d m).whole_after.node t.node.number
            (typed_raised r.raised n.pace (raised_past n d.link d.time d.commit m past) own_pace)
            (typed_followed c n.follower d.link d.time d.commit m h own_follower)
            own_leader;
        kept = bytes_kept n.follower w.kept m t.kept b;
        signatures = t.signatures;
      }

  typed_next : leader.past_end n.leader ≡ false → TypedLeader (next_round c n.leader).leader
  typed_next past =
      let next = ltb-false last_round (n.leader.round + 1) past in
      round_cases (λ l. TypedLeader l.leader) c n.leader (typed_round collecting (n.leader.round + 1) 0 next) (typed_round collecting (n.leader.round + 1) 1 next)

  typed_closing : TypedLeader (closing n.leader).leader
  unfolding closing
  typed_closing = record { round = t.node.leader_round; values = t.node.values; value = t.node.value; observed = t.node.observed; reported = t.node.reported }

  typed_observing : (j : ℕ) (v : ℤ) → SFits w64 v → TypedLeader (observing c n.leader j v).leader
  typed_observing j v f =
      let s = n.leader in
      let values = length-set s.values (j - 1) v ∙ t.node.values in
      let value = each_set (SFits w64) (pos 0) s.values (j - 1) v f t.node.value in
      let observed = length-set s.observed (j - 1) 1 ∙ t.node.observed in
      observing_cases (λ l. TypedLeader l.leader) c s j v
      (λ h. record { round = t.node.leader_round; values = values; value = value; observed = observed; reported = t.node.reported })
      (λ h. record { round = t.node.leader_round; values = values; value = value; observed = observed; reported = t.node.reported })

  typed_reporting : (j : ℕ) → TypedLeader (reporting_from c n.leader j).leader
  typed_reporting j =
      let s = n.leader in
      let reported = length-set s.reported (j - 1) 1 ∙ t.node.reported in
      reporting_cases (λ l. TypedLeader l.leader) c s j
      (λ h. record { round = t.node.leader_round; values = t.node.values; value = t.node.value; observed = t.node.observed; reported = reported })
      (record { round = t.node.leader_round; values = t.node.values; value = t.node.value; observed = t.node.observed; reported = reported })

-- ---- all of them

typed_ruled : {w : Whole} {e : Event} {f : Effect} → TypedWhole w → Ruled w e f → TypedEvent e → TypedWhole f.whole_after
unfolding pacemaker.start_of pacemaker.resend_of pacemaker.change_leader_of
typed_ruled {w} t (by_start time) u = typed_pacing w t _ (record { range = (paced.others_stay_in_range w.node.pace t.node.pace).start; heard = t.node.heard })
typed_ruled {w} t (by_resend time h) u = typed_pacing w t _ (record { range = (paced.others_stay_in_range w.node.pace t.node.pace).resend; heard = t.node.heard })
typed_ruled {w} t (by_progress time h) u = typed_pacing w t _ (record { range = paced.change_in_range w.node.pace h t.node.pace; heard = t.node.heard })
typed_ruled {w} t (by_round time h g) u = typed_leading w t _ _ (typed_next w t g) (bytes_reset w.signatures t.signatures)
typed_ruled {w} t (by_grace time h) u = typed_leading w t _ _ (typed_closing w t) t.signatures
typed_ruled {w} t (by_hearing d x s h) u = typed_pacing w t _ (typed_heard w.node d x s (own_pace w t))
typed_ruled {w} t (by_moving d x s h) u = typed_moving w t _ (typed_heard w.node d x s (own_pace w t))
typed_ruled {w} t (by_following d m s h g) u = typed_following w t d m (said_range w.node d s) (said_bytes w.node d s u.frame) g
typed_ruled {w} t (by_observe d e r v g s h) u =
    let k = (said_well w.node d s u.frame).writable in
    typed_leading w t _ _ (typed_observing w t d.link v k.0) (bytes_over w.signatures (signature_size * (d.link - 1)) g t.signatures k.1.bytes)
typed_ruled {w} t (by_report d e r xs g s h q) u =
    let k = (said_well w.node d s u.frame).writable in
    typed_leading w t _ _ (typed_reporting w t d.link) (bytes_over w.signatures (report_signatures + signature_size * (d.link - 1)) g t.signatures k.1.bytes)

pub typed_stays_typed : TypedStaysTyped
typed_stays_typed w e t u = kept_by_steps TypedWhole w e t (λ f good r. typed_ruled t r u)

-- ---- a node that was restored

pub restored_typed : (c : Config) (s : Saved) (kept signatures : List ℕ) → c.number < 2 ^ 64 → s.epoch ≤ last_epoch → s.highest ≤ last_epoch → Bytes kept → Bytes signatures → TypedWhole (whole (restored_node c s) kept signatures)
restored_typed c s kept signatures number epoch highest b g =
    record {
      node = typed_node (restored_node c s) number (record { range = paced.restored_in_range s epoch highest; heard = refl }) (record { round = zero-le; marks = refl }) (typed_round idle 0 0 zero-le);
      kept = b;
      signatures = g;
    }
