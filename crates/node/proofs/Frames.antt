-- The frames that a call writes, one directly after the other; that the outbox has room for them; and what a call that wrote them comes to.
use mathlib.Core.List.{List, [], ◌∷◌, ◌++◌, append_assoc, append-nil}
use mathlib.Core.Logic.{inl, inr}
use mathlib.Core.Path.{◌≡◌, refl, sym, ap, ◌∙◌}
use Prim.Native.Nat.{ℕ, ◌+◌, ◌-◌, ◌≤◌}
use native.Mathlib.Nat.{le_refl, le_trans}
use native.Mathlib.Omega.{arith}
use lib.ListN.{length, length-append}
use Rattle.std.specs.Prelude.{Option, None, Some}
use Rattle.config.specs.Limits.{members, outbox_size}
use Rattle.config.specs.Answers.{Done}
use Rattle.config.specs.declared.Config.{Config}
use Rattle.wire.specs.Numbers.{be_bytes}
use Rattle.wire.specs.Overlay.{over}
use Rattle.wire.proofs.Overlay.{over_none, over_then}
use Rattle.frame.specs.Message.{Message}
use Rattle.frame.specs.Table.{table, body_length, trailer_length}
use Rattle.frame.specs.Encode.{head_bytes, body_bytes, trailer_bytes, frame_bytes}
use Rattle.frame.specs.Check.{body_answer}
use Rattle.frame.proofs.Readable.{length_most}
use Rattle.frame.proofs.Checked.{CheckedFinal, checked_report_req}
use Rattle.outbox.specs.Written.{Wrote, Fits, own_frame}
use Rattle.report.specs.Kept.{cleared}
use Rattle.pacemaker.specs.declared.Paced.{Paced}
use Rattle.follower.specs.declared.Handed.{Handed}
use Rattle.follower.specs.declared.Reply.{Reply}
use Rattle.follower.specs.declared.Reply.TheVariants as reply
use Rattle.follower.specs.State.{in_round}
use Rattle.follower.proofs.Bodies.{checked_attested}
use Rattle.leader.specs.declared.Leader.{Leader}
use Rattle.leader.specs.declared.Led.{Led}
use Rattle.leader.specs.declared.Asking.{Asking}
use Rattle.leader.specs.declared.Asking.TheVariants as asking
use Rattle.leader.specs.State.{no_round}
use Rattle.leader.specs.Listed.{order, lowest_signers}
use Rattle.leader.specs.Rules.{no_signatures}
use Rattle.leader.proofs.Cases.{round_cases}
use Rattle.leader.proofs.Marked.{lowest_most, order_most}
use Rattle.node.specs.declared.Node.{Node}
use Rattle.node.specs.declared.Timers.{Timers}
use Rattle.node.specs.Event.{Whole, whole}
use Rattle.node.specs.Effects.{nothing_handed, announced, asking_for, moved_timers, begun, moving}
use Rattle.node.specs.Calls.{frames_of, out, settled}
use Rattle.node.specs.Ready.{WroteAll, AskingFits, Answers, ReplyFits}
use Rattle.node.proofs.Cases.{begun_cases}

-- ---- one after the other

pub frames_append : (c : Config) (ms ns : List Message) → frames_of c (ms ++ ns) ≡ frames_of c ms ++ frames_of c ns
unfolding frames_of
frames_append c [] ns = refl
frames_append c (m ∷ ms) ns = ap (λ (l : List ℕ). own_frame c m ++ l) (frames_append c ms ns) ∙ sym (append_assoc (own_frame c m) (frames_of c ms) (frames_of c ns))

pub wrote_none : {c : Config} {o : List ℕ} {at : ℕ} → WroteAll c [] o at o 0
unfolding frames_of
wrote_none {c} {o} {at} = record { frames = sym (over_none o at); long = refl }

pub wrote_one : {c : Config} {m : Message} {o exit : List ℕ} {at r : ℕ} → Wrote c m o at exit r → WroteAll c (m ∷ []) o at exit r
unfolding frames_of
wrote_one {c} {m} w =
    let e : own_frame c m ≡ frames_of c (m ∷ []) = sym (append-nil (own_frame c m)) in
    record { frames = rw (← e) w.frame; long = rw (← e) w.long }

pub wrote_then : {c : Config} {ms ns : List Message} {o mid exit : List ℕ} {at p q : ℕ} → WroteAll c ms o at mid p → WroteAll c ns mid (at + p) exit q → WroteAll c (ms ++ ns) o at exit (p + q)
wrote_then {c} {ms} {ns} {o} {mid} {exit} {at} {p} {q} v w =
    let e = frames_append c ms ns in
    let all : over mid (at + p) (frames_of c ns) ≡ over o at (frames_of c ms ++ frames_of c ns) = rw (v.frames, v.long) (over_then o at (frames_of c ms) (at + length (frames_of c ms)) (frames_of c ns) refl) in
    record {
      frames = w.frames ∙ all ∙ ap (over o at) (sym e);
      long = rw (e, length-append (frames_of c ms) (frames_of c ns), v.long, w.long);
    }

-- what a call comes to that wrote the frames of what is sent
pub settles : {n : Node} {ms : List Message} {o exit : List ℕ} {at r : ℕ} (t : Timers) (h : Handed) (kept signatures : List ℕ) → WroteAll n.config ms o at exit r → out (record { answer = Done; node = n; written = r; timers = t; handed = h }) exit kept signatures ≡ settled (record { whole_after = whole n kept signatures; sent = ms; timers = t; handed = h }) o at
unfolding settled
settles t h kept signatures w = rw (w.frames, w.long)

-- ---- room

-- how long the frame of a NEWEPOCH is
abbrev pub announcement_size : ℕ
announcement_size = 20

pub announced_long : (c : Config) (s : Option ℕ) → length (frames_of c (announced s)) ≤ announcement_size
unfolding frames_of frame_bytes body_bytes trailer_bytes be_bytes
announced_long c None = omega arith
announced_long c (Some x) = le_refl announcement_size

-- a frame of any kind has room, behind a NEWEPOCH as well
fits : (kind m s : ℕ) (o : List ℕ) (at : ℕ) → m ≤ members → s ≤ members → at + outbox_size ≤ announcement_size + length o → Fits kind m s o at
unfolding table
fits kind m s o at hm hs h = omega (arith, length_most members (outbox_size - announcement_size - trailer_length) refl kind m s hm hs)

pub announced_fits : (at long : ℕ) → at + outbox_size ≤ long → at + (body_length 1 0 0 + trailer_length) ≤ long
unfolding body_length
announced_fits at long h = omega arith

pub asking_fits : (c : Config) (l : Leader) (a : Asking) (o : List ℕ) (at : ℕ) → c.n ≤ members → at + outbox_size ≤ announcement_size + length o → AskingFits c l a o at
asking_fits c l asking.Nothing o at g h = tt
asking_fits c l asking.Observations o at g h = fits 2 0 0 o at (omega arith) (omega arith) h
asking_fits c l asking.Reports o at g h =
    fits 4 (length (order c.n l.observed l.values)) 0 o at (le_trans (order_most c.n l.observed l.values) g) (omega arith) h
asking_fits c l asking.Final o at g h =
    fits 6 (length (order c.n l.observed l.values)) (length (lowest_signers c.n c.f l)) o at (le_trans (order_most c.n l.observed l.values) g) (le_trans (lowest_most c.n (c.f + 1) l.reported) g) h

pub reply_fits : (n kind : ℕ) (b : List ℕ) (r : Reply) (o : List ℕ) (at : ℕ) → n ≤ members → body_answer n kind b ≡ Done → Answers r kind → at + outbox_size ≤ announcement_size + length o → ReplyFits r b o at
reply_fits n kind b reply.Nothing o at g e k h = tt
reply_fits n kind b reply.Observe o at g e k h = fits 3 0 0 o at (omega arith) (omega arith) h
reply_fits n kind b reply.Report o at g e k h =
    fits 5 _ 0 o at (le_trans (checked_report_req n b (rw k at e)).list.count.most g) (omega arith) h
reply_fits n kind b reply.Echo o at g e k h = echo (attested k)
  where
    attested : Answers reply.Echo kind → CheckedFinal n b
    attested (inl k) = checked_attested n kind b (omega arith) (omega arith) e
    attested (inr k) = checked_attested n kind b (omega arith) (omega arith) e

    echo : CheckedFinal n b → ReplyFits reply.Echo b o at
    echo f = fits 7 _ _ o at (le_trans f.list.count.most g) (le_trans f.signers.most g) h

-- ---- a move

-- how long the frame of an OBSERVE-REQ is
abbrev pub request_size : ℕ
request_size = 21

abbrev Short : Config → ℕ → List ℕ → Led → Type 0
Short c epoch signatures l = length (frames_of c (asking_for c epoch l.leader signatures l.asking)) ≤ request_size

-- a fresh instance asks for observations, or for nothing
pub begun_long : (c : Config) (epoch : ℕ) (signatures : List ℕ) → Short c epoch signatures (begun c epoch)
unfolding frames_of frame_bytes body_bytes head_bytes trailer_bytes be_bytes
begun_long c epoch signatures =
    let P = Short c epoch signatures in
    begun_cases P c epoch (round_cases P c no_round (le_refl request_size) (le_refl request_size)) (omega arith)

-- what a move comes to that wrote what the pacemaker sends, and then what the leader asks for
module _
    (w : Whole)
    (p : Paced)
    (o : List ℕ)
    (at : ℕ)
    {mid exit kept signatures : List ℕ}
    {q r : ℕ}
    {l : Led}
    (begins : l ≡ begun w.node.config p.pace.epoch)
    (clear : kept ≡ cleared w.kept)
    (blank : signatures ≡ no_signatures w.signatures)
    (first : WroteAll w.node.config (announced p.sent) o at mid q)
    (second : WroteAll w.node.config (asking_for w.node.config p.pace.epoch l.leader signatures l.asking) mid (at + q) exit r)
  where
    pub moving_settles : out (record { answer = Done; node = record { config = w.node.config; pace = p.pace; follower = in_round 1 0; leader = l.leader }; written = q + r; timers = moved_timers p l; handed = nothing_handed w.node }) exit kept signatures ≡ settled (moving w p) o at
    unfolding moving
    moving_settles = rw (← begins, ← clear, ← blank) (settles _ _ _ _ (wrote_then first second))
