-- Document 01, "Pacemaker" and "A round": what each event does that is not refused. The parts' rules are their crates'; here is what they come to together: raised
-- events run in the same call, a move begins a fresh instance, and what a part asks to be sent becomes a message.
use Rattle.std.specs.Prelude.{cond, Option, None, Some, List, [], ◌∷◌, ◌++◌, map, ℕ, eqb, ℤ}
use Rattle.config.specs.Leader.{leader_of}
use Rattle.config.specs.declared.Config.{Config}
use Rattle.config.specs.declared.Timer.TheVariants.{Leave, Stop}
use Rattle.frame.specs.Message.{Signed, Message, new_epoch, observe_req, observe, report_req, report, final, final_echo}
use Rattle.frame.specs.Decode.{body_in, message_in}
use Rattle.outbox.specs.Written.{own_signature}
use Rattle.report.specs.Kept.{cleared}
use Rattle.pacemaker.specs.declared.Pace.{Pace}
use Rattle.pacemaker.specs.declared.Paced.{Paced}
use Rattle.pacemaker.specs.Rules as pacemaker
use Rattle.follower.specs.declared.Handed.{Handed}
use Rattle.follower.specs.declared.Raised.{Raised}
use Rattle.follower.specs.declared.Raised.TheVariants as raised
use Rattle.follower.specs.declared.Reply.{Reply}
use Rattle.follower.specs.declared.Reply.TheVariants as reply
use Rattle.follower.specs.State.{is_set, in_round}
use Rattle.follower.specs.Rules.{follow_of, kept_of}
use Rattle.follower.specs.Handed.{handed_of}
use Rattle.leader.specs.declared.Leader.{Leader}
use Rattle.leader.specs.declared.Led.{Led}
use Rattle.leader.specs.declared.Asking.{Asking}
use Rattle.leader.specs.declared.Asking.TheVariants as asking
use Rattle.leader.specs.State.{no_round}
use Rattle.leader.specs.Listed.{request_of, final_of}
use Rattle.leader.specs.Rules.{led, next_round, no_signatures, closing, lead_of, signatures_of}
use Rattle.node.specs.declared.Node.{Node}
use Rattle.node.specs.declared.Fired.{Fired}
use Rattle.node.specs.declared.Fired.TheVariants as fired
use Rattle.node.specs.declared.Timers.{Timers}
use Rattle.node.specs.State.{with_pace, with_leader, with_round, epoch_of}
use Rattle.node.specs.Event.{Whole, whole, Delivery, Event, starts, delivers, fires, Effect}

-- "with none handed out, an empty part": of the kept buffer if one is held as the call begins, otherwise of the arriving frame
abbrev pub nothing_handed : Node → Handed
nothing_handed n = record { held = is_set n.follower.kept; start = 0; len = 0 }

-- ---- what is sent

abbrev pub announced : Option ℕ → List Message
announced None = []
announced (Some x) = new_epoch x ∷ []

-- the leader's requests and its FINAL, of the round that it leads, with signatures from its buffer
abbrev pub asking_for : Config → ℕ → Leader → List ℕ → Asking → List Message
asking_for c epoch l signatures asking.Nothing = []
asking_for c epoch l signatures asking.Observations = observe_req epoch l.round ∷ []
asking_for c epoch l signatures asking.Reports = request_of c.n epoch l signatures ∷ []
asking_for c epoch l signatures asking.Final = final_of c.n c.f epoch l signatures ∷ []

-- what a message can be answered with: OBSERVE with the host's observation, REPORT with the list of the request, the echo of a report. "The node's own signatures leave as 64
-- zero bytes for the host to fill."
abbrev pub answering : ℤ → Message → List Message
answering v (observe_req e r) = observe e r v own_signature ∷ []
answering v (report_req e r xs) = report e r (map (λ (x : Signed). x.said) xs) own_signature ∷ []
answering v (final a) = final_echo a ∷ []
answering v (final_echo a) = final_echo a ∷ []
answering v (new_epoch e) = []
answering v (observe e r w g) = []
answering v (report e r xs g) = []

abbrev pub replying : ℤ → Message → Reply → List Message
replying v m reply.Nothing = []
replying v m reply.Observe = answering v m
replying v m reply.Report = answering v m
replying v m reply.Echo = answering v m

-- ---- the pacemaker: Start, T_resend, T_progress, NEWEPOCH

abbrev pub paced_timers : Paced → Timers
paced_timers p = record { resend = p.resend; progress = p.progress; round = Leave; grace = Leave }

abbrev pub led_timers : Led → Timers
led_timers l = record { resend = Leave; progress = Leave; round = l.t_round; grace = l.t_grace }

abbrev pub moved_timers : Paced → Led → Timers
moved_timers p l = record { resend = p.resend; progress = p.progress; round = l.t_round; grace = l.t_grace }

-- an event of the pacemaker alone
unfoldable pub pacing : Whole → Paced → Effect
pacing w p =
    record {
      whole_after = whole (with_pace w.node p.pace) w.kept w.signatures;
      sent = announced p.sent;
      timers = paced_timers p;
      handed = nothing_handed w.node;
    }

-- what a fresh instance of an epoch has of its leader: "its timers stopped; .. the leader starts round 1"
unfoldable pub begun : Config → ℕ → Led
begun c epoch = cond (eqb c.own (leader_of c.n epoch)) (next_round c no_round) (led no_round asking.Nothing Stop Stop)

-- "move to ..; a fresh report instance begins with its lent buffers zeroed and its timers stopped; restart T_progress; the leader starts round 1."
unfoldable pub moving : Whole → Paced → Effect
moving w p =
    let c = w.node.config in
    let l = begun c p.pace.epoch in
    let signatures = no_signatures w.signatures in
    record {
      whole_after = whole (record { config = c; pace = p.pace; follower = in_round 1 0; leader = l.leader }) (cleared w.kept) signatures;
      sent = announced p.sent ++ asking_for c p.pace.epoch l.leader signatures l.asking;
      timers = moved_timers p l;
      handed = nothing_handed w.node;
    }

-- "NEWEPOCH x from j"
unfoldable pub hearing : Whole → ℕ → ℕ → Effect
hearing w j x =
    let p = pacemaker.new_epoch_of w.node.config.n w.node.config.f w.node.pace j x in
    cond p.moved (moving w p) (pacing w p)

-- ---- the follower, with what it raises: "Raised ones run in the same call."

abbrev pub raising : Raised → Pace → Paced
raising raised.Nothing p = pacemaker.stays p
raising raised.Progress p = pacemaker.progress_of p
raising raised.ChangeLeader p = pacemaker.change_leader_of p

unfoldable pub following : Whole → Delivery → Message → Effect
following w d m =
    let n = w.node in
    let r = follow_of n.config n.follower d.link d.time d.commit m in
    let p = raising r.raised n.pace in
    record {
      whole_after = whole (with_round n p.pace r.follower) (kept_of n.follower w.kept m) w.signatures;
      sent = announced p.sent ++ replying d.observation m r.reply;
      timers = paced_timers p;
      handed = handed_of r.handed (is_set n.follower.kept) w.kept (body_in d.frame);
    }

-- ---- the leader: OBSERVE, REPORT, T_grace, T_round

unfoldable pub leading : Whole → Led → List ℕ → Effect
leading w l signatures =
    record {
      whole_after = whole (with_leader w.node l.leader) w.kept signatures;
      sent = asking_for w.node.config (epoch_of w.node) l.leader signatures l.asking;
      timers = led_timers l;
      handed = nothing_handed w.node;
    }

abbrev pub led_by : Whole → ℕ → Message → Effect
led_by w j m = leading w (lead_of w.node.config w.node.leader j m) (signatures_of w.signatures j m)

-- ---- all of them

abbrev pub delivering : Whole → Delivery → Message → Effect
delivering w d (new_epoch e) = hearing w d.link e
delivering w d (observe_req e r) = following w d (observe_req e r)
delivering w d (observe e r v g) = led_by w d.link (observe e r v g)
delivering w d (report_req e r xs) = following w d (report_req e r xs)
delivering w d (report e r xs g) = led_by w d.link (report e r xs g)
delivering w d (final a) = following w d (final a)
delivering w d (final_echo a) = following w d (final_echo a)

abbrev pub timing : Whole → Fired → Effect
timing w fired.Resend = pacing w (pacemaker.resend_of w.node.pace)
timing w fired.Progress = pacing w (pacemaker.change_leader_of w.node.pace)
timing w fired.Round = leading w (next_round w.node.config w.node.leader) (no_signatures w.signatures)
timing w fired.Grace = leading w (closing w.node.leader) w.signatures

abbrev pub effect_of : Whole → Event → Effect
effect_of w (starts time) = pacing w (pacemaker.start_of w.node.pace)
effect_of w (delivers d) = delivering w d (message_in d.frame)
effect_of w (fires t time) = timing w t
