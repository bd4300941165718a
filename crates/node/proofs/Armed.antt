-- The flags of a state are its timers: after each rule a timer is armed exactly as the call says, and one that the rule leaves alone is as the rule found it.
use mathlib.Core.Path.{◌≡◌, refl}
use Prim.Native.Nat.{ℕ}
use lib.IntN.{ℤ}
use Rattle.config.specs.declared.Config.{Config}
use Rattle.quorum.specs.Counts.{reached}
use Rattle.quorum.proofs.Cases.{either}
use Rattle.pacemaker.specs.declared.Pace.{Pace}
use Rattle.pacemaker.specs.declared.Paced.{Paced}
use Rattle.pacemaker.specs.Rules as pacemaker
use Rattle.follower.specs.declared.Raised.{Raised}
use Rattle.follower.specs.declared.Raised.TheVariants as raised
use Rattle.follower.specs.Rules.{follow_of}
use Rattle.leader.specs.declared.Leader.{Leader}
use Rattle.leader.specs.declared.Led.{Led}
use Rattle.leader.specs.State.{no_round}
use Rattle.leader.specs.Rules.{next_round, observing, closing, reporting_from}
use Rattle.leader.proofs.Cases.{round_cases, observing_cases, reporting_cases}
use Rattle.node.specs.Event.{Whole, Event, Effect}
use Rattle.node.specs.Effects.{pacing, begun, moving, raising, following, leading}
use Rattle.node.specs.Claims.{armed, Armed, FlagsAreTheTimers}
use Rattle.node.proofs.Ruled.{heard_from, Ruled, by_start, by_resend, by_progress, by_round, by_grace, by_hearing, by_moving, by_following, by_observe, by_report, step_ruled}
use Rattle.node.proofs.Cases.{begun_cases}

-- what a part's rule says of its timers, and the flags that it leaves of those it found
record PaceArmed (resend progress : ℕ) (p : Paced) : Type 0 where
  resend_flag : p.pace.resend ≡ armed p.resend resend
  progress_flag : p.pace.progress ≡ armed p.progress progress

record LeaderArmed (round grace : ℕ) (l : Led) : Type 0 where
  round_flag : l.leader.t_round ≡ armed l.t_round round
  grace_flag : l.leader.t_grace ≡ armed l.t_grace grace

-- ---- the pacemaker

-- NEWEPOCH: amplifying says of T_resend, and the move after it of T_progress
moved_armed : (n f : ℕ) (a : Paced) (resend progress : ℕ) → a.pace.resend ≡ armed a.resend resend → a.pace.progress ≡ progress → PaceArmed resend progress (pacemaker.both a (pacemaker.moving n f a.pace))
unfolding pacemaker.moving
moved_armed n f a resend progress h g =
    let heard = pacemaker.heard_by n a.pace in
    either (λ m. PaceArmed resend progress (pacemaker.both a m)) (pacemaker.moves f a.pace.epoch heard)
    (pacemaker.entering a.pace (pacemaker.destination f heard)) (pacemaker.stays a.pace)
    (λ e. record { resend_flag = h; progress_flag = refl }) (λ e. record { resend_flag = h; progress_flag = g })

heard_armed : (n f : ℕ) (p : Pace) (j x : ℕ) → PaceArmed p.resend p.progress (pacemaker.new_epoch_of n f p j x)
unfolding pacemaker.new_epoch_of pacemaker.amplifying pacemaker.hearing
heard_armed n f p j x =
    let q = pacemaker.hearing p j x in
    let heard = pacemaker.heard_by n q in
    let sends = pacemaker.sending q (reached f heard) in
    either (λ a. PaceArmed p.resend p.progress (pacemaker.both a (pacemaker.moving n f a.pace))) (pacemaker.ahead f q.highest heard)
    sends (pacemaker.stays q)
    (λ e. moved_armed n f sends p.resend p.progress refl refl) (λ e. moved_armed n f (pacemaker.stays q) p.resend p.progress refl refl)

raised_armed : (r : Raised) (p : Pace) → PaceArmed p.resend p.progress (raising r p)
unfolding pacemaker.progress_of pacemaker.change_leader_of
raised_armed raised.Nothing p = record { resend_flag = refl; progress_flag = refl }
raised_armed raised.Progress p = record { resend_flag = refl; progress_flag = refl }
raised_armed raised.ChangeLeader p = record { resend_flag = refl; progress_flag = refl }

-- ---- the leader

next_armed : (c : Config) (s : Leader) (round grace : ℕ) → LeaderArmed round grace (next_round c s)
next_armed c s round grace =
    round_cases (LeaderArmed round grace) c s (record { round_flag = refl; grace_flag = refl }) (record { round_flag = refl; grace_flag = refl })

begun_armed : (c : Config) (epoch round grace : ℕ) → LeaderArmed round grace (begun c epoch)
begun_armed c epoch round grace =
    begun_cases (LeaderArmed round grace) c epoch (next_armed c no_round round grace) (record { round_flag = refl; grace_flag = refl })

observing_armed : (c : Config) (s : Leader) (j : ℕ) (v : ℤ) → LeaderArmed s.t_round s.t_grace (observing c s j v)
observing_armed c s j v =
    observing_cases (LeaderArmed s.t_round s.t_grace) c s j v (λ e. record { round_flag = refl; grace_flag = refl }) (λ e. record { round_flag = refl; grace_flag = refl })

reporting_armed : (c : Config) (s : Leader) (j : ℕ) → LeaderArmed s.t_round s.t_grace (reporting_from c s j)
reporting_armed c s j =
    reporting_cases (LeaderArmed s.t_round s.t_grace) c s j (λ e. record { round_flag = refl; grace_flag = refl }) (record { round_flag = refl; grace_flag = refl })

-- ---- all of them

armed_ruled : {w : Whole} {e : Event} {f : Effect} → Ruled w e f → Armed w e f
unfolding pacing moving following leading closing pacemaker.start_of pacemaker.resend_of pacemaker.change_leader_of
armed_ruled (by_start time) = record { resend = refl; progress = refl; round = refl; grace = refl }
armed_ruled (by_resend time h) = record { resend = refl; progress = refl; round = refl; grace = refl }
armed_ruled (by_progress time h) = record { resend = refl; progress = refl; round = refl; grace = refl }
armed_ruled {w} (by_round time h g) =
    let k = next_armed w.node.config w.node.leader 0 w.node.leader.t_grace in
    record { resend = refl; progress = refl; round = k.round_flag; grace = k.grace_flag }
armed_ruled (by_grace time h) = record { resend = refl; progress = refl; round = refl; grace = refl }
armed_ruled {w} (by_hearing d x s h) =
    let k = heard_armed w.node.config.n w.node.config.f w.node.pace d.link x in
    record { resend = k.resend_flag; progress = k.progress_flag; round = refl; grace = refl }
armed_ruled {w} (by_moving d x s h) =
    let n = w.node in
    let k = heard_armed n.config.n n.config.f n.pace d.link x in
    let l = begun_armed n.config (heard_from n d.link x).pace.epoch n.leader.t_round n.leader.t_grace in
    record { resend = k.resend_flag; progress = k.progress_flag; round = l.round_flag; grace = l.grace_flag }
armed_ruled {w} (by_following d m s h g) =
    let n = w.node in
    let k = raised_armed (follow_of n.config n.follower d.link d.time d.commit m).raised n.pace in
    record { resend = k.resend_flag; progress = k.progress_flag; round = refl; grace = refl }
armed_ruled {w} (by_observe d e r v g s h) =
    let k = observing_armed w.node.config w.node.leader d.link v in
    record { resend = refl; progress = refl; round = k.round_flag; grace = k.grace_flag }
armed_ruled {w} (by_report d e r xs g s h q) =
    let k = reporting_armed w.node.config w.node.leader d.link in
    record { resend = refl; progress = refl; round = k.round_flag; grace = k.grace_flag }

pub flags_are_the_timers : FlagsAreTheTimers
flags_are_the_timers w e f h = armed_ruled (step_ruled w e f h).1
