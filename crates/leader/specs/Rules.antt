-- Document 01, "A round", Leader: what each event does that is taken and with which nothing is wrong.
use Rattle.std.specs.Prelude.{cond, List, ℕ, ◌+◌, ◌-◌, ◌*◌, eqb, ltb, ℤ, set, replicate}
use Rattle.config.specs.Limits.{signature_size, report_signatures, signatures_size}
use Rattle.config.specs.declared.Config.{Config}
use Rattle.config.specs.declared.Timer.{Timer}
use Rattle.config.specs.declared.Timer.TheVariants as timer
use Rattle.wire.specs.Overlay.{over}
use Rattle.quorum.specs.Marks.{mark}
use Rattle.frame.specs.Message.{Message, new_epoch, observe_req, observe, report_req, report, final, final_echo}
use Rattle.leader.specs.declared.Leader.{Leader}
use Rattle.leader.specs.declared.Led.{Led}
use Rattle.leader.specs.declared.Asking.{Asking}
use Rattle.leader.specs.declared.Asking.TheVariants as asking
use Rattle.leader.specs.State.{collecting, in_grace, reporting, finished, empty_round}
use Rattle.leader.specs.Takes.{observed_by, reported_by}

abbrev pub led : Leader → Asking → Timer → Timer → Led
led s asking t_round t_grace = record { leader = s; asking = asking; t_round = t_round; t_grace = t_grace }

-- nothing happens
abbrev pub stays : Leader → Led
stays s = led s asking.Nothing timer.Leave timer.Leave

-- ---- a round

-- "A round (the leader's own count) resets its tables, stops T_grace, sends OBSERVE-REQ, restarts T_round, except that the
-- request for r_max+1 stops T_round."
unfoldable pub next_round : Config → Leader → Led
next_round c s =
    cond (eqb s.round c.r_max)
    (led (empty_round collecting (s.round + 1) 0) asking.Observations timer.Stop timer.Stop)
    (led (empty_round collecting (s.round + 1) 1) asking.Observations timer.Start timer.Stop)

-- and the whole signature buffer is zeroed; what lies behind its size stays
abbrev pub no_signatures : List ℕ → List ℕ
no_signatures signatures = over signatures 0 (replicate signatures_size 0)

-- ---- OBSERVE

abbrev pub with_observation : Leader → ℕ → ℤ → Leader
with_observation s j v =
    record { values = set s.values (j - 1) v; observed = mark s.observed (j - 1); reported = s.reported; phase = s.phase; round = s.round; t_round = s.t_round; t_grace = s.t_grace }

abbrev pub with_grace : Leader → Leader
with_grace s =
    record { values = s.values; observed = s.observed; reported = s.reported; phase = in_grace; round = s.round; t_round = s.t_round; t_grace = 1 }

-- "the entry making more than 2f starts T_grace": the one that makes 2f + 1
unfoldable pub observing : Config → Leader → ℕ → ℤ → Led
observing c s j v =
    let t = with_observation s j v in
    cond (eqb (observed_by c.n t) (2 * c.f + 1)) (led (with_grace t) asking.Nothing timer.Leave timer.Start) (stays t)

-- "member j's OBSERVE signature at 64(j−1)"
abbrev pub observe_signed : List ℕ → ℕ → List ℕ → List ℕ
observe_signed signatures j g = over signatures (signature_size * (j - 1)) g

-- ---- T_grace

-- "sort by value, then by member; send REPORT-REQ."
unfoldable pub closing : Leader → Led
closing s =
    led (record { values = s.values; observed = s.observed; reported = s.reported; phase = reporting; round = s.round; t_round = s.t_round; t_grace = 0 })
    asking.Reports timer.Leave timer.Leave

-- ---- REPORT

abbrev pub with_report : Leader → ℕ → Leader
with_report s j =
    record { values = s.values; observed = s.observed; reported = mark s.reported (j - 1); phase = s.phase; round = s.round; t_round = s.t_round; t_grace = s.t_grace }

abbrev pub now_finished : Leader → Leader
now_finished s =
    record { values = s.values; observed = s.observed; reported = s.reported; phase = finished; round = s.round; t_round = s.t_round; t_grace = s.t_grace }

-- "with more than f, send FINAL .. and take no more reports this round"
unfoldable pub reporting_from : Config → Leader → ℕ → Led
reporting_from c s j =
    let t = with_report s j in
    cond (ltb c.f (reported_by c.n t)) (led (now_finished t) asking.Final timer.Leave timer.Leave) (stays t)

-- "its REPORT signature at 1,984+64(j−1)"
abbrev pub report_signed : List ℕ → ℕ → List ℕ → List ℕ
report_signed signatures j g = over signatures (report_signatures + signature_size * (j - 1)) g

-- ---- messages

abbrev pub lead_of : Config → Leader → ℕ → Message → Led
lead_of c s j (observe e r v g) = observing c s j v
lead_of c s j (report e r xs g) = reporting_from c s j
lead_of c s j (new_epoch e) = stays s
lead_of c s j (observe_req e r) = stays s
lead_of c s j (report_req e r xs) = stays s
lead_of c s j (final a) = stays s
lead_of c s j (final_echo a) = stays s

-- the signature buffer after a message
abbrev pub signatures_of : List ℕ → ℕ → Message → List ℕ
signatures_of signatures j (observe e r v g) = observe_signed signatures j g
signatures_of signatures j (report e r xs g) = report_signed signatures j g
signatures_of signatures j (new_epoch e) = signatures
signatures_of signatures j (observe_req e r) = signatures
signatures_of signatures j (report_req e r xs) = signatures
signatures_of signatures j (final a) = signatures
signatures_of signatures j (final_echo a) = signatures
