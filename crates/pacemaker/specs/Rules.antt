-- Document 01, "Pacemaker" (000, Algorithm 1): what each event does. A rule takes the state it finds and gives the new one, with
-- what is sent, which timers start or stop, and whether the node moves to a new epoch.
use Rattle.std.specs.Prelude.{Bool, true, false, not, cond, ◌&&◌, None, Some, List, ℕ, ◌+◌, ◌-◌, ◌*◌, max, ltb, get_or, set, take}
use Rattle.config.specs.Limits.{last_epoch}
use Rattle.config.specs.declared.Timer.TheVariants.{Leave, Start, Stop}
use Rattle.quorum.specs.Counts.{count_above, reached}
use Rattle.pacemaker.specs.declared.Pace.{Pace}
use Rattle.pacemaker.specs.declared.Paced.{Paced}
use Rattle.pacemaker.specs.State.{is_started, progress_armed, resend_armed}

-- nothing happens
abbrev pub stays : Pace → Paced
stays p = record { pace = p; sent = None; progress = Leave; resend = Leave; moved = false }

-- ---- sending

-- "highest sent becomes x, restart T_resend"
abbrev pub raised : Pace → ℕ → Pace
raised p x =
    record { epoch = p.epoch; highest = x; heard = p.heard; started = p.started; progress = p.progress; resend = 1 }

-- T_progress armed, or not
abbrev pub with_progress : Pace → ℕ → Pace
with_progress p armed =
    record { epoch = p.epoch; highest = p.highest; heard = p.heard; started = p.started; progress = armed; resend = p.resend }

-- "Sending x: write NEWEPOCH x, highest sent becomes x, restart T_resend."
abbrev pub sending : Pace → ℕ → Paced
sending p x = record { pace = raised p x; sent = Some x; progress = Leave; resend = Start; moved = false }

-- ---- Start, T_resend, T_progress, changeleader, progress

abbrev pub now_started : Pace → Pace
now_started p =
    record { epoch = p.epoch; highest = p.highest; heard = p.heard; started = 1; progress = p.progress; resend = p.resend }

-- "Start: send max(1, highest sent); start T_progress."
unfoldable pub start_of : Pace → Paced
start_of p =
    record { pace = with_progress (now_started (raised p (max 1 p.highest))) 1; sent = Some (max 1 p.highest); progress = Start; resend = Start; moved = false }

-- "Start twice" is ignored
abbrev pub may_start : Pace → Bool
may_start p = not (is_started p)

-- "T_resend: send highest sent."
unfoldable pub resend_of : Pace → Paced
resend_of p = sending p p.highest

-- "an unarmed timer" is ignored, and "any event but Start before Start"; so is a resend before anything was sent, since no frame says 0
abbrev pub fires_resend : Pace → Bool
fires_resend p = is_started p && resend_armed p && ltb 0 p.highest

-- "T_progress or changeleader: stop T_progress, send max(epoch+1, highest sent)."
unfoldable pub change_leader_of : Pace → Paced
change_leader_of p =
    record { pace = with_progress (raised p (max (p.epoch + 1) p.highest)) 0; sent = Some (max (p.epoch + 1) p.highest); progress = Stop; resend = Start; moved = false }

-- T_progress, when it fires, asks the same as any timer; changeleader is raised and asks nothing
abbrev pub fires_progress : Pace → Bool
fires_progress p = is_started p && progress_armed p

-- "END: a move past the last epoch": there is no epoch + 1 to send
abbrev pub past_end : Pace → Bool
past_end p = ltb last_epoch (p.epoch + 1)

-- "Progress: restart T_progress."
unfoldable pub progress_of : Pace → Paced
progress_of p = record { pace = with_progress p 1; sent = None; progress = Start; resend = Leave; moved = false }

-- ---- NEWEPOCH x from j

-- what the n members have sent; places past n are never counted
abbrev pub heard_by : ℕ → Pace → List ℕ
heard_by n p = take n p.heard

-- "heard[j] becomes the larger."
abbrev pub hear : List ℕ → ℕ → ℕ → List ℕ
hear heard j x = set heard (j - 1) (max (get_or heard (j - 1) 0) x)

unfoldable pub hearing : Pace → ℕ → ℕ → Pace
hearing p j x =
    record { epoch = p.epoch; highest = p.highest; heard = hear p.heard j x; started = p.started; progress = p.progress; resend = p.resend }

-- "if more than k entries exceed x"
abbrev pub ahead : ℕ → ℕ → List ℕ → Bool
ahead k x heard = ltb k (count_above x heard)

-- "Then, if more than f entries exceed highest sent, send the largest number that more than f reach."
unfoldable pub amplifying : ℕ → ℕ → Pace → Paced
amplifying n f p = cond (ahead f p.highest (heard_by n p)) (sending p (reached f (heard_by n p))) (stays p)

-- the node in epoch e: "highest sent is raised to it if lower .. restart T_progress"
abbrev pub in_epoch : Pace → ℕ → Pace
in_epoch p e =
    record { epoch = e; highest = max p.highest e; heard = p.heard; started = p.started; progress = 1; resend = p.resend }

abbrev pub entering : Pace → ℕ → Paced
entering p e = record { pace = in_epoch p e; sent = None; progress = Start; resend = Leave; moved = true }

-- whether and where to a node moves goes by its epoch and what it has heard alone
abbrev pub moves : ℕ → ℕ → List ℕ → Bool
moves f epoch heard = ahead (2 * f) epoch heard

abbrev pub destination : ℕ → List ℕ → ℕ
destination f heard = reached (2 * f) heard

-- "Then, if more than 2f entries exceed the epoch, move to the largest number that more than 2f reach"
unfoldable pub moving : ℕ → ℕ → Pace → Paced
moving n f p = cond (moves f p.epoch (heard_by n p)) (entering p (destination f (heard_by n p))) (stays p)

-- what amplifying says is sent, and what it says of T_resend, with what the move after it says of T_progress
abbrev pub both : Paced → Paced → Paced
both amplified moved =
    record { pace = moved.pace; sent = amplified.sent; progress = moved.progress; resend = amplified.resend; moved = moved.moved }

-- "NEWEPOCH x from j": hear, then amplify, then move
unfoldable pub new_epoch_of : ℕ → ℕ → Pace → ℕ → ℕ → Paced
new_epoch_of n f p j x =
    let amplified = amplifying n f (hearing p j x) in
    both amplified (moving n f amplified.pace)
