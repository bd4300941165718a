-- Document 01, "Pacemaker": the states a node begins in, and which states are in range.
use Rattle.std.specs.Prelude.{Bool, ◌&&◌, leb, eqb, replicate}
use Rattle.config.specs.Limits.{members}
use Rattle.config.specs.declared.Saved.{Saved}
use Rattle.pacemaker.specs.declared.Pace.{Pace}

-- "A restored one differs in its saved epoch, its leader and highest sent": nothing is heard, nothing started, no timer armed
abbrev pub restored_pace : Saved → Pace
restored_pace s =
    record { epoch = s.epoch; highest = s.highest; heard = replicate members 0; started = 0; progress = 0; resend = 0 }

-- "A fresh node has epoch, highest sent and all heard 0, and no leader."
abbrev pub fresh_pace : Pace
fresh_pace = restored_pace (record { epoch = 0; highest = 0 })

-- STATE: "a field out of its range .. highest sent below current epoch"; every 32-bit number is in an epoch's range
unfoldable pub good_pace : Pace → Bool
good_pace p = leb p.epoch p.highest && leb p.started 1 && leb p.progress 1 && leb p.resend 1

-- whether the node has started, and whether each timer is armed
abbrev pub is_started : Pace → Bool
is_started p = eqb p.started 1

abbrev pub progress_armed : Pace → Bool
progress_armed p = eqb p.progress 1

abbrev pub resend_armed : Pace → Bool
resend_armed p = eqb p.resend 1
