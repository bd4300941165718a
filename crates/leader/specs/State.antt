-- Document 01, "A round", Leader: what a leader holds of the round that it leads.
use Rattle.std.specs.Prelude.{Bool, ◌&&◌, ℕ, leb, pos, replicate}
use Rattle.config.specs.Limits.{members}
use Rattle.quorum.specs.Marks.{flags}
use Rattle.leader.specs.declared.Leader.{Leader}

-- the phases of a round, in their order: no round yet, collecting observations, in grace, collecting reports, finished
abbrev pub idle : ℕ
idle = 0

abbrev pub collecting : ℕ
collecting = 1

abbrev pub in_grace : ℕ
in_grace = 2

abbrev pub reporting : ℕ
reporting = 3

abbrev pub finished : ℕ
finished = 4

-- STATE: "a field out of its range"; every value and every 8-bit round is in range
unfoldable pub good_leader : Leader → Bool
good_leader s =
    leb s.phase finished && leb s.t_round 1 && leb s.t_grace 1 && flags s.observed && flags s.reported

-- a round in which nobody has observed or reported
abbrev pub empty_round : ℕ → ℕ → ℕ → Leader
empty_round phase round t_round =
    record { values = replicate members (pos 0); observed = replicate members 0; reported = replicate members 0; phase = phase; round = round; t_round = t_round; t_grace = 0 }

-- a fresh instance, before its leader's first round: tables empty, timers stopped
abbrev pub no_round : Leader
no_round = empty_round idle 0 0
