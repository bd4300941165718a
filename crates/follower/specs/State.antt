-- Document 01, "A round": what a follower holds of the round it is in.
use Rattle.std.specs.Prelude.{Bool, ◌&&◌, ℕ, eqb, leb, replicate}
use Rattle.config.specs.Limits.{members}
use Rattle.quorum.specs.Marks.{flags}
use Rattle.follower.specs.declared.Follower.{Follower}

-- a flag is 0 or 1
abbrev pub is_set : ℕ → Bool
is_set flag = eqb flag 1

-- STATE: "a field out of its range"; every 8-bit round is in range
unfoldable pub good_follower : Follower → Bool
good_follower s = leb s.live 1 && leb s.signed 1 && leb s.completed 1 && leb s.kept 1 && flags s.marks

-- a follower in this round with nothing marked, signed, completed or kept
abbrev pub in_round : ℕ → ℕ → Follower
in_round live round = record { live = live; round = round; signed = 0; completed = 0; kept = 0; marks = replicate members 0 }
