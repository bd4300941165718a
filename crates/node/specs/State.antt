-- Document 01: what a node is, which states are in range, and the states it begins in.
use Rattle.std.specs.Prelude.{Bool, not, ◌&&◌, ◌||◌, List, ℕ, ◌+◌, eqb, leb, ltb, length}
use Rattle.config.specs.Limits.{outbox_size, kept_size, signatures_size}
use Rattle.config.specs.Bounds.{good_config}
use Rattle.config.specs.Leader.{leader_of}
use Rattle.config.specs.declared.Config.{Config}
use Rattle.config.specs.declared.Saved.{Saved}
use Rattle.frame.specs.Decode.{attested_in}
use Rattle.frame.specs.Range.{good_attested}
use Rattle.pacemaker.specs.declared.Pace.{Pace}
use Rattle.pacemaker.specs.State.{restored_pace, good_pace, is_started}
use Rattle.follower.specs.declared.Follower.{Follower}
use Rattle.follower.specs.State.{is_set, good_follower, in_round}
use Rattle.leader.specs.declared.Leader.{Leader}
use Rattle.leader.specs.State.{good_leader, no_round}
use Rattle.node.specs.declared.Node.{Node}

-- ---- parts of a node put back

abbrev pub with_pace : Node → Pace → Node
with_pace n p = record { config = n.config; pace = p; follower = n.follower; leader = n.leader }

abbrev pub with_leader : Node → Leader → Node
with_leader n l = record { config = n.config; pace = n.pace; follower = n.follower; leader = l }

-- a node in an epoch, with what it holds of the round as a follower
abbrev pub with_round : Node → Pace → Follower → Node
with_round n p s = record { config = n.config; pace = p; follower = s; leader = n.leader }

-- ---- the states a node begins in

-- "A restored one differs in its saved epoch, its leader and highest sent, and doesn't rejoin a report instance until it moves to a higher epoch."
abbrev pub restored_node : Config → Saved → Node
restored_node c s = record { config = c; pace = restored_pace s; follower = in_round 0 0; leader = no_round }

-- "A fresh node has epoch, highest sent and all heard 0, and no leader."
abbrev pub nothing_saved : Saved
nothing_saved = record { epoch = 0; highest = 0 }

-- ---- who leads

abbrev pub epoch_of : Node → ℕ
epoch_of n = n.pace.epoch

abbrev pub leader_now : Node → ℕ
leader_now n = leader_of n.config.n (epoch_of n)

-- a node leads while it has started, its instance is not halted, and its own number is the leader's
abbrev pub leads : Node → Bool
leads n = is_started n.pace && is_set n.follower.live && eqb n.config.own (leader_now n)

-- ---- STATE and ROOM

-- STATE: "a field out of its range, the configuration's included, highest sent below current epoch"
unfoldable pub good_node : Node → Bool
good_node n = good_config n.config && good_pace n.pace && good_follower n.follower && good_leader n.leader

-- "or a body kept .. (in a buffer of full size) that fails RANGE"
unfoldable pub good_kept : Node → List ℕ → Bool
good_kept n kept = not (is_set n.follower.kept) || ltb (length kept) kept_size || good_attested n.config.n (attested_in kept)

unfoldable pub good_state : Node → List ℕ → Bool
good_state n kept = good_node n && good_kept n kept

-- ROOM: "a buffer below its size, or a position past its end"; "outbox at least 2,400 bytes from the given position; kept report 2,304; leader's signatures 3,968"
unfoldable pub roomy : ℕ → ℕ → ℕ → ℕ → Bool
roomy outbox at kept signatures = leb (at + outbox_size) outbox && leb kept_size kept && leb signatures_size signatures
