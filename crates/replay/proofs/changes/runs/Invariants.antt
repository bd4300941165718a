-- `changes::runs` is safe and ends: a run ends behind its first byte, and the next one begins no earlier.
use Rattle.std.proofs.Common.{◌-◌, ◌<◌, length}
use Rattle.replay.proofs.changes.runs.Given as goal

abbrev pub invariant-loop-next_start : goal.invariant-loop-next_start
invariant-loop-next_start g l = l.start < length l.after

abbrev pub decreases-loop-next_start : goal.decreases-loop-next_start
decreases-loop-next_start g l = length l.after - l.start
