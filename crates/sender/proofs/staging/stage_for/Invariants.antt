-- `stage_for` meets its contract: the first k stages do not hold the place, and `rest` is what they leave of it.
use Rattle.std.proofs.Common.{◌≡◌, ◌+◌, take, drop}
use Rattle.sender.specs.Stage.{stage_of}
use Rattle.sender.proofs.staging.stage_for.Given as goal

abbrev pub invariant-loop-k : goal.invariant-loop-k
invariant-loop-k l =
    l.k + stage_of (drop l.k (take l.stages l.schedule)) l.rest ≡ stage_of (take l.stages l.schedule) l.place
