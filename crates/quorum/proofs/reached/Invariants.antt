-- `reached` meets its contract: the loop keeps the best candidate of the entries passed.
use Rattle.std.proofs.Common.{◌≡◌, take}
use Rattle.quorum.specs.Counts.{best}
use Rattle.quorum.proofs.reached.Given as goal

abbrev pub invariant-loop-x : goal.invariant-loop-x
invariant-loop-x l = l.top ≡ best l.k l.entries (take l.x-index l.entries)
