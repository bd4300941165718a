-- `count_above` meets its contract: n is the count of the entries passed, and no more than they are.
use Rattle.std.proofs.Common.{◌≡◌, ◌≤◌, take}
use Rattle.quorum.specs.Counts.{count_above}
use Rattle.quorum.proofs.count_above.Given as goal

abbrev pub invariant-loop-e : goal.invariant-loop-e
invariant-loop-e l = (l.n ≤ l.e-index) × (l.n ≡ count_above l.x (take l.e-index l.entries))
