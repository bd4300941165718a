-- `first_repeat` meets its contract: `met` is the table of the members before i, none of which stood before.
use Rattle.std.proofs.Common.{◌≡◌, ◌+◌, ◌*◌, ◌≤◌, length, drop}
use Rattle.quorum.specs.First.{column}
use Rattle.quorum.proofs.First.{Passed}
use Rattle.quorum.proofs.first_repeat.Given as goal

abbrev pub invariant-loop-i : goal.invariant-loop-i
invariant-loop-i l =
    (l.i ≤ l.many) × (l.place ≡ l.at + l.i * l.stride) × (length l.met ≡ 256) × Passed l.met (column l.stride l.many (drop l.at l.s)) l.i
