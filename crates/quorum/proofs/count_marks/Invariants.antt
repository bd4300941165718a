-- `count_marks` meets its contract: n is the count of the marked places passed, and no more than they are.
use Rattle.std.proofs.Common.{◌≡◌, ◌≤◌, take}
use Rattle.quorum.specs.Marks.{count_marks}
use Rattle.quorum.proofs.count_marks.Given as goal

abbrev pub invariant-loop-m : goal.invariant-loop-m
invariant-loop-m l = (l.n ≤ l.m-index) × (l.n ≡ count_marks (take l.m-index (take l.many l.marks)))
