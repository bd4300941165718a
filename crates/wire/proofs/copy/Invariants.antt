-- `copy` meets its contract: the first i bytes stand.
use Rattle.std.proofs.Common.{◌≡◌, ◌≤◌}
use Rattle.wire.specs.Numbers.{part}
use Rattle.wire.specs.Overlay.{over}
use Rattle.wire.proofs.copy.Given as goal

abbrev pub invariant-loop-i : goal.invariant-loop-i
invariant-loop-i l = (l.i ≤ l.count) × (l.to ≡ over l.initial.to l.at (part l.from l.start l.i))
