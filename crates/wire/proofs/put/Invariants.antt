-- `put` meets its contract: the bytes from k on stand, and v is the number without them.
use Rattle.std.proofs.Common.{◌-◌, ◌≡◌, ◌+◌, ◌≤◌, ◌/◌, ◌^◌}
use Rattle.wire.specs.Numbers.{be_bytes}
use Rattle.wire.specs.Overlay.{over}
use Rattle.wire.proofs.put.Given as goal

abbrev pub invariant-loop-k : goal.invariant-loop-k
invariant-loop-k l =
    (l.k ≤ l.width) × (l.v ≡ l.x / 256 ^ (l.width - l.k)) × (l.s ≡ over l.initial.s (l.at + l.k) (be_bytes (l.width - l.k) l.x))
