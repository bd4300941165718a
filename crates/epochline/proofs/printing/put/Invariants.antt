-- `put` meets its contract: the digits from place i on stand, and `rest` is the number without them; `put_next` and `put_rest` are the turn.
use Rattle.std.proofs.Common.{◌≡◌, ◌+◌, ◌-◌, ◌/◌, ◌^◌, ◌≤◌, length, drop}
use Rattle.wire.specs.Overlay.{over}
use Rattle.epochline.specs.Decimal.{decimal}
use Rattle.epochline.proofs.printing.put.Given as goal

abbrev pub invariant-loop-i : goal.invariant-loop-i
invariant-loop-i l =
    (l.at ≤ l.i) × (l.i ≤ l.end) × (length l.out ≡ length l.initial.out) × (l.rest ≡ l.x / 10 ^ (l.at + length (decimal l.x) - l.i)) × (l.out ≡ over l.initial.out l.i (drop (l.i - l.at) (decimal l.x)))
