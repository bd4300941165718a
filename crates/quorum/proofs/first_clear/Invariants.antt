-- `first_clear` meets its contract: the bits before i are set, and `rest` is the number without them.
use Rattle.std.proofs.Common.{◌≡◌, ◌≤◌, ◌<◌, ◌/◌, ◌^◌, ℕ, false, not}
use Rattle.quorum.specs.First.{bit}
use Rattle.quorum.proofs.first_clear.Given as goal

abbrev pub invariant-loop-i : goal.invariant-loop-i
invariant-loop-i l =
    (l.i ≤ l.many) × (l.rest ≡ l.bits / 2 ^ l.i) × ((j : ℕ) → j < l.i → not (bit l.bits j) ≡ false)
