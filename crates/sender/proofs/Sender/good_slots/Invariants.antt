-- `Sender::good_slots` meets its contract: the slots passed are good.
use Rattle.std.proofs.Common.{◌≡◌, true}
use Rattle.sender.specs.State.{good_slots}
use Rattle.sender.proofs.Sender.good_slots.Given as goal

abbrev pub invariant-loop-slot : goal.invariant-loop-slot
invariant-loop-slot l = good_slots l.slot l.fn.self l.waiting ≡ true
