-- `Sender::earliest` meets its contract: the loop has the earliest of the first slots, and `better` is its turn.
use Rattle.sender.specs.Waiting.{earliest_below, IsSlot}
use Rattle.sender.proofs.Sender.earliest.Given as goal

abbrev pub invariant-loop-slot : goal.invariant-loop-slot
invariant-loop-slot l = IsSlot l.best (earliest_below l.slot l.fn.self l.waiting)
