-- `Sender::good_slots` meets its contract: one slot that fails is enough, and the loop ends when it has tested each.
use Rattle.std.proofs.Common.{◌≡◌, sym, arith}
use Rattle.config.specs.Limits.{slots}
use Rattle.sender.proofs.Writes.{slot_bad}
use Rattle.sender.proofs.Sender.good_slots.Goals as goal

pub returns-then-not-good_slot : goal.returns-then-not-good_slot
returns-then-not-good_slot c =
    sym (slot_bad slots c.loop-slot.slot c.args.self c.args.waiting.now (omega arith) (sym c.if-not-good_slot.ensures))

pub returns : goal.returns
returns c =
    let e : c.loop-slot.slot ≡ slots = omega arith in
    sym (rw e at c.loop-slot.invariant)
