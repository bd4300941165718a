-- `Sender::earliest` meets its contract: `better` is the turn of its loop.
use Rattle.std.proofs.Common.{ℕ, ◌≡◌, sym, add-one, arith}
use Rattle.std.specs.Prelude.{unwrap_or}
use Rattle.std.specs.declared.option.Option.{Option}
use Rattle.std.specs.declared.option.Option.TheVariants.{Some, None}
use Rattle.config.specs.Limits.{slots}
use Rattle.sender.specs.Waiting.{earliest_below, IsSlot}
use Rattle.sender.proofs.Sender.earliest.Goals as goal

number : (found : Option ℕ) (k : ℕ) → IsSlot found k → unwrap_or found slots ≡ k
number None k h = sym h
number (Some slot) k h = h.0

pub loop-slot-preserved : goal.loop-slot-preserved
unfolding earliest_below
loop-slot-preserved c =
    let before = number c.loop-slot.best (earliest_below c.loop-slot.slot c.args.self.now c.args.waiting.now) c.loop-slot.invariant in
    rw add-one (rw before at c.better-best.ensures)

pub returns : goal.returns
returns c =
    let e : c.loop-slot.slot ≡ slots = omega arith in
    rw e at c.loop-slot.invariant
