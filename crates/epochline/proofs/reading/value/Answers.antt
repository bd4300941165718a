-- `value` meets its contract: a turn reads a digit (`digits_at`), and x is the number with one digit more (`value_next`, `value_below`).
use Rattle.std.proofs.Common.{◌-◌, arith, get_or}
use Rattle.epochline.proofs.Decimals.{digits_at, value_next, value_below}
use Rattle.epochline.proofs.reading.value.Goals as goal

pub loop-b-preserved : goal.loop-b-preserved
loop-b-preserved c =
    let l = c.loop-b in
    let s = c.args.s.now in
    let d = digits_at s l.b-index c.loop-b-test.true c.requires.1 in
    rw c.from.ensures (value_next s l.b-index l.x c.loop-b-test.true l.invariant.0, value_below l.b-index l.x (get_or s l.b-index 0 - 48) l.invariant.1 (omega arith))
