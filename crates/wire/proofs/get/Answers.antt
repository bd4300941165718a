-- A turn of `get` is `get_step` and `get_below`, of the digits.
use Rattle.std.proofs.Common.{◌<◌, ◌+◌, ◌-◌, drop, arith}
use Rattle.wire.proofs.Numbers.{bytes_take, bytes_drop, get_step, get_below}
use Rattle.wire.proofs.get.Goals as goal

pub loop-b-preserved : goal.loop-b-preserved
loop-b-preserved c =
    let l = c.loop-b in
    let a = c.args in
    let digit = bytes_take (a.at + a.width - a.at) (drop a.at a.s.now) (bytes_drop a.at a.s.now (λ k. omega (arith, c.type_inv.s k))) l.b-index in
    let byte : c.from.result < 256 = omega (arith, c.from.ensures, digit) in
    (get_step _ l.b-index l.x c.from.result c.loop-b-test.true l.invariant.0 c.from.ensures, get_below l.b-index l.x c.from.result l.invariant.1 byte)
