-- A turn of `copy` is `copy_step`, of the bytes from `start` on.
use Rattle.std.proofs.Common.{◌+◌, ◌<◌, length, get_or, drop, sym, arith, length-drop, get_or-drop}
use Rattle.wire.proofs.Overlay.{copy_step}
use Rattle.wire.proofs.copy.Goals as goal

pub loop-i-preserved : goal.loop-i-preserved
loop-i-preserved c =
    let l = c.loop-i in
    let from = c.args.from.now in
    let h : l.i < length (drop c.args.start from) = simp length-drop (omega arith) in
    (omega arith, rw l.invariant.1 (copy_step c.args.to.now _ c.args.at l.i (get_or from (c.args.start + l.i) 0) 0 h (sym (get_or-drop c.args.start from l.i 0))))
