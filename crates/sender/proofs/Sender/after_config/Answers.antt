-- `Sender::after_config` meets its contract: a body in range is long enough to be read, and its list whole.
use Rattle.std.proofs.Common.{arith}
use Rattle.frame.proofs.Checked.{checked_final}
use Rattle.sender.proofs.Sender.after_config.Goals as goal

pub old-requires : goal.old-requires
old-requires c = (checked_final c.args.self.config.n c.args.body.now c.requires.1).head.long

pub median-requires : goal.median-requires
median-requires c =
    let h = (checked_final c.args.self.config.n c.args.body.now c.requires.1).list in
    (record { wide = omega (arith, c.stride.ensures); within = rw c.stride.ensures h.within }, omega (arith, h.count))
