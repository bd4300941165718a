-- `outbox::put_head` meets its contract: the epoch, and a store behind it.
use Rattle.wire.specs.Numbers.{be_bytes}
use Rattle.wire.proofs.Numbers.{length_be_bytes}
use Rattle.wire.proofs.Overlay.{over_next}
use Rattle.frame.specs.Encode.{head_bytes}
use Rattle.outbox.proofs.put_head.Goals as goal

pub returns : goal.returns
unfolding head_bytes
returns c =
    (rw c.write.ensures (over_next c.args.out.now 0 (be_bytes 4 c.args.epoch) 4 c.args.round (length_be_bytes 4 c.args.epoch)), c.body_length.ensures)
