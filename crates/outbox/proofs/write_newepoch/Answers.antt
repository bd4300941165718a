-- `outbox::write_newepoch` meets its contract: a body and its trailer, lent one after the other, are the frame (`wrote`).
use Rattle.std.proofs.Common.{arith}
use Rattle.wire.specs.Numbers.{be_bytes}
use Rattle.frame.specs.Table.{table, shape_of, body_length}
use Rattle.frame.specs.Encode.{body_bytes}
use Rattle.outbox.proofs.Frames.{wrote}
use Rattle.outbox.proofs.write_newepoch.Goals as goal

pub returns : goal.returns
unfolding body_bytes be_bytes body_length shape_of table
returns c =
    let p = c.put_newepoch-n.ensures in
    let t = c.put_trailer.ensures in
    wrote p.1 (omega arith) p.0 t.0 t.1
