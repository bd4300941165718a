-- `outbox::write_report_req` meets its contract: a body and its trailer, lent one after the other, are the frame (`wrote`).
use Rattle.std.proofs.Common.{arith}
use Rattle.std.proofs.lemmas.List.{length-map}
use Rattle.wire.specs.Numbers.{be_bytes}
use Rattle.frame.specs.Table.{table, shape_of, body_length}
use Rattle.frame.specs.Encode.{signed_bytes, head_bytes, counted_bytes, body_bytes}
use Rattle.outbox.specs.Written.{signed_observations}
use Rattle.outbox.proofs.Runs.{length_flat}
use Rattle.outbox.proofs.Frames.{wrote, signed, signed_even}
use Rattle.outbox.proofs.write_report_req.Goals as goal

pub returns : goal.returns
unfolding body_bytes head_bytes be_bytes counted_bytes body_length shape_of table
returns c =
    let a = c.args in
    let order = a.order.now in
    let values = a.values.now in
    let signatures = a.signatures.now in
    let xs = signed_observations order values signatures in
    let many = length-map order (signed values signatures) in
    let long = length_flat signed_bytes (shape_of 4).entry (signed values signatures 0) xs (signed_even a.config.n order signatures c.requires.2 c.requires.4 values) in
    let p = c.put_report_req-n in
    let t = c.put_trailer.ensures in
    wrote {n = p.result} (omega arith) (omega arith) p.ensures.0 t.0 t.1
