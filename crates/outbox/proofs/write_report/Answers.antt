-- `outbox::write_report` meets its contract: a body and its trailer, lent one after the other, are the frame (`wrote`).
use Rattle.std.proofs.Common.{arith, drop, length-append}
use Rattle.wire.specs.Numbers.{be_bytes}
use Rattle.frame.specs.Table.{table, shape_of, body_length}
use Rattle.frame.specs.Encode.{observation_bytes, flat, head_bytes, counted_bytes, body_bytes}
use Rattle.frame.specs.Decode.{observation_at, count_in, list_place, observations_in}
use Rattle.frame.proofs.Entries.{length_entries}
use Rattle.outbox.specs.Written.{own_signature}
use Rattle.outbox.proofs.Frames.{wrote, length_observed}
use Rattle.outbox.proofs.write_report.Goals as goal

pub returns : goal.returns
unfolding body_bytes head_bytes be_bytes counted_bytes body_length shape_of table
returns c =
    let b = c.args.body.now in
    let xs = observations_in (shape_of 4).entry b in
    let many = length_entries observation_at (shape_of 4).entry (count_in b) (drop list_place b) in
    let long = length_observed xs in
    let whole = length-append (flat observation_bytes xs) own_signature in
    let p = c.put_report-n in
    let t = c.put_trailer.ensures in
    wrote {n = p.result} (omega arith) (omega arith) p.ensures.0 t.0 t.1
