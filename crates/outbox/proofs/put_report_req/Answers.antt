-- `outbox::put_report_req` meets its contract: the head, and a counted list behind it.
use Rattle.std.proofs.Common.{arith, length}
use Rattle.std.proofs.lemmas.List.{length-map}
use Rattle.wire.specs.Numbers.{be_bytes}
use Rattle.frame.specs.Table.{table, shape_of, body_length}
use Rattle.frame.specs.Encode.{signed_bytes, head_bytes, counted_bytes, body_bytes}
use Rattle.outbox.specs.Written.{signed_observations}
use Rattle.outbox.proofs.Runs.{laid_two, laid_counted}
use Rattle.outbox.proofs.Frames.{signed}
use Rattle.outbox.proofs.put_report_req.Goals as goal

pub returns : goal.returns
unfolding body_bytes head_bytes be_bytes body_length shape_of table
returns c =
    let a = c.args in
    let h = c.put_head-p in
    let g = c.put_signed in
    let order = a.order.now in
    let xs = signed_observations order a.tables.values.now a.tables.signatures.now in (
      laid_two a.out.now h.new.out g.new.out 0 (head_bytes a.epoch a.round) h.result (counted_bytes signed_bytes xs)
          h.ensures.0
          (laid_counted signed_bytes xs h.new.out g.new.out h.result (length order) (length-map order (signed a.tables.values.now a.tables.signatures.now)) g.ensures.0)
          h.ensures.1,
      omega arith,
    )
