-- `outbox::put_final` meets its contract: the head, and two counted lists behind it.
use Rattle.std.proofs.Common.{arith, length}
use Rattle.std.proofs.lemmas.List.{length-map}
use Rattle.wire.specs.Numbers.{be_bytes}
use Rattle.frame.specs.Table.{table, shape_of, body_length}
use Rattle.frame.specs.Encode.{observation_bytes, signer_bytes, head_bytes, counted_bytes, attested_bytes, body_bytes}
use Rattle.outbox.specs.Written.{observed, observations, signers_of}
use Rattle.outbox.proofs.Runs.{laid_three, laid_counted}
use Rattle.outbox.proofs.Frames.{length_observed, signer}
use Rattle.outbox.proofs.put_final.Goals as goal

pub returns : goal.returns
unfolding body_bytes attested_bytes head_bytes be_bytes counted_bytes body_length shape_of table
returns c =
    let a = c.args in
    let h = c.put_head-p in
    let o = c.put_observations-q in
    let g = c.put_signers in
    let order = a.order.now in
    let xs = observations order a.tables.values.now in
    let ss = signers_of a.signers.now a.tables.signatures.now in
    let many = length-map order (observed a.tables.values.now) in
    let long = length_observed xs in (
      laid_three a.out.now h.new.out o.new.out g.new.out 0 (head_bytes a.epoch a.round) h.result (counted_bytes observation_bytes xs) o.result (counted_bytes signer_bytes ss)
          h.ensures.0
          (laid_counted observation_bytes xs h.new.out o.new.out h.result (length order) many o.ensures.0)
          (laid_counted signer_bytes ss o.new.out g.new.out o.result (length a.signers.now) (length-map a.signers.now (signer a.tables.signatures.now)) g.ensures.0)
          h.ensures.1 (omega arith),
      omega arith,
    )
