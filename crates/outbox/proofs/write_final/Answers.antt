-- `outbox::write_final` meets its contract: a body and its trailer, lent one after the other, are the frame (`wrote`).
use Rattle.std.proofs.Common.{◌∷◌, arith, length, length-append}
use Rattle.std.proofs.lemmas.List.{length-map}
use Rattle.wire.specs.Numbers.{be_bytes}
use Rattle.frame.specs.Table.{table, shape_of, body_length}
use Rattle.frame.specs.Encode.{observation_bytes, signer_bytes, flat, head_bytes, counted_bytes, attested_bytes, body_bytes}
use Rattle.outbox.specs.Written.{observed, observations, signers_of}
use Rattle.outbox.proofs.Runs.{length_flat}
use Rattle.outbox.proofs.Frames.{wrote, length_observed, signer, signers_even}
use Rattle.outbox.proofs.write_final.Goals as goal

pub returns : goal.returns
unfolding body_bytes attested_bytes head_bytes be_bytes counted_bytes body_length shape_of table
returns c =
    let a = c.args in
    let order = a.order.now in
    let values = a.values.now in
    let signers = a.signers.now in
    let signatures = a.signatures.now in
    let xs = observations order values in
    let ss = signers_of signers signatures in
    let many = length-map order (observed values) in
    let more = length-map signers (signer signatures) in
    let long = length_observed xs in
    let signed = length_flat signer_bytes (shape_of 6).signer (signer signatures 0) ss (signers_even a.config.n signers signatures c.requires.5 c.requires.6) in
    let whole = length-append (flat observation_bytes xs) (length ss ∷ flat signer_bytes ss) in
    let p = c.put_final-n in
    let t = c.put_trailer.ensures in
    wrote {n = p.result} (omega arith) (omega arith) p.ensures.0 t.0 t.1
