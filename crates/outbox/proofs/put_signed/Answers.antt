-- An entry is what `put_observation` lays and, behind it, what `put_signature` lays.
use Rattle.std.proofs.Common.{◌≡◌, ◌+◌, arith, get_or}
use Rattle.std.proofs.lemmas.List.{length-map}
use Rattle.std.proofs.Math.ListN.{get_or-map}
use Rattle.wire.specs.Numbers.{be_bytes}
use Rattle.frame.specs.Table.{table, shape_of}
use Rattle.frame.specs.Encode.{observation_bytes, signed_bytes}
use Rattle.outbox.specs.Written.{observed, signature_of}
use Rattle.outbox.proofs.Runs.{laid_two, run_start, run_next}
use Rattle.outbox.proofs.Frames.{signed, signed_even}
use Rattle.outbox.proofs.put_signed.Goals as goal

pub loop-j-init : goal.loop-j-init
loop-j-init c = run_start (length-map c.args.order.now (signed c.args.tables.values.now c.args.tables.signatures.now))

pub loop-j-preserved : goal.loop-j-preserved
unfolding signed_bytes observation_bytes be_bytes shape_of table
loop-j-preserved c =
    let a = c.args in
    let l = c.loop-j in
    let order = a.order.now in
    let j = get_or order l.j-index 0 in
    let place : l.p + c.stride.result ≡ l.p + 9 = omega arith in
    run_next l.invariant (signed_even a.tables.n order a.tables.signatures.now c.requires.1 a.tables.has_signatures a.tables.values.now) (omega arith)
    (get_or-map (signed a.tables.values.now a.tables.signatures.now) order l.j-index 0)
    (laid_two l.out c.put_observation.new.out c.put_signature.new.out l.p (observation_bytes (observed a.tables.values.now j)) (l.p + c.stride.result)
    (signature_of a.tables.signatures.now j) c.put_observation.ensures c.put_signature.ensures place)
    (omega arith)
