-- An entry is a number that is stored and, behind it, what `put_signature` lays.
use Rattle.std.proofs.Common.{arith, get_or, length-set}
use Rattle.std.proofs.lemmas.List.{length-map}
use Rattle.std.proofs.Math.ListN.{get_or-map}
use Rattle.frame.specs.Table.{table, shape_of}
use Rattle.frame.specs.Encode.{signer_bytes}
use Rattle.outbox.specs.Written.{signature_of}
use Rattle.outbox.proofs.Runs.{laid_behind, member_at, run_start, run_next}
use Rattle.outbox.proofs.Frames.{signer, signers_even}
use Rattle.outbox.proofs.put_signers.Goals as goal

pub loop-j-init : goal.loop-j-init
loop-j-init c = run_start (length-map c.args.signers.now (signer c.args.tables.signatures.now))

pub put_signature-requires : goal.put_signature-requires
unfolding shape_of table
put_signature-requires c =
    let j = member_at c.args.tables.n c.args.signers.now c.loop-j.j-index c.requires.1 (omega arith) in
    (simp length-set (omega arith), j.0, omega arith)

pub loop-j-preserved : goal.loop-j-preserved
unfolding signer_bytes shape_of table
loop-j-preserved c =
    let a = c.args in
    let l = c.loop-j in
    let order = a.signers.now in
    let j = get_or order l.j-index 0 in
    run_next l.invariant (signers_even a.tables.n order a.tables.signatures.now c.requires.1 a.tables.has_signatures) (omega arith)
    (get_or-map (signer a.tables.signatures.now) order l.j-index 0)
    (laid_behind l.out c.put_signature.new.out l.p j (signature_of a.tables.signatures.now j) c.put_signature.ensures)
    (omega arith)
