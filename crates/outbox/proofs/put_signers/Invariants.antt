-- `outbox::put_signers` meets its contract: the loop has written a run of the entries. A turn stores a number and lays the signature behind it.
use Rattle.std.proofs.Common.{length}
use Rattle.frame.specs.Table.{shape_of}
use Rattle.frame.specs.Encode.{signer_bytes}
use Rattle.outbox.specs.Written.{signers_of}
use Rattle.outbox.proofs.Runs.{Run}
use Rattle.outbox.proofs.Frames.{signer}
use Rattle.outbox.proofs.put_signers.Given as goal

abbrev pub invariant-loop-j : goal.invariant-loop-j
invariant-loop-j l =
    Run signer_bytes (shape_of 6).signer (signer l.tables.signatures.now 0) (signers_of l.signers l.tables.signatures.now) (length l.signers) l.at l.initial.out l.out l.p l.j-index
