-- `outbox::put_signed` meets its contract: the loop has written a run of the entries. A turn lays an observation and its signature behind those that stand.
use Rattle.std.proofs.Common.{length}
use Rattle.frame.specs.Table.{shape_of}
use Rattle.frame.specs.Encode.{signed_bytes}
use Rattle.outbox.specs.Written.{signed_observations}
use Rattle.outbox.proofs.Runs.{Run}
use Rattle.outbox.proofs.Frames.{signed}
use Rattle.outbox.proofs.put_signed.Given as goal

abbrev pub invariant-loop-j : goal.invariant-loop-j
invariant-loop-j l =
    Run signed_bytes (shape_of 4).entry (signed l.tables.values.now l.tables.signatures.now 0) (signed_observations l.order l.tables.values.now l.tables.signatures.now) (length l.order) l.at l.initial.out l.out l.p l.j-index
