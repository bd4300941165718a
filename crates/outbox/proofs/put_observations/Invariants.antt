-- `outbox::put_observations` meets its contract: the loop has written a run of the entries. A turn lays one more behind them (`run_next`).
use Rattle.std.proofs.Common.{length}
use Rattle.frame.specs.Table.{shape_of}
use Rattle.frame.specs.Encode.{observation_bytes}
use Rattle.outbox.specs.Written.{observed, observations}
use Rattle.outbox.proofs.Runs.{Run}
use Rattle.outbox.proofs.put_observations.Given as goal

abbrev pub invariant-loop-j : goal.invariant-loop-j
invariant-loop-j l =
    Run observation_bytes (shape_of 6).entry (observed l.tables.values.now 0) (observations l.order l.tables.values.now) (length l.order) l.at l.initial.out l.out l.p l.j-index
