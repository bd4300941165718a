-- The member at i is told by the list itself, and so is the entry that `put_observation` lays.
use Rattle.std.proofs.Common.{arith}
use Rattle.std.proofs.lemmas.List.{length-map}
use Rattle.std.proofs.Math.ListN.{get_or-map}
use Rattle.frame.specs.Table.{table, shape_of}
use Rattle.outbox.specs.Written.{observed, observations}
use Rattle.outbox.proofs.Runs.{run_start, run_next}
use Rattle.outbox.proofs.Frames.{observed_even}
use Rattle.outbox.proofs.put_observations.Goals as goal

pub loop-j-init : goal.loop-j-init
loop-j-init c = run_start (length-map c.args.order.now (observed c.args.tables.values.now))

pub loop-j-preserved : goal.loop-j-preserved
unfolding shape_of table
loop-j-preserved c =
    let a = c.args in
    run_next c.loop-j.invariant (observed_even _ (observations a.order.now a.tables.values.now)) (omega arith)
    (get_or-map (observed a.tables.values.now) a.order.now c.loop-j.j-index 0) c.put_observation.ensures (omega arith)
