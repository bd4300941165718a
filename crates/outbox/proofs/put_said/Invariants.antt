-- `outbox::put_said` meets its contract: the loop has written a run of the entries. A turn copies the first bytes of an entry, which are those of its
-- observation (`said_copied`).
use Rattle.frame.specs.Message.{no_observation}
use Rattle.frame.specs.Table.{shape_of}
use Rattle.frame.specs.Encode.{observation_bytes}
use Rattle.frame.specs.Decode.{count_in, list_place, observations_in}
use Rattle.outbox.proofs.Runs.{Run}
use Rattle.outbox.proofs.put_said.Given as goal

abbrev pub invariant-loop-i : goal.invariant-loop-i
invariant-loop-i l =
    Run observation_bytes (shape_of 5).entry no_observation (observations_in (shape_of 4).entry l.body) (count_in l.body) list_place l.initial.out l.out l.p l.i
