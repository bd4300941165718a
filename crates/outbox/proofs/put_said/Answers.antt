-- What is copied of an entry are the bytes of the observation that it holds.
use Rattle.std.proofs.Common.{◌≡◌, ◌+◌, ◌*◌, ◌<◌, refl, ap, ◌∙◌, arith, drop}
use Rattle.wire.specs.Numbers.{Bytes, part}
use Rattle.wire.specs.Overlay.{over}
use Rattle.frame.specs.Message.{no_observation}
use Rattle.frame.specs.Table.{table, shape_of}
use Rattle.frame.specs.Decode.{observation_at, count_in, list_place, observations_in}
use Rattle.frame.proofs.Entries.{length_entries}
use Rattle.outbox.proofs.Runs.{run_start, run_next}
use Rattle.outbox.proofs.Frames.{observed_even, said_copied}
use Rattle.outbox.proofs.put_said.Goals as goal

pub loop-i-init : goal.loop-i-init
loop-i-init c = run_start (length_entries observation_at (shape_of 4).entry (count_in c.args.body.now) (drop list_place c.args.body.now))

pub loop-i-preserved : goal.loop-i-preserved
unfolding shape_of table
loop-i-preserved c =
    let l = c.loop-i in
    let b = c.args.body.now in
    let bytes : Bytes b = λ k. (c.type_inv.body k).fits in
    let known : l.i < count_in b = omega arith in
    let copied : c.copy.new.to ≡ over l.out l.p (part b (list_place + l.i * (shape_of 4).entry) (shape_of 5).entry) =
    rw (c.stride-signed.ensures, c.stride-stride.ensures) at c.copy.ensures in
    run_next l.invariant (observed_even no_observation (observations_in (shape_of 4).entry b)) known refl
    (copied ∙ ap (over l.out l.p) (said_copied b l.i bytes c.requires.1 known))
    (omega arith)
