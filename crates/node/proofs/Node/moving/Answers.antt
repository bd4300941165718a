-- `Node::moving` meets its contract: the frames of what the pacemaker sends and of what the leader asks for stand one behind the other.
use Rattle.node.specs.Event.{whole}
use Rattle.node.proofs.Frames.{moving_settles}
use Rattle.node.proofs.Node.moving.Goals as goal

pub returns : goal.returns
returns c =
    let a = c.args in
    rw (c.doing.ensures, c.in_round.ensures, c.moved_timers.ensures, c.nothing_handed.ensures)
    (moving_settles (whole a.self a.kept.now a.signatures.now) a.paced a.outbox.now a.at c.begun-led.ensures.0 c.clear.ensures c.begun-led.ensures.1 c.write_announced-first.ensures c.write_asking-second.ensures)
