-- `Node::pacing` meets its contract: what the pacemaker's rule came to is put back, and the frame of what it sends is written.
use Rattle.node.specs.Effects.{pacing}
use Rattle.node.proofs.Frames.{settles}
use Rattle.node.proofs.Node.pacing.Goals as goal

pub returns : goal.returns
unfolding pacing
returns c kept signatures =
    rw (c.doing.ensures, c.paced_timers.ensures, c.nothing_handed.ensures) (settles _ _ kept signatures c.write_announced-written.ensures)
