-- `Node::leading` meets its contract: what the leader's rule came to is put back, and the frame of what it asks for is written.
use Rattle.node.specs.Effects.{leading}
use Rattle.node.proofs.Frames.{settles}
use Rattle.node.proofs.Node.leading.Goals as goal

pub returns : goal.returns
unfolding leading
returns c kept before =
    rw (c.doing.ensures, c.led_timers.ensures, c.nothing_handed.ensures) (settles _ _ kept c.args.signatures.now c.write_asking-written.ensures)
