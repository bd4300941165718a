-- `epochrun::begin` meets its contract: the program is new, and the buffers beside the one given are made of zeros here.
use Rattle.epochrun.proofs.begin.Goals as goal

pub returns : goal.returns
returns c = rw (c.new.ensures, c.requires)
