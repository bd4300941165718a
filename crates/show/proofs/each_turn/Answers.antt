-- The turn that was taken answered that there is another.
use Rattle.std.proofs.Common.{rules, arith, of_calls}
use Rattle.show.proofs.Turns.{turned_more}
use Rattle.show.proofs.each_turn.Goals as goal

pub loop-taken-preserved : goal.loop-taken-preserved
loop-taken-preserved g c = (search (rules, of_calls), grind (arith, turned_more))
