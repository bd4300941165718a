-- `show::each_turn` meets its contract: each turn so far has answered that there is another.
use Rattle.show.specs.Turns.{Turned}
use Rattle.show.proofs.each_turn.Given as goal

abbrev pub invariant-loop-taken : goal.invariant-loop-taken
invariant-loop-taken g l = goal.F-IsAlwaysCallable g l.turn × Turned g.F.FnMut l.rt l._taken l.fn.turn l.turn
