-- `members_in` meets its contract: the answer for what is left is the answer for all.
use Rattle.std.proofs.Common.{◌≡◌, ◌+◌, ◌-◌, ◌*◌, drop}
use Rattle.frame.proofs.Access.{members_in}
use Rattle.frame.proofs.checking.members_in.Given as goal

abbrev pub invariant-loop-i : goal.invariant-loop-i
invariant-loop-i l = members_in l.n l.stride (l.many - l.i) (drop (l.at + l.i * l.stride) l.b) ≡ members_in l.n l.stride l.many (drop l.at l.b)
