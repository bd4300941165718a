-- `comparing::same_entries` meets its contract. The loop's invariant: the comparison of what is left, from entry i on, is that of all.
use Rattle.std.proofs.Common.{◌≡◌, drop}
use Rattle.frame.specs.Table.{shape_of}
use Rattle.frame.specs.Decode.{observations_in}
use Rattle.outbox.specs.Written.{observations}
use Rattle.leader.specs.Takes.{same_list}
use Rattle.leader.proofs.comparing.same_entries.Given as goal

abbrev pub invariant-loop-i : goal.invariant-loop-i
invariant-loop-i l =
    let xs = observations_in (shape_of 5).entry l.body in
    let ys = observations l.own l.values in
    same_list (drop l.i xs) (drop l.i ys) ≡ same_list xs ys
