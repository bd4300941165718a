-- The loop's invariant: the answer for what is left, from the entry before i on, is the answer for all.
use Rattle.std.proofs.Common.{◌≡◌, ◌-◌, ◌<◌, drop}
use Rattle.frame.specs.Decode.{observations_in}
use Rattle.report.specs.Stands.{values_of, not_falling}
use Rattle.report.proofs.not_falling.Given as goal

abbrev pub invariant-loop-i : goal.invariant-loop-i
invariant-loop-i l =
    let values = values_of (observations_in l.stride l.body) in
    (0 < l.i) × (not_falling (drop (l.i - 1) values) ≡ not_falling values)
