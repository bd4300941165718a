-- `places` meets its contract: k digits are counted, and those of `rest` are yet to be; what is left has room in 10 places.
use Rattle.std.proofs.Common.{◌≡◌, ◌+◌, ◌-◌, ◌^◌, ◌≤◌, ◌<◌, length}
use Rattle.epochline.specs.Decimal.{decimal}
use Rattle.epochline.proofs.Decimals.{more}
use Rattle.epochline.proofs.printing.places.Given as goal

abbrev pub invariant-loop-rest : goal.invariant-loop-rest
invariant-loop-rest l = (1 ≤ l.k) × (l.k ≤ 10) × (l.rest < 10 ^ (10 - l.k)) × (length (decimal l.x) ≡ l.k + more (10 - l.k) l.rest)

abbrev pub decreases-loop-rest : goal.decreases-loop-rest
decreases-loop-rest l = l.rest
