-- `value` meets its contract: x is the number of the digits read, and the others are yet to be read; x has at most as many digits.
use Rattle.std.proofs.Common.{◌≡◌, ◌<◌, ◌^◌, drop}
use Rattle.epochline.specs.Decimal.{value_from}
use Rattle.epochline.proofs.reading.value.Given as goal

abbrev pub invariant-loop-b : goal.invariant-loop-b
invariant-loop-b l = (value_from 0 l.s ≡ value_from l.x (drop l.b-index l.s)) × (l.x < 10 ^ l.b-index)
