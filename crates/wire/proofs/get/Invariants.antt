-- `get` meets its contract: x is the number of the bytes that are read, and it is below 256 to the power of how many they are.
use Rattle.std.proofs.Common.{◌≡◌, ◌<◌, ◌^◌, take}
use Rattle.wire.specs.Numbers.{be_number}
use Rattle.wire.proofs.get.Given as goal

abbrev pub invariant-loop-b : goal.invariant-loop-b
invariant-loop-b l = (l.x ≡ be_number (take l.b-index l.digits)) × (l.x < 256 ^ l.b-index)
