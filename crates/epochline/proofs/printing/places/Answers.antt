-- `places` meets its contract: where the loop ends nothing is left to count (`more_none`).
use Rattle.std.proofs.Common.{◌≡◌, ◌-◌, arith}
use Rattle.epochline.proofs.Decimals.{more, more_none}
use Rattle.epochline.proofs.printing.places.Goals as goal

pub returns : goal.returns
returns c =
    let z : c.loop-rest.rest ≡ 0 = omega arith in
    let e : more (10 - c.loop-rest.k) c.loop-rest.rest ≡ 0 = rw z (more_none (10 - c.loop-rest.k)) in
    (omega arith, omega arith, omega arith)
