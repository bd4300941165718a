-- The claim of `specs/Claims.antt`.
use Rattle.config.specs.Claims.{DoneIsZero}
use Rattle.config.proofs.Facts.{done_zero}

pub done_is_zero : DoneIsZero
done_is_zero = done_zero
