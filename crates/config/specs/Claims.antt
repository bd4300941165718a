-- What a reader may quote of the codes: the claim is a type, proved in `proofs/Claims.antt`.
use Rattle.std.specs.Prelude.{◌≡◌, eqb}
use Rattle.config.specs.Answers.{Answer}
use Rattle.config.specs.Codes.{number_of, is_done}

-- 01, Codes: "Only code 0 changes anything": whether an answer is DONE, of which the promises speak, is whether its number is 0.
abbrev pub DoneIsZero : Type 0
DoneIsZero = (a : Answer) → is_done a ≡ eqb (number_of a) 0
