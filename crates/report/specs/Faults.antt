-- Document 01, "Codes", 14 to 17: what can be wrong with a report, and the answer that each fault is given.
use Rattle.std.specs.Prelude.{Result, Ok, Err, ℕ}
use Rattle.config.specs.Answers.{Answer}
use Rattle.config.specs.Answers as answer
use Rattle.report.specs.declared.Fault.{Fault}
use Rattle.report.specs.declared.Fault.TheVariants as fault

-- whether a report stands, and else what is wrong with it
abbrev pub Standing : Type 0
Standing = Result (Unit {0}) Fault

abbrev pub Nothing : Standing
Nothing = Ok tt

abbrev pub Few : Standing
Few = Err fault.Few

abbrev pub Falling : Standing
Falling = Err fault.Falling

abbrev pub Twice : Standing
Twice = Err fault.Twice

abbrev pub TooFewSigners : Standing
TooFewSigners = Err fault.TooFewSigners

abbrev pub SignerTwice : ℕ → Standing
SignerTwice i = Err (fault.SignerTwice i)

abbrev pub ClearBit : ℕ → Standing
ClearBit i = Err (fault.ClearBit i)

-- "SIGNERS: s at most f, a signer twice, or a clear bit" is one code for three faults
abbrev pub code_of : Standing → Answer
code_of (Ok stands) = answer.Done
code_of (Err fault.Few) = answer.Few
code_of (Err fault.Falling) = answer.Order
code_of (Err fault.Twice) = answer.Twice
code_of (Err fault.TooFewSigners) = answer.Signers
code_of (Err (fault.SignerTwice i)) = answer.Signers
code_of (Err (fault.ClearBit i)) = answer.Signers

-- the first of two faults; "First match wins."
abbrev pub first_fault : Standing → Standing → Standing
first_fault (Ok stands) later = later
first_fault (Err wrong) later = Err wrong
