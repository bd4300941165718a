-- The numbers that stand at the boundary for what the calls answer by name. Codes have document 01's numbers.
use Rattle.std.specs.Prelude.{Bool, cond, ℕ, Ok, Err}
use Rattle.config.specs.declared.Timer.{Timer}
use Rattle.config.specs.declared.Timer.TheVariants.{Leave, Start, Stop}
use Rattle.sender.specs.declared.Transmit.{Transmit}
use Rattle.sender.specs.declared.Transmit.TheVariants as transmit
use Rattle.report.specs.declared.Fault.TheVariants.{Few, Falling, Twice, TooFewSigners, SignerTwice, ClearBit}
use Rattle.report.specs.Faults.{Standing}

abbrev pub flag_of : Bool → ℕ
flag_of b = cond b 1 0

-- what becomes of a timer
abbrev pub timer_number : Timer → ℕ
timer_number Leave = 0
timer_number Start = 1
timer_number Stop = 2

-- what becomes of T_transmit, and the milliseconds where it is set
abbrev pub transmit_number : Transmit → ℕ
transmit_number transmit.Leave = 0
transmit_number (transmit.Set _) = 1
transmit_number transmit.Stop = 2

abbrev pub milliseconds_of : Transmit → ℕ
milliseconds_of transmit.Leave = 0
milliseconds_of (transmit.Set milliseconds) = milliseconds
milliseconds_of transmit.Stop = 0

-- what is wrong with a report, and which signer it is about
abbrev pub fault_number : Standing → ℕ
fault_number (Ok stands) = 0
fault_number (Err Few) = 1
fault_number (Err Falling) = 2
fault_number (Err Twice) = 3
fault_number (Err TooFewSigners) = 4
fault_number (Err (SignerTwice _)) = 5
fault_number (Err (ClearBit _)) = 6

abbrev pub fault_place : Standing → ℕ
fault_place (Ok stands) = 0
fault_place (Err Few) = 0
fault_place (Err Falling) = 0
fault_place (Err Twice) = 0
fault_place (Err TooFewSigners) = 0
fault_place (Err (SignerTwice place)) = place
fault_place (Err (ClearBit place)) = place
