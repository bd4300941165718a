-- Document 01, "Frames": the kinds and their numbers. What is said of frames is said of the numbers, which bytes hold.
use Rattle.std.specs.Prelude.{ℕ}
use Rattle.frame.specs.declared.kind.Kind.{Kind}
use Rattle.frame.specs.declared.kind.Kind.TheVariants.{NewEpoch, ObserveReq, Observe, ReportReq, Report, Final, FinalEcho}

-- the number that a frame of the kind bears
abbrev pub number_of : Kind → ℕ
number_of NewEpoch = 1
number_of ObserveReq = 2
number_of Observe = 3
number_of ReportReq = 4
number_of Report = 5
number_of Final = 6
number_of FinalEcho = 7
