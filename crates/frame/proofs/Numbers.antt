-- The number of a kind is 1 to 7, as lemmas on kinds by their numbers ask.
use mathlib.Core.Bool.{true}
use mathlib.Core.Path.{◌≡◌, refl}
use Prim.Native.Nat.{◌≤◌}
use Rattle.frame.specs.declared.kind.Kind.{Kind}
use Rattle.frame.specs.declared.kind.Kind.TheVariants.{NewEpoch, ObserveReq, Observe, ReportReq, Report, Final, FinalEcho}
use Rattle.frame.specs.Table.{good_kind}
use Rattle.frame.specs.Kinds.{number_of}
use Rattle.frame.proofs.Ranges.{one_to}

pub number_good : (kind : Kind) → good_kind (number_of kind) ≡ true
number_good NewEpoch = refl
number_good ObserveReq = refl
number_good Observe = refl
number_good ReportReq = refl
number_good Report = refl
number_good Final = refl
number_good FinalEcho = refl

pub number_low : (kind : Kind) → 1 ≤ number_of kind
number_low kind = (one_to 7 (number_of kind) (number_good kind)).least

pub number_high : (kind : Kind) → number_of kind ≤ 7
number_high kind = (one_to 7 (number_of kind) (number_good kind)).most
