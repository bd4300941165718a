-- What a reader may quote of reports: each claim is a type, proved in `proofs/Claims.antt`.
use Rattle.std.specs.Prelude.{◌≡◌, Bool, true, false, List, ℕ, ◌≤◌, length, get_or, ℤ}
use Rattle.std.specs.Int.Signed.{le_z}
use Rattle.config.specs.Limits.{members, kept_size}
use Rattle.config.specs.Codes.{is_done}
use Rattle.quorum.specs.Counts.{count_if}
use Rattle.quorum.specs.First.{among, members_to, OneOf}
use Rattle.quorum.specs.Claims.{Between}
use Rattle.price.specs.Median.{median_place, median_of}
use Rattle.frame.specs.Message.{Observation, Attested, no_observation}
use Rattle.frame.specs.Encode.{attested_bytes}
use Rattle.frame.specs.Decode.{attested_in}
use Rattle.frame.specs.Range.{all_members, good_attested}
use Rattle.frame.specs.Claims.{WritableAttested}
use Rattle.report.specs.Faults.{Standing, Nothing, code_of}
use Rattle.report.specs.Stands.{members_of, values_of, list_fault}
use Rattle.report.specs.Kept.{keeping}

-- A report is answered with Done only where nothing is wrong with it.
abbrev pub DoneIsNothing : Type 0
DoneIsNothing = (x : Standing) → is_done (code_of x) ≡ true → x ≡ Nothing

-- the order by value alone
abbrev pub by_value : Observation → Observation → Bool
by_value a b = le_z a.value b.value

-- Of a list that passes, with at most f bad members among all, the median lies between the values of two members that are not bad.
pub record MedianBetween (bad : ℕ → Bool) (l : List Observation) : Type 0 where
  pub between : Between by_value (λ (o : Observation). bad o.member) no_observation l (median_place (length l))
  pub median : (get_or l (median_place (length l)) no_observation).value ≡ median_of (values_of l)

abbrev pub MedianIsBetween : Type 0
MedianIsBetween =
    (f : ℕ) (l : List Observation) (bad : ℕ → Bool) (all : List ℕ) → list_fault f l ≡ Nothing → ((x : ℕ) → among x (members_of l) ≡ true → among x all ≡ true) → count_if bad all ≤ f → MedianBetween bad l

-- The same without places, for a feed of n members: the median lies between the values of two listed members, perhaps one and the same, that are not bad.
pub record BetweenGood (bad : ℕ → Bool) (l : List Observation) (median : ℤ) : Type 0 where
  pub low : Observation
  pub high : Observation
  pub low_listed : OneOf low l
  pub high_listed : OneOf high l
  pub low_good : bad low.member ≡ false
  pub high_good : bad high.member ≡ false
  pub from_low : le_z low.value median ≡ true
  pub to_high : le_z median high.value ≡ true

abbrev pub MedianIsBetweenGood : Type 0
MedianIsBetweenGood =
    (n f : ℕ) (l : List Observation) (bad : ℕ → Bool)
    → list_fault f l ≡ Nothing
    → all_members n (λ (o : Observation). o.member) l ≡ true
    → count_if bad (members_to n) ≤ f
    → BetweenGood bad l (median_of (values_of l))

-- A report that is kept is what the buffer says.
abbrev pub KeptSaysTheReport : Type 0
KeptSaysTheReport =
    (n : ℕ) (a : Attested) (buffer : List ℕ) → n ≤ members → good_attested n a ≡ true → WritableAttested a → kept_size ≤ length buffer → attested_in (keeping buffer (attested_bytes a)) ≡ a
