-- The claims of `specs/Claims.antt`, and one small report of each answer.
use mathlib.Core.Bool.{true, or-true}
use mathlib.Core.List.{List, [], ◌∷◌, map}
use mathlib.Core.Path.{◌≡◌, refl, sym, ap, ◌∙◌}
use Prim.Native.Nat.{ℕ, ◌^◌}
use native.Mathlib.Omega.{arith}
use borrow.Author.Tests.{ltb-true}
use lib.Dec.{ltb, eqb}
use lib.IntN.{pos}
use lib.ListN.{get_or, replicate, length-replicate}
use lib.Signed.{le_z}
use mir.Syntax.{w64}
use mir.Val.{SFits}
use Rattle.config.specs.Limits.{kept_size}
use Rattle.config.specs.Codes.{number_of}
use Rattle.quorum.specs.First.{first_at, among, members_to}
use Rattle.quorum.proofs.Claims.{middle_of_members}
use Rattle.quorum.proofs.Entries.{one_at}
use Rattle.price.specs.Median.{median_of}
use Rattle.frame.specs.Message.{Observation, Attested, no_observation, blank}
use Rattle.frame.specs.Encode.{attested_bytes}
use Rattle.frame.specs.Decode.{attested_in}
use Rattle.frame.specs.Range.{all_members}
use Rattle.frame.specs.Claims.{WritableAttested}
use Rattle.frame.proofs.Fronts.{stands_says}
use Rattle.frame.proofs.Claims.{blank_writable}
use Rattle.report.specs.Faults.{Nothing, Few, Falling, Twice, TooFewSigners, SignerTwice, ClearBit}
use Rattle.report.specs.Stands.{members_of, values_of, not_falling, list_fault, bits_fault, repeat_fault, signers_fault, attested_fault}
use Rattle.report.specs.Kept.{keeping}
use Rattle.report.specs.Claims.{DoneIsNothing, by_value, MedianBetween, MedianIsBetween, BetweenGood, MedianIsBetweenGood, KeptSaysTheReport}
use Rattle.report.proofs.Members.{members_among}
use Rattle.report.proofs.Values.{le_z_same, le_z_trans, median_values}
use Rattle.report.proofs.Faults.{done_nothing}
use Rattle.report.proofs.Kept.{kept_stands}
use Rattle.report.proofs.Stands.{not_falling_sorted, list_fault_nothing}

pub done_is_nothing : DoneIsNothing
done_is_nothing = done_nothing

pub median_is_between : MedianIsBetween
median_is_between f l bad all e within few =
    let (many, ordered, apart) = list_fault_nothing f l e in
    record {
      between = middle_of_members Observation by_value (λ o. le_z_same o.value) (λ o p q. le_z_trans o.value p.value q.value) (λ o. o.member) bad all no_observation f l (not_falling_sorted l ordered) apart within few many;
      median = median_values l;
    }

pub median_is_between_good : MedianIsBetweenGood
median_is_between_good n f l bad stands range few =
    let m = median_is_between f l bad (members_to n) stands (members_among n (λ (o : Observation). o.member) l range) few in
    let p = m.between in
    record {
      low = get_or l p.low no_observation;
      high = get_or l p.high no_observation;
      low_listed = one_at l p.low no_observation p.low_in;
      high_listed = one_at l p.high no_observation p.high_in;
      low_good = p.low_good;
      high_good = p.high_good;
      from_low = ap (le_z (get_or l p.low no_observation).value) (sym m.median) ∙ p.from_low;
      to_high = ap (λ z. le_z z (get_or l p.high no_observation).value) (sym m.median) ∙ p.to_high;
    }

-- ---- kept reports

pub kept_says_the_report : KeptSaysTheReport
kept_says_the_report n a buffer h good w g = stands_says n a (keeping buffer (attested_bytes a)) (kept_stands n a buffer h good w g)

-- ---- instances: n = 4 and f = 1

abbrev observed : ℕ → ℕ → Observation
observed member value = record { member = member; value = pos value }

abbrev three : List Observation
three = observed 1 100 ∷ observed 2 105 ∷ observed 3 9000 ∷ []

three_pass : list_fault 1 three ≡ Nothing
unfolding list_fault not_falling first_at
three_pass = refl

two_are_few : list_fault 1 (observed 1 100 ∷ observed 3 9000 ∷ []) ≡ Few
unfolding list_fault
two_are_few = refl

three_falling : list_fault 1 (observed 2 105 ∷ observed 1 100 ∷ observed 3 9000 ∷ []) ≡ Falling
unfolding list_fault not_falling
three_falling = refl

one_twice : list_fault 1 (observed 1 100 ∷ observed 2 105 ∷ observed 1 9000 ∷ []) ≡ Twice
unfolding list_fault not_falling first_at
one_twice = refl

-- member 3 is bad, member 4 was not heard: the median lies between the values of members 1 and 2
median_of_three : MedianBetween (λ x. eqb x 3) three × (median_of (values_of three) ≡ pos 105)
median_of_three =
    let within : (x : ℕ) → among x (members_of three) ≡ true → among x (4 ∷ members_of three) ≡ true = λ x e. rw e (or-true (eqb x 4)) in
    (median_is_between 1 three (λ x. eqb x 3) (4 ∷ members_of three) three_pass within (omega arith), refl)

three_between_good : BetweenGood (λ x. eqb x 3) three (pos 105)
unfolding all_members
three_between_good = median_is_between_good 4 1 three (λ x. eqb x 3) three_pass refl (omega arith)

-- a report of the three, and who signed it
abbrev report : List ℕ → Attested
report signers = record { epoch = 7; round = 1; list = three; signers = map (λ (member : ℕ). record { member = member; signature = blank }) signers }

two_signed : attested_fault 1 3 (report (1 ∷ 2 ∷ [])) ≡ Nothing
unfolding attested_fault list_fault not_falling signers_fault repeat_fault bits_fault first_at number_of
two_signed = done_is_nothing (attested_fault 1 3 (report (1 ∷ 2 ∷ []))) refl

one_signed : attested_fault 1 3 (report (1 ∷ [])) ≡ TooFewSigners
unfolding attested_fault list_fault not_falling signers_fault first_at
one_signed = refl

signed_twice : attested_fault 1 3 (report (2 ∷ 2 ∷ [])) ≡ SignerTwice 1
unfolding attested_fault list_fault not_falling signers_fault repeat_fault first_at
signed_twice = refl

-- 1 is 01 in binary: the second signature did not verify
second_clear : attested_fault 1 1 (report (1 ∷ 2 ∷ [])) ≡ ClearBit 1
unfolding attested_fault list_fault not_falling signers_fault repeat_fault bits_fault first_at
second_clear = refl

kept_over_nines : attested_in (keeping (replicate kept_size 9) (attested_bytes (report (1 ∷ 2 ∷ [])))) ≡ report (1 ∷ 2 ∷ [])
unfolding all_members
kept_over_nines =
    let fits : (n : ℕ) → ltb n (2 ^ 63) ≡ true → SFits w64 (pos n) = λ n h. record { sfits = ltb-true n (2 ^ 63) h } in
    let writable : WritableAttested (report (1 ∷ 2 ∷ [])) = record { values = (fits 100 refl, (fits 105 refl, (fits 9000 refl, tt))); signatures = (blank_writable, (blank_writable, tt)) } in
    kept_says_the_report 4 (report (1 ∷ 2 ∷ [])) (replicate kept_size 9) (omega arith) refl writable (omega (arith, length-replicate {A = ℕ} kept_size 9))
