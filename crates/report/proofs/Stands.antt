-- What it is for a report to stand: each group of checks finds nothing exactly if the facts that it asks for hold.
use mathlib.Core.Bool.{true, not, cond}
use mathlib.Core.List.{List, [], ◌∷◌}
use mathlib.Core.Path.{◌≡◌, refl, ap₂}
use Prim.Native.Nat.{ℕ, ◌*◌, ◌<◌}
use borrow.Author.Tests.{leb-false, lt-leb, not-false}
use lib.Dec.{leb}
use lib.ListN.{length, get_or, take}
use Rattle.config.specs.Codes.{number_of}
use Rattle.config.proofs.Facts.{and-true}
use Rattle.quorum.specs.Sort.{Head, Sorted}
use Rattle.quorum.specs.First.{bit, among, all_set, distinct}
use Rattle.frame.specs.Message.{Observation, Signer, Attested}
use Rattle.report.specs.Faults.{Nothing, Few, Falling, Twice, TooFewSigners, SignerTwice, ClearBit}
use Rattle.report.specs.Faults.{first_fault}
use Rattle.report.specs.Stands.{members_of, values_of, not_below, not_falling, list_fault, signer_members, bits_fault, repeat_fault, signers_fault, attested_fault}
use Rattle.report.specs.Claims.{by_value}
use Rattle.report.proofs.Faults.{first_nothing, test_nothing, first_at_nothing, nothing_first_at}

-- ---- values that do not fall are in order

not_below_head : (o : Observation) (l : List Observation) → not_below o.value (values_of l) ≡ true → Head by_value o l
not_below_head o [] h = tt
not_below_head o (p ∷ l) h = h

head_not_below : (o : Observation) (l : List Observation) → Head by_value o l → not_below o.value (values_of l) ≡ true
head_not_below o [] h = refl
head_not_below o (p ∷ l) h = h

pub not_falling_sorted : (l : List Observation) → not_falling (values_of l) ≡ true → Sorted by_value l
unfolding not_falling
not_falling_sorted [] h = tt
not_falling_sorted (o ∷ l) h =
    let p = and-true (not_below o.value (values_of l)) (not_falling (values_of l)) h in
    (not_below_head o l p.0, not_falling_sorted l p.1)

pub sorted_not_falling : (l : List Observation) → Sorted by_value l → not_falling (values_of l) ≡ true
unfolding not_falling
sorted_not_falling [] s = refl
sorted_not_falling (o ∷ l) s = rw (head_not_below o l s.0) (sorted_not_falling l s.1)

-- ---- checks 14 to 16: the list

pub list_fault_nothing : (f : ℕ) (l : List Observation) → list_fault f l ≡ Nothing → (2 * f < length l) × (not_falling (values_of l) ≡ true) × (distinct (members_of l) ≡ true)
unfolding list_fault number_of
list_fault_nothing f l e =
    let twice = cond (not (distinct (members_of l))) Twice Nothing in
    let p = test_nothing (leb (length l) (2 * f)) Few (cond (not (not_falling (values_of l))) Falling twice) refl e in
    let q = test_nothing (not (not_falling (values_of l))) Falling twice refl p.1 in
    let r = test_nothing (not (distinct (members_of l))) Twice Nothing refl q.1 in
    (leb-false _ _ p.0, not-false _ q.0, not-false _ r.0)

pub nothing_list_fault : (f : ℕ) (l : List Observation) → 2 * f < length l → not_falling (values_of l) ≡ true → distinct (members_of l) ≡ true → list_fault f l ≡ Nothing
unfolding list_fault
nothing_list_fault f l many ordered apart = rw (lt-leb (length l) (2 * f) many, ordered, apart)

-- ---- check 17: the signers

pub bits_fault_nothing : (bits many : ℕ) → bits_fault bits many ≡ Nothing → all_set bits many ≡ true
unfolding bits_fault number_of
bits_fault_nothing bits many e = first_at_nothing ClearBit (λ i. not (bit bits i)) many refl e

pub nothing_bits_fault : (bits many : ℕ) → all_set bits many ≡ true → bits_fault bits many ≡ Nothing
unfolding bits_fault
nothing_bits_fault bits many e = nothing_first_at ClearBit (λ i. not (bit bits i)) many e

pub repeat_fault_nothing : (l : List ℕ) → repeat_fault l ≡ Nothing → distinct l ≡ true
unfolding repeat_fault number_of
repeat_fault_nothing l e = first_at_nothing SignerTwice (λ i. among (get_or l i 0) (take i l)) (length l) refl e

pub nothing_repeat_fault : (l : List ℕ) → distinct l ≡ true → repeat_fault l ≡ Nothing
unfolding repeat_fault
nothing_repeat_fault l e = nothing_first_at SignerTwice (λ i. among (get_or l i 0) (take i l)) (length l) e

pub signers_fault_nothing : (f bits : ℕ) (l : List Signer) → signers_fault f bits l ≡ Nothing → (f < length l) × (distinct (signer_members l) ≡ true) × (all_set bits (length l) ≡ true)
unfolding signers_fault number_of
signers_fault_nothing f bits l e =
    let p = test_nothing (leb (length l) f) TooFewSigners (first_fault (repeat_fault (signer_members l)) (bits_fault bits (length l))) refl e in
    let q = first_nothing (repeat_fault (signer_members l)) (bits_fault bits (length l)) p.1 in
    (leb-false _ _ p.0, repeat_fault_nothing (signer_members l) q.0, bits_fault_nothing bits (length l) q.1)

pub nothing_signers_fault : (f bits : ℕ) (l : List Signer) → f < length l → distinct (signer_members l) ≡ true → all_set bits (length l) ≡ true → signers_fault f bits l ≡ Nothing
unfolding signers_fault
nothing_signers_fault f bits l many apart verified =
    rw (lt-leb (length l) f many, nothing_repeat_fault (signer_members l) apart) (nothing_bits_fault bits (length l) verified)

-- ---- checks 14 to 17: a report

pub attested_fault_nothing : (f bits : ℕ) (a : Attested) → attested_fault f bits a ≡ Nothing → (list_fault f a.list ≡ Nothing) × (signers_fault f bits a.signers ≡ Nothing)
unfolding attested_fault
attested_fault_nothing f bits a e = first_nothing (list_fault f a.list) (signers_fault f bits a.signers) e

pub nothing_attested_fault : (f bits : ℕ) (a : Attested) → list_fault f a.list ≡ Nothing → signers_fault f bits a.signers ≡ Nothing → attested_fault f bits a ≡ Nothing
unfolding attested_fault
nothing_attested_fault f bits a list signers = ap₂ first_fault list signers
