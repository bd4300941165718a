-- The claims of `specs/Claims.antt`, each by the laws of orders, tables and states; and one small round.
use mathlib.Core.Bool.{true}
use mathlib.Core.List.{List, [], ◌∷◌, map}
use mathlib.Core.Path.{◌≡◌, refl, sym, ap, ap₂, ◌∙◌}
use Prim.Native.Nat.{ℕ, ◌+◌, ◌*◌, ◌≤◌, ◌<◌}
use native.Mathlib.Omega.{arith}
use lib.Dec.{lit<, lit≤}
use lib.IntN.{ℤ, pos}
use lib.ListN.{length, drop, replicate, length-map}
use lib.Seq.{length-take-le}
use Rattle.config.specs.Limits.{signature_size, report_signatures, signatures_size}
use Rattle.config.specs.Bounds.{config_of}
use Rattle.config.specs.declared.Config.{Config}
use Rattle.config.specs.declared.Timer.TheVariants as timer
use Rattle.quorum.specs.First.{first_at, all_set}
use Rattle.quorum.specs.Marks.{flags}
use Rattle.quorum.specs.Sort.{keep, swap, then, Head, Sorted}
use Rattle.quorum.proofs.Sort.{sort_sorted}
use Rattle.frame.specs.Message.{Observation, Signed}
use Rattle.report.specs.Faults.{first_fault}
use Rattle.report.specs.Stands.{values_of, list_fault, bits_fault, attested_fault, signers_fault}
use Rattle.report.specs.Faults as fault
use Rattle.report.specs.Claims.{by_value}
use Rattle.report.proofs.Stands.{sorted_not_falling, nothing_list_fault, nothing_bits_fault, nothing_signers_fault, nothing_attested_fault}
use Rattle.outbox.specs.Written.{own_frame, observed, observations, signed_observations, signers_of}
use Rattle.outbox.proofs.Frames.{signer}
use Rattle.leader.specs.declared.Leader.{Leader}
use Rattle.leader.specs.State.{collecting, in_grace, good_leader, empty_round}
use Rattle.leader.specs.Listed.{not_after, marked_up_to, order, list_of, request_of, lowest_signers}
use Rattle.leader.specs.Takes.{observed_by, reported_by}
use Rattle.leader.specs.Rules.{next_round, observing, closing, with_report}
use Rattle.leader.specs.Runs.{Observed, observe_all, sign_all, by_round, by_observe, Lived, begun, then as lived_then}
use Rattle.leader.specs.Claims.{SameOutcome, OrderDecidesNothing, RequestPasses, AlwaysCounted, FinalPasses, GraceStartsAtTheEntry, PhaseNeverFalls, GoodStaysGood}
use Rattle.leader.proofs.Cases.{observing_cases}
use Rattle.leader.proofs.Orders.{by_not_after, not_after_facts}
use Rattle.leader.proofs.Marked.{length_marked, lowest_distinct, order_distinct, length_order}
use Rattle.leader.proofs.Tables.{leader_perm, signatures_perm}
use Rattle.leader.proofs.States.{good_facts, facts_good, next_in_range, observe_more, lived_tallied, still_collecting, phase_rises}

-- ---- what was observed, in any order

pub order_decides_nothing : OrderDecidesNothing
order_decides_nothing c epoch s signatures os os' small lo from none apart r =
    let leader = leader_perm c s r (omega arith) from none apart in
    let signed = signatures_perm c.n signatures r from apart in
    record { leader = leader; signatures_kept = signed; request = λ i. own_frame c (request_of c.n epoch (closing (leader i)).leader (signed i)) }

-- ---- the list

-- entries made of members are theirs
members_of_made : {A : Type 0} (make : ℕ → A) (member : A → ℕ) → ((j : ℕ) → member (make j) ≡ j) → (l : List ℕ) → map member (map make l) ≡ l
members_of_made make member h [] = refl
members_of_made make member h (j ∷ l) = rw (h j, members_of_made make member h l)

-- in order, its values do not fall
listed_sorted : (values : List ℤ) (l : List ℕ) → Sorted (not_after values) l → Sorted by_value (observations l values)
listed_sorted values [] s = tt
listed_sorted values (j ∷ l) s = (head j l s.0, listed_sorted values l s.1)
  where
    head : (j : ℕ) (l : List ℕ) → Head (not_after values) j l → Head by_value (observed values j) (observations l values)
    head j [] h = tt
    head j (k ∷ l) h = (not_after_facts values j k h).value

list_passes : (n f : ℕ) (s : Leader) → n ≤ length s.observed → 2 * f < observed_by n s → list_fault f (list_of n s) ≡ fault.Nothing
unfolding order
list_passes n f s h many =
    let values = s.values in
    let l = order n s.observed values in
    nothing_list_fault f (observations l values)
    (omega (arith, length-map l (observed values), length_order n s.observed values h))
    (sorted_not_falling (observations l values) (listed_sorted values l (sort_sorted (by_not_after values) (marked_up_to n s.observed))))
    (rw (members_of_made (observed values) (λ o. o.member) (λ j. refl) l) (order_distinct n s.observed values))

-- without their signatures, the entries of a request are the list
said_of_signed : (values : List ℤ) (signatures : List ℕ) (l : List ℕ) → map (λ (x : Signed). x.said) (signed_observations l values signatures) ≡ observations l values
said_of_signed values signatures [] = refl
said_of_signed values signatures (j ∷ l) = ap (λ (r : List Observation). observed values j ∷ r) (said_of_signed values signatures l)

pub request_passes : RequestPasses
request_passes n f epoch round bits s signatures xs h many e verified =
    let l = order n s.observed s.values in
    let same : signed_observations l s.values signatures ≡ xs = cc in
    let said : map (λ (x : Signed). x.said) xs ≡ list_of n s = ap (map (λ (x : Signed). x.said)) (sym same) ∙ said_of_signed s.values signatures l in
    ap₂ first_fault (ap (list_fault f) said ∙ list_passes n f s h many) (nothing_bits_fault bits (length xs) verified)

-- ---- who signs it

signers_pass : (n f bits : ℕ) (s : Leader) (signatures : List ℕ) → n ≤ length s.reported → f < reported_by n s → all_set bits (f + 1) ≡ true → signers_fault f bits (signers_of (lowest_signers n f s) signatures) ≡ fault.Nothing
signers_pass n f bits s signatures h many verified =
    let l = lowest_signers n f s in
    let long : length (signers_of l signatures) ≡ f + 1 = length-map l (signer signatures) ∙ length-take-le (f + 1) (marked_up_to n s.reported) (omega (arith, length_marked n s.reported h)) in
    nothing_signers_fault f bits (signers_of l signatures) (omega arith)
    (rw (members_of_made (signer signatures) (λ x. x.member) (λ j. refl) l) (lowest_distinct n (f + 1) s.reported))
    (rw long verified)

pub final_passes : FinalPasses
final_passes c epoch bits s signatures a h g many signers verified e =
    let same : record { epoch = epoch; round = s.round; list = list_of c.n s; signers = signers_of (lowest_signers c.n c.f s) (drop report_signatures signatures) } ≡ a = cc in
    rw (← same) (nothing_attested_fault c.f bits _ (list_passes c.n c.f s h many) (signers_pass c.n c.f bits s (drop report_signatures signatures) g signers verified))

-- ---- states

pub always_counted : AlwaysCounted
always_counted c s small l = (lived_tallied c small l).counted

pub grace_starts_at_the_entry : GraceStartsAtTheEntry
grace_starts_at_the_entry c s epoch j v g small low high l e =
    let k = lived_tallied c small l in
    let more = observe_more c s epoch j v g small k.long low high e in
    record {
      entry = observing_cases (λ l. l.t_grace ≡ timer.Start → (s.phase ≡ collecting) × (observed_by c.n s ≡ 2 * c.f)) c s j v
          (λ many q. (still_collecting c s epoch j v g k.counted (omega arith) e, omega arith))
          (λ few q. let z : ◌≡◌ {A = ℕ} 0 1 = cc in absurd (omega arith));
      starts = λ many. observing_cases (λ l. (l.t_grace ≡ timer.Start) × (l.leader.phase ≡ in_grace)) c s j v
          (λ at. (refl, refl))
          (λ off. absurd (off (omega arith)));
    }

pub phase_never_falls : PhaseNeverFalls
phase_never_falls c s t next e = phase_rises c s t next e

pub good_stays_good : GoodStaysGood
good_stays_good c s t next h = facts_good t (next_in_range c s t next (good_facts s h))

-- ---- instances: n = 4 and f = 1, in round 1 of epoch 7; members 1, 2 and 4 observe 107, 100 and 105

abbrev four : Config
four = config_of 5 4 1 3 2 5000000 1000 100 1 (4 ∷ [])

abbrev said : ℕ → ℕ → Observed
said member value = record { from = member; value = pos value; signature = replicate signature_size member }

abbrev three : List Observed
three = said 1 107 ∷ said 2 100 ∷ said 4 105 ∷ []

-- member 4's came first
abbrev also_three : List Observed
also_three = said 4 105 ∷ said 1 107 ∷ said 2 100 ∷ []

abbrev begins : Leader
begins = empty_round collecting 1 1

abbrev empty : List ℕ
empty = replicate signatures_size 0

three_in_any_order : SameOutcome four 7 begins empty three also_three
unfolding first_at
three_in_any_order =
    order_decides_nothing four 7 begins empty three also_three (omega arith) refl
    (omega arith, omega arith, refl, (omega arith, omega arith, refl, (omega arith, omega arith, refl, tt))) (refl, (refl, (refl, tt))) refl (then (keep swap) swap)

three_listed : values_of (list_of 4 (observe_all four begins three)) ≡ pos 100 ∷ pos 105 ∷ pos 107 ∷ []
unfolding observe_all observing order marked_up_to
three_listed = refl

three_pass : first_fault (list_fault 1 (list_of 4 (observe_all four begins three))) (bits_fault 7 3) ≡ fault.Nothing
unfolding observe_all observing order marked_up_to first_at
three_pass = request_passes 4 1 7 1 7 (observe_all four begins three) (sign_all empty three) _ (lit≤ tt) (lit< tt) refl refl

-- members 1 and 2 alone
abbrev two : List Observed
two = said 1 107 ∷ said 2 100 ∷ []

two_lived : Lived four (observe_all four begins two)
unfolding next_round observe_all observing
two_lived =
    lived_then (lived_then (lived_then begun by_round)
    (by_observe 7 1 (pos 107) [] (omega arith) (omega arith) refl))
    (by_observe 7 2 (pos 100) [] (omega arith) (omega arith) refl)

three_lived : Lived four (observe_all four begins three)
unfolding observe_all observing
three_lived = lived_then two_lived (by_observe 7 4 (pos 105) [] (omega arith) (omega arith) refl)

three-are-more-than-2f : 2 < observed_by 4 (observe_all four begins three)
unfolding observe_all observing
three-are-more-than-2f = (always_counted four (observe_all four begins three) (omega arith) three_lived).grace refl

third_starts_grace : (observing four (observe_all four begins two) 4 (pos 105)).t_grace ≡ timer.Start
unfolding observe_all observing
third_starts_grace = ((grace_starts_at_the_entry four (observe_all four begins two) 7 4 (pos 105) [] (omega arith) (omega arith) (omega arith) two_lived refl).starts refl).0

third_raises_the_phase : (observe_all four begins two).phase ≤ (observe_all four begins three).phase
unfolding observe_all observing
third_raises_the_phase = phase_never_falls four (observe_all four begins two) (observe_all four begins three) (by_observe 7 4 (pos 105) [] (omega arith) (omega arith) refl) refl

three_good : good_leader (observe_all four begins three) ≡ true
unfolding observe_all observing good_leader flags
three_good =
    good_stays_good four (observe_all four begins two) (observe_all four begins three)
    (by_observe 7 4 (pos 105) [] (omega arith) (omega arith) refl) refl

-- members 2 and 3 report
abbrev reported_by_two : Leader
reported_by_two = with_report (with_report (observe_all four begins three) 2) 3

two_signers_pass : attested_fault 1 3 (record { epoch = 7; round = 1; list = list_of 4 reported_by_two; signers = signers_of (2 ∷ 3 ∷ []) (drop report_signatures empty) }) ≡ fault.Nothing
unfolding observe_all observing marked_up_to first_at
two_signers_pass = final_passes four 7 3 reported_by_two empty _ (lit≤ tt) (lit≤ tt) (lit< tt) (lit< tt) refl refl
