-- The claims of `specs/Claims.antt`, and for each an instance: n = 4 and f = 1.
use mathlib.Core.Path.{◌≡◌, refl, sym, ap, ◌∙◌}
use mathlib.Core.Bool.{Bool, true, false, cond, false≢true}
use mathlib.Core.List.{List, [], ◌∷◌, map}
use Prim.Native.Nat.{ℕ, ◌-◌}
use native.Mathlib.Omega.{arith}
use lib.IntN.{pos}
use lib.ListN.{length, take}
use Rattle.config.specs.Bounds.{config_of}
use Rattle.config.specs.Codes.{number_of}
use Rattle.config.specs.declared.Config.{Config}
use Rattle.config.specs.declared.Commit.{Commit}
use Rattle.price.specs.Median.{median_of}
use Rattle.price.specs.Due.{should_report}
use Rattle.quorum.specs.Marks.{flags, marked, count_marks}
use Rattle.quorum.specs.First.{first_at}
use Rattle.quorum.proofs.Marks.{mark_there, mark_stays, marks_more}
use Rattle.frame.specs.Encode.{attested_bytes}
use Rattle.frame.specs.Message.{Signed, Signer, Attested, Message, new_epoch, observe_req, observe, report_req, report, final, final_echo, blank}
use Rattle.report.specs.Faults as fault
use Rattle.report.specs.Stands.{values_of, not_falling, list_fault, bits_fault, repeat_fault, signers_fault, attested_fault}
use Rattle.report.specs.Kept.{keeping}
use Rattle.report.proofs.Faults.{first_nothing}
use Rattle.report.proofs.Stands.{bits_fault_nothing}
use Rattle.follower.specs.declared.Follower.{Follower}
use Rattle.follower.specs.declared.Followed.{Followed}
use Rattle.follower.specs.declared.Reply.{Reply}
use Rattle.follower.specs.declared.Reply.TheVariants as reply
use Rattle.follower.specs.State.{is_set, good_follower, in_round}
use Rattle.follower.specs.Takes.{fault_of, finding_of, Ignored}
use Rattle.follower.specs.Rules.{now_kept, now_marked, asked, received, echoed, follow_of, kept_of}
use Rattle.follower.specs.Claims.{KeptAndChecked, KeptWasChecked, ListWasChecked, ReportedWasChecked, CountedOnce, EchoCountsOnce, MarksStay, KeptNothingElse, GoodStaysGood}
use Rattle.follower.proofs.State.{good_parts, good_round, good_signed, good_completed, good_kept_lem, good_marked}
use Rattle.follower.proofs.Rules.{requested_each, asked_each, echoed_each, echoed_marks, echoed_reply, by_request, in_round_each}
use Rattle.follower.proofs.Findings.{finding_taken, taken_unmarked}

-- ---- what is sent was checked

-- what there is to show of a message that is answered with this reply
abbrev Sent : Follower → ℕ → ℕ → List ℕ → Message → Reply → Type 0
Sent s f bits kept m reply.Nothing = Unit {0}
Sent s f bits kept m reply.Observe = Unit {0}
Sent s f bits kept m reply.Report = ListWasChecked f bits m
Sent s f bits kept m reply.Echo = KeptAndChecked s f bits kept m

-- a FINAL-ECHO is echoed if nothing is kept, and then it is what is kept
echo_sent : (s : Follower) (f bits : ℕ) (kept : List ℕ) (a : Attested) → attested_fault f bits a ≡ fault.Nothing → (t : Bool) → is_set s.kept ≡ t → Sent s f bits kept (final_echo a) (cond t reply.Nothing reply.Echo)
echo_sent s f bits kept a h true e = tt
echo_sent s f bits kept a h false e = record { kept_report = a; carried = refl; stands = h; buffer = rw e }

sent : (c : Config) (s : Follower) (j bits time : ℕ) (commit : Commit) (kept : List ℕ) (m : Message) → fault_of c.f bits m ≡ fault.Nothing → Sent s c.f bits kept m (follow_of c s j time commit m).reply
unfolding received
sent c s j bits time commit kept (observe_req e r) h = requested_each (λ (d : Followed). Sent s c.f bits kept (observe_req e r) d.reply) c s r tt tt
sent c s j bits time commit kept (report_req e r xs) h =
    let said = map (λ (x : Signed). x.said) xs in
    let p = first_nothing (list_fault c.f said) (bits_fault bits (length xs)) h in
    asked_each (λ (d : Followed). Sent s c.f bits kept (report_req e r xs) d.reply) c s time commit (median_of (values_of said))
    (record { list = xs; asked = refl; stands = p.0; bits_set = bits_fault_nothing bits (length xs) p.1 })
    tt
sent c s j bits time commit kept (final a) h = record { kept_report = a; carried = refl; stands = h; buffer = refl }
sent c s j bits time commit kept (final_echo a) h =
    let p = echo_sent s c.f bits kept a h (is_set s.kept) refl in
    echoed_each (λ (d : Followed). Sent s c.f bits kept (final_echo a) d.reply) c s j p p
sent c s j bits time commit kept (new_epoch e) h = tt
sent c s j bits time commit kept (observe e r v g) h = tt
sent c s j bits time commit kept (report e r xs g) h = tt

pub kept_was_checked : KeptWasChecked
kept_was_checked c s epoch leader j bits time commit kept m t e =
    rw e at (sent c s j bits time commit kept m (finding_taken s c.f epoch leader j bits m t).1)

pub reported_was_checked : ReportedWasChecked
reported_was_checked c s epoch leader j bits time commit m t e =
    rw e at (sent c s j bits time commit [] m (finding_taken s c.f epoch leader j bits m t).1)

-- ---- echoes count once

pub echo_counts_once : EchoCountsOnce
echo_counts_once c s epoch leader j bits time commit a low high long t =
    let n = c.n in
    let place = j - 1 in
    let new = taken_unmarked s c.f epoch leader j bits a t in
    let after = echoed_marks c s j in
    record {
      one = ap (λ (l : List ℕ). count_marks (take n l)) after ∙ marks_more n j s.marks low high long new;
      never_again = λ epoch leader bits b again.
          let old = ap (λ (l : List ℕ). marked l place) after ∙ mark_there s.marks place (omega arith) in
          false≢true (sym (taken_unmarked (echoed c s j).follower c.f epoch leader j bits b again) ∙ old);
    }

-- ---- marks stay

pub marks_stay : MarksStay
marks_stay c s j time place commit m q h =
    let still = mark_stays s.marks place (j - 1) h in
    in_round_each c s j time commit (λ d. marked d.follower.marks place ≡ true) h h h still still h m q

-- ---- what is not echoed is not kept

-- a FINAL-ECHO that is not echoed came where a report was kept
unsent : (c : Config) (s : Follower) (j : ℕ) (kept body : List ℕ) (t : Bool) → is_set s.kept ≡ t → ((echoed c s j).reply ≡ reply.Echo → ⊥) → cond t kept body ≡ kept
unsent c s j kept body true e h = refl
unsent c s j kept body false e h = absurd (h (echoed_reply c s j ∙ rw e))

pub kept_nothing_else : KeptNothingElse
unfolding received
kept_nothing_else c s epoch leader j bits time commit kept (observe_req e r) t h = refl
kept_nothing_else c s epoch leader j bits time commit kept (report_req e r xs) t h = refl
kept_nothing_else c s epoch leader j bits time commit kept (final a) t h = absurd (h refl)
kept_nothing_else c s epoch leader j bits time commit kept (final_echo a) t h = unsent c s j kept (keeping kept (attested_bytes a)) (is_set s.kept) refl h
kept_nothing_else c s epoch leader j bits time commit kept (new_epoch e) t h = refl
kept_nothing_else c s epoch leader j bits time commit kept (observe e r v g) t h = refl
kept_nothing_else c s epoch leader j bits time commit kept (report e r xs g) t h = refl

-- ---- states in range

abbrev Fine : Followed → Type 0
Fine d = good_follower d.follower ≡ true

pub good_stays_good : GoodStaysGood
good_stays_good c s j time commit m g =
    let marked = good_kept_lem (now_marked s j) (good_marked s g j) in
    by_request (λ m. Fine (follow_of c s j time commit m))
    (λ e r. requested_each Fine c s r (good_round 0 r refl) (good_round s.live r (good_parts s g).live))
    (in_round_each c s j time commit Fine (good_signed s g) (good_completed s g) (good_kept_lem s g) (good_completed (now_kept (now_marked s j)) marked) marked g)
    m

-- ---- instances: n = 4 and f = 1, in round 1 of epoch 7, which member 4 leads, before any commit

abbrev four : Config
four = config_of 5 4 1 3 2 5000000 1000 100 1 (4 ∷ [])

abbrev none : Commit
none = record { median = pos 0; time = 0; epoch = 0; round = 0 }

abbrev begun : Follower
begun = in_round 1 1

abbrev signed : ℕ → ℕ → Signed
signed member value = record { said = record { member = member; value = pos value }; signature = blank }

abbrev three : List Signed
three = signed 1 100 ∷ signed 2 105 ∷ signed 3 9000 ∷ []

abbrev signer : ℕ → Signer
signer member = record { member = member; signature = blank }

abbrev attested : Attested
attested = record { epoch = 7; round = 1; list = map (λ (x : Signed). x.said) three; signers = signer 2 ∷ signer 4 ∷ [] }

final_kept : KeptAndChecked begun 1 3 [] (final attested)
unfolding finding_of number_of attested_fault list_fault not_falling signers_fault repeat_fault bits_fault first_at received
final_kept = kept_was_checked four begun 7 4 4 3 0 none [] (final attested) refl refl

three_reported : ListWasChecked 1 7 (report_req 7 1 three)
unfolding finding_of number_of list_fault not_falling bits_fault first_at asked should_report
three_reported = reported_was_checked four begun 7 4 4 7 0 none (report_req 7 1 three) refl refl

-- after member 2's FINAL-ECHO, and after member 3's
abbrev echo_of_2 : Followed
echo_of_2 = follow_of four begun 2 0 none (final_echo attested)

abbrev echo_of_3 : Followed
echo_of_3 = follow_of four echo_of_2.follower 3 0 none (final_echo attested)

echo_of_2_once : CountedOnce four begun 2 0 none attested
unfolding finding_of number_of attested_fault list_fault not_falling signers_fault repeat_fault bits_fault first_at
echo_of_2_once = echo_counts_once four begun 7 4 2 3 0 none attested (omega arith) (omega arith) (omega arith) refl

echo_of_2_again : finding_of echo_of_2.follower 1 7 4 2 3 (final_echo attested) ≡ Ignored
unfolding finding_of echoed
echo_of_2_again = refl

-- the second of two echoes, which is more than f, hands the report out and completes the round
two_echoes : (echo_of_2.handed ≡ false) × (echo_of_3.handed ≡ true) × (echo_of_3.follower.completed ≡ 1)
unfolding echoed
two_echoes = (refl, refl, refl)

-- the first one's mark is still there then, and the report that it had kept
two_marks : marked echo_of_3.follower.marks 1 ≡ true
unfolding echoed
two_marks = marks_stay four echo_of_2.follower 3 0 1 none (final_echo attested) refl refl

first_kept : (kept : List ℕ) → kept_of echo_of_2.follower kept (final_echo attested) ≡ kept
unfolding finding_of number_of attested_fault list_fault not_falling signers_fault repeat_fault bits_fault first_at echoed
first_kept kept =
    kept_nothing_else four echo_of_2.follower 7 4 3 3 0 none kept (final_echo attested) refl (λ e. let z : ◌≡◌ {A = ℕ} 0 1 = cc in omega arith)

two_echoes_good : good_follower echo_of_3.follower ≡ true
unfolding good_follower flags
two_echoes_good =
    good_stays_good four echo_of_2.follower 3 0 none (final_echo attested) (good_stays_good four begun 2 0 none (final_echo attested) refl)
