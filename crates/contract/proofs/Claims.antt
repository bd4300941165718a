-- The claims of specs/Claims.antt, each proved, and instances that compute.
use mathlib.Core.Bool.{Bool, true, false, cond}
use mathlib.Core.Logic.{◌⊎◌, inl, inr}
use mathlib.Core.List.{List, [], ◌∷◌}
use mathlib.Core.Path.{◌≡◌, refl, sym, ap, ◌∙◌}
use Prim.Native.Nat.{ℕ, ◌+◌, ◌*◌}
use native.Mathlib.Omega.{arith}
use borrow.Author.Tests.{ne_eqb}
use lib.Dec.{eqb}
use lib.IntN.{pos}
use lib.ListN.{length, length-map}
use lib.Seq.{get_or-set_same, get_or-set_other}
use Rattle.config.specs.Limits.{members, most_deposits}
use Rattle.config.specs.Codes.{is_done}
use Rattle.config.specs.Answers as answer
use Rattle.config.specs.declared.Commit.{Commit}
use Rattle.wire.specs.Numbers.{be_from, be_number, be_bytes}
use Rattle.quorum.specs.First.{first_at}
use Rattle.quorum.proofs.Cases.{either}
use Rattle.frame.specs.Message.{Observation, Attested, blank}
use Rattle.frame.specs.Table.{table, shape_of, body_length}
use Rattle.frame.specs.Encode.{observation_bytes, signer_bytes, flat, head_bytes, counted_bytes, attested_bytes}
use Rattle.frame.specs.Decode.{entries, attested_in, message_of}
use Rattle.frame.specs.Range.{all_members}
use Rattle.frame.specs.Check.{body_answer}
use Rattle.report.specs.Stands.{not_falling, list_fault, bits_fault, repeat_fault, signers_fault, attested_fault}
use Rattle.frame.proofs.Checked.{checked_final}
use Rattle.frame.proofs.Ranges.{entries_members, attested_parts}
use Rattle.report.specs.Newer.{newer}
use Rattle.report.specs.Claims.{BetweenGood}
use Rattle.report.proofs.Order.{not_older_trans}
use Rattle.report.proofs.Stands.{list_fault_nothing, attested_fault_nothing}
use Rattle.report.proofs.Claims.{median_is_between_good}
use Rattle.ledger.specs.declared.Account.{Account}
use Rattle.ledger.specs.declared.Ledger.{Ledger}
use Rattle.ledger.specs.Ledger.{no_money, emptied, account_at, balances, paid_out, depositing, withdrawing, empty_ledger, covered, earning}
use Rattle.ledger.proofs.Sums.{paid_credited}
use Rattle.contract.specs.declared.Terms.{Terms}
use Rattle.contract.specs.declared.Contract.{Contract}
use Rattle.contract.specs.State.{good_contract, fresh_contract, place_of, good_terms}
use Rattle.contract.specs.Calls.{answer_of, after_report, after_old, after_range, refusal_of, earning_all, paying, accepting, with_ledger, deposit_answer, withdraw_answer, submitted_of, deposited_of, withdrawn_of}
use Rattle.contract.specs.History.{Call, submits, deposits, withdraws, after, run, pays_in, pays_out, paid_in, payments}
use Rattle.contract.specs.Claims.{DepositsAddUp, RecordsTheHistory, Recorded, OneResult, RefusalChangesNothing, FreshIsGood, GoodStaysGood, RefusedIsNoContract, answered, Accepted, AcceptedPassed, AcceptedMedianIsBetweenGood, DoneSetsTheCommit, NotOlder, CommitOnlyRises, TermsStay, ExactFees, FeesOutOfTheFund, PaysTheBalance, WithdrawalPaysTheBalance}
use Rattle.contract.proofs.Facts.{contract_facts, good_contract_lem, deposit_passed, withdraw_place, submit_passed}
use Rattle.contract.proofs.Fees.{listed_in, fund_all}
use Rattle.contract.proofs.Moves.{Moved, moved_none, moved_then, deposit_moved, withdraw_moved, submit_ready, ready_listed, submit_moved}
use Rattle.contract.proofs.Shares.{earn_share, earn_all_share, earn_all_paid}

pub refusal_changes_nothing : RefusalChangesNothing
unfolding submitted_of deposited_of withdrawn_of
refusal_changes_nothing c =
    record {
      submit = λ body transmitter time bits h. rw h;
      deposit = λ amount h. rw h;
      withdraw = λ member h. (rw h, rw h);
    }

pub one_result : OneResult
one_result c t =
    record {
      made = λ r r' e e'. e ∙ sym e';
      submit = λ body transmitter time bits r r' e e'. e ∙ sym e';
      deposit = λ amount r r' e e'. e ∙ sym e';
      withdraw = λ member r r' e e'. e ∙ sym e';
    }

-- terms out of range are a state out of range
terms_refused : (t : Terms) → good_terms t ≡ false → good_contract (fresh_contract t) ≡ false
unfolding good_contract
terms_refused t h = rw h

pub refused_is_no_contract : RefusedIsNoContract
unfolding submitted_of refusal_of deposited_of deposit_answer withdrawn_of withdraw_answer
refused_is_no_contract t (submits body transmitter time bits) h = rw (terms_refused t h, answered)
refused_is_no_contract t (deposits amount) h = rw (terms_refused t h, answered)
refused_is_no_contract t (withdraws member) h = rw (terms_refused t h, answered)

pub accepted_passed : AcceptedPassed
unfolding submitted_of
accepted_passed c body transmitter time bits h =
    let p = (submit_passed c body transmitter time bits h).range in
    record { stands = p.stands; rises = p.rises }

-- an accepted report passed the checks of its list, and it is the list's median that is set
pub accepted_median_is_between_good : AcceptedMedianIsBetweenGood
unfolding submitted_of accepting
accepted_median_is_between_good c body transmitter time bits bad few h =
    let a = attested_in body in
    let p = submit_passed c body transmitter time bits h in
    let stands = (attested_fault_nothing c.terms.f bits a p.range.stands).0 in
    let listed = (attested_parts c.terms.n a (checked_final c.terms.n body p.body_good).good).1 in
    let range = entries_members c.terms.n (λ (o : Observation). o.member) a.list listed in
    rw h (median_is_between_good c.terms.n c.terms.f a.list bad stands range few)

-- money moves and the commit stays
same_commit : (b : Bool) (c : Contract) (l : Ledger) → (cond b (with_ledger c l) c).commit ≡ c.commit
same_commit true c l = refl
same_commit false c l = refl

pub done_sets_the_commit : DoneSetsTheCommit
unfolding submitted_of accepting
done_sets_the_commit c body transmitter time bits h = rw h

rises_once : (c : Contract) (call : Call) → NotOlder c (after c call)
unfolding submitted_of deposited_of withdrawn_of accepting
rises_once c (submits body transmitter time bits) = go (is_done (answer_of (refusal_of c body transmitter time bits))) refl
  where
    go : (b : Bool) → is_done (answer_of (refusal_of c body transmitter time bits)) ≡ b → ((cond b (accepting c (attested_in body) transmitter time) c).commit ≡ c.commit) ⊎ (newer (cond b (accepting c (attested_in body) transmitter time) c).commit.epoch (cond b (accepting c (attested_in body) transmitter time) c).commit.round c.commit.epoch c.commit.round ≡ true)
    go true e = inr (submit_passed c body transmitter time bits e).range.rises
    go false e = inl refl
rises_once c (deposits amount) = inl (same_commit (is_done (deposit_answer c amount)) c (depositing c.ledger amount))
rises_once c (withdraws member) = inl (same_commit (is_done (withdraw_answer c member)) c (withdrawing c.ledger (place_of member)))

pub commit_only_rises : CommitOnlyRises
unfolding run
commit_only_rises c [] = inl refl
commit_only_rises c (call ∷ calls) =
    not_older_trans (λ (k : Commit). k.epoch) (λ (k : Commit). k.round) c.commit (after c call).commit (run (after c call) calls).commit (rises_once c call) (commit_only_rises (after c call) calls)

abbrev SameTerms : Contract → Contract → Type 0
SameTerms c d = d.terms ≡ c.terms

-- whether a call is refused or not
pub terms_once : (c : Contract) (call : Call) → (after c call).terms ≡ c.terms
unfolding submitted_of deposited_of withdrawn_of accepting
terms_once c (submits body transmitter time bits) = either (SameTerms c) (is_done (answer_of (refusal_of c body transmitter time bits))) _ _ (λ _. refl) (λ _. refl)
terms_once c (deposits amount) = either (SameTerms c) (is_done (deposit_answer c amount)) _ _ (λ _. refl) (λ _. refl)
terms_once c (withdraws member) = either (SameTerms c) (is_done (withdraw_answer c member)) _ _ (λ _. refl) (λ _. refl)

pub terms_stay : TermsStay
unfolding run
terms_stay c [] = refl
terms_stay c (call ∷ calls) = terms_stay (after c call) calls ∙ terms_once c call

-- ---- sums

moved_call : (c : Contract) (call : Call) → length c.ledger.accounts ≡ members → Moved c.ledger (after c call).ledger (pays_in c call) (pays_out c call)
unfolding submitted_of deposited_of withdrawn_of accepting
moved_call c (submits body transmitter time bits) long = go (is_done (answer_of (refusal_of c body transmitter time bits))) refl
  where
    go : (b : Bool) → is_done (answer_of (refusal_of c body transmitter time bits)) ≡ b → Moved c.ledger (cond b (accepting c (attested_in body) transmitter time) c).ledger 0 0
    go true e = submit_moved c body transmitter time bits long e
    go false e = moved_none c.ledger
moved_call c (deposits amount) long = go (is_done (deposit_answer c amount)) refl
  where
    go : (b : Bool) → is_done (deposit_answer c amount) ≡ b → Moved c.ledger (cond b (with_ledger c (depositing c.ledger amount)) c).ledger (cond b amount 0) 0
    go true e = deposit_moved c.ledger amount
    go false e = moved_none c.ledger
moved_call c (withdraws member) long = go (is_done (withdraw_answer c member)) refl
  where
    go : (b : Bool) → is_done (withdraw_answer c member) ≡ b → Moved c.ledger (cond b (with_ledger c (withdrawing c.ledger (place_of member))) c).ledger 0 (cond b (account_at c.ledger.accounts (place_of member)).balance 0)
    go true e = withdraw_moved c member long e
    go false e = moved_none c.ledger

moved_run : (c : Contract) (calls : List Call) → length c.ledger.accounts ≡ members → Moved c.ledger (run c calls).ledger (paid_in c calls) (payments c calls)
unfolding run paid_in payments
moved_run c [] long = moved_none c.ledger
moved_run c (call ∷ calls) long =
    let m = moved_call c call long in
    moved_then m (moved_run (after c call) calls (m.long ∙ long))

pub records_the_history : RecordsTheHistory
records_the_history c calls long = let m = moved_run c calls long in record { deposits = m.deposits; paid = m.paid }

pub deposits_add_up : DepositsAddUp
unfolding balances paid_out
deposits_add_up t calls = let m = moved_run (fresh_contract t) calls refl in omega arith

-- ---- goodness

pub fresh_is_good : FreshIsGood
unfolding balances paid_out
fresh_is_good t h = good_contract_lem (fresh_contract t) (record { terms = h; commit = refl; deposits = omega arith; covers = omega arith })

pub good_stays_good : GoodStaysGood
unfolding submitted_of deposited_of withdrawn_of accepting
good_stays_good c (submits body transmitter time bits) long h = go (is_done (answer_of (refusal_of c body transmitter time bits))) refl
  where
    go : (b : Bool) → is_done (answer_of (refusal_of c body transmitter time bits)) ≡ b → good_contract (cond b (accepting c (attested_in body) transmitter time) c) ≡ true
    go true e =
        let g = contract_facts c h in
        let p = submit_passed c body transmitter time bits e in
        let m = submit_moved c body transmitter time bits long e in
        let r = (checked_final c.terms.n body p.body_good).head.range in
        good_contract_lem
        (accepting c (attested_in body) transmitter time)
        (record {
          terms = g.terms;
          commit = rw (ne_eqb (attested_in body).epoch 0 (λ z. omega arith), ne_eqb (attested_in body).round 0 (λ z. omega arith), p.time_good);
          deposits = omega arith;
          covers = omega arith;
        })
    go false e = h
good_stays_good c (deposits amount) long h = go (is_done (deposit_answer c amount)) refl
  where
    go : (b : Bool) → is_done (deposit_answer c amount) ≡ b → good_contract (cond b (with_ledger c (depositing c.ledger amount)) c) ≡ true
    go true e =
        let g = contract_facts c h in
        let p = deposit_passed c amount e in
        good_contract_lem (with_ledger c (depositing c.ledger amount)) (record { terms = g.terms; commit = g.commit; deposits = p.1; covers = omega arith })
    go false e = h
good_stays_good c (withdraws member) long h = go (is_done (withdraw_answer c member)) refl
  where
    go : (b : Bool) → is_done (withdraw_answer c member) ≡ b → good_contract (cond b (with_ledger c (withdrawing c.ledger (place_of member))) c) ≡ true
    go true e =
        let g = contract_facts c h in
        let m = withdraw_moved c member long e in
        good_contract_lem (with_ledger c (withdrawing c.ledger (place_of member))) (record { terms = g.terms; commit = g.commit; deposits = omega arith; covers = omega arith })
    go false e = h

-- ---- fees

pub exact_fees : ExactFees
unfolding submitted_of accepting paying
exact_fees c body transmitter time bits member long low high h =
    let listed = listed_in body in
    let fee = c.terms.observation_fee in
    let r = submit_ready c body transmitter time bits long h in
    let a = ready_listed c listed transmitter r in
    let stands = (submit_passed c body transmitter time bits h).range.stands in
    let apart = (list_fault_nothing c.terms.f (attested_in body).list (attested_fault_nothing c.terms.f bits (attested_in body) stands).0).2 in
    let all = earn_all_share c.ledger listed fee c.terms.n member r.few r.good.deposits r.good.covers r.each (omega arith) apart low in
    let sent = earn_share (earning_all c.ledger listed fee) transmitter c.terms.sending_fee member (omega arith) (omega arith) low r.own.some (omega arith) a.fund in
    rw h (omega arith)

pub fees_out_of_the_fund : FeesOutOfTheFund
unfolding submitted_of accepting paying earning
fees_out_of_the_fund c body transmitter time bits long h =
    let listed = listed_in body in
    let fee = c.terms.observation_fee in
    let r = submit_ready c body transmitter time bits long h in
    let m = submit_moved c body transmitter time bits long h in
    let left = fund_all c.ledger listed fee (omega arith) in
    let count = ap (λ (k : ℕ). k * fee) (length-map (attested_in body).list (λ (o : Observation). o.member)) in
    record {
      fund = rw h (omega arith);
      deposits = rw h (omega arith);
      paid = λ place. rw h (paid_credited (earning_all c.ledger listed fee).accounts (place_of transmitter) place c.terms.sending_fee ∙ earn_all_paid c.ledger listed fee place);
    }

-- ---- withdrawals

pub withdrawal_pays_the_balance : WithdrawalPaysTheBalance
unfolding withdrawn_of withdrawing
withdrawal_pays_the_balance c member long h =
    let k = withdraw_place c member h in
    let accounts = c.ledger.accounts in
    let after = emptied (account_at accounts (place_of member)) in
    record {
      whole_balance = rw h;
      emptied_then = rw h (ap (λ (a : Account). a.balance) (get_or-set_same accounts (place_of member) after no_money (omega arith)));
      others = λ place apart. rw h (get_or-set_other accounts (place_of member) place after no_money apart);
      fund = rw h;
    }

-- ---- instances: n = 4 and f = 1, with 2 for an observation and 3 for sending

abbrev four : Terms
four = record { observation_fee = 2; sending_fee = 3; n = 4; f = 1 }

-- members 1, 2 and 3 are listed, and 1 is the transmitter
hundred_shared : let l = paying four (depositing empty_ledger 100) (1 ∷ 2 ∷ 3 ∷ []) 1 in (l.fund ≡ 91) × ((account_at l.accounts (place_of 1)).balance ≡ 5) × ((account_at l.accounts (place_of 3)).balance ≡ 2) × ((account_at l.accounts (place_of 4)).balance ≡ 0)
unfolding paying earning_all earning
hundred_shared = (refl, refl, refl, refl)

-- a deposit, one above the limit, which is refused, and a withdrawal by a member, and by none
abbrev history : List Call
history = deposits 100 ∷ deposits most_deposits ∷ withdraws 4 ∷ withdraws 5 ∷ []

history_answers : let c = run (fresh_contract four) history in (c.ledger.deposits ≡ 100) × ((deposited_of c most_deposits).answer ≡ answer.Range) × ((withdrawn_of c 4).answer ≡ answer.Done) × ((withdrawn_of c 5).answer ≡ answer.Sender)
unfolding run deposited_of deposit_answer withdrawn_of withdraw_answer withdrawing good_contract good_terms covered balances paid_out
history_answers = (refl, refl, refl, refl)

hundred_adds_up : let c = run (fresh_contract four) history in 100 ≡ c.ledger.fund + balances c.ledger.accounts + payments (fresh_contract four) history
unfolding paid_in run deposited_of deposit_answer withdrawn_of withdraw_answer withdrawing good_contract good_terms covered balances paid_out
hundred_adds_up = deposits_add_up four history

hundred_good : good_contract (run (fresh_contract four) history) ≡ true
unfolding run deposited_of deposit_answer withdrawn_of withdraw_answer withdrawing good_contract good_terms covered balances paid_out
hundred_good = refl

-- a report of 100, 105 and 9000 by members 1, 2 and 3, signed by 1 and 2, for epoch 7, round 1
abbrev three : Attested
three =
    record {
      epoch = 7;
      round = 1;
      list = record { member = 1; value = pos 100 } ∷ record { member = 2; value = pos 105 } ∷ record { member = 3; value = pos 9000 } ∷ [];
      signers = record { member = 1; signature = blank } ∷ record { member = 2; signature = blank } ∷ [];
    }

-- member 1 submits it at time 5: it is accepted, 105 is published, and the fees are paid; a second time it is old
three_accepted : let c = submitted_of (run (fresh_contract four) history) (attested_bytes three) 1 5 3 in (c.answer ≡ answer.Done) × (c.contract.commit.median ≡ pos 105) × (c.contract.ledger.fund ≡ 91) × ((submitted_of c.contract (attested_bytes three) 1 6 3).answer ≡ answer.Old)
unfolding run deposited_of deposit_answer withdrawn_of withdraw_answer withdrawing good_contract good_terms covered balances paid_out submitted_of refusal_of after_range after_old after_report accepting paying earning_all earning attested_bytes head_bytes counted_bytes flat observation_bytes signer_bytes be_bytes be_number be_from entries body_answer body_length shape_of table message_of all_members attested_fault list_fault signers_fault repeat_fault bits_fault not_falling first_at
three_accepted = (refl, refl, refl, refl)

-- ---- an instance of each claim

abbrev before : Contract
before = run (fresh_contract four) history

-- three of four members may not be faulty
none_made : (call : Call) → answered (fresh_contract (record { observation_fee = 2; sending_fee = 3; n = 4; f = 3 })) call ≡ answer.State
unfolding good_terms
none_made call = refused_is_no_contract (record { observation_fee = 2; sending_fee = 3; n = 4; f = 3 }) call refl

four_good : good_contract (fresh_contract four) ≡ true
unfolding good_terms
four_good = fresh_is_good four refl

history_recorded : Recorded (fresh_contract four) history
history_recorded = records_the_history (fresh_contract four) history refl

history_terms : before.terms ≡ four
history_terms = terms_stay (fresh_contract four) history

five_paid_nothing : ((withdrawn_of before 5).contract ≡ before) × ((withdrawn_of before 5).amount ≡ 0)
five_paid_nothing = (refusal_changes_nothing before).withdraw 5 (ap is_done history_answers.3)

three_done : is_done (submitted_of before (attested_bytes three) 1 5 3).answer ≡ true
three_done = ap is_done three_accepted.0

three_passed : Accepted before (attested_bytes three) 3
three_passed = accepted_passed before (attested_bytes three) 1 5 3 three_done

-- member 3 is called bad: 105, which is published, lies between the values of two listed members that are not member 3
three_between_good : BetweenGood (λ x. eqb x 3) three.list (pos 105)
unfolding attested_bytes head_bytes counted_bytes flat observation_bytes signer_bytes be_bytes be_number be_from entries shape_of table
three_between_good =
    rw three_accepted.1 at (accepted_median_is_between_good before (attested_bytes three) 1 5 3 (λ x. eqb x 3) (rw history_terms (omega arith)) three_done)

-- the contract after it
abbrev later : Contract
later = after before (submits (attested_bytes three) 1 5 3)

later_commit : later.commit ≡ record { median = pos 105; time = 5; epoch = 7; round = 1 }
unfolding attested_bytes head_bytes counted_bytes flat observation_bytes signer_bytes be_bytes be_number be_from entries shape_of table
later_commit = done_sets_the_commit before (attested_bytes three) 1 5 3 three_done

later_rises : NotOlder before (run before (submits (attested_bytes three) 1 5 3 ∷ []))
later_rises = commit_only_rises before (submits (attested_bytes three) 1 5 3 ∷ [])

before_long : length before.ledger.accounts ≡ members
before_long = (moved_run (fresh_contract four) history refl).long

later_good : good_contract later ≡ true
later_good = good_stays_good before (submits (attested_bytes three) 1 5 3) before_long hundred_good

-- member 1 observed and sent it, member 4 did neither
later_balances : ((account_at later.ledger.accounts (place_of 1)).balance ≡ 5) × ((account_at later.ledger.accounts (place_of 4)).balance ≡ 0)
unfolding run deposited_of deposit_answer withdrawn_of withdraw_answer withdrawing good_contract good_terms covered balances paid_out attested_bytes head_bytes counted_bytes flat observation_bytes signer_bytes be_bytes be_number be_from entries shape_of table
later_balances =
    (exact_fees before (attested_bytes three) 1 5 3 1 before_long (omega arith) (omega arith) three_done, exact_fees before (attested_bytes three) 1 5 3 4 before_long (omega arith) (omega arith) three_done)

-- three observations and the sending cost 9 of the 100, and nobody is paid yet
later_fund : (later.ledger.fund + 9 ≡ 100) × (later.ledger.deposits ≡ 100) × ((account_at later.ledger.accounts (place_of 1)).paid ≡ 0)
unfolding run deposited_of deposit_answer withdrawn_of withdraw_answer withdrawing good_contract good_terms covered balances paid_out attested_bytes head_bytes counted_bytes flat observation_bytes signer_bytes be_bytes be_number be_from entries shape_of table
later_fund =
    let o = fees_out_of_the_fund before (attested_bytes three) 1 5 3 before_long three_done in
    (o.fund, o.deposits, o.paid (place_of 1))

-- member 1 is paid its 5, and the others keep theirs
later_withdraws : is_done (withdrawn_of later 1).answer ≡ true
unfolding run deposited_of deposit_answer withdrawn_of withdraw_answer withdrawing good_contract good_terms covered balances paid_out submitted_of refusal_of after_range after_old after_report accepting paying earning_all earning attested_bytes head_bytes counted_bytes flat observation_bytes signer_bytes be_bytes be_number be_from entries body_answer body_length shape_of table message_of all_members attested_fault list_fault signers_fault repeat_fault bits_fault not_falling first_at
later_withdraws = refl

later_pays : PaysTheBalance later 1
later_pays = withdrawal_pays_the_balance later 1 ((moved_call before (submits (attested_bytes three) 1 5 3) before_long).long ∙ before_long) later_withdraws
