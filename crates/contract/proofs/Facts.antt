-- What the checks of terms, states and calls tell, as plain facts for whoever passed them.
use mathlib.Core.Bool.{true, false, not, cond, ◌&&◌, false≢true}
use mathlib.Core.List.{List}
use mathlib.Core.Path.{◌≡◌, refl, sym, ap, ◌∙◌}
use Prim.Native.Nat.{ℕ, ◌+◌, ◌≤◌, ◌<◌}
use native.Mathlib.Omega.{arith}
use borrow.Author.Tests.{leb-true, le-leb, ltb-false, not-false}
use lib.Dec.{leb, ltb}
use lib.ListN.{length, drop}
use Rattle.std.specs.Prelude.{Ok, Err}
use Rattle.config.specs.Limits.{members, most_fee, most_deposits}
use Rattle.config.specs.Bounds.{good_members, good_own, good_time, good_commit}
use Rattle.config.specs.Codes.{is_done}
use Rattle.config.specs.Answers.{Answer}
use Rattle.config.specs.Answers as answer
use Rattle.config.specs.declared.Refusal.TheVariants as refusal
use Rattle.config.proofs.Facts.{and-true, Members, members_facts, Own, own_facts}
use Rattle.config.proofs.Passed.{itself, stage_passed}
use Rattle.ledger.specs.Ledger.{owed, covered}
use Rattle.contract.specs.declared.Terms.{Terms}
use Rattle.contract.specs.declared.Contract.{Contract}
use Rattle.contract.specs.State.{good_terms, good_contract, place_of}
use Rattle.frame.specs.Message.{Attested}
use Rattle.frame.specs.Table.{shape_of}
use Rattle.frame.specs.Decode.{count_in, list_place, observation_at, attested_in}
use Rattle.frame.specs.Check.{body_answer}
use Rattle.frame.proofs.Entries.{length_entries}
use Rattle.report.specs.Faults.{Standing, Nothing}
use Rattle.report.specs.Stands.{attested_fault}
use Rattle.report.specs.Newer.{newer}
use Rattle.report.proofs.Faults.{wrong_code}
use Rattle.contract.specs.declared.Rejection.{Rejection}
use Rattle.contract.specs.declared.Rejection.TheVariants.{Plain, Wrong}
use Rattle.contract.specs.Payable.{Payable}
use Rattle.contract.specs.Calls.{cost, Checked, answer_of, after_report, unless_wrong, after_old, after_range, unless_refused, refusal_of, deposit_answer, withdraw_answer}

-- ---- terms and states

pub record TermsGood (t : Terms) : Type 0 where
  pub members : Members t.n t.f
  pub observation_fee : t.observation_fee ≤ most_fee
  pub sending_fee : t.sending_fee ≤ most_fee

pub terms_facts : (t : Terms) → good_terms t ≡ true → TermsGood t
unfolding good_terms
terms_facts t h =
    let p = and-true (good_members t.n t.f && leb t.observation_fee most_fee) (leb t.sending_fee most_fee) h in
    let q = and-true (good_members t.n t.f) (leb t.observation_fee most_fee) p.0 in
    record { members = members_facts t.n t.f q.0; observation_fee = leb-true _ _ q.1; sending_fee = leb-true _ _ p.1 }

pub record ContractGood (c : Contract) : Type 0 where
  pub terms : good_terms c.terms ≡ true
  pub commit : good_commit c.commit ≡ true
  pub deposits : c.ledger.deposits ≤ most_deposits
  pub covers : owed c.ledger ≤ c.ledger.deposits

pub contract_facts : (c : Contract) → good_contract c ≡ true → ContractGood c
unfolding good_contract covered
contract_facts c h =
    let p = and-true (good_terms c.terms && good_commit c.commit && leb c.ledger.deposits most_deposits) (covered c.ledger) h in
    let q = and-true (good_terms c.terms && good_commit c.commit) (leb c.ledger.deposits most_deposits) p.0 in
    let r = and-true (good_terms c.terms) (good_commit c.commit) q.0 in
    record { terms = r.0; commit = r.1; deposits = leb-true _ _ q.1; covers = leb-true _ _ p.1 }

pub good_contract_lem : (c : Contract) → ContractGood c → good_contract c ≡ true
unfolding good_contract covered
good_contract_lem c g = rw (g.terms, g.commit, le-leb c.ledger.deposits most_deposits g.deposits, le-leb (owed c.ledger) c.ledger.deposits g.covers)

-- ---- answers

pub deposit_passed : (c : Contract) (amount : ℕ) → is_done (deposit_answer c amount) ≡ true → (good_contract c ≡ true) × (c.ledger.deposits + amount ≤ most_deposits)
unfolding deposit_answer
deposit_passed c amount h =
    let p = stage_passed itself (not (good_contract c)) answer.State (cond (ltb most_deposits (c.ledger.deposits + amount)) answer.Range answer.Done) refl h in
    let q = stage_passed itself (ltb most_deposits (c.ledger.deposits + amount)) answer.Range answer.Done refl p.1 in
    (not-false _ p.0, ltb-false _ _ q.0)

pub withdraw_passed : (c : Contract) (member : ℕ) → is_done (withdraw_answer c member) ≡ true → (good_contract c ≡ true) × Own c.terms.n member
unfolding withdraw_answer
withdraw_passed c member h =
    let p = stage_passed itself (not (good_contract c)) answer.State (cond (not (good_own c.terms.n member)) answer.Sender answer.Done) refl h in
    let q = stage_passed itself (not (good_own c.terms.n member)) answer.Sender answer.Done refl p.1 in
    (not-false _ p.0, own_facts c.terms.n member (not-false _ q.0))

-- what is left for a deposit
pub deposits_within : (c : Contract) → good_contract c ≡ true → c.ledger.deposits ≤ most_deposits
deposits_within c h = (contract_facts c h).deposits

-- no sum of a deposit wraps
pub deposit_room : (c : Contract) (amount : ℕ) → is_done (deposit_answer c amount) ≡ true → (c.ledger.fund + amount < 18446744073709551616) × (c.ledger.deposits + amount < 18446744073709551616)
deposit_room c amount h =
    let p = deposit_passed c amount h in
    let g = contract_facts c p.0 in
    (omega arith, omega arith)

-- a withdrawal pays the balance of one of the accounts
pub withdraw_place : (c : Contract) (member : ℕ) → is_done (withdraw_answer c member) ≡ true → (1 ≤ member) × (place_of member < members)
withdraw_place c member h =
    let p = withdraw_passed c member h in
    let t = terms_facts c.terms (contract_facts c p.0).terms in
    (p.1.some, omega arith)

-- ---- submissions

pub record ReportPassed (c : Contract) (m transmitter : ℕ) : Type 0 where
  pub own : Own c.terms.n transmitter
  pub fund : cost c.terms m ≤ c.ledger.fund

report_passed : (c : Contract) (m transmitter : ℕ) → is_done (answer_of (after_report c m transmitter)) ≡ true → ReportPassed c m transmitter
unfolding after_report
report_passed c m transmitter h =
    let rest = cond (ltb c.ledger.fund (cost c.terms m)) (Err (Plain refusal.Funds)) (Ok tt) in
    let p = stage_passed answer_of (not (good_own c.terms.n transmitter)) (Err (Plain refusal.Sender)) rest refl h in
    let q = stage_passed answer_of (ltb c.ledger.fund (cost c.terms m)) (Err (Plain refusal.Funds)) (Ok tt) refl p.1 in
    record { own = own_facts c.terms.n transmitter (not-false _ p.0); fund = ltb-false _ _ q.0 }

pub record RangePassed (c : Contract) (a : Attested) (transmitter bits : ℕ) : Type 0 where
  pub rises : newer a.epoch a.round c.commit.epoch c.commit.round ≡ true
  pub stands : attested_fault c.terms.f bits a ≡ Nothing
  pub report : ReportPassed c (length a.list) transmitter

-- what is rejected is answered with another code than DONE
pub rejected_answer : (x : Rejection) → is_done (answer_of (Err x)) ≡ false
rejected_answer (Plain r) = refl
rejected_answer (Wrong x) = wrong_code x

-- what a check hands on unless it passes, and the checks after it
fault_passed : (x : Standing) (later : Checked) → is_done (answer_of (unless_wrong x later)) ≡ true → (x ≡ Nothing) × (is_done (answer_of later) ≡ true)
fault_passed (Ok tt) later h = (refl, h)
fault_passed (Err x) later h = absurd (false≢true (sym (rejected_answer (Wrong x)) ∙ h))

refused_passed : (said : Answer) (later : Checked) → is_done (answer_of (unless_refused said later)) ≡ true → (said ≡ answer.Done) × (is_done (answer_of later) ≡ true)
refused_passed (Ok tt) later h = (refl, h)
refused_passed (Err r) later h = absurd (false≢true h)

range_passed : (c : Contract) (a : Attested) (transmitter bits : ℕ) → is_done (answer_of (after_range c a transmitter bits)) ≡ true → RangePassed c a transmitter bits
unfolding after_range after_old
range_passed c a transmitter bits h =
    let p = stage_passed answer_of (not (newer a.epoch a.round c.commit.epoch c.commit.round)) (Err (Plain refusal.Old)) (after_old c a transmitter bits) refl h in
    let q = fault_passed (attested_fault c.terms.f bits a) (after_report c (length a.list) transmitter) p.1 in
    record { rises = not-false _ p.0; stands = q.0; report = report_passed c (length a.list) transmitter q.1 }

pub record SubmitPassed (c : Contract) (body : List ℕ) (transmitter time bits : ℕ) : Type 0 where
  pub good : good_contract c ≡ true
  pub body_good : body_answer c.terms.n 6 body ≡ answer.Done
  pub time_good : good_time time ≡ true
  pub range : RangePassed c (attested_in body) transmitter bits

pub submit_passed : (c : Contract) (body : List ℕ) (transmitter time bits : ℕ) → is_done (answer_of (refusal_of c body transmitter time bits)) ≡ true → SubmitPassed c body transmitter time bits
unfolding refusal_of
submit_passed c body transmitter time bits h =
    let last = cond (not (good_time time)) (Err (Plain refusal.Range)) (after_range c (attested_in body) transmitter bits) in
    let p = stage_passed answer_of (not (good_contract c)) (Err (Plain refusal.State)) (unless_refused (body_answer c.terms.n 6 body) last) refl h in
    let q = refused_passed (body_answer c.terms.n 6 body) last p.1 in
    let r = stage_passed answer_of (not (good_time time)) (Err (Plain refusal.Range)) (after_range c (attested_in body) transmitter bits) refl q.1 in
    record { good = not-false _ p.0; body_good = q.0; time_good = not-false _ r.0; range = range_passed c (attested_in body) transmitter bits r.1 }

-- what they leave to the payment
pub submit_payable : (c : Contract) (body : List ℕ) (transmitter time bits : ℕ) → refusal_of c body transmitter time bits ≡ Ok tt → Payable c transmitter body
submit_payable c body transmitter time bits e =
    let p = submit_passed c body transmitter time bits (ap (λ (x : Checked). is_done (answer_of x)) e) in
    let t = terms_facts c.terms (contract_facts c p.good).terms in
    let costs : cost c.terms (count_in body) ≤ c.ledger.fund = rw (length_entries observation_at (shape_of 6).entry (count_in body) (drop list_place body)) at p.range.report.fund in
    record {
      all = record { few = t.members.most; body_good = p.body_good; observation_fee = omega arith };
      first = p.range.report.own.some;
      last = p.range.report.own.most;
      costs = costs;
    }
