-- Document 01, "Contract" and "Codes": what each call answers, in the order of its codes, and what it does.
use Rattle.std.specs.Prelude.{Result, Ok, Err, not, cond, List, [], ◌∷◌, ℕ, ◌+◌, ◌*◌, ltb, length}
use Rattle.config.specs.Limits.{most_deposits}
use Rattle.config.specs.Bounds.{good_own, good_time}
use Rattle.config.specs.Codes.{is_done, making}
use Rattle.config.specs.Answers.{Answer}
use Rattle.config.specs.Answers as answer
use Rattle.config.specs.declared.Refusal.TheVariants as refusal
use Rattle.price.specs.Median.{median_of}
use Rattle.frame.specs.Message.{Attested}
use Rattle.frame.specs.Decode.{attested_in}
use Rattle.frame.specs.Check.{body_answer}
use Rattle.report.specs.Faults.{Standing, Nothing, code_of}
use Rattle.report.specs.Stands.{members_of, values_of, attested_fault}
use Rattle.report.specs.Newer.{newer}
use Rattle.ledger.specs.declared.Ledger.{Ledger}
use Rattle.ledger.specs.Ledger.{account_at, depositing, earning, withdrawing}
use Rattle.contract.specs.declared.Terms.{Terms}
use Rattle.contract.specs.declared.Contract.{Contract}
use Rattle.contract.specs.declared.Answered.{Answered}
use Rattle.contract.specs.declared.Rejection.{Rejection}
use Rattle.contract.specs.declared.Rejection.TheVariants.{Plain, Wrong}
use Rattle.contract.specs.declared.Submitted.{Submitted}
use Rattle.contract.specs.declared.Withdrawn.{Withdrawn}
use Rattle.contract.specs.State.{good_terms, good_contract, fresh_contract, place_of}

-- ---- making one: "Making a fresh state: 12."

unfoldable pub made_of : Terms → Answered
made_of t = record { answer = making (good_terms t); contract = fresh_contract t }

-- ---- submission: 2, 8, 9, 13, 14, 15, 16, 17, 7, 18

-- what a report of m observations costs: the observation fee for each listed member, and the sending fee
abbrev pub cost : Terms → ℕ → ℕ
cost t m = m * t.observation_fee + t.sending_fee

-- whether a submission is accepted, and else why not
abbrev pub Checked : Type 0
Checked = Result (Unit {0}) Rejection

-- what it is answered, and what is told to be wrong with its report
abbrev pub answer_of : Checked → Answer
answer_of (Ok accepted) = answer.Done
answer_of (Err (Plain r)) = Err r
answer_of (Err (Wrong x)) = code_of (Err x)

abbrev pub fault_of : Checked → Standing
fault_of (Ok accepted) = Nothing
fault_of (Err (Plain r)) = Nothing
fault_of (Err (Wrong x)) = Err x

-- 7: "a paid member or transmitter outside 1 to n"; 18: "fund below what the report costs"
unfoldable pub after_report : Contract → ℕ → ℕ → Checked
after_report c m transmitter =
    cond (not (good_own c.terms.n transmitter)) (Err (Plain refusal.Sender))
    (cond (ltb c.ledger.fund (cost c.terms m)) (Err (Plain refusal.Funds)) (Ok tt))

-- a report's fault, or what the checks after it say; "First match wins."
abbrev pub unless_wrong : Standing → Checked → Checked
unless_wrong (Ok stands) later = later
unless_wrong (Err x) later = Err (Wrong x)

-- 14 to 17
unfoldable pub after_old : Contract → Attested → ℕ → ℕ → Checked
after_old c a transmitter bits = unless_wrong (attested_fault c.terms.f bits a) (after_report c (length a.list) transmitter)

-- 13: "report not newer"
unfoldable pub after_range : Contract → Attested → ℕ → ℕ → Checked
after_range c a transmitter bits =
    cond (not (newer a.epoch a.round c.commit.epoch c.commit.round)) (Err (Plain refusal.Old)) (after_old c a transmitter bits)

-- a refusal, or what the checks after it say
abbrev pub unless_refused : Answer → Checked → Checked
unless_refused (Ok done) later = later
unless_refused (Err r) later = Err (Plain r)

-- 2, then 8 and 9 of the body, then 9 of the time
unfoldable pub refusal_of : Contract → List ℕ → ℕ → ℕ → ℕ → Checked
refusal_of c body transmitter time bits =
    cond (not (good_contract c)) (Err (Plain refusal.State))
    (unless_refused (body_answer c.terms.n 6 body)
    (cond (not (good_time time)) (Err (Plain refusal.Range)) (after_range c (attested_in body) transmitter bits)))

-- an amount is earned by each of these members
unfoldable pub earning_all : Ledger → List ℕ → ℕ → Ledger
earning_all l [] amount = l
earning_all l (member ∷ rest) amount = earning_all (earning l (place_of member) amount) rest amount

-- "Each listed member earns the observation fee, the transmitter the sending fee as well, out of the fund."
unfoldable pub paying : Terms → Ledger → List ℕ → ℕ → Ledger
paying t l listed transmitter = earning (earning_all l listed t.observation_fee) (place_of transmitter) t.sending_fee

-- "DONE sets epoch, round, median and time."
unfoldable pub accepting : Contract → Attested → ℕ → ℕ → Contract
accepting c a transmitter time =
    record {
      ledger = paying c.terms c.ledger (members_of a.list) transmitter;
      commit = record { median = median_of (values_of a.list); time = time; epoch = a.epoch; round = a.round };
      terms = c.terms;
    }

unfoldable pub submitted_of : Contract → List ℕ → ℕ → ℕ → ℕ → Submitted
submitted_of c body transmitter time bits =
    let checked = refusal_of c body transmitter time bits in
    record { answer = answer_of checked; fault = fault_of checked; contract = cond (is_done (answer_of checked)) (accepting c (attested_in body) transmitter time) c }

-- ---- deposit: 2, 9

abbrev pub with_ledger : Contract → Ledger → Contract
with_ledger c ledger = record { ledger = ledger; commit = c.commit; terms = c.terms }

-- 9: "a sum outside its range"
unfoldable pub deposit_answer : Contract → ℕ → Answer
deposit_answer c amount =
    cond (not (good_contract c)) answer.State (cond (ltb most_deposits (c.ledger.deposits + amount)) answer.Range answer.Done)

unfoldable pub deposited_of : Contract → ℕ → Answered
deposited_of c amount =
    let a = deposit_answer c amount in
    record { answer = a; contract = cond (is_done a) (with_ledger c (depositing c.ledger amount)) c }

-- ---- withdrawal: 2, 7

unfoldable pub withdraw_answer : Contract → ℕ → Answer
withdraw_answer c member =
    cond (not (good_contract c)) answer.State (cond (not (good_own c.terms.n member)) answer.Sender answer.Done)

-- "Withdrawal pays the whole balance."
unfoldable pub withdrawn_of : Contract → ℕ → Withdrawn
withdrawn_of c member =
    let a = withdraw_answer c member in
    record {
      answer = a;
      amount = cond (is_done a) (account_at c.ledger.accounts (place_of member)).balance 0;
      contract = cond (is_done a) (with_ledger c (withdrawing c.ledger (place_of member))) c;
    }
