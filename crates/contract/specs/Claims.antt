-- What a reader may quote of the contract: each claim is a type, proved in `proofs/Claims.antt` or `proofs/Listed.antt`.
use Rattle.std.specs.Prelude.{◌≡◌, Bool, true, false, cond, ◌⊎◌, List, [], ◌∷◌, ℕ, ◌+◌, ◌≤◌, eqb, length}
use Rattle.config.specs.Limits.{members}
use Rattle.config.specs.Codes.{number_of, is_done}
use Rattle.config.specs.Answers.{Answer}
use Rattle.config.specs.Answers as answer
use Rattle.quorum.specs.Counts.{count_if}
use Rattle.quorum.specs.First.{among, members_to}
use Rattle.price.specs.Median.{median_of}
use Rattle.frame.specs.Decode.{attested_in}
use Rattle.report.specs.Faults as fault
use Rattle.report.specs.Stands.{members_of, values_of, attested_fault}
use Rattle.report.specs.Newer.{newer}
use Rattle.report.specs.Claims.{BetweenGood}
use Rattle.contract.specs.declared.Terms.{Terms}
use Rattle.contract.specs.declared.Contract.{Contract}
use Rattle.contract.specs.declared.Answered.{Answered}
use Rattle.contract.specs.declared.Submitted.{Submitted}
use Rattle.contract.specs.declared.Withdrawn.{Withdrawn}
use Rattle.contract.specs.State.{good_terms, good_contract, fresh_contract, place_of}
use Rattle.ledger.specs.Ledger.{account_at, balances, paid_out}
use Rattle.contract.specs.Calls.{cost, made_of, submitted_of, deposited_of, withdrawn_of}
use Rattle.contract.specs.History.{Call, submits, deposits, withdraws, after, run, paid_in, payments}

-- "Deposits in the history equal fund plus balances plus payments in the history." Of a fresh contract, after any calls, refused ones among them.
abbrev pub DepositsAddUp : Type 0
DepositsAddUp =
    (t : Terms) (calls : List Call) → let c = run (fresh_contract t) calls in paid_in (fresh_contract t) calls ≡ c.ledger.fund + balances c.ledger.accounts + payments (fresh_contract t) calls

-- And the contract's own records are those sums.
pub record Recorded (c : Contract) (calls : List Call) : Type 0 where
  pub deposits : (run c calls).ledger.deposits ≡ c.ledger.deposits + paid_in c calls
  pub paid : paid_out (run c calls).ledger.accounts ≡ paid_out c.ledger.accounts + payments c calls

abbrev pub RecordsTheHistory : Type 0
RecordsTheHistory = (c : Contract) (calls : List Call) → length c.ledger.accounts ≡ members → Recorded c calls

-- Each call ends with an answer that document 01 lists for it: a submission 0, 2, 8, 9, 13 to 17, 7 and 18, a deposit 0, 2 and 9, a withdrawal 0, 2 and 7; making a contract 0 and 12.
abbrev pub answered : Contract → Call → Answer
answered c (submits body transmitter time bits) = (submitted_of c body transmitter time bits).answer
answered c (deposits amount) = (deposited_of c amount).answer
answered c (withdraws member) = (withdrawn_of c member).answer

abbrev pub listed : Call → List ℕ
listed (submits body transmitter time bits) = 0 ∷ 2 ∷ 8 ∷ 9 ∷ 13 ∷ 14 ∷ 15 ∷ 16 ∷ 17 ∷ 7 ∷ 18 ∷ []
listed (deposits amount) = 0 ∷ 2 ∷ 9 ∷ []
listed (withdraws member) = 0 ∷ 2 ∷ 7 ∷ []

pub record Listed (c : Contract) (call : Call) (t : Terms) : Type 0 where
  pub call_listed : among (number_of (answered c call)) (listed call) ≡ true
  pub fresh : among (number_of (made_of t).answer) (0 ∷ 12 ∷ []) ≡ true

abbrev pub AnswersAreListed : Type 0
AnswersAreListed = (c : Contract) (call : Call) (t : Terms) → Listed c call t

-- What one promise allows is one result.
pub record OneEach (c : Contract) (t : Terms) : Type 0 where
  pub made : (r r' : Answered) → r ≡ made_of t → r' ≡ made_of t → r ≡ r'
  pub submit : (body : List ℕ) (transmitter time bits : ℕ) (r r' : Submitted) → r ≡ submitted_of c body transmitter time bits → r' ≡ submitted_of c body transmitter time bits → r ≡ r'
  pub deposit : (amount : ℕ) (r r' : Answered) → r ≡ deposited_of c amount → r' ≡ deposited_of c amount → r ≡ r'
  pub withdraw : (member : ℕ) (r r' : Withdrawn) → r ≡ withdrawn_of c member → r' ≡ withdrawn_of c member → r ≡ r'

abbrev pub OneResult : Type 0
OneResult = (c : Contract) (t : Terms) → OneEach c t

-- A refusal changes nothing, and pays nothing.
pub record Unchanged (c : Contract) : Type 0 where
  pub submit : (body : List ℕ) (transmitter time bits : ℕ) → is_done (submitted_of c body transmitter time bits).answer ≡ false → (submitted_of c body transmitter time bits).contract ≡ c
  pub deposit : (amount : ℕ) → is_done (deposited_of c amount).answer ≡ false → (deposited_of c amount).contract ≡ c
  pub withdraw : (member : ℕ) → is_done (withdrawn_of c member).answer ≡ false → ((withdrawn_of c member).contract ≡ c) × ((withdrawn_of c member).amount ≡ 0)

abbrev pub RefusalChangesNothing : Type 0
RefusalChangesNothing = (c : Contract) → Unchanged c

-- A contract made under good terms is good, and a call leaves a good contract good.
abbrev pub FreshIsGood : Type 0
FreshIsGood = (t : Terms) → good_terms t ≡ true → good_contract (fresh_contract t) ≡ true

abbrev pub GoodStaysGood : Type 0
GoodStaysGood = (c : Contract) (call : Call) → length c.ledger.accounts ≡ members → good_contract c ≡ true → good_contract (after c call) ≡ true

-- A contract that could not be made is of no use: every call of it is answered STATE.
abbrev pub RefusedIsNoContract : Type 0
RefusedIsNoContract = (t : Terms) (call : Call) → good_terms t ≡ false → answered (fresh_contract t) call ≡ answer.State

-- Each accepted report passed checks 14 to 17 and was newer than the one before it.
pub record Accepted (c : Contract) (body : List ℕ) (bits : ℕ) : Type 0 where
  pub stands : attested_fault c.terms.f bits (attested_in body) ≡ fault.Nothing
  pub rises : newer (attested_in body).epoch (attested_in body).round c.commit.epoch c.commit.round ≡ true

abbrev pub AcceptedPassed : Type 0
AcceptedPassed =
    (c : Contract) (body : List ℕ) (transmitter time bits : ℕ) → is_done (submitted_of c body transmitter time bits).answer ≡ true → Accepted c body bits

-- Whichever members you call bad, at most f of the n: an accepted report's median lies between the values of two listed members, perhaps one and the same, that are not bad.
abbrev pub AcceptedMedianIsBetweenGood : Type 0
AcceptedMedianIsBetweenGood =
    (c : Contract) (body : List ℕ) (transmitter time bits : ℕ) (bad : ℕ → Bool)
    → count_if bad (members_to c.terms.n) ≤ c.terms.f
    → is_done (submitted_of c body transmitter time bits).answer ≡ true
    → BetweenGood bad (attested_in body).list (submitted_of c body transmitter time bits).contract.commit.median

-- "DONE sets epoch, round, median and time."
abbrev pub DoneSetsTheCommit : Type 0
DoneSetsTheCommit =
    (c : Contract) (body : List ℕ) (transmitter time bits : ℕ) → is_done (submitted_of c body transmitter time bits).answer ≡ true → (submitted_of c body transmitter time bits).contract.commit ≡ record { median = median_of (values_of (attested_in body).list); time = time; epoch = (attested_in body).epoch; round = (attested_in body).round }

-- d has the commit of c, or a newer one
abbrev pub NotOlder : Contract → Contract → Type 0
NotOlder c d = (d.commit ≡ c.commit) ⊎ (newer d.commit.epoch d.commit.round c.commit.epoch c.commit.round ≡ true)

-- So (epoch, round) only rises: any calls, refused ones among them, leave the commit as it was, or a newer one.
abbrev pub CommitOnlyRises : Type 0
CommitOnlyRises = (c : Contract) (calls : List Call) → NotOlder c (run c calls)

-- What a contract was made under, the fees, n and f, no call changes.
abbrev pub TermsStay : Type 0
TermsStay = (c : Contract) (calls : List Call) → (run c calls).terms ≡ c.terms

-- Nobody is paid but listed members and the transmitter, and they the exact fees: at each place the balance grows by the observation fee where its
-- member is listed, and by the sending fee where it is the transmitter's.
abbrev pub earned : Contract → List ℕ → ℕ → ℕ → ℕ
earned c listed transmitter member = cond (among member listed) c.terms.observation_fee 0 + cond (eqb member transmitter) c.terms.sending_fee 0

abbrev pub ExactFees : Type 0
ExactFees =
    (c : Contract) (body : List ℕ) (transmitter time bits member : ℕ) → length c.ledger.accounts ≡ members → 1 ≤ member → member ≤ members → is_done (submitted_of c body transmitter time bits).answer ≡ true → (account_at (submitted_of c body transmitter time bits).contract.ledger.accounts (place_of member)).balance ≡ (account_at c.ledger.accounts (place_of member)).balance + earned c (members_of (attested_in body).list) transmitter member

-- "out of the fund": a submission that is DONE takes from the fund what its report costs; the deposits, and what each account was paid, stay.
pub record OutOfTheFund (c after_call : Contract) (observations : ℕ) : Type 0 where
  pub fund : after_call.ledger.fund + cost c.terms observations ≡ c.ledger.fund
  pub deposits : after_call.ledger.deposits ≡ c.ledger.deposits
  pub paid : (place : ℕ) → (account_at after_call.ledger.accounts place).paid ≡ (account_at c.ledger.accounts place).paid

abbrev pub FeesOutOfTheFund : Type 0
FeesOutOfTheFund =
    (c : Contract) (body : List ℕ) (transmitter time bits : ℕ) → length c.ledger.accounts ≡ members → is_done (submitted_of c body transmitter time bits).answer ≡ true → OutOfTheFund c (submitted_of c body transmitter time bits).contract (length (attested_in body).list)

-- "Withdrawal pays the whole balance": one that is DONE pays what the account has, and leaves nothing in it; the fund and every other account stay.
pub record PaysTheBalance (c : Contract) (member : ℕ) : Type 0 where
  pub whole_balance : (withdrawn_of c member).amount ≡ (account_at c.ledger.accounts (place_of member)).balance
  pub emptied_then : (account_at (withdrawn_of c member).contract.ledger.accounts (place_of member)).balance ≡ 0
  pub others : (place : ℕ) → (place ≡ place_of member → ⊥) → account_at (withdrawn_of c member).contract.ledger.accounts place ≡ account_at c.ledger.accounts place
  pub fund : (withdrawn_of c member).contract.ledger.fund ≡ c.ledger.fund

abbrev pub WithdrawalPaysTheBalance : Type 0
WithdrawalPaysTheBalance =
    (c : Contract) (member : ℕ) → length c.ledger.accounts ≡ members → is_done (withdrawn_of c member).answer ≡ true → PaysTheBalance c member
