-- What the checks of a submission leave to the payment: a whole report of members, and a fund that holds the fees.
use Rattle.std.specs.Prelude.{◌≡◌, List, ℕ, ◌*◌, ◌≤◌}
use Rattle.config.specs.Limits.{members}
use Rattle.config.specs.Answers.{Done}
use Rattle.frame.specs.Decode.{count_in}
use Rattle.frame.specs.Check.{body_answer}
use Rattle.ledger.specs.declared.Ledger.{Ledger}
use Rattle.contract.specs.declared.Terms.{Terms}
use Rattle.contract.specs.declared.Contract.{Contract}
use Rattle.contract.specs.Calls.{cost}

-- the fund holds the observation fees
pub record CoversAll (t : Terms) (l : Ledger) (body : List ℕ) : Type 0 where
  pub few : t.n ≤ members
  pub body_good : body_answer t.n 6 body ≡ Done
  pub observation_fee : count_in body * t.observation_fee ≤ l.fund

-- and the sending fee, for a transmitter that is a member
pub record Covers (t : Terms) (l : Ledger) (transmitter : ℕ) (body : List ℕ) : Type 0 where
  pub all : CoversAll t l body
  pub first : 1 ≤ transmitter
  pub last : transmitter ≤ t.n
  pub costs : cost t (count_in body) ≤ l.fund

abbrev pub Payable : Contract → ℕ → List ℕ → Type 0
Payable c transmitter body = Covers c.terms c.ledger transmitter body
