-- The loop's invariant: what is left of the fund holds the fees of the members that are left, and paying those makes the whole.
use Rattle.std.proofs.Common.{◌≡◌, ◌-◌, ◌*◌, ◌≤◌, drop}
use Rattle.frame.specs.Decode.{count_in}
use Rattle.contract.specs.Calls.{earning_all}
use Rattle.contract.proofs.Fees.{listed_in}
use Rattle.contract.proofs.paid_all.Given as goal

abbrev pub invariant-loop-i : goal.invariant-loop-i
invariant-loop-i l =
    let fee = l.terms.observation_fee in record {
      funded : (count_in l.body - l.i) * fee ≤ l.ledger.fund;
      same : earning_all l.ledger (drop l.i (listed_in l.body)) fee ≡ earning_all l.initial.ledger (listed_in l.body) fee;
    }
