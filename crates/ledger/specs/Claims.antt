-- What a reader may quote of the ledger: each claim is a type, proved in `proofs/Claims.antt`.
use Rattle.std.specs.Prelude.{◌≡◌, true, List, ◌+◌, ◌≤◌}
use Rattle.config.specs.Limits.{most_deposits}
use Rattle.ledger.specs.declared.Ledger.{Ledger}
use Rattle.ledger.specs.Ledger.{balances, paid_out, owed, covered, empty_ledger}
use Rattle.ledger.specs.History.{Entry, run, AllAllowed, deposited, payments}

-- 01, Contract: "Deposits in the history equal fund plus balances plus payments in the history."
abbrev pub DepositsAddUp : Type 0
DepositsAddUp =
    (es : List Entry) → AllAllowed empty_ledger es → deposited es ≡ (run empty_ledger es).fund + balances (run empty_ledger es).accounts + payments empty_ledger es

-- What a ledger itself has on record is the same, with any number of accounts: of one that is covered, after any history, deposits rise by what was
-- paid in, what is owed rises by as much, and what is on record as paid by what was paid out. So a ledger that is covered, and an exact one, stays so.
pub record Kept (l : Ledger) (es : List Entry) : Type 0 where
  pub deposits : (run l es).deposits ≡ l.deposits + deposited es
  pub owed_too : owed (run l es) ≡ owed l + deposited es
  pub paid : paid_out (run l es).accounts ≡ paid_out l.accounts + payments l es
  pub within : (run l es).deposits ≤ most_deposits
  pub covers : covered (run l es) ≡ true

abbrev pub NothingIsLost : Type 0
NothingIsLost = (l : Ledger) (es : List Entry) → l.deposits ≤ most_deposits → covered l ≡ true → AllAllowed l es → Kept l es
