-- Histories of a ledger: what was paid in, earned and paid out, one after another.
use Rattle.std.specs.Prelude.{List, [], ◌∷◌, ℕ, ◌+◌, ◌≤◌, ◌<◌, length}
use Rattle.config.specs.Limits.{most_deposits}
use Rattle.ledger.specs.declared.Ledger.{Ledger}
use Rattle.ledger.specs.Ledger.{account_at, depositing, earning, withdrawing}

-- one entry of a history
pub data Entry : Type 0 where
  -- an amount is paid into the fund
  deposit : ℕ → Entry
  -- an amount is earned at a place
  earn : ℕ → ℕ → Entry
  -- the balance of a place is paid out
  withdraw : ℕ → Entry

abbrev pub after : Ledger → Entry → Ledger
after l (deposit amount) = depositing l amount
after l (earn place amount) = earning l place amount
after l (withdraw place) = withdrawing l place

-- an entry that a contract makes: deposits stay within 2^53 together, a fee is in the fund, a place exists
abbrev pub Allowed : Ledger → Entry → Type 0
Allowed l (deposit amount) = l.deposits + amount ≤ most_deposits
Allowed l (earn place amount) = (place < length l.accounts) × (amount ≤ l.fund)
Allowed l (withdraw place) = place < length l.accounts

unfoldable pub run : Ledger → List Entry → Ledger
run l [] = l
run l (e ∷ es) = run (after l e) es

abbrev pub AllAllowed : Ledger → List Entry → Type 0
AllAllowed l [] = Unit {0}
AllAllowed l (e ∷ es) = Allowed l e × AllAllowed (after l e) es

-- what a history pays in
unfoldable pub deposited : List Entry → ℕ
deposited [] = 0
deposited (deposit amount ∷ es) = amount + deposited es
deposited (earn place amount ∷ es) = deposited es
deposited (withdraw place ∷ es) = deposited es

-- what an entry pays out, and what a history does
abbrev pub pays : Ledger → Entry → ℕ
pays l (deposit amount) = 0
pays l (earn place amount) = 0
pays l (withdraw place) = (account_at l.accounts place).balance

unfoldable pub payments : Ledger → List Entry → ℕ
payments l [] = 0
payments l (e ∷ es) = pays l e + payments (after l e) es
