-- Document 01, "Contract": the money of a contract. A ledger knows places and not members.
use Rattle.std.specs.Prelude.{Bool, List, [], ◌∷◌, ℕ, ◌+◌, ◌-◌, ◌^◌, min, leb, get_or, set, replicate}
use Rattle.config.specs.Limits.{members}
use Rattle.ledger.specs.declared.Account.{Account}
use Rattle.ledger.specs.declared.Ledger.{Ledger}

-- an account with nothing in it, which is also what a list of accounts has past its end
abbrev pub no_money : Account
no_money = record { balance = 0; paid = 0 }

-- a sum that stops at the largest number of 64 bits; no sum of a covered ledger within 2^53 comes near it
abbrev pub added : ℕ → ℕ → ℕ
added a b = min (a + b) (2 ^ 64 - 1)

-- ---- one account: "one small record that the payment step alters in place"

abbrev pub credited : Account → ℕ → Account
credited a amount = record { balance = added a.balance amount; paid = a.paid }

-- "Withdrawal pays the whole balance."
abbrev pub emptied : Account → Account
emptied a = record { balance = 0; paid = added a.paid a.balance }

-- ---- all of them

abbrev pub account_at : List Account → ℕ → Account
account_at accounts place = get_or accounts place no_money

-- all balances together, and all that was ever paid
unfoldable pub balances : List Account → ℕ
balances [] = 0
balances (a ∷ l) = a.balance + balances l

unfoldable pub paid_out : List Account → ℕ
paid_out [] = 0
paid_out (a ∷ l) = a.paid + paid_out l

-- what the deposits have to cover: what the fund has, what members have earned, and what they were paid
abbrev pub owed : Ledger → ℕ
owed l = l.fund + balances l.accounts + paid_out l.accounts

-- STATE: "fund plus balances above deposits"; what was paid must be covered too
unfoldable pub covered : Ledger → Bool
covered l = leb (owed l) l.deposits

-- ---- the ledger

-- nobody has paid in
abbrev pub empty_ledger : Ledger
empty_ledger = record { fund = 0; deposits = 0; accounts = replicate members no_money }

-- a deposit goes to the fund
abbrev pub depositing : Ledger → ℕ → Ledger
depositing l amount = record { fund = l.fund + amount; deposits = l.deposits + amount; accounts = l.accounts }

-- an amount is earned at a place, "out of the fund"
unfoldable pub earning : Ledger → ℕ → ℕ → Ledger
earning l place amount =
    record { fund = l.fund - amount; deposits = l.deposits; accounts = set l.accounts place (credited (account_at l.accounts place) amount) }

-- a withdrawal at a place
unfoldable pub withdrawing : Ledger → ℕ → Ledger
withdrawing l place =
    record { fund = l.fund; deposits = l.deposits; accounts = set l.accounts place (emptied (account_at l.accounts place)) }
