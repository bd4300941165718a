-- `covers` meets its contract: what is left covers the accounts from the index on exactly if the whole covers all.
use Rattle.std.proofs.Common.{◌≡◌, ◌+◌, drop, leb}
use Rattle.ledger.specs.Ledger.{balances, paid_out}
use Rattle.ledger.proofs.covers.Given as goal

abbrev pub invariant-loop-account : goal.invariant-loop-account
invariant-loop-account l =
    leb (balances (drop l.account-index l.accounts) + paid_out (drop l.account-index l.accounts)) l.left ≡ leb (balances l.accounts + paid_out l.accounts) l.most
