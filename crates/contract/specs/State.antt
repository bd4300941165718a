-- Document 01, "Contract" and "Numbers": which terms and states are in range.
use Rattle.std.specs.Prelude.{Bool, ◌&&◌, ℕ, ◌-◌, leb}
use Rattle.config.specs.Limits.{most_fee, most_deposits}
use Rattle.config.specs.Bounds.{good_members, good_commit, nothing_committed}
use Rattle.ledger.specs.Ledger.{covered, empty_ledger}
use Rattle.contract.specs.declared.Terms.{Terms}
use Rattle.contract.specs.declared.Contract.{Contract}

-- "Members n: 1 to 31 .. Faulty f: 3f < n.", "Fees at most 1,000,000,000 each."
unfoldable pub good_terms : Terms → Bool
good_terms t = good_members t.n t.f && leb t.observation_fee most_fee && leb t.sending_fee most_fee

-- STATE: "a field out of its range, the configuration's included, .. fund plus balances above deposits"; "All deposits ever made: at most 2^53
-- together."
unfoldable pub good_contract : Contract → Bool
good_contract c = good_terms c.terms && good_commit c.commit && leb c.ledger.deposits most_deposits && covered c.ledger

-- a contract under these terms that nobody has paid into
abbrev pub fresh_contract : Terms → Contract
fresh_contract t = record { ledger = empty_ledger; commit = nothing_committed; terms = t }

-- the place of a member's account
abbrev pub place_of : ℕ → ℕ
place_of member = member - 1
