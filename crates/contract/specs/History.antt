-- Histories of a contract: the calls that were made of it, one after another.
use Rattle.std.specs.Prelude.{cond, List, [], ◌∷◌, ℕ, ◌+◌}
use Rattle.config.specs.Codes.{is_done}
use Rattle.contract.specs.declared.Contract.{Contract}
use Rattle.contract.specs.Calls.{submitted_of, deposited_of, withdrawn_of}

pub data Call : Type 0 where
  -- the body, the transmitter, the time, the verdict bits
  submits : List ℕ → ℕ → ℕ → ℕ → Call
  deposits : ℕ → Call
  withdraws : ℕ → Call

-- the contract after a call, which is as before where the call is refused
abbrev pub after : Contract → Call → Contract
after c (submits body transmitter time bits) = (submitted_of c body transmitter time bits).contract
after c (deposits amount) = (deposited_of c amount).contract
after c (withdraws member) = (withdrawn_of c member).contract

unfoldable pub run : Contract → List Call → Contract
run c [] = c
run c (call ∷ calls) = run (after c call) calls

-- what a call pays in, and pays out, where it is not refused
abbrev pub pays_in : Contract → Call → ℕ
pays_in c (submits body transmitter time bits) = 0
pays_in c (deposits amount) = cond (is_done (deposited_of c amount).answer) amount 0
pays_in c (withdraws member) = 0

abbrev pub pays_out : Contract → Call → ℕ
pays_out c (submits body transmitter time bits) = 0
pays_out c (deposits amount) = 0
pays_out c (withdraws member) = (withdrawn_of c member).amount

-- all that a history pays in, and pays out
unfoldable pub paid_in : Contract → List Call → ℕ
paid_in c [] = 0
paid_in c (call ∷ calls) = pays_in c call + paid_in (after c call) calls

unfoldable pub payments : Contract → List Call → ℕ
payments c [] = 0
payments c (call ∷ calls) = pays_out c call + payments (after c call) calls
