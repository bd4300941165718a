-- The calls of the boundary: each is the call by value, on the state in the lent struct.
use Rattle.std.specs.Prelude.{cond, List, ℕ, ltb}
use Rattle.node.specs.declared.Node.{Node}
use Rattle.node.specs.Event.{delivery, starts, delivers, fires}
use Rattle.node.specs.Calls as node
use Rattle.sender.specs.Calls as sender
use Rattle.contract.specs.Calls as contract
use Rattle.host.specs.declared.LentNode.{LentNode}
use Rattle.host.specs.declared.LentSender.{LentSender}
use Rattle.host.specs.declared.LentContract.{LentContract}
use Rattle.node.specs.Event.{fired_of}
use Rattle.host.specs.Lent.{after_made, LentOut, after_out, after_timeout, after_sender_made, LentSlots, after_sent, after_submit, after_deposit, after_withdraw, after_contract_made}

-- ---- a node

-- a fresh node is one restored with nothing saved
unfoldable pub restore_at : LentNode → ℕ → ℕ → LentNode
restore_at l epoch highest = after_made l (node.restore_of l.node.config (record { epoch = epoch; highest = highest }))

unfoldable pub start_at : LentNode → ℕ → List ℕ → ℕ → List ℕ → List ℕ → LentOut
start_at l time outbox at kept signatures = after_out l (node.call_of l.node (starts time) outbox at kept signatures)

unfoldable pub deliver_at : LentNode → ℕ → ℕ → ℕ → List ℕ → List ℕ → ℕ → List ℕ → List ℕ → LentOut
deliver_at l link time bits frame outbox at kept signatures =
    after_out l (node.call_of l.node (delivers (delivery link time l.observation l.commit bits frame)) outbox at kept signatures)

-- the timers by their numbers; any other number is a timer that is never armed
unfoldable pub timer_call : Node → ℕ → ℕ → List ℕ → ℕ → List ℕ → List ℕ → node.Out
timer_call n timer time outbox at kept signatures =
    cond (ltb 3 timer) (node.unarmed_of n time outbox at kept signatures)
    (node.call_of n (fires (fired_of timer) time) outbox at kept signatures)

unfoldable pub timer_at : LentNode → ℕ → ℕ → List ℕ → ℕ → List ℕ → List ℕ → LentOut
timer_at l timer time outbox at kept signatures = after_out l (timer_call l.node timer time outbox at kept signatures)

-- ---- a sender

unfoldable pub sender_fresh_at : LentSender → LentSender
sender_fresh_at l = after_sender_made l (sender.made_of l.sender.config)

unfoldable pub transmit_at : LentSender → List ℕ → ℕ → List ℕ → List ℕ → LentSlots
transmit_at l body time permutation waiting = after_sent l (sender.transmit_of l.sender body time l.commit permutation waiting)

unfoldable pub timeout_at : LentSender → ℕ → List ℕ → LentSender
timeout_at l time waiting = after_timeout l (sender.timeout_of l.sender time l.commit waiting)

-- ---- a contract

unfoldable pub contract_fresh_at : LentContract → LentContract
contract_fresh_at l = after_contract_made l (contract.made_of l.contract.terms)

unfoldable pub submit_at : LentContract → List ℕ → ℕ → ℕ → ℕ → LentContract
submit_at l body transmitter time bits = after_submit (contract.submitted_of l.contract body transmitter time bits)

unfoldable pub deposit_at : LentContract → ℕ → LentContract
deposit_at l amount = after_deposit (contract.deposited_of l.contract amount)

unfoldable pub withdraw_at : LentContract → ℕ → LentContract
withdraw_at l member = after_withdraw (contract.withdrawn_of l.contract member)
