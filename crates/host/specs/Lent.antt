-- What a host finds in the struct that it lent, after each kind of call: the new state, and the outcome in numbers.
use Rattle.std.specs.Prelude.{cond, List, ℕ}
use Rattle.std.specs.declared.option.Option.{Option}
use Rattle.std.specs.declared.option.Option.TheVariants.{Some, None}
use Rattle.config.specs.Answers.{Answer}
use Rattle.config.specs.Codes.{number_of, is_done}
use Rattle.node.specs.declared.Node.{Node}
use Rattle.node.specs.declared.Outcome.{Outcome}
use Rattle.node.specs.declared.Made as node
use Rattle.node.specs.Calls.{Out}
use Rattle.sender.specs.declared.Sender.{Sender}
use Rattle.sender.specs.declared.Queued.{Queued}
use Rattle.sender.specs.declared.Part.{Part}
use Rattle.sender.specs.declared.Released.{Released}
use Rattle.sender.specs.declared.Made as sender
use Rattle.sender.specs.Calls.{Sent}
use Rattle.contract.specs.declared.Contract.{Contract}
use Rattle.contract.specs.declared.Answered.{Answered}
use Rattle.contract.specs.declared.Submitted.{Submitted}
use Rattle.contract.specs.declared.Withdrawn.{Withdrawn}
use Rattle.host.specs.declared.NodeOutcome.{NodeOutcome}
use Rattle.host.specs.declared.LentNode.{LentNode}
use Rattle.host.specs.declared.SenderOutcome.{SenderOutcome}
use Rattle.host.specs.declared.LentSender.{LentSender}
use Rattle.host.specs.declared.ContractOutcome.{ContractOutcome}
use Rattle.host.specs.declared.LentContract.{LentContract}
use Rattle.host.specs.Numbers.{timer_number, transmit_number, milliseconds_of, fault_number, fault_place, flag_of}

-- ---- a node

abbrev pub node_outcome : Outcome → NodeOutcome
node_outcome o =
    record {
      written = o.written;
      start = o.handed.start;
      len = o.handed.len;
      held = flag_of o.handed.held;
      resend = timer_number o.timers.resend;
      progress = timer_number o.timers.progress;
      round = timer_number o.timers.round;
      grace = timer_number o.timers.grace;
      answer = number_of o.answer;
    }

abbrev pub with_node : LentNode → Node → NodeOutcome → LentNode
with_node l n o = record { node = n; commit = l.commit; observation = l.observation; outcome = o }

abbrev pub after_call : LentNode → Outcome → LentNode
after_call l o = with_node l o.node (node_outcome o)

-- nothing is written, handed out, started or stopped
abbrev pub plain_outcome : Answer → NodeOutcome
plain_outcome a =
    record { written = 0; start = 0; len = 0; held = 0; resend = 0; progress = 0; round = 0; grace = 0; answer = number_of a }

-- "Only code 0 changes anything": where the numbers are refused, the state that was lent stays
abbrev pub after_made : LentNode → node.Made → LentNode
after_made l m = with_node l (cond (is_done m.answer) m.node l.node) (plain_outcome m.answer)

-- the lent struct with every lent buffer, as a call leaves them
pub record LentOut : Type 0 where
  pub lent : LentNode
  pub outbox : List ℕ
  pub kept : List ℕ
  pub signatures : List ℕ

abbrev pub lent_node : LentNode → List ℕ → List ℕ → List ℕ → LentOut
lent_node l outbox kept signatures = record { lent = l; outbox = outbox; kept = kept; signatures = signatures }

abbrev pub after_out : LentNode → Out → LentOut
after_out l o = lent_node (after_call l o.result) o.outbox o.kept o.signatures

-- ---- a sender

abbrev pub with_sender : LentSender → Sender → SenderOutcome → LentSender
with_sender l s o = record { sender = s; commit = l.commit; outcome = o }

abbrev pub after_transmit : LentSender → Queued → LentSender
after_transmit l q =
    with_sender l q.sender
    (record { milliseconds = milliseconds_of q.transmit; start = 0; len = 0; transmit = transmit_number q.transmit; answer = number_of q.answer })

-- where a part that is handed out begins, and how long it is; both are 0 where none is
abbrev pub start_of : Option Part → ℕ
start_of None = 0
start_of (Some p) = p.start

abbrev pub len_of : Option Part → ℕ
len_of None = 0
len_of (Some p) = p.len

abbrev pub after_timeout : LentSender → Released → LentSender
after_timeout l t =
    with_sender l t.sender
    (record { milliseconds = milliseconds_of t.transmit; start = start_of t.handed; len = len_of t.handed; transmit = transmit_number t.transmit; answer = number_of t.answer })

abbrev pub after_sender_made : LentSender → sender.Made → LentSender
after_sender_made l m =
    with_sender l (cond (is_done m.answer) m.sender l.sender)
    (record { milliseconds = 0; start = 0; len = 0; transmit = 0; answer = number_of m.answer })

-- the lent struct with the slots' bytes
pub record LentSlots : Type 0 where
  pub lent : LentSender
  pub slots : List ℕ

abbrev pub lent_sender : LentSender → List ℕ → LentSlots
lent_sender l slots = record { lent = l; slots = slots }

abbrev pub after_sent : LentSender → Sent → LentSlots
after_sent l s = lent_sender (after_transmit l s.result) s.slots

-- ---- a contract

-- an outcome that has to do with no report
abbrev pub paying_outcome : Answer → ℕ → ContractOutcome
paying_outcome a amount = record { amount = amount; place = 0; fault = 0; answer = number_of a }

abbrev pub with_contract : Contract → ContractOutcome → LentContract
with_contract c o = record { contract = c; outcome = o }

abbrev pub after_submit : Submitted → LentContract
after_submit s =
    with_contract s.contract
    (record { amount = 0; place = fault_place s.fault; fault = fault_number s.fault; answer = number_of s.answer })

abbrev pub after_deposit : Answered → LentContract
after_deposit d = with_contract d.contract (paying_outcome d.answer 0)

abbrev pub after_withdraw : Withdrawn → LentContract
after_withdraw w = with_contract w.contract (paying_outcome w.answer w.amount)

abbrev pub after_contract_made : LentContract → Answered → LentContract
after_contract_made l m = with_contract (cond (is_done m.answer) m.contract l.contract) (paying_outcome m.answer 0)
