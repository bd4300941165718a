-- What a host may rely on, said of the boundary's own definitions.
use Rattle.std.specs.Prelude.{◌≡◌, Bool, false, List, ℕ, eqb}
use Rattle.host.specs.declared.NodeOutcome.{NodeOutcome}
use Rattle.host.specs.declared.LentNode.{LentNode}
use Rattle.host.specs.declared.LentSender.{LentSender}
use Rattle.host.specs.declared.LentContract.{LentContract}
use Rattle.host.specs.Lent.{LentOut}
use Rattle.host.specs.Calls.{restore_at, start_at, deliver_at, timer_at, sender_fresh_at, transmit_at, timeout_at, contract_fresh_at, submit_at, deposit_at, withdraw_at}

-- ---- "Only code 0 changes anything": a refused call leaves the state, what the host has read, and every byte of a lent buffer; it writes the outcome, which asks nothing of the host

-- whether the code is 0
abbrev pub done : ℕ → Bool
done code = eqb code 0

-- no bytes are written, the part handed out is empty, every timer is left alone
pub record NodeAsksNothing (o : NodeOutcome) : Type 0 where
  pub written : o.written ≡ 0
  pub len : o.len ≡ 0
  pub resend : o.resend ≡ 0
  pub progress : o.progress ≡ 0
  pub round : o.round ≡ 0
  pub grace : o.grace ≡ 0

pub record NodeStays (l : LentNode) (outbox kept signatures : List ℕ) (o : LentOut) : Type 0 where
  pub node : o.lent.node ≡ l.node
  pub commit : o.lent.commit ≡ l.commit
  pub observation : o.lent.observation ≡ l.observation
  pub asks_nothing : NodeAsksNothing o.lent.outcome
  pub outbox_same : o.outbox ≡ outbox
  pub kept_same : o.kept ≡ kept
  pub signatures_same : o.signatures ≡ signatures

pub record NodeRefusals (l : LentNode) (outbox : List ℕ) (at : ℕ) (kept signatures : List ℕ) : Type 0 where
  pub restore : (epoch highest : ℕ) → let m = restore_at l epoch highest in done m.outcome.answer ≡ false → (m.node ≡ l.node) × (m.commit ≡ l.commit) × (m.observation ≡ l.observation) × NodeAsksNothing m.outcome
  pub start : (time : ℕ) → let o = start_at l time outbox at kept signatures in done o.lent.outcome.answer ≡ false → NodeStays l outbox kept signatures o
  pub deliver : (link time bits : ℕ) (frame : List ℕ) → let o = deliver_at l link time bits frame outbox at kept signatures in done o.lent.outcome.answer ≡ false → NodeStays l outbox kept signatures o
  pub timer : (number time : ℕ) → let o = timer_at l number time outbox at kept signatures in done o.lent.outcome.answer ≡ false → NodeStays l outbox kept signatures o

-- the sender and the commit stay, T_transmit is left alone, the part handed out is empty
pub record SenderStays (l m : LentSender) : Type 0 where
  pub sender : m.sender ≡ l.sender
  pub commit : m.commit ≡ l.commit
  pub transmit : m.outcome.transmit ≡ 0
  pub len : m.outcome.len ≡ 0

pub record SenderRefusals (l : LentSender) (slots : List ℕ) : Type 0 where
  pub fresh : done (sender_fresh_at l).outcome.answer ≡ false → SenderStays l (sender_fresh_at l)
  pub transmit : (body : List ℕ) (time : ℕ) (permutation : List ℕ) → let o = transmit_at l body time permutation slots in done o.lent.outcome.answer ≡ false → SenderStays l o.lent × (o.slots ≡ slots)
  pub timeout : (time : ℕ) → let o = timeout_at l time slots in done o.outcome.answer ≡ false → SenderStays l o

-- the contract stays, nothing is paid
pub record ContractStays (l m : LentContract) : Type 0 where
  pub contract : m.contract ≡ l.contract
  pub amount : m.outcome.amount ≡ 0

pub record ContractRefusals (l : LentContract) : Type 0 where
  pub fresh : done (contract_fresh_at l).outcome.answer ≡ false → ContractStays l (contract_fresh_at l)
  pub submit : (body : List ℕ) (transmitter time bits : ℕ) → let m = submit_at l body transmitter time bits in done m.outcome.answer ≡ false → ContractStays l m
  pub deposit : (amount : ℕ) → let m = deposit_at l amount in done m.outcome.answer ≡ false → ContractStays l m
  pub withdraw : (member : ℕ) → let m = withdraw_at l member in done m.outcome.answer ≡ false → ContractStays l m

abbrev pub RefusalChangesNothing : Type 0
RefusalChangesNothing =
    ((l : LentNode) (outbox : List ℕ) (at : ℕ) (kept signatures : List ℕ) → NodeRefusals l outbox at kept signatures)
    × ((l : LentSender) (slots : List ℕ) → SenderRefusals l slots)
    × ((l : LentContract) → ContractRefusals l)
