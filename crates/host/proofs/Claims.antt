-- A refusal changes nothing: what node, sender and contract claim of their calls by value, carried to the lent structs; and instances that compute.
use Rattle.std.proofs.Common.{◌≡◌, ℕ, false, ltb, List, [], ◌∷◌, pos, refl, ap, ◌∙◌}
use Rattle.node.specs.declared.Timers.{Timers}
use Rattle.node.specs.State.{restored_node, nothing_saved}
use Rattle.node.specs.Event.{Event, whole, delivery, starts, delivers, fires}
use Rattle.quorum.proofs.Cases.{either}
use Rattle.node.specs.Calls as node
use Rattle.node.specs.Calls.{restore_answer}
use Rattle.node.specs.Claims.{Unchanged}
use Rattle.node.proofs.Steps as node_laws
use Rattle.node.proofs.Listed.{unarmed_changes_nothing}
use Rattle.sender.specs.State.{fresh_sender}
use Rattle.sender.proofs.Claims as sender_laws
use Rattle.config.proofs.Facts.{done_zero}
use Rattle.config.specs.Bounds.{config_of, none_empty, sum, good_feed, good_config}
use Rattle.config.specs.Codes.{number_of}
use Rattle.config.specs.declared.Config.{Config}
use Rattle.config.specs.declared.Commit.{Commit}
use Rattle.config.specs.Answers as answer
use Rattle.contract.specs.declared.Terms.{Terms}
use Rattle.contract.specs.State.{good_terms, fresh_contract}
use Rattle.contract.specs.Calls.{deposited_of}
use Rattle.contract.specs.History.{deposits}
use Rattle.contract.proofs.Claims as contract_laws
use Rattle.host.specs.declared.LentNode.{LentNode}
use Rattle.host.specs.declared.LentSender.{LentSender}
use Rattle.host.specs.declared.LentContract.{LentContract}
use Rattle.host.specs.Numbers.{timer_number, transmit_number}
use Rattle.node.specs.Event.{fired_of}
use Rattle.host.specs.Lent.{plain_outcome, after_out, len_of, paying_outcome, with_contract}
use Rattle.host.specs.Calls.{restore_at, start_at, deliver_at, timer_call, timer_at, sender_fresh_at, transmit_at, timeout_at, contract_fresh_at, submit_at, deposit_at, withdraw_at}
use Rattle.host.specs.Claims.{done, NodeStays, NodeRefusals, SenderStays, SenderRefusals, ContractStays, ContractRefusals, RefusalChangesNothing}

-- ---- a node

-- what a node claims of a call that leaves it unchanged, said of the lent struct
stays : (l : LentNode) (outbox kept signatures : List ℕ) (o : node.Out) → Unchanged (whole l.node kept signatures) outbox o → NodeStays l outbox kept signatures (after_out l o)
stays l outbox kept signatures o u =
    record {
      node = u.node;
      commit = refl;
      observation = refl;
      asks_nothing =
          record {
            written = u.written;
            len = u.handed;
            resend = ap (λ (t : Timers). timer_number t.resend) u.timers;
            progress = ap (λ (t : Timers). timer_number t.progress) u.timers;
            round = ap (λ (t : Timers). timer_number t.round) u.timers;
            grace = ap (λ (t : Timers). timer_number t.grace) u.timers;
          };
      outbox_same = u.outbox_same;
      kept_same = u.kept;
      signatures_same = u.signatures;
    }

-- a refused call, whose outcome is told, leaves everything else
abbrev Keeps : LentNode → List ℕ → List ℕ → List ℕ → node.Out → Type 0
Keeps l outbox kept signatures o = done (after_out l o).lent.outcome.answer ≡ false → NodeStays l outbox kept signatures (after_out l o)

event_keeps : (l : LentNode) (e : Event) (outbox : List ℕ) (at : ℕ) (kept signatures : List ℕ) → Keeps l outbox kept signatures (node.call_of l.node e outbox at kept signatures)
event_keeps l e outbox at kept signatures h =
    stays l outbox kept signatures _ (node_laws.refusal_changes_nothing (whole l.node kept signatures) e outbox at (done_zero _ ∙ h))

unarmed_keeps : (l : LentNode) (time : ℕ) (outbox : List ℕ) (at : ℕ) (kept signatures : List ℕ) → Keeps l outbox kept signatures (node.unarmed_of l.node time outbox at kept signatures)
unarmed_keeps l time outbox at kept signatures h =
    stays l outbox kept signatures _ (unarmed_changes_nothing (whole l.node kept signatures) time outbox at).nothing

timer_keeps : (l : LentNode) (number time : ℕ) (outbox : List ℕ) (at : ℕ) (kept signatures : List ℕ) → Keeps l outbox kept signatures (timer_call l.node number time outbox at kept signatures)
unfolding timer_call
timer_keeps l number time outbox at kept signatures =
    either (Keeps l outbox kept signatures) (ltb 3 number) _ _ (λ e. unarmed_keeps l time outbox at kept signatures)
    (λ e. event_keeps l (fires (fired_of number) time) outbox at kept signatures)

node_refusals : (l : LentNode) (outbox : List ℕ) (at : ℕ) (kept signatures : List ℕ) → NodeRefusals l outbox at kept signatures
unfolding restore_at start_at deliver_at timer_at
node_refusals l outbox at kept signatures =
    record {
      restore = λ epoch highest h. (rw (done_zero _ ∙ h), refl, refl, record { written = refl; len = refl; resend = refl; progress = refl; round = refl; grace = refl });
      start = λ time. event_keeps l (starts time) outbox at kept signatures;
      deliver = λ link time bits frame. event_keeps l (delivers (delivery link time l.observation l.commit bits frame)) outbox at kept signatures;
      timer = λ number time. timer_keeps l number time outbox at kept signatures;
    }

-- ---- a sender

sender_refusals : (l : LentSender) (slots : List ℕ) → SenderRefusals l slots
unfolding sender_fresh_at transmit_at timeout_at
sender_refusals l slots =
    let kept = sender_laws.refusal_changes_nothing (record { sender = l.sender; slots = slots }) in
    record {
      fresh = λ h. record { sender = rw (done_zero _ ∙ h); commit = refl; transmit = refl; len = refl };
      transmit = λ body time permutation h.
          let u = kept.transmit body time l.commit permutation (done_zero _ ∙ h) in
          (record { sender = u.0; commit = refl; transmit = ap transmit_number u.2; len = refl }, u.1);
      timeout = λ time h.
          let u = kept.timeout time l.commit (done_zero _ ∙ h) in
          record { sender = u.0; commit = refl; transmit = ap transmit_number u.1; len = ap len_of u.2 };
    }

-- ---- a contract

contract_refusals : (l : LentContract) → ContractRefusals l
unfolding contract_fresh_at submit_at deposit_at withdraw_at
contract_refusals l =
    let kept = contract_laws.refusal_changes_nothing l.contract in
    record {
      fresh = λ h. record { contract = rw (done_zero _ ∙ h); amount = refl };
      submit = λ body transmitter time bits h. record { contract = kept.submit body transmitter time bits (done_zero _ ∙ h); amount = refl };
      deposit = λ amount h. record { contract = kept.deposit amount (done_zero _ ∙ h); amount = refl };
      withdraw = λ member h. let u = kept.withdraw member (done_zero _ ∙ h) in record { contract = u.0; amount = u.1 };
    }

pub refusal_changes_nothing : RefusalChangesNothing
refusal_changes_nothing = (node_refusals, sender_refusals, contract_refusals)

-- ---- instances: three of four members may not be faulty, so a node or a sender of such a configuration and a contract of such terms are no states, and calls are answered STATE

abbrev bad_config : Config
bad_config = config_of 9 4 3 2 10 5000000 1000 100 1 (4 ∷ 0 ∷ 0 ∷ 0 ∷ 0 ∷ 0 ∷ 0 ∷ 0 ∷ [])

abbrev no_commit_lem : Commit
no_commit_lem = record { median = pos 0; time = 0; epoch = 0; round = 0 }

abbrev bad_node : LentNode
bad_node =
    record { node = restored_node bad_config nothing_saved; commit = no_commit_lem; observation = pos 0; outcome = plain_outcome answer.Done }

node_refused : (start_at bad_node 5 [] 0 [] []).lent.outcome.answer ≡ 2
unfolding start_at restore_answer good_config good_feed none_empty sum number_of
node_refused = ap number_of (node_laws.refused_is_no_node bad_config nothing_saved (starts 5) [] [] [] 0 refl)

node_stays : NodeStays bad_node [] [] [] (start_at bad_node 5 [] 0 [] [])
node_stays = (node_refusals bad_node [] 0 [] []).start 5 (ap done node_refused)

abbrev bad_sender : LentSender
bad_sender =
    record { sender = fresh_sender bad_config; commit = no_commit_lem; outcome = record { milliseconds = 0; start = 0; len = 0; transmit = 0; answer = 0 } }

sender_refused : (timeout_at bad_sender 5 []).outcome.answer ≡ 2
unfolding timeout_at good_config good_feed none_empty sum number_of
sender_refused = ap number_of ((sender_laws.refused_is_no_sender bad_config [] refl).timeout 5 no_commit_lem)

sender_stays : SenderStays bad_sender (timeout_at bad_sender 5 [])
sender_stays = (sender_refusals bad_sender []).timeout 5 (ap done sender_refused)

abbrev bad_terms : Terms
bad_terms = record { observation_fee = 2; sending_fee = 3; n = 4; f = 3 }

abbrev lent_badly : LentContract
lent_badly = with_contract (fresh_contract bad_terms) (paying_outcome answer.Done 0)

refused_badly : (deposit_at lent_badly 5).outcome.answer ≡ 2
unfolding deposit_at deposited_of good_terms number_of
refused_badly = ap number_of (contract_laws.refused_is_no_contract bad_terms (deposits 5) refl)

stays_badly : ContractStays lent_badly (deposit_at lent_badly 5)
stays_badly = (contract_refusals lent_badly).deposit 5 (ap done refused_badly)
