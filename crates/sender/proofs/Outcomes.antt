-- What a call can come to: it is refused; a report is accepted that does not wait, or that waits; a report that waited is removed.
use mathlib.Core.Path.{◌≡◌, refl}
use mathlib.Core.Bool.{true}
use mathlib.Core.List.{List, [], ◌∷◌}
use Prim.Native.Nat.{ℕ}
use Rattle.config.specs.Codes.{number_of, is_done}
use Rattle.config.specs.declared.Commit.{Commit}
use Rattle.quorum.proofs.Cases.{cases, test}
use Rattle.frame.specs.Decode.{attested_in}
use Rattle.sender.specs.Stage.{place_in, waits}
use Rattle.sender.specs.Waiting.{Waiting, earliest}
use Rattle.sender.specs.Calls.{accepted_of, with_accepted, with_slot, queueing, queued, due_at, accepting, accepting_bytes, transmit_answer, transmitted, transmit_of, timeout_answer, released, timeout_of}
use Rattle.sender.specs.History.{Whole, Call, transmits, expires, after, queued_by, removed_by}
use Rattle.sender.proofs.Facts.{TransmitPassed, transmit_passed, TimeoutPassed, timeout_passed}
use Rattle.sender.proofs.Queue.{held_at}

-- a call's whole effect: what it leaves, what it has wait, what it removes
pub record Does (w : Whole) (call : Call) (left : Whole) (new gone : List Waiting) : Type 0 where
  pub left_is : after w call ≡ left
  pub new_is : queued_by w call ≡ new
  pub gone_is : removed_by w call ≡ gone

-- when a report is due that is to wait from now on
abbrev pub due_for : Whole → ℕ → List ℕ → ℕ
due_for w time permutation = due_at w.sender time (place_in w.sender.config permutation)

-- the three changes
abbrev pub accepts : Whole → List ℕ → Whole
accepts w body = record { sender = with_accepted w.sender (accepted_of (attested_in body)); slots = w.slots }

abbrev pub queues : Whole → List ℕ → ℕ → Whole
queues w body due = record { sender = queueing (accepts w body).sender due; slots = queued w.sender w.slots body }

abbrev pub removes : Whole → Whole
removes w = record { sender = with_slot w.sender (earliest w.sender w.slots) 0 0; slots = w.slots }

pub data Outcome (w : Whole) (call : Call) : Type 0 where
  refused : Does w call w [] [] → Outcome w call
  not_waiting : (body : List ℕ) (time : ℕ) (commit : Commit) (permutation : List ℕ) → TransmitPassed w.sender body time commit permutation w.slots → Does w call (accepts w body) [] [] → Outcome w call
  to_wait : (body : List ℕ) (time : ℕ) (commit : Commit) (permutation : List ℕ) → TransmitPassed w.sender body time commit permutation w.slots → waits w.sender.config (place_in w.sender.config permutation) ≡ true
      → Does w call (queues w body (due_for w time permutation)) (record { time = due_for w time permutation; report = attested_in body } ∷ []) [] → Outcome w call
  removed : (time : ℕ) → TimeoutPassed w.sender time w.slots → Does w call (removes w) [] (held_at w.sender w.slots (earliest w.sender w.slots) ∷ []) → Outcome w call

pub outcome : (w : Whole) (call : Call) → Outcome w call
unfolding transmit_of transmitted accepting accepting_bytes timeout_of released number_of
outcome w (transmits body time commit permutation) =
    cases (test (is_done (transmit_answer w.sender body time commit permutation w.slots)))
    (λ e.
    let p = transmit_passed w.sender body time commit permutation w.slots e in
    cases (test (waits w.sender.config (place_in w.sender.config permutation)))
    (λ f. to_wait body time commit permutation p f (record { left_is = rw (e, f); new_is = rw (e, f); gone_is = refl }))
    (λ f. not_waiting body time commit permutation p (record { left_is = rw (e, f); new_is = rw (e, f); gone_is = refl })))
    (λ e. refused (record { left_is = rw e; new_is = rw (e, e); gone_is = refl }))
outcome w (expires time commit) =
    cases (test (is_done (timeout_answer w.sender time commit w.slots)))
    (λ e. removed time (timeout_passed w.sender time commit w.slots e) (record { left_is = rw e; new_is = refl; gone_is = rw e }))
    (λ e. refused (record { left_is = rw e; new_is = refl; gone_is = rw (e, e) }))
