-- What the checks of states and calls tell, as plain facts for whoever passed them.
use mathlib.Core.Path.{◌≡◌, refl, ap}
use mathlib.Core.Bool.{Bool, true, false, not, cond, ◌&&◌, ◌||◌, false≢true, or-true}
use mathlib.Core.List.{List}
use Prim.Native.Nat.{ℕ, ◌≤◌}
use borrow.Author.Tests.{eqb-false, ltb-false, ne_eqb, le-ltb, not-false}
use lib.Dec.{eqb, ltb}
use Rattle.config.specs.Limits.{slots}
use Rattle.config.specs.Bounds.{good_config, good_time, good_commit, paired}
use Rattle.config.specs.Codes.{number_of, is_done}
use Rattle.config.specs.Answers as answer
use Rattle.config.specs.declared.Commit.{Commit}
use Rattle.config.proofs.Facts.{and-true}
use Rattle.config.proofs.Passed.{itself, stage_passed, answer_passed, answer_told}
use Rattle.quorum.specs.Marks.{flags}
use Rattle.frame.specs.Message.{Attested}
use Rattle.frame.specs.Decode.{attested_in}
use Rattle.frame.specs.Check.{body_answer}
use Rattle.frame.proofs.Framed.{or-false}
use Rattle.report.specs.Newer.{newer}
use Rattle.sender.specs.declared.Sender.{Sender}
use Rattle.sender.specs.declared.Released.{Released}
use Rattle.sender.specs.State.{good_times, good_slots, roomy, good_fields, good_sender, time_of}
use Rattle.sender.specs.Stage.{permutes, place_in, waits}
use Rattle.sender.specs.Waiting.{earliest, free_in}
use Rattle.sender.specs.Calls.{after_similar, similar, median_in, old, after_config, after_body, transmit_answer, Sent, transmitted, transmit_of, sent, refused_transmission, early, timeout_answer, released, timeout_of, refused_timeout}

-- ---- tests

not_second : (a b : Bool) → a && b ≡ false → a ≡ true → b ≡ false
not_second true b h e = h
not_second false b h e = absurd (false≢true e)

-- ---- states

pub fields_facts : (s : Sender) → good_fields s ≡ true → (good_config s.config ≡ true) × (paired s.accepted.epoch s.accepted.round ≡ true) × (flags s.taken ≡ true) × (good_times s.times ≡ true)
unfolding good_fields
fields_facts s h =
    let p = and-true (good_config s.config && paired s.accepted.epoch s.accepted.round && flags s.taken) (good_times s.times) h in
    let q = and-true (good_config s.config && paired s.accepted.epoch s.accepted.round) (flags s.taken) p.0 in
    let r = and-true (good_config s.config) (paired s.accepted.epoch s.accepted.round) q.0 in
    (r.0, r.1, q.1, p.1)

pub record SenderGood (s : Sender) (waiting : List ℕ) : Type 0 where
  pub config : good_config s.config ≡ true
  pub accepted : paired s.accepted.epoch s.accepted.round ≡ true
  pub taken : flags s.taken ≡ true
  pub times : good_times s.times ≡ true
  pub held : good_slots slots s waiting ≡ true

pub sender_facts : (s : Sender) (waiting : List ℕ) → roomy waiting ≡ true → good_sender s waiting ≡ true → SenderGood s waiting
unfolding good_sender
sender_facts s waiting room h =
    let p = and-true (good_fields s) (not (roomy waiting) || good_slots slots s waiting) h in
    let (config, accepted, taken, times) = fields_facts s p.0 in
    record { config = config; accepted = accepted; taken = taken; times = times; held = rw room at p.1 }

pub good_sender_lem : (s : Sender) (waiting : List ℕ) → SenderGood s waiting → good_sender s waiting ≡ true
unfolding good_sender good_fields
good_sender_lem s waiting g = rw (g.config, g.accepted, g.taken, g.times, g.held) (or-true (not (roomy waiting)))

-- a sender whose configuration is not in range is not
pub config_refused : (s : Sender) (waiting : List ℕ) → good_config s.config ≡ false → good_sender s waiting ≡ false
unfolding good_sender good_fields
config_refused s waiting h = rw h

-- ---- transmissions

pub record TransmitPassed (s : Sender) (body : List ℕ) (time : ℕ) (commit : Commit) (permutation waiting : List ℕ) : Type 0 where
  pub good : good_sender s waiting ≡ true
  pub room : roomy waiting ≡ true
  pub body_good : body_answer s.config.n 6 body ≡ answer.Done
  pub time_good : good_time time ≡ true
  pub order : permutes s.config.n permutation ≡ true
  pub above : newer (attested_in body).epoch (attested_in body).round commit.epoch commit.round ≡ true
  pub rises : newer (attested_in body).epoch (attested_in body).round s.accepted.epoch s.accepted.round ≡ true
  pub free : waits s.config (place_in s.config permutation) ≡ true → free_in s.taken ≡ slots → ⊥

-- it is above both, and where it is to wait there is a free slot
config_passed : (s : Sender) (commit : Commit) (a : Attested) (place : ℕ) → is_done (after_config s commit a place) ≡ true → (newer a.epoch a.round commit.epoch commit.round ≡ true) × (newer a.epoch a.round s.accepted.epoch s.accepted.round ≡ true) × (waits s.config place && eqb (free_in s.taken) slots ≡ false)
unfolding after_config after_similar number_of
config_passed s commit a place h =
    let p = stage_passed itself (old s commit a) answer.Old (cond (similar s commit (median_in a)) answer.Similar (after_similar s place)) refl h in
    let q = stage_passed itself (similar s commit (median_in a)) answer.Similar (after_similar s place) refl p.1 in
    let r = stage_passed itself (waits s.config place && eqb (free_in s.taken) slots) answer.Queue answer.Done refl q.1 in
    let t = or-false (not (newer a.epoch a.round commit.epoch commit.round)) (not (newer a.epoch a.round s.accepted.epoch s.accepted.round)) p.0 in
    (not-false _ t.0, not-false _ t.1, r.0)

pub transmit_passed : (s : Sender) (body : List ℕ) (time : ℕ) (commit : Commit) (permutation waiting : List ℕ) → is_done (transmit_answer s body time commit permutation waiting) ≡ true → TransmitPassed s body time commit permutation waiting
unfolding transmit_answer after_body number_of
transmit_passed s body time commit permutation waiting h =
    let place = place_in s.config permutation in
    let said = body_answer s.config.n 6 body in
    let after = after_body s body time commit permutation in
    let last = after_config s commit (attested_in body) place in
    let p = stage_passed itself (not (good_sender s waiting)) answer.State (cond (not (roomy waiting)) answer.Room (cond (not (is_done said)) said after)) refl h in
    let q = stage_passed itself (not (roomy waiting)) answer.Room (cond (not (is_done said)) said after) refl p.1 in
    let r = answer_passed itself said said after refl q.1 in
    let t = stage_passed itself (not (good_time time && good_commit commit)) answer.Range (cond (not (permutes s.config.n permutation)) answer.Config last) refl r.1 in
    let u = stage_passed itself (not (permutes s.config.n permutation)) answer.Config last refl t.1 in
    let v = config_passed s commit (attested_in body) place u.1 in
    record {
      good = not-false _ p.0;
      room = not-false _ q.0;
      body_good = r.0;
      time_good = (and-true (good_time time) (good_commit commit) (not-false _ t.0)).0;
      order = not-false _ u.0;
      above = v.0;
      rises = v.1;
      free = λ w. eqb-false (free_in s.taken) slots (not_second (waits s.config place) (eqb (free_in s.taken) slots) v.2 w);
    }

-- in a state in range, with room, the other checks decide
pub transmit_done : (s : Sender) (body : List ℕ) (time : ℕ) (commit : Commit) (permutation waiting : List ℕ) → good_sender s waiting ≡ true → roomy waiting ≡ true → is_done (cond (not (is_done (body_answer s.config.n 6 body))) (body_answer s.config.n 6 body) (after_body s body time commit permutation)) ≡ true → is_done (transmit_answer s body time commit permutation waiting) ≡ true
unfolding transmit_answer
transmit_done s body time commit permutation waiting good room h = rw (good, room, h)

-- what a call answers is what its checks answer
pub transmit_told : (s : Sender) (body : List ℕ) (time : ℕ) (commit : Commit) (permutation waiting : List ℕ) → (transmit_of s body time commit permutation waiting).result.answer ≡ transmit_answer s body time commit permutation waiting
unfolding transmit_of transmitted
transmit_told s body time commit permutation waiting =
    let said = transmit_answer s body time commit permutation waiting in
    answer_told (λ (r : Sent). r.result.answer) said (transmitted s body time (place_in s.config permutation) waiting) (sent (refused_transmission said s) waiting) refl refl

-- so it is DONE where no check refuses
pub transmit_answer_lem : (s : Sender) (body : List ℕ) (time : ℕ) (commit : Commit) (permutation waiting : List ℕ) → is_done (transmit_of s body time commit permutation waiting).result.answer ≡ is_done (transmit_answer s body time commit permutation waiting)
transmit_answer_lem s body time commit permutation waiting = ap is_done (transmit_told s body time commit permutation waiting)

-- ---- timeouts

pub record TimeoutPassed (s : Sender) (time : ℕ) (waiting : List ℕ) : Type 0 where
  pub good : good_sender s waiting ≡ true
  pub room : roomy waiting ≡ true
  pub some : earliest s waiting ≡ slots → ⊥
  pub due : time_of s (earliest s waiting) ≤ time

pub timeout_passed : (s : Sender) (time : ℕ) (commit : Commit) (waiting : List ℕ) → is_done (timeout_answer s time commit waiting) ≡ true → TimeoutPassed s time waiting
unfolding timeout_answer early number_of
timeout_passed s time commit waiting h =
    let last = cond (early s time waiting) answer.Ignored answer.Done in
    let p = stage_passed itself (not (good_sender s waiting)) answer.State (cond (not (roomy waiting)) answer.Room (cond (not (good_time time && good_commit commit)) answer.Range last)) refl h in
    let q = stage_passed itself (not (roomy waiting)) answer.Room (cond (not (good_time time && good_commit commit)) answer.Range last) refl p.1 in
    let r = stage_passed itself (not (good_time time && good_commit commit)) answer.Range last refl q.1 in
    let t = stage_passed itself (early s time waiting) answer.Ignored answer.Done refl r.1 in
    let u = or-false (eqb (earliest s waiting) slots) (ltb time (time_of s (earliest s waiting))) t.0 in
    record { good = not-false _ p.0; room = not-false _ q.0; some = eqb-false _ _ u.0; due = ltb-false _ _ u.1 }

pub timeout_done : (s : Sender) (time : ℕ) (commit : Commit) (waiting : List ℕ) → good_time time && good_commit commit ≡ true → TimeoutPassed s time waiting → is_done (timeout_answer s time commit waiting) ≡ true
unfolding timeout_answer early number_of
timeout_done s time commit waiting h p =
    rw (p.good, p.room, h, ne_eqb (earliest s waiting) slots p.some, le-ltb time (time_of s (earliest s waiting)) p.due)

pub timeout_told : (s : Sender) (time : ℕ) (commit : Commit) (waiting : List ℕ) → (timeout_of s time commit waiting).answer ≡ timeout_answer s time commit waiting
unfolding timeout_of released
timeout_told s time commit waiting =
    let said = timeout_answer s time commit waiting in
    answer_told (λ (r : Released). r.answer) said (released s time commit waiting) (refused_timeout said s) refl refl

pub timeout_answer_lem : (s : Sender) (time : ℕ) (commit : Commit) (waiting : List ℕ) → is_done (timeout_of s time commit waiting).answer ≡ is_done (timeout_answer s time commit waiting)
timeout_answer_lem s time commit waiting = ap is_done (timeout_told s time commit waiting)
