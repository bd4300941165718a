-- What a call does to the queue: it goes on with what waited and what it has wait, less what it removes; its state stays in range, and the slots that
-- it does not write stay as they were.
use mathlib.Core.Path.{◌≡◌, refl, sym, ap, ◌∙◌, subst₂}
use mathlib.Core.Bool.{true, cond, false≢true}
use mathlib.Core.List.{List, [], ◌∷◌, ◌++◌}
use Prim.Native.Nat.{ℕ, ◌+◌, ◌*◌, ◌≤◌, ◌<◌}
use native.Mathlib.Nat.{mul-le-mul}
use native.Mathlib.Omega.{arith}
use borrow.Author.Tests.{leb-true, ne_eqb}
use lib.Dec.{leb}
use lib.ListN.{length, length-set}
use Rattle.config.specs.Limits.{kept_size, slots, last_time, longest_stage, longest_delay, most_stages, waiting_size}
use Rattle.config.specs.Bounds.{paired}
use Rattle.config.specs.declared.Commit.{Commit}
use Rattle.config.proofs.Facts.{good_facts}
use Rattle.wire.proofs.Overlay.{length_over}
use Rattle.quorum.specs.Sort.{Perm}
use Rattle.quorum.proofs.Marks.{flags_set}
use Rattle.quorum.proofs.Perms.{perm_same, perm_back}
use Rattle.frame.specs.Decode.{attested_in}
use Rattle.frame.specs.Range.{good_attested}
use Rattle.frame.proofs.Checked.{CheckedFinal, checked_final}
use Rattle.report.specs.Kept.{kept_bytes}
use Rattle.sender.specs.State.{report_in, taken}
use Rattle.sender.specs.Stage.{place_in, stage_for, waits}
use Rattle.sender.specs.Waiting.{Waiting, waiting, earliest, free_in}
use Rattle.sender.specs.History.{Whole}
use Rattle.sender.specs.Claims.{Good, Stays}
use Rattle.sender.proofs.Slots.{body_fits, free_within}
use Rattle.sender.proofs.Facts.{SenderGood, sender_facts, good_sender_lem, TransmitPassed}
use Rattle.sender.proofs.Queue.{held_at, held_in, below_same, below_moved, earliest_law}
use Rattle.sender.proofs.Writes.{times_set, free_unmarked, taken_here, time_here, taken_other, time_other, held_other, report_here, kept_other, report_other, slots_each, each_slots, good_written}
use Rattle.sender.proofs.Outcomes.{due_for, accepts, queues, removes}

facts : (w : Whole) → Good w → SenderGood w.sender w.slots
facts w g = sender_facts w.sender w.slots g.room g.range

-- ---- a report is removed

module _ (w : Whole) (g : Good w) (some : earliest w.sender w.slots ≡ slots → ⊥) where
  pub removed_moved : Perm (waiting w.sender w.slots ++ []) (waiting (removes w).sender w.slots ++ held_at w.sender w.slots (earliest w.sender w.slots) ∷ [])
  removed_moved =
      let s = w.sender in
      let k = earliest s w.slots in
      let e = earliest_law s w.slots some in
      let here : held_in s w.slots k ≡ held_at s w.slots k ∷ [] = rw e.held in
      let gone : held_in (removes w).sender w.slots k ≡ [] = rw (taken_here s k 0 0 (omega (arith, e.within, g.sized.taken))) in
      subst₂ (λ (l m : List Waiting). Perm (waiting s w.slots ++ l) (waiting (removes w).sender w.slots ++ m)) gone here
      (below_moved s (removes w).sender w.slots w.slots slots k e.within (λ j apart. held_other s k 0 0 w.slots w.slots j apart refl))

  pub removed_good : Good (removes w)
  removed_good =
      let s = w.sender in
      let k = earliest s w.slots in
      let e = earliest_law s w.slots some in
      let f = facts w g in
      let free = taken_here s k 0 0 (omega (arith, e.within, g.sized.taken)) in
      record {
        sized = record { taken = length-set s.taken k 0 ∙ g.sized.taken; times = length-set s.times k 0 ∙ g.sized.times };
        room = g.room;
        range =
            good_sender_lem (removes w).sender w.slots
            (record {
              config = f.config;
              accepted = f.accepted;
              taken = flags_set s.taken k 0 (omega arith) f.taken;
              times = times_set s.times k 0 (omega arith) f.times;
              held = each_slots slots (removes w).sender w.slots (good_written s k 0 0 w.slots w.slots (λ j _. refl) (slots_each slots s w.slots f.held) (λ h. absurd (false≢true (sym free ∙ h))));
            });
      }

-- the other slots are as they were
pub removed_stays : (w : Whole) (slot : ℕ) → taken w.sender slot ≡ true → (slot ≡ earliest w.sender w.slots → ⊥) → Stays w (removes w) slot
removed_stays w slot e apart =
    let s = w.sender in
    let k = earliest s w.slots in
    record { is_taken = taken_other s k 0 0 slot apart ∙ e; time = time_other s k 0 0 slot apart; bytes = refl }

-- ---- a report is accepted

pub accepted_moved : (w : Whole) (body : List ℕ) → Perm (waiting w.sender w.slots ++ []) (waiting (accepts w body).sender w.slots ++ [])
accepted_moved w body = perm_back [] (perm_same (below_same w.sender (accepts w body).sender w.slots w.slots slots (λ j _. refl)))

module _ (w : Whole) (g : Good w) {body : List ℕ} {time : ℕ} {commit : Commit} {permutation : List ℕ} (p : TransmitPassed w.sender body time commit permutation w.slots) where
  checked : CheckedFinal w.sender.config.n body
  checked = checked_final w.sender.config.n body p.body_good

  accepted_paired : paired (attested_in body).epoch (attested_in body).round ≡ true
  accepted_paired =
      let r = checked.head.range in
      rw (ne_eqb (attested_in body).epoch 0 (λ z. omega arith), ne_eqb (attested_in body).round 0 (λ z. omega arith))

  pub accepted_good : Good (accepts w body)
  accepted_good =
      let f = facts w g in
      record {
        sized = record { taken = g.sized.taken; times = g.sized.times };
        room = g.room;
        range = good_sender_lem (accepts w body).sender w.slots (record { config = f.config; accepted = accepted_paired; taken = f.taken; times = f.times; held = each_slots slots (accepts w body).sender w.slots (slots_each slots w.sender w.slots f.held) });
      }

  short : length body ≤ kept_size
  short = body_fits w.sender.config.n body (good_facts w.sender.config (facts w g).config).feed.members.most p.body_good

  -- and it waits
  module _ (wait : waits w.sender.config (place_in w.sender.config permutation) ≡ true) where
    free_slot : free_in w.sender.taken < slots
    free_slot = let apart = p.free wait in omega (arith, free_within w.sender.taken, g.sized.taken)

    due_most : due_for w time permutation ≤ last_time + longest_delay
    due_most =
        let c = w.sender.config in
        let place = place_in c permutation in
        let feed = (good_facts c (facts w g).config).feed in
        let late = leb-true (stage_for c place) c.stages wait in
        let delay = mul-le-mul {n₁ = stage_for c place} {m₁ = c.delta_stage} {n₂ = most_stages} {m₂ = longest_stage} (omega (arith, feed.schedule.most)) feed.stage in
        omega (arith, leb-true time last_time p.time_good)

    report_queued : report_in (queues w body (due_for w time permutation)).slots (free_in w.sender.taken) ≡ attested_in body
    report_queued =
        let k = free_in w.sender.taken in
        report_here w.slots k body short (omega (arith, checked.whole)) (omega (arith, free_slot, leb-true waiting_size (length w.slots) g.room))

    pub queued_moved : Perm (waiting w.sender w.slots ++ record { time = due_for w time permutation; report = attested_in body } ∷ []) (waiting (queues w body (due_for w time permutation)).sender (queues w body (due_for w time permutation)).slots ++ [])
    queued_moved =
        let s = (accepts w body).sender in
        let k = free_in s.taken in
        let due = due_for w time permutation in
        let t = queues w body due in
        let flag = taken_here s k 1 due (omega (arith, free_slot, g.sized.taken)) in
        let times = time_here s k 1 due (omega (arith, free_slot, g.sized.times)) in
        let here : held_in t.sender t.slots k ≡ record { time = due; report = attested_in body } ∷ [] = λ i. cond (flag i) (record { time = times i; report = report_queued i } ∷ []) [] in
        let gone : held_in w.sender w.slots k ≡ [] = rw (free_unmarked s.taken) in
        subst₂ (λ (l m : List Waiting). Perm (waiting w.sender w.slots ++ l) (waiting t.sender t.slots ++ m)) here gone
        (below_moved w.sender t.sender w.slots t.slots slots k free_slot (λ j apart. held_other s k 1 due w.slots t.slots j apart (report_other w.slots k body short j apart)))

    pub queued_good : Good (queues w body (due_for w time permutation))
    queued_good =
        let s = (accepts w body).sender in
        let k = free_in s.taken in
        let due = due_for w time permutation in
        let t = queues w body due in
        let f = facts w g in
        record {
          sized = record { taken = length-set s.taken k 1 ∙ g.sized.taken; times = length-set s.times k due ∙ g.sized.times };
          room = ap (leb waiting_size) (length_over w.slots (k * kept_size) (kept_bytes body)) ∙ g.room;
          range =
              good_sender_lem t.sender t.slots
              (record {
                config = f.config;
                accepted = accepted_paired;
                taken = flags_set s.taken k 1 (omega arith) f.taken;
                times = times_set s.times k due due_most f.times;
                held = each_slots slots t.sender t.slots (good_written s k 1 due w.slots t.slots (report_other w.slots k body short) (slots_each slots w.sender w.slots f.held) (λ _. ap (good_attested s.config.n) report_queued ∙ checked.good));
              });
        }

    pub queued_stays : (slot : ℕ) → taken w.sender slot ≡ true → Stays w (queues w body (due_for w time permutation)) slot
    queued_stays slot e =
        let s = (accepts w body).sender in
        let k = free_in s.taken in
        let due = due_for w time permutation in
        let apart : slot ≡ k → ⊥ = λ z. false≢true (sym (free_unmarked s.taken) ∙ ap (taken s) (sym z) ∙ e) in
        record { is_taken = taken_other s k 1 due slot apart ∙ e; time = time_other s k 1 due slot apart; bytes = kept_other w.slots k body short slot apart }
