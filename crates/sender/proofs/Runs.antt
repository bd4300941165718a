-- Calls in a row: states stay in range, the configuration stays, the accepted reports only rise, a taken slot stays until its report is removed, what
-- waits and what left add up, and timeouts empty the queue.
use mathlib.Core.Path.{◌≡◌, refl, sym, ap, ◌∙◌, subst, transport}
use mathlib.Core.Bool.{true, ◌&&◌}
use mathlib.Core.Logic.{inl, inr}
use mathlib.Core.List.{List, [], ◌∷◌, ◌++◌, append_assoc, append-nil}
use Prim.Native.Nat.{ℕ, ◌≤◌, ◌<◌}
use native.Mathlib.Omega.{arith}
use lib.ListN.{length, length-append}
use Rattle.config.specs.Limits.{slots}
use Rattle.config.specs.Bounds.{good_time, good_commit}
use Rattle.quorum.specs.Sort.{Perm, done, keep, swap, then}
use Rattle.quorum.proofs.Sort.{perm_refl, length_perm}
use Rattle.quorum.proofs.Perms.{perm_same, perm_back, perm_last}
use Rattle.frame.specs.Claims.{Each}
use Rattle.report.specs.Newer.{newer}
use Rattle.report.proofs.Members.{each_one}
use Rattle.report.proofs.Order.{newer_not_older, not_older_trans}
use Rattle.sender.specs.declared.Accepted.{Accepted}
use Rattle.sender.specs.State.{taken}
use Rattle.sender.specs.Waiting.{Waiting, waiting, earliest}
use Rattle.sender.specs.Calls.{released, timeout_of}
use Rattle.sender.specs.History.{Whole, Call, expires, after, run, queued_by, removed_by, queued_in, removed_in}
use Rattle.sender.specs.Claims.{Good, NotOlder, Rising, Stays, Timeout, AllDue, calling}
use Rattle.sender.proofs.Facts.{TimeoutPassed, timeout_done}
use Rattle.sender.proofs.Queue.{held_at, earliest_law, earliest_some}
use Rattle.sender.proofs.Outcomes.{Does, Outcome, refused, not_waiting, to_wait, removed, outcome, removes}
use Rattle.sender.proofs.Moves.{removed_moved, removed_good, removed_stays, accepted_moved, accepted_good, queued_moved, queued_good, queued_stays}

-- ---- states in range

pub good_call : (w : Whole) (call : Call) → Good w → Good (after w call)
good_call w call g = go (outcome w call)
  where
    go : Outcome w call → Good (after w call)
    go (refused d) = subst Good (sym d.left_is) g
    go (not_waiting body time commit permutation p d) = subst Good (sym d.left_is) (accepted_good w g p)
    go (to_wait body time commit permutation p wait d) = subst Good (sym d.left_is) (queued_good w g p wait)
    go (removed time p d) = subst Good (sym d.left_is) (removed_good w g p.some)

-- ---- the accepted report

abbrev accepted : Whole → Accepted
accepted w = w.sender.accepted

abbrev epoch_of : Accepted → ℕ
epoch_of a = a.epoch

abbrev round_of : Accepted → ℕ
round_of a = a.round

rises_call : (w : Whole) (call : Call) → NotOlder (accepted w) (accepted (after w call))
rises_call w call = go (outcome w call)
  where
    to : {v : Whole} → after w call ≡ v → NotOlder (accepted w) (accepted v) → NotOlder (accepted w) (accepted (after w call))
    to e h = subst (λ (v : Whole). NotOlder (accepted w) (accepted v)) (sym e) h

    go : Outcome w call → NotOlder (accepted w) (accepted (after w call))
    go (refused d) = to d.left_is (inl refl)
    go (not_waiting body time commit permutation p d) = to d.left_is (inr p.rises)
    go (to_wait body time commit permutation p wait d) = to d.left_is (inr p.rises)
    go (removed time p d) = to d.left_is (inl refl)

pub rises_run : (w : Whole) (calls : List Call) → NotOlder (accepted w) (accepted (run w calls))
unfolding run
rises_run w [] = inl refl
rises_run w (call ∷ calls) = not_older_trans epoch_of round_of (accepted w) (accepted (after w call)) (accepted (run (after w call) calls)) (rises_call w call) (rises_run (after w call) calls)

-- ---- the configuration

config_call : (w : Whole) (call : Call) → (after w call).sender.config ≡ w.sender.config
config_call w call = go (outcome w call)
  where
    go : Outcome w call → (after w call).sender.config ≡ w.sender.config
    go (refused d) = ap (λ (v : Whole). v.sender.config) d.left_is
    go (not_waiting body time commit permutation p d) = ap (λ (v : Whole). v.sender.config) d.left_is
    go (to_wait body time commit permutation p wait d) = ap (λ (v : Whole). v.sender.config) d.left_is
    go (removed time p d) = ap (λ (v : Whole). v.sender.config) d.left_is

pub config_run : (w : Whole) (calls : List Call) → (run w calls).sender.config ≡ w.sender.config
unfolding run
config_run w [] = refl
config_run w (call ∷ calls) = config_run (after w call) calls ∙ config_call w call

-- ---- what is accepted to wait

-- each is newer than the one before, and the first of them than (epoch, round)
abbrev RisingFrom : ℕ → ℕ → List Waiting → Type 0
RisingFrom epoch round [] = Unit {0}
RisingFrom epoch round (x ∷ l) = (newer x.report.epoch x.report.round epoch round ≡ true) × RisingFrom x.report.epoch x.report.round l

rising_only : (epoch round : ℕ) (l : List Waiting) → RisingFrom epoch round l → Rising l
rising_only epoch round [] h = tt
rising_only epoch round (x ∷ []) h = tt
rising_only epoch round (x ∷ y ∷ l) h = (h.1.0, rising_only x.report.epoch x.report.round (y ∷ l) h.1)

-- and so than an older one
rising_lower : (a b : Accepted) (l : List Waiting) → NotOlder a b → RisingFrom b.epoch b.round l → RisingFrom a.epoch a.round l
rising_lower a b [] n h = tt
rising_lower a b (x ∷ l) n h = (newer_not_older epoch_of round_of x.report.epoch x.report.round a b n h.0, h.1)

rising_run : (w : Whole) (calls : List Call) → RisingFrom (accepted w).epoch (accepted w).round (queued_in w calls)
unfolding queued_in
rising_run w [] = tt
rising_run w (call ∷ calls) = go (outcome w call) (rising_run (after w call) calls)
  where
    rest : List Waiting
    rest = queued_in (after w call) calls

    -- none waits
    none : queued_by w call ≡ [] → RisingFrom (accepted (after w call)).epoch (accepted (after w call)).round rest → RisingFrom (accepted w).epoch (accepted w).round (queued_by w call ++ rest)
    none e h = rw e (rising_lower (accepted w) (accepted (after w call)) rest (rises_call w call) h)

    go : Outcome w call → RisingFrom (accepted (after w call)).epoch (accepted (after w call)).round rest → RisingFrom (accepted w).epoch (accepted w).round (queued_by w call ++ rest)
    go (refused d) h = none d.new_is h
    go (not_waiting body time commit permutation p d) h = none d.new_is h
    go (to_wait body time commit permutation p wait d) h = rw d.new_is (p.rises, subst (λ (v : Whole). RisingFrom (accepted v).epoch (accepted v).round rest) d.left_is h)
    go (removed time p d) h = none d.new_is h

pub queued_rises : (w : Whole) (calls : List Call) → Rising (queued_in w calls)
queued_rises w calls = rising_only (accepted w).epoch (accepted w).round (queued_in w calls) (rising_run w calls)

-- ---- a slot that is taken

pub slot_stays : (w : Whole) (call : Call) (slot : ℕ) → Good w → taken w.sender slot ≡ true → (removed_by w call ≡ [] → Stays w (after w call) slot) × ((slot ≡ earliest w.sender w.slots → ⊥) → Stays w (after w call) slot)
slot_stays w call slot g e = go (outcome w call)
  where
    to : {v : Whole} → after w call ≡ v → Stays w v slot → Stays w (after w call) slot
    to d h = subst (λ (v : Whole). Stays w v slot) (sym d) h

    both : Stays w (after w call) slot → (removed_by w call ≡ [] → Stays w (after w call) slot) × ((slot ≡ earliest w.sender w.slots → ⊥) → Stays w (after w call) slot)
    both h = (λ _. h, λ _. h)

    go : Outcome w call → (removed_by w call ≡ [] → Stays w (after w call) slot) × ((slot ≡ earliest w.sender w.slots → ⊥) → Stays w (after w call) slot)
    go (refused d) = both (to d.left_is (record { is_taken = e; time = refl; bytes = refl }))
    go (not_waiting body time commit permutation p d) = both (to d.left_is (record { is_taken = e; time = refl; bytes = refl }))
    go (to_wait body time commit permutation p wait d) = both (to d.left_is (queued_stays w g p wait slot e))
    go (removed time p d) =
        (λ none. absurd (omega (arith, ap length (sym none ∙ d.gone_is))), λ apart. to d.left_is (removed_stays w slot e apart))

-- ---- what waits

abbrev waiting_in : Whole → List Waiting
waiting_in w = waiting w.sender w.slots

moved_call : (w : Whole) (call : Call) → Good w → Perm (waiting_in w ++ queued_by w call) (waiting_in (after w call) ++ removed_by w call)
moved_call w call g = go (outcome w call)
  where
    to : {left : Whole} {new gone : List Waiting} → Does w call left new gone → Perm (waiting_in w ++ new) (waiting_in left ++ gone) → Perm (waiting_in w ++ queued_by w call) (waiting_in (after w call) ++ removed_by w call)
    to d r = transport (sym (λ i. Perm (waiting_in w ++ d.new_is i) (waiting_in (d.left_is i) ++ d.gone_is i))) r

    go : Outcome w call → Perm (waiting_in w ++ queued_by w call) (waiting_in (after w call) ++ removed_by w call)
    go (refused d) = to d (perm_refl (waiting_in w ++ []))
    go (not_waiting body time commit permutation p d) = to d (accepted_moved w body)
    go (to_wait body time commit permutation p wait d) = to d (queued_moved w g p wait)
    go (removed time p d) = to d (removed_moved w g p.some)

pub moved_run : (w : Whole) (calls : List Call) → Good w → Perm (waiting_in w ++ queued_in w calls) (waiting_in (run w calls) ++ removed_in w calls)
unfolding run queued_in removed_in
moved_run w [] g = perm_refl (waiting_in w ++ [])
moved_run w (call ∷ calls) g =
    let v = after w call in
    let new = queued_in v calls in
    let gone = removed_in v calls in
    then (perm_same (sym (append_assoc (waiting_in w) (queued_by w call) new)))
    (then (perm_back new (moved_call w call g))
    (then (perm_last (waiting_in v) (removed_by w call) new)
    (then (perm_back (removed_by w call) (moved_run v calls (good_call w call g)))
    (then (perm_last (waiting_in (run v calls)) gone (removed_by w call))
    (perm_same (append_assoc (waiting_in (run v calls)) (removed_by w call) gone))))))

-- ---- timeouts

each_perm : (P : Waiting → Type 0) {l m : List Waiting} → Perm l m → Each P l → Each P m
each_perm P done h = h
each_perm P (keep r) h = (h.0, each_perm P r h.1)
each_perm P swap h = (h.1.0, (h.0, h.1.1))
each_perm P (then r s) h = each_perm P s (each_perm P r h)

each_front : (P : Waiting → Type 0) (l m : List Waiting) → Each P (l ++ m) → Each P l
each_front P [] m h = tt
each_front P (x ∷ l) m h = (h.0, each_front P l m h.1)

-- they are due for whatever of it still waits
all_due : (ts : List Timeout) (l m k : List Waiting) → Perm l (m ++ k) → AllDue ts l → AllDue ts m
all_due [] l m k r h = tt
all_due (t ∷ ts) l m k r h =
    let due : Waiting → Type 0 = λ x. x.time ≤ t.time in
    (h.0, each_front due m k (each_perm due r h.1), all_due ts l m k r h.2)

nothing_left : (l : List Waiting) → 0 ≡ length l → l ≡ []
nothing_left [] e = refl
nothing_left (x ∷ l) e = absurd (omega arith)

module _ (w : Whole) (g : Good w) (some : 0 < length (waiting_in w)) where
  found : earliest w.sender w.slots ≡ slots → ⊥
  found = earliest_some w.sender w.slots some

  removes_one : Perm (waiting_in w) (waiting_in (removes w) ++ held_at w.sender w.slots (earliest w.sender w.slots) ∷ [])
  removes_one = then (perm_same (sym (append-nil (waiting_in w)))) (removed_moved w g found)

  -- a timeout that is due removes the earliest
  expired : (t : Timeout) → good_time t.time && good_commit t.commit ≡ true → Each (λ (x : Waiting). x.time ≤ t.time) (waiting_in w) → after w (expires t.time t.commit) ≡ removes w
  unfolding timeout_of released
  expired t in_range due =
      let first = held_at w.sender w.slots (earliest w.sender w.slots) in
      let waited = (earliest_law w.sender w.slots found).waited in
      let passed : TimeoutPassed w.sender t.time w.slots = record { good = g.range; room = g.room; some = found; due = each_one (λ (x : Waiting). x.time ≤ t.time) first (waiting_in w) due waited } in
      rw (timeout_done w.sender t.time t.commit w.slots in_range passed)

pub timeouts_empty : (w : Whole) (ts : List Timeout) → Good w → AllDue ts (waiting_in w) → length ts ≡ length (waiting_in w) → waiting_in (run w (calling ts)) ≡ []
unfolding run
timeouts_empty w [] g due many = nothing_left (waiting_in w) many
timeouts_empty w (t ∷ ts) g due many =
    let some : 0 < length (waiting_in w) = omega arith in
    let x = held_at w.sender w.slots (earliest w.sender w.slots) in
    let r = removes_one w g some in
    let fewer : length ts ≡ length (waiting_in (removes w)) = omega (arith, length_perm r, length-append (waiting_in (removes w)) (x ∷ [])) in
    ap (λ (v : Whole). waiting_in (run v (calling ts))) (expired w g some t due.0 due.1)
    ∙ timeouts_empty (removes w) ts (removed_good w g (found w g some)) (all_due ts (waiting_in w) (waiting_in (removes w)) (x ∷ []) r due.2) fewer
