-- One slot is written, or freed: what it holds then, and that every other slot holds what it held.
use mathlib.Core.Path.{◌≡◌, refl, sym, ap, ap₂, ◌∙◌}
use mathlib.Core.Bool.{Bool, true, false, not, cond, ◌&&◌, ◌||◌, false≢true}
use mathlib.Core.List.{List, [], ◌∷◌}
use Prim.Native.Nat.{ℕ, zero, suc, ◌+◌, ◌-◌, ◌*◌, ◌≤◌, ◌<◌}
use native.Mathlib.Omega.{arith}
use borrow.Author.Count.{below_more}
use borrow.Author.Tests.{le-leb, eqb-true, eqb-false}
use lib.Dec.{eqb, leb}
use lib.ListN.{length, set, take, drop, replicate}
use lib.Seq.{get_or-set_same, get_or-set_other}
use Rattle.config.specs.Limits.{kept_size, slots, last_time, longest_delay}
use Rattle.config.proofs.Facts.{and-true}
use Rattle.wire.specs.Overlay.{over}
use Rattle.wire.proofs.Overlay.{take_over, over_drop, part_over}
use Rattle.quorum.specs.Marks.{marked}
use Rattle.quorum.proofs.Cases.{cases, either, split, test_false}
use Rattle.quorum.proofs.Counts.{every_set, every_replicate}
use Rattle.frame.specs.Range.{good_attested}
use Rattle.frame.specs.Decode.{attested_in}
use Rattle.frame.proofs.Access.{part_of_take}
use Rattle.report.specs.Kept.{kept_bytes}
use Rattle.report.specs.Whole.{final_length}
use Rattle.report.proofs.Kept.{length_kept}
use Rattle.report.proofs.Bodies.{attested_append}
use Rattle.sender.specs.declared.Sender.{Sender}
use Rattle.sender.specs.State.{slot_in, report_in, taken, time_of, good_times, good_slots}
use Rattle.sender.specs.Waiting.{free_in}
use Rattle.sender.specs.Calls.{with_slot}
use Rattle.sender.proofs.Queue.{held_in}

-- ---- tables in range

pub times_set : (times : List ℕ) (place time : ℕ) → time ≤ last_time + longest_delay → good_times times ≡ true → good_times (set times place time) ≡ true
unfolding good_times
times_set times place time h e = every_set (λ t. leb t (last_time + longest_delay)) times place time (le-leb time (last_time + longest_delay) h) e

pub times_none : (n : ℕ) → good_times (replicate n 0) ≡ true
unfolding good_times
times_none n = every_replicate (λ t. leb t (last_time + longest_delay)) n 0 refl

-- ---- the lowest free slot

pub free_unmarked : (l : List ℕ) → marked l (free_in l) ≡ false
unfolding free_in
free_unmarked [] = refl
free_unmarked (t ∷ l) = either (λ k. marked (t ∷ l) k ≡ false) (eqb t 1) _ _ (λ e. free_unmarked l) (λ e. e)

-- ---- the tables, with slot k written

module _ (s : Sender) (k flag time : ℕ) where
  pub taken_here : k < length s.taken → taken (with_slot s k flag time) k ≡ eqb flag 1
  taken_here h = ap (λ (m : ℕ). eqb m 1) (get_or-set_same s.taken k flag 0 h)

  pub time_here : k < length s.times → time_of (with_slot s k flag time) k ≡ time
  time_here h = get_or-set_same s.times k time 0 h

  pub taken_other : (j : ℕ) → (j ≡ k → ⊥) → taken (with_slot s k flag time) j ≡ taken s j
  taken_other j apart = ap (λ (m : ℕ). eqb m 1) (get_or-set_other s.taken k j flag 0 apart)

  pub time_other : (j : ℕ) → (j ≡ k → ⊥) → time_of (with_slot s k flag time) j ≡ time_of s j
  time_other j apart = get_or-set_other s.times k j time 0 apart

  pub held_other : (b c : List ℕ) (j : ℕ) → (j ≡ k → ⊥) → report_in c j ≡ report_in b j → held_in s b j ≡ held_in (with_slot s k flag time) c j
  held_other b c j apart same = sym (λ i. cond (taken_other j apart i) (record { time = time_other j apart i; report = same i } ∷ []) [])

-- ---- the bytes of the slots

module _ (l : List ℕ) (k : ℕ) (bs : List ℕ) (long : length bs ≡ kept_size) where
  slot_here : suc k * kept_size ≤ length l → slot_in (over l (k * kept_size) bs) k ≡ bs
  slot_here h = ap (λ (n : ℕ). take n (drop (k * kept_size) (over l (k * kept_size) bs))) (sym long) ∙ part_over l (k * kept_size) bs (omega arith)

  slot_other : (j : ℕ) → (j ≡ k → ⊥) → slot_in (over l (k * kept_size) bs) j ≡ slot_in l j
  slot_other j apart =
      cases (split k j)
      (λ h. ap (take kept_size) (over_drop bs l (j * kept_size) (k * kept_size) (omega arith)))
      (λ h.
      let r : j * kept_size + kept_size ≤ k * kept_size = omega arith in
      sym (part_of_take kept_size (j * kept_size) (k * kept_size) (over l (k * kept_size) bs) r)
      ∙ ap (λ (m : List ℕ). take kept_size (drop (j * kept_size) m)) (take_over l (k * kept_size) bs)
      ∙ part_of_take kept_size (j * kept_size) (k * kept_size) l r)

-- a body that waits stands at its slot's start
module _ (l : List ℕ) (k : ℕ) (body : List ℕ) (short : length body ≤ kept_size) where
  pub report_here : final_length body ≤ length body → suc k * kept_size ≤ length l → report_in (over l (k * kept_size) (kept_bytes body)) k ≡ attested_in body
  report_here whole h = ap attested_in (slot_here l k (kept_bytes body) (length_kept body short) h) ∙ attested_append body (replicate (kept_size - length body) 0) whole

  pub kept_other : (j : ℕ) → (j ≡ k → ⊥) → slot_in (over l (k * kept_size) (kept_bytes body)) j ≡ slot_in l j
  kept_other j apart = slot_other l k (kept_bytes body) (length_kept body short) j apart

  pub report_other : (j : ℕ) → (j ≡ k → ⊥) → report_in (over l (k * kept_size) (kept_bytes body)) j ≡ report_in l j
  report_other j apart = ap attested_in (kept_other j apart)

-- ---- slots in range

unless : (a b : Bool) → (not a || b) ≡ true → a ≡ true → b ≡ true
unless true b h e = h
unless false b h e = absurd (false≢true e)

unless_of : (a b : Bool) → (a ≡ true → b ≡ true) → (not a || b) ≡ true
unless_of true b h = h refl
unless_of false b h = refl

-- a slot that is taken holds a body in range
abbrev pub GoodAt : Sender → List ℕ → ℕ → Type 0
GoodAt s bytes j = taken s j ≡ true → good_attested s.config.n (report_in bytes j) ≡ true

pub slots_each : (m : ℕ) (s : Sender) (bytes : List ℕ) → good_slots m s bytes ≡ true → (j : ℕ) → j < m → GoodAt s bytes j
unfolding good_slots
slots_each zero s bytes h = λ j g. absurd (omega arith)
slots_each (suc m) s bytes h =
    let here = good_attested s.config.n (report_in bytes m) in
    let p = and-true (good_slots m s bytes) (not (taken s m) || here) h in
    λ j g. below_more (GoodAt s bytes) m (slots_each m s bytes p.0) (unless (taken s m) here p.1) j (omega arith)

pub each_slots : (m : ℕ) (s : Sender) (bytes : List ℕ) → ((j : ℕ) → j < m → GoodAt s bytes j) → good_slots m s bytes ≡ true
unfolding good_slots
each_slots zero s bytes h = refl
each_slots (suc m) s bytes h =
    ap₂ ◌&&◌ (each_slots m s bytes (λ j g. h j (omega arith))) (unless_of (taken s m) (good_attested s.config.n (report_in bytes m)) (h m (omega arith)))

-- and they are not where one slot is neither free nor holds a body in range
pub slot_bad : (m j : ℕ) (s : Sender) (bytes : List ℕ) → j < m → (not (taken s j) || good_attested s.config.n (report_in bytes j)) ≡ false → good_slots m s bytes ≡ false
slot_bad m j s bytes h e =
    test_false (good_slots m s bytes) (λ g. false≢true (sym e ∙ unless_of (taken s j) (good_attested s.config.n (report_in bytes j)) (slots_each m s bytes g j h)))

-- they are in range still where slot k is written, if what it then holds is
pub good_written : (s : Sender) (k flag time : ℕ) (b c : List ℕ) → ((j : ℕ) → (j ≡ k → ⊥) → report_in c j ≡ report_in b j) → ((j : ℕ) → j < slots → GoodAt s b j) → GoodAt (with_slot s k flag time) c k → (j : ℕ) → j < slots → GoodAt (with_slot s k flag time) c j
good_written s k flag time b c same all here j h e = go (eqb j k) refl
  where
    go : (q : Bool) → eqb j k ≡ q → good_attested s.config.n (report_in c j) ≡ true
    go true q =
        let z = eqb-true j k q in
        ap (λ (i : ℕ). good_attested s.config.n (report_in c i)) z ∙ here (ap (taken (with_slot s k flag time)) (sym z) ∙ e)
    go false q =
        let apart = eqb-false j k q in
        ap (good_attested s.config.n) (same j apart) ∙ all j h (sym (taken_other s k flag time j apart) ∙ e)
