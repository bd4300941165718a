-- Laws of slots: the bytes of one, the body kept in it, the lowest free one, and the earliest.
use mathlib.Core.Bool.{Bool, true, false, cond, ◌&&◌, ◌||◌}
use mathlib.Core.List.{List, [], ◌∷◌}
use mathlib.Core.Path.{◌≡◌, refl, ap, ◌∙◌}
use Prim.Native.Nat.{ℕ, zero, suc, ◌+◌, ◌-◌, ◌*◌, ◌≤◌, ◌<◌}
use native.Mathlib.Nat.{le_refl}
use native.Mathlib.Omega.{arith}
use borrow.Author.Tests.{ne_eqb}
use lib.Dec.{eqb}
use lib.ListN.{length, get_or, drop, length-drop}
use lib.Seq.{length-take-le, get_or-take, get_or-drop}
use borrow.Rule.Slice.PartMut.{mid_of, put_mid}
use Rattle.config.specs.Limits.{members, kept_size, slots, waiting_size}
use Rattle.config.specs.Answers.{Done}
use Rattle.wire.specs.Overlay.{over}
use Rattle.wire.proofs.Overlay.{lent_start}
use Rattle.frame.specs.Check.{body_answer}
use Rattle.frame.proofs.Checked.{checked_final, checked_fits}
use Rattle.report.specs.Kept.{kept_bytes, keeping}
use Rattle.report.proofs.Kept.{length_kept}
use Rattle.sender.specs.declared.Sender.{Sender}
use Rattle.sender.specs.State.{slot_in, taken}
use Rattle.sender.specs.Waiting.{sooner, earliest_below, free_in}

-- ---- bytes

pub length_slot : (waiting bytes : List ℕ) (slot : ℕ) → bytes ≡ slot_in waiting slot → waiting_size ≤ length waiting → slot < slots → length bytes ≡ kept_size
length_slot waiting bytes slot e room h =
    ap length e ∙ length-take-le kept_size (drop (slot * kept_size) waiting) (rw length-drop (omega arith))

pub slot_at : (waiting bytes : List ℕ) (slot i : ℕ) → bytes ≡ slot_in waiting slot → i < kept_size → get_or bytes i 0 ≡ get_or waiting (slot * kept_size + i) 0
slot_at waiting bytes slot i e h =
    ap (λ (l : List ℕ). get_or l i 0) e ∙ get_or-take kept_size (drop (slot * kept_size) waiting) i 0 h ∙ get_or-drop (slot * kept_size) waiting i 0

-- ---- bodies

pub body_fits : (n : ℕ) (body : List ℕ) → n ≤ members → body_answer n 6 body ≡ Done → length body ≤ kept_size
body_fits n body h e = checked_fits n body h (checked_final n body e)

-- a body kept in the part of the bytes that a slot begins fills the slot
pub slot_keep : (waiting left body : List ℕ) (slot : ℕ) → waiting_size ≤ length waiting → slot < slots → length body ≤ kept_size → left ≡ keeping (mid_of (slot * kept_size) (length waiting - slot * kept_size) waiting) body → put_mid (slot * kept_size) (length waiting - slot * kept_size) waiting left ≡ over waiting (slot * kept_size) (kept_bytes body)
slot_keep waiting left body slot room h short e =
    let long = length_kept body short in
    lent_start waiting left (slot * kept_size) (length waiting - slot * kept_size) (kept_bytes body) e (omega arith) (omega arith)

-- ---- the lowest free slot

pub free_first : (l : List ℕ) (i : ℕ) → i < length l → (get_or l i 0 ≡ 1 → ⊥) → ((k : ℕ) → k < i → get_or l k 0 ≡ 1) → free_in l ≡ i
unfolding free_in
free_first [] i within free before = absurd (omega arith)
free_first (t ∷ l) zero within free before = rw (ne_eqb t 1 free)
free_first (t ∷ l) (suc i) within free before = rw (before 0 (omega arith)) (ap suc (free_first l i (omega arith) free (λ k h. before (suc k) (omega arith))))

pub free_none : (l : List ℕ) → ((k : ℕ) → k < length l → get_or l k 0 ≡ 1) → free_in l ≡ length l
unfolding free_in
free_none [] all = refl
free_none (t ∷ l) all = rw (all 0 (omega arith)) (ap suc (free_none l (λ k h. all (suc k) (omega arith))))

pub free_within : (l : List ℕ) → free_in l ≤ length l
unfolding free_in
free_within [] = le_refl 0
free_within (t ∷ l) = go (eqb t 1) (free_within l)
  where
    go : (b : Bool) → free_in l ≤ length l → cond b (suc (free_in l)) 0 ≤ suc (length l)
    go true h = omega arith
    go false h = omega arith

-- ---- the earliest

pub earliest_most : (k : ℕ) (s : Sender) (bytes : List ℕ) → k ≤ slots → earliest_below k s bytes ≤ slots
unfolding earliest_below
earliest_most zero s bytes h = le_refl slots
earliest_most (suc k) s bytes h =
    go (taken s k && (eqb (earliest_below k s bytes) slots || sooner s bytes k (earliest_below k s bytes))) (earliest_most k s bytes (omega arith))
  where
    go : (b : Bool) → earliest_below k s bytes ≤ slots → cond b k (earliest_below k s bytes) ≤ slots
    go true most = omega arith
    go false most = most
