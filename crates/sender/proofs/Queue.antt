-- The queue: which reports wait, slot by slot, and which of them is the earliest.
use mathlib.Core.Path.{◌≡◌, refl, sym, ap, ap₂, ◌∙◌}
use mathlib.Core.Bool.{Bool, true, false, cond, ◌&&◌, ◌||◌, false≢true}
use mathlib.Core.Logic.{◌⊎◌, inl, inr}
use mathlib.Core.List.{List, [], ◌∷◌, ◌++◌}
use Prim.Native.Nat.{ℕ, zero, suc, ◌≤◌, ◌<◌}
use native.Mathlib.Omega.{arith}
use borrow.Author.Count.{below_more}
use borrow.Author.Tests.{ltb-true, ltb-false, eqb-true, eqb-false}
use lib.Dec.{ltb, eqb}
use lib.ListN.{length}
use Rattle.config.specs.Limits.{slots}
use Rattle.quorum.specs.First.{OneOf}
use Rattle.quorum.specs.Sort.{Perm, then}
use Rattle.quorum.proofs.Cases.{cases, test}
use Rattle.quorum.proofs.Entries.{one_of_front, one_of_back}
use Rattle.quorum.proofs.Perms.{perm_same, perm_back, perm_last}
use Rattle.frame.specs.Claims.{Each}
use Rattle.frame.proofs.Entries.{each_append}
use Rattle.report.specs.Newer.{newer}
use Rattle.report.proofs.Order.{not_newer_trans, newer_not, newer_self}
use Rattle.sender.specs.declared.Sender.{Sender}
use Rattle.sender.specs.State.{taken, time_of, report_in}
use Rattle.sender.specs.Waiting.{Waiting, waiting_below, waiting, sooner, earliest_below, earliest}
use Rattle.sender.specs.Claims.{NotAfter, LaterBelow}

-- what a slot holds, and the list of that or of nothing
abbrev pub held_at : Sender → List ℕ → ℕ → Waiting
held_at s bytes k = record { time = time_of s k; report = report_in bytes k }

abbrev pub held_in : Sender → List ℕ → ℕ → List Waiting
held_in s bytes k = cond (taken s k) (held_at s bytes k ∷ []) []

-- ---- two states

module _ (s t : Sender) (b c : List ℕ) where
  pub below_same : (m : ℕ) → ((j : ℕ) → j < m → held_in s b j ≡ held_in t c j) → waiting_below m s b ≡ waiting_below m t c
  unfolding waiting_below
  below_same zero h = refl
  below_same (suc m) h = ap₂ ◌++◌ (below_same m (λ j g. h j (omega arith))) (h m (omega arith))

  -- that differ in one slot: what it holds goes from the one queue to the other
  pub below_moved : (m k : ℕ) → k < m → ((j : ℕ) → (j ≡ k → ⊥) → held_in s b j ≡ held_in t c j) → Perm (waiting_below m s b ++ held_in t c k) (waiting_below m t c ++ held_in s b k)
  unfolding waiting_below
  below_moved zero k h same = absurd (omega arith)
  below_moved (suc m) k h same = go (eqb k m) refl (below_moved m k)
    where
      go : (q : Bool) → eqb k m ≡ q → (k < m → ((j : ℕ) → (j ≡ k → ⊥) → held_in s b j ≡ held_in t c j) → Perm (waiting_below m s b ++ held_in t c k) (waiting_below m t c ++ held_in s b k)) → Perm (waiting_below m s b ++ held_in s b m ++ held_in t c k) (waiting_below m t c ++ held_in t c m ++ held_in s b k)
      go true q ih =
          let e = eqb-true k m q in
          let w = below_same m (λ j g. same j (λ z. omega arith)) in
          then (perm_last (waiting_below m s b) (held_in s b m) (held_in t c k)) (perm_same (λ i. w i ++ held_in t c (e i) ++ held_in s b (sym e i)))
      go false q ih =
          let apart = eqb-false k m q in
          then (perm_last (waiting_below m s b) (held_in s b m) (held_in t c k))
          (then (perm_back (held_in s b m) (ih (omega arith) same))
          (then (perm_same (ap (λ (l : List Waiting). waiting_below m t c ++ held_in s b k ++ l) (same m (λ z. omega arith))))
          (perm_last (waiting_below m t c) (held_in s b k) (held_in t c m))))

-- ---- what holds of each that waits

module _ (s : Sender) (bytes : List ℕ) where
  -- it is enough to show it of each slot that is taken
  each_below : (P : Waiting → Type 0) (m : ℕ) → ((k : ℕ) → k < m → taken s k ≡ true → P (held_at s bytes k)) → Each P (waiting_below m s bytes)
  unfolding waiting_below
  each_below P zero h = tt
  each_below P (suc m) h = each_append P (waiting_below m s bytes) (held_in s bytes m) (each_below P m (λ k g. h k (omega arith))) (go (taken s m) refl)
    where
      go : (q : Bool) → taken s m ≡ q → Each P (cond q (held_at s bytes m ∷ []) [])
      go true e = (h m (omega arith) e, tt)
      go false e = tt

  -- a slot that is taken holds one of those that wait
  one_of_below : (m k : ℕ) → k < m → taken s k ≡ true → OneOf (held_at s bytes k) (waiting_below m s bytes)
  unfolding waiting_below
  one_of_below zero k h e = absurd (omega arith)
  one_of_below (suc m) k h e = go (eqb k m) refl (one_of_below m k)
    where
      go : (q : Bool) → eqb k m ≡ q → (k < m → taken s k ≡ true → OneOf (held_at s bytes k) (waiting_below m s bytes)) → OneOf (held_at s bytes k) (waiting_below m s bytes ++ held_in s bytes m)
      go true q ih = one_of_back (held_at s bytes k) (waiting_below m s bytes) (held_in s bytes m) (rw (← eqb-true k m q, e) (inl refl))
      go false q ih = let apart = eqb-false k m q in one_of_front (held_at s bytes k) (waiting_below m s bytes) (held_in s bytes m) (ih (omega arith) e)

-- ---- which comes first

not_after_self : (x : Waiting) → NotAfter x x
not_after_self x = inr (refl, newer_self x.report.epoch x.report.round)

not_after_trans : (x y z : Waiting) → NotAfter x y → NotAfter y z → NotAfter x z
not_after_trans x y z (inl h) (inl g) = inl (omega arith)
not_after_trans x y z (inl h) (inr (e, g)) = inl (omega arith)
not_after_trans x y z (inr (e, h)) (inl g) = inl (omega arith)
not_after_trans x y z (inr (e, h)) (inr (f, g)) = inr (e ∙ f, not_newer_trans x.report.epoch x.report.round y.report.epoch y.report.round z.report.epoch z.report.round h g)

module _ (s : Sender) (bytes : List ℕ) where
  sooner_first : (a b : ℕ) → sooner s bytes a b ≡ true → NotAfter (held_at s bytes a) (held_at s bytes b)
  sooner_first a b = go (ltb (time_of s a) (time_of s b)) (eqb (time_of s a) (time_of s b)) refl refl
    where
      go : (p q : Bool) → ltb (time_of s a) (time_of s b) ≡ p → eqb (time_of s a) (time_of s b) ≡ q → (p || q && newer (report_in bytes b).epoch (report_in bytes b).round (report_in bytes a).epoch (report_in bytes a).round) ≡ true → NotAfter (held_at s bytes a) (held_at s bytes b)
      go true q e f h = inl (ltb-true _ _ e)
      go false true e f h = inr (eqb-true _ _ f, newer_not (report_in bytes b).epoch (report_in bytes b).round (report_in bytes a).epoch (report_in bytes a).round h)
      go false false e f h = absurd (false≢true h)

  sooner_strict : (a b : ℕ) → sooner s bytes a b ≡ true → NotAfter (held_at s bytes b) (held_at s bytes a) → ⊥
  sooner_strict a b = go (ltb (time_of s a) (time_of s b)) (eqb (time_of s a) (time_of s b)) refl refl
    where
      go : (p q : Bool) → ltb (time_of s a) (time_of s b) ≡ p → eqb (time_of s a) (time_of s b) ≡ q → (p || q && newer (report_in bytes b).epoch (report_in bytes b).round (report_in bytes a).epoch (report_in bytes a).round) ≡ true → NotAfter (held_at s bytes b) (held_at s bytes a) → ⊥
      go true q e f h (inl g) = omega (arith, ltb-true (time_of s a) (time_of s b) e)
      go true q e f h (inr (g, z)) = omega (arith, ltb-true (time_of s a) (time_of s b) e)
      go false true e f h (inl g) = omega (arith, eqb-true (time_of s a) (time_of s b) f)
      go false true e f h (inr (g, z)) = false≢true (sym z ∙ h)
      go false false e f h g = false≢true h

  sooner_not : (a b : ℕ) → sooner s bytes a b ≡ false → NotAfter (held_at s bytes b) (held_at s bytes a)
  sooner_not a b = go (ltb (time_of s a) (time_of s b)) (eqb (time_of s a) (time_of s b)) refl refl
    where
      go : (p q : Bool) → ltb (time_of s a) (time_of s b) ≡ p → eqb (time_of s a) (time_of s b) ≡ q → (p || q && newer (report_in bytes b).epoch (report_in bytes b).round (report_in bytes a).epoch (report_in bytes a).round) ≡ false → NotAfter (held_at s bytes b) (held_at s bytes a)
      go true q e f h = absurd (false≢true (sym h))
      go false true e f h = inr (sym (eqb-true _ _ f), h)
      go false false e f h = let apart = eqb-false (time_of s a) (time_of s b) f in inl (omega (arith, ltb-false (time_of s a) (time_of s b) e))

  -- what is sooner than another comes before all that the other does not come after
  sooner_then : (a b j : ℕ) → sooner s bytes a b ≡ true → NotAfter (held_at s bytes b) (held_at s bytes j) → sooner s bytes a j ≡ true
  sooner_then a b j h g =
      cases (test (sooner s bytes a j))
      (λ e. e)
      (λ e. absurd (sooner_strict a b h (not_after_trans (held_at s bytes b) (held_at s bytes j) (held_at s bytes a) g (sooner_not a j e))))

  -- of the first m slots k holds the earliest, and what the slots below it hold comes later; or none of them holds anything
  abbrev NoneBelow : ℕ → Type 0
  NoneBelow m = (j : ℕ) → j < m → taken s j ≡ false

  abbrev FirstBelow : ℕ → ℕ → Type 0
  FirstBelow m k = (k < m) × (taken s k ≡ true) × LaterBelow s bytes k × ((j : ℕ) → j < m → taken s j ≡ true → NotAfter (held_at s bytes k) (held_at s bytes j))

  abbrev Found : ℕ → ℕ → Type 0
  Found m k = ((k ≡ slots) × NoneBelow m) ⊎ FirstBelow m k

  -- one slot more: it is free, or the one found stays the first, or it is the first itself
  none_next : (m : ℕ) → NoneBelow m → taken s m ≡ false → NoneBelow (suc m)
  none_next m w e j h = below_more (λ (j : ℕ). taken s j ≡ false) m w e j (omega arith)

  first_next : (m k : ℕ) → FirstBelow m k → (taken s m ≡ true → NotAfter (held_at s bytes k) (held_at s bytes m)) → FirstBelow (suc m) k
  first_next m k (h, e, later, w) here =
      (omega arith, e, later, λ j g. below_more (λ (j : ℕ). taken s j ≡ true → NotAfter (held_at s bytes k) (held_at s bytes j)) m w here j (omega arith))

  first_here : (m : ℕ) → taken s m ≡ true → LaterBelow s bytes m → FirstBelow (suc m) m
  first_here m e later =
      (omega arith, e, later, λ j g. below_more (λ (j : ℕ). taken s j ≡ true → NotAfter (held_at s bytes m) (held_at s bytes j)) m (λ j l t. sooner_first m j (later j l t)) (λ _. not_after_self (held_at s bytes m)) j (omega arith))

  earliest_found : (m : ℕ) → m ≤ slots → Found m (earliest_below m s bytes)
  unfolding earliest_below
  earliest_found zero h = inl (refl, λ j g. absurd (omega arith))
  earliest_found (suc m) h = go (taken s m) (eqb (earliest_below m s bytes) slots) (sooner s bytes m (earliest_below m s bytes)) refl refl refl (earliest_found m (omega arith))
    where
      go : (p q r : Bool) → taken s m ≡ p → eqb (earliest_below m s bytes) slots ≡ q → sooner s bytes m (earliest_below m s bytes) ≡ r → Found m (earliest_below m s bytes) → Found (suc m) (cond (p && (q || r)) m (earliest_below m s bytes))
      go false q r e f g (inl (z, w)) = inl (z, none_next m w e)
      go false q r e f g (inr w) = inr (first_next m (earliest_below m s bytes) w (λ t. absurd (false≢true (sym e ∙ t))))
      go true true r e f g (inl (z, w)) = inr (first_here m e (λ j l t. absurd (false≢true (sym (w j l) ∙ t))))
      go true true r e f g (inr w) = absurd (omega (arith, eqb-true (earliest_below m s bytes) slots f, w.0))
      go true false true e f g (inl (z, w)) = absurd (eqb-false (earliest_below m s bytes) slots f z)
      go true false true e f g (inr w) = inr (first_here m e (λ j l t. sooner_then m (earliest_below m s bytes) j g (w.3 j l t)))
      go true false false e f g (inl (z, w)) = absurd (eqb-false (earliest_below m s bytes) slots f z)
      go true false false e f g (inr w) = inr (first_next m (earliest_below m s bytes) w (λ t. sooner_not m (earliest_below m s bytes) g))

  -- where a slot is found it is taken, and it holds one of those that wait, none of which comes before it, nor with it from a lower slot
  pub record Earliest : Type 0 where
    pub within : earliest s bytes < slots
    pub held : taken s (earliest s bytes) ≡ true
    pub waited : OneOf (held_at s bytes (earliest s bytes)) (waiting s bytes)
    pub first : Each (NotAfter (held_at s bytes (earliest s bytes))) (waiting s bytes)
    pub lowest : LaterBelow s bytes (earliest s bytes)

  pub earliest_law : (earliest s bytes ≡ slots → ⊥) → Earliest
  earliest_law some = go (earliest_found slots (omega arith))
    where
      go : Found slots (earliest s bytes) → Earliest
      go (inl (z, w)) = absurd (some z)
      go (inr (h, e, later, w)) =
          record {
            within = h;
            held = e;
            waited = one_of_below s bytes slots (earliest s bytes) h e;
            first = each_below s bytes (NotAfter (held_at s bytes (earliest s bytes))) slots w;
            lowest = later;
          }

  -- where none is found nothing waits
  none_waits : (m : ℕ) → NoneBelow m → waiting_below m s bytes ≡ []
  unfolding waiting_below
  none_waits zero w = refl
  none_waits (suc m) w = rw (none_waits m (λ j h. w j (omega arith)), w m (omega arith))

  pub earliest_some : (0 < length (waiting s bytes)) → earliest s bytes ≡ slots → ⊥
  earliest_some some z = go (earliest_found slots (omega arith))
    where
      go : Found slots (earliest s bytes) → ⊥
      go (inl (_, w)) = omega (arith, ap length (none_waits slots w))
      go (inr (h, e, later, w)) = omega arith
