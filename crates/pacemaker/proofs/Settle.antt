-- What one NEWEPOCH comes to, and what a list of them comes to: the larger of what was and what is reached, once all is heard.
use mathlib.Core.Path.{◌≡◌, refl, ap, sym, ◌∙◌}
use mathlib.Core.Bool.{Bool, true, false, cond}
use mathlib.Core.List.{List, [], ◌∷◌}
use Prim.Native.Nat.{ℕ, suc, ◌+◌, ◌-◌, ◌*◌, ◌≤◌, max}
use native.Mathlib.Nat.{max-zero, le-max_left, add-sub_cancel}
use native.Mathlib.Omega.{arith}
use borrow.Author.Tests.{ltb-true, ltb-false, lt-ltb, le-ltb, eqb-true, eqb-false}
use lib.Dec.{ltb, eqb}
use lib.ListN.{length, take, get_or, length-set}
use lib.Seq.{get_or-set_same, get_or-set_other, ext_get_or}
use Rattle.std.specs.Prelude.{None, Some}
use Rattle.quorum.specs.Counts.{count_above, reached}
use Rattle.quorum.proofs.Cases.{cases, split}
use Rattle.quorum.proofs.Counts.{Below, below_refl, below_trans, below_take, below_set, reached_most, reached_mono, reached_anti, raise_max}
use Rattle.pacemaker.specs.declared.Pace.{Pace}
use Rattle.pacemaker.specs.Rules.{stays, sending, heard_by, hear, hearing, amplifying, entering, moving, new_epoch_of}
use Rattle.pacemaker.specs.Runs.{Heard, FromMembers, run, highest_from}

-- two states that heard the same
pace_eq : {e e' h h' g g' r r' s : ℕ} {l : List ℕ} → e ≡ e' → h ≡ h' → g ≡ g' → r ≡ r'
    → ◌≡◌ {A = Pace} (record { epoch = e; highest = h; heard = l; started = s; progress = g; resend = r }) (record { epoch = e'; highest = h'; heard = l; started = s; progress = g'; resend = r' })
pace_eq {s = s} {l = l} e h g r = λ i. record { epoch = e i; highest = h i; heard = l; started = s; progress = g i; resend = r i }

-- ---- a timer's flag, where its number was `old` and is `new`: armed if it rose, else as it was

abbrev pub armed : ℕ → ℕ → ℕ → ℕ
armed old new flag = cond (ltb old new) 1 flag

-- more than k entries exceed h exactly where what is reached raises h
rises_is : (k h : ℕ) (l : List ℕ) → ltb k (count_above h l) ≡ ltb h (max h (reached k l))
rises_is k h l = go (ltb k (count_above h l)) refl (raise_max k h l)
  where
    go : (b : Bool) → ltb k (count_above h l) ≡ b → cond b (reached k l) h ≡ max h (reached k l) → b ≡ ltb h (max h (reached k l))
    go true e m = sym (lt-ltb h _ (omega (arith, reached_most k l (suc h) (ltb-true _ _ e))))
    go false e m = sym (le-ltb h _ (omega arith))

armed_raise : (k h flag : ℕ) (l : List ℕ) → cond (ltb k (count_above h l)) 1 flag ≡ armed h (max h (reached k l)) flag
armed_raise k h flag l = ap (λ b. cond b 1 flag) (rises_is k h l)

armed_same : (h x flag : ℕ) → x ≤ h → flag ≡ armed h (max h x) flag
armed_same h x flag g = rw (le-ltb h (max h x) (omega arith))

armed_twice : (h x y flag : ℕ) → x ≤ y → armed (max h x) (max (max h x) y) (armed h (max h x) flag) ≡ armed h (max h y) flag
armed_twice h x y flag g = go (ltb h (max h x)) (ltb (max h x) (max (max h x) y)) refl refl
  where
    go : (b c : Bool) → ltb h (max h x) ≡ b → ltb (max h x) (max (max h x) y) ≡ c → cond c 1 (cond b 1 flag) ≡ armed h (max h y) flag
    go b true e d = rw (lt-ltb h (max h y) (omega (arith, ltb-true (max h x) (max (max h x) y) d)))
    go true false e d = rw (lt-ltb h (max h y) (omega (arith, ltb-true h (max h x) e)))
    go false false e d = rw (le-ltb h (max h y) (omega (arith, ltb-false h (max h x) e, ltb-false (max h x) (max (max h x) y) d)))

-- ---- one NEWEPOCH

-- the highest number sent and its flag, with all else as it was; and so the epoch
abbrev sent : Pace → ℕ → ℕ → Pace
sent p highest resend =
    record { epoch = p.epoch; highest = highest; heard = p.heard; started = p.started; progress = p.progress; resend = resend }

abbrev moved : Pace → ℕ → ℕ → Pace
moved p epoch progress =
    record { epoch = epoch; highest = p.highest; heard = p.heard; started = p.started; progress = progress; resend = p.resend }

-- what a state comes to once l has been heard
abbrev pub settle : ℕ → ℕ → Pace → List ℕ → Pace
settle n f p l =
    let epoch = max p.epoch (reached (2 * f) (take n l)) in
    let highest = max p.highest (reached f (take n l)) in
    record { epoch = epoch; highest = highest; heard = l; started = p.started; progress = armed p.epoch epoch p.progress; resend = armed p.highest highest p.resend }

module _ (n f : ℕ) where
  amplify_is : (p : Pace) → let h = max p.highest (reached f (heard_by n p)) in (amplifying n f p).pace ≡ sent p h (armed p.highest h p.resend)
  unfolding amplifying
  amplify_is p =
      go (ltb f (count_above p.highest (heard_by n p)))
      ∙ (λ i. sent p (raise_max f p.highest (heard_by n p) i) (armed_raise f p.highest p.resend (heard_by n p) i))
    where
      go : (b : Bool) → (cond b (sending p (reached f (heard_by n p))) (stays p)).pace ≡ sent p (cond b (reached f (heard_by n p)) p.highest) (cond b 1 p.resend)
      go true = refl
      go false = refl

  -- a move leaves the highest number sent: amplifying went before it, and what more than 2f reach more than f reach
  move_is : (p : Pace) → reached (2 * f) (heard_by n p) ≤ p.highest → let e = max p.epoch (reached (2 * f) (heard_by n p)) in (moving n f p).pace ≡ moved p e (armed p.epoch e p.progress)
  unfolding moving
  move_is p h =
      go (ltb (2 * f) (count_above p.epoch (heard_by n p)))
      ∙ (λ i. moved p (raise_max (2 * f) p.epoch (heard_by n p) i) (armed_raise (2 * f) p.epoch p.progress (heard_by n p) i))
    where
      go : (b : Bool) → (cond b (entering p (reached (2 * f) (heard_by n p))) (stays p)).pace ≡ moved p (cond b (reached (2 * f) (heard_by n p)) p.epoch) (cond b 1 p.progress)
      go true = pace_eq refl (omega arith) refl refl
      go false = refl

  pub step_is : (p : Pace) (j x : ℕ) → (new_epoch_of n f p j x).pace ≡ settle n f p (hear p.heard j x)
  unfolding new_epoch_of hearing
  step_is p j x =
      ap (λ (q : Pace). (moving n f q).pace) (amplify_is (hearing p j x))
      ∙ move_is _ (omega (arith, reached_anti f (2 * f) (take n (hear p.heard j x)) (omega arith)))

  -- what it tells: the node sends where its highest number rises, and moves where its epoch rises
  amplify_tells : (p : Pace) → let h = max p.highest (reached f (heard_by n p)) in (amplifying n f p).sent ≡ cond (ltb p.highest h) (Some h) None
  unfolding amplifying
  amplify_tells p =
      go (ltb f (count_above p.highest (heard_by n p))) (raise_max f p.highest (heard_by n p))
      ∙ ap (λ b. cond b (Some (max p.highest (reached f (heard_by n p)))) None) (rises_is f p.highest (heard_by n p))
    where
      go : (b : Bool) {h : ℕ} → cond b (reached f (heard_by n p)) p.highest ≡ h → (cond b (sending p (reached f (heard_by n p))) (stays p)).sent ≡ cond b (Some h) None
      go true e = ap Some e
      go false e = refl

  move_tells : (p : Pace) → (moving n f p).moved ≡ ltb p.epoch (max p.epoch (reached (2 * f) (heard_by n p)))
  unfolding moving
  move_tells p = go (ltb (2 * f) (count_above p.epoch (heard_by n p))) ∙ rises_is (2 * f) p.epoch (heard_by n p)
    where
      go : (b : Bool) → (cond b (entering p (reached (2 * f) (heard_by n p))) (stays p)).moved ≡ b
      go true = refl
      go false = refl

  pub sent_is : (p : Pace) (j x : ℕ) → let h = (settle n f p (hear p.heard j x)).highest in (new_epoch_of n f p j x).sent ≡ cond (ltb p.highest h) (Some h) None
  unfolding new_epoch_of hearing
  sent_is p j x = amplify_tells (hearing p j x)

  pub moved_is : (p : Pace) (j x : ℕ) → (new_epoch_of n f p j x).moved ≡ ltb p.epoch (settle n f p (hear p.heard j x)).epoch
  unfolding new_epoch_of hearing
  moved_is p j x = ap (λ (q : Pace). (moving n f q).moved) (amplify_is (hearing p j x)) ∙ move_tells _

-- ---- what is heard of a list

abbrev pub hear_all : List ℕ → List Heard → List ℕ
hear_all l [] = l
hear_all l (m ∷ ms) = hear_all (hear l m.from m.number) ms

pub below_hear : (l : List ℕ) (j x : ℕ) → Below l (hear l j x)
below_hear l j x = below_set l (j - 1) _ (le-max_left _ x)

below_all : (l : List ℕ) (ms : List Heard) → Below l (hear_all l ms)
below_all l [] = below_refl l
below_all l (m ∷ ms) = below_trans (below_hear l m.from m.number) (below_all (hear l m.from m.number) ms)

length_all : (l : List ℕ) (ms : List Heard) → length (hear_all l ms) ≡ length l
length_all l [] = refl
length_all l (m ∷ ms) = length_all (hear l m.from m.number) ms ∙ length-set l _ _

-- the place of member j after k was heard
hear_at : (l : List ℕ) (j k x : ℕ) → 1 ≤ j → 1 ≤ k → j ≤ length l → get_or (hear l k x) (j - 1) 0 ≡ max (get_or l (j - 1) 0) (cond (eqb k j) x 0)
hear_at l j k x s t h = go (eqb k j) refl
  where
    go : (b : Bool) → eqb k j ≡ b → get_or (hear l k x) (j - 1) 0 ≡ max (get_or l (j - 1) 0) (cond b x 0)
    go true e = rw (eqb-true k j e) (get_or-set_same l (j - 1) _ 0 (omega arith))
    go false e = get_or-set_other l (k - 1) (j - 1) _ 0 (λ q. eqb-false k j e (omega arith)) ∙ sym (max-zero _)

module _ (n : ℕ) where
  pub heard_is : (l : List ℕ) (ms : List Heard) → FromMembers n ms → (j : ℕ) → 1 ≤ j → j ≤ length l → get_or (hear_all l ms) (j - 1) 0 ≡ max (get_or l (j - 1) 0) (highest_from j ms)
  unfolding highest_from
  heard_is l [] w j s h = sym (max-zero _)
  heard_is l (m ∷ ms) (t, u, w) j s h =
      heard_is (hear l m.from m.number) ms w j s (rw length-set h) ∙ rw (hear_at l j m.from m.number s t h) (omega arith)

  pub others_are : (l : List ℕ) (ms : List Heard) → FromMembers n ms → (k : ℕ) → n ≤ k → get_or (hear_all l ms) k 0 ≡ get_or l k 0
  others_are l [] w k h = refl
  others_are l (m ∷ ms) (t, u, w) k h =
      others_are (hear l m.from m.number) ms w k h ∙ get_or-set_other l (m.from - 1) k _ 0 (λ q. omega arith)

  -- the same highest number of each member: the same is heard
  pub heard_same : (l : List ℕ) (ms ms' : List Heard) → FromMembers n ms → FromMembers n ms' → ((j : ℕ) → 1 ≤ j → j ≤ n → highest_from j ms ≡ highest_from j ms') → hear_all l ms ≡ hear_all l ms'
  heard_same l ms ms' w w' s =
      ext_get_or 0 _ _ (length_all l ms ∙ sym (length_all l ms'))
      (λ k h. cases (split n k)
      (λ q. others_are l ms w k q ∙ sym (others_are l ms' w' k q))
      (λ q. rw (add-sub_cancel k 1) at (each (k + 1) (omega arith) (omega arith) (omega (arith, length_all l ms)))))
    where
      each : (j : ℕ) → 1 ≤ j → j ≤ n → j ≤ length l → get_or (hear_all l ms) (j - 1) 0 ≡ get_or (hear_all l ms') (j - 1) 0
      each j a b h = heard_is l ms w j a h ∙ ap (max (get_or l (j - 1) 0)) (s j a b) ∙ sym (heard_is l ms' w' j a h)

-- ---- a list of NEWEPOCH, from a state whose numbers are at least what is reached

module _ (n f : ℕ) where
  settle_twice : (p : Pace) {l m : List ℕ} → Below l m → settle n f (settle n f p l) m ≡ settle n f p m
  settle_twice p b =
      let low = reached_mono (2 * f) (below_take n b) in
      let top = reached_mono f (below_take n b) in
      pace_eq (omega arith) (omega arith) (armed_twice _ _ _ _ low) (armed_twice _ _ _ _ top)

  pub run_is : (p : Pace) (ms : List Heard) → reached f (heard_by n p) ≤ p.highest → reached (2 * f) (heard_by n p) ≤ p.epoch → run n f p ms ≡ settle n f p (hear_all p.heard ms)
  unfolding run
  run_is p [] top low = pace_eq (omega arith) (omega arith) (armed_same _ _ _ low) (armed_same _ _ _ top)
  run_is p (m ∷ ms) top low =
      let l = hear p.heard m.from m.number in
      rw (step_is n f p m.from m.number)
      (run_is (settle n f p l) ms (omega arith) (omega arith) ∙ settle_twice p (below_all l ms))
