-- The members of a feed, 1 to n, and what at most so many bad ones among them can bring about: they alone do not make more than that many reach a number.
use mathlib.Core.Path.{◌≡◌, refl, sym, ap, ◌∙◌, subst}
use mathlib.Core.Bool.{Bool, true, false, ◌||◌}
use mathlib.Core.List.{List, [], ◌∷◌}
use Prim.Native.Nat.{ℕ, zero, suc, ◌+◌, ◌-◌, ◌≤◌, ◌<◌, zero-le}
use native.Mathlib.Omega.{arith}
use borrow.Author.Tests.{eqb-false, lt-leb}
use lib.Dec.{eqb, leb}
use lib.ListN.{length, get_or, take}
use lib.Seq.{take_all, take-suc}
use Rattle.quorum.specs.Counts.{tick, count_if, count_reaching, reached}
use Rattle.quorum.specs.First.{among, members_to}
use Rattle.quorum.proofs.Cases.{cases, split}
use Rattle.quorum.proofs.Counts.{count_append, reached_reach}

pub length_members : (n : ℕ) → length (members_to n) ≡ n
length_members zero = refl
length_members (suc n) = ap suc (length_members n)

pub among_members : (n x : ℕ) → 1 ≤ x → x ≤ n → among x (members_to n) ≡ true
among_members zero x h g = absurd (omega arith)
among_members (suc n) x h g = go (eqb x (suc n)) refl (among_members n x h)
  where
    go : (b : Bool) → eqb x (suc n) ≡ b → (x ≤ n → among x (members_to n) ≡ true) → (b || among x (members_to n)) ≡ true
    go true e ih = refl
    go false e ih = let apart = eqb-false x (suc n) e in ih (omega arith)

-- ---- numbers by member, place j − 1 for member j: more than the bad ones reach a number only where a good one does

module _ (bad : ℕ → Bool) where
  -- what stands for each good member is at most b
  abbrev pub GoodAtMost : ℕ → ℕ → List ℕ → Type 0
  GoodAtMost n b l = (j : ℕ) → 1 ≤ j → j ≤ n → bad j ≡ false → get_or l (j - 1) 0 ≤ b

  reach_few : (n b x : ℕ) (l : List ℕ) → b < x → GoodAtMost n b l → count_reaching x (take n l) ≤ count_if bad (members_to n)
  reach_few zero b x l h low = go l
    where
      go : (l : List ℕ) → count_reaching x (take 0 l) ≤ 0
      go [] = zero-le
      go (a ∷ l) = zero-le
  reach_few (suc n) b x l h low =
      let ih = reach_few n b x l h (λ j g k good. low j g (omega arith) good) in
      cases (split (length l) n)
      (λ short. let same : take (suc n) l ≡ take n l = take_all (suc n) l (omega arith) ∙ sym (take_all n l short) in rw same (more (bad (suc n)) ih))
      (λ long.
      rw (take-suc l n 0 long, count_append (leb x) (take n l) (get_or l n 0 ∷ []))
      (one (bad (suc n)) refl ih))
    where
      more : (t : Bool) → count_reaching x (take n l) ≤ count_if bad (members_to n) → count_reaching x (take n l) ≤ tick t (count_if bad (members_to n))
      more true g = omega arith
      more false g = g

      at_most_one : (t : Bool) → tick t 0 ≤ 1
      at_most_one true = omega arith
      at_most_one false = omega arith

      one : (t : Bool) → bad (suc n) ≡ t → count_reaching x (take n l) ≤ count_if bad (members_to n) → count_reaching x (take n l) + tick (leb x (get_or l n 0)) 0 ≤ tick t (count_if bad (members_to n))
      one true e g = omega (arith, at_most_one (leb x (get_or l n 0)))
      one false e g =
          let place : suc n - 1 ≡ n = omega arith in
          let small : get_or l n 0 ≤ b = subst (λ (k : ℕ). get_or l k 0 ≤ b) place (low (suc n) (omega arith) (omega arith) e) in
          let none : leb x (get_or l n 0) ≡ false = lt-leb x (get_or l n 0) (omega arith) in
          rw none (omega arith)

  pub good_reached : (n b k : ℕ) (l : List ℕ) → count_if bad (members_to n) ≤ k → GoodAtMost n b l → reached k (take n l) ≤ b
  good_reached n b k l few low =
      cases (split (reached k (take n l)) b) (λ h. h)
      (λ h. absurd (omega (arith, reached_reach k (take n l) (omega arith), reach_few n b (reached k (take n l)) l h low)))
