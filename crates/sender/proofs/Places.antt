-- Places: a stage holds the places of its members, and past the last stage lie the places behind all of them; every number from 1 to n is an entry
-- of a permutation, since no two of its n entries are the same and without it fewer than n numbers are left for them.
use mathlib.Core.Path.{◌≡◌, refl, sym, ap}
use mathlib.Core.Bool.{Bool, true, false, not, ◌&&◌, ◌||◌, cond, false≢true}
use mathlib.Core.List.{List, [], ◌∷◌, map-id}
use Prim.Native.Nat.{ℕ, zero, suc, ◌+◌, ◌-◌, ◌≤◌, ◌<◌, suc-le-suc}
use native.Mathlib.Omega.{arith}
use borrow.Author.Tests.{leb-true, leb-false, eqb-true, not-true, not-false}
use lib.Dec.{leb, eqb}
use lib.ListN.{length, take}
use Rattle.config.specs.Bounds.{sum}
use Rattle.config.proofs.Facts.{and-true}
use Rattle.quorum.specs.Counts.{tick, count_if}
use Rattle.quorum.specs.First.{among, members_to, distinct}
use Rattle.quorum.proofs.Cases.{test_false}
use Rattle.quorum.proofs.Counts.{count_le_length}
use Rattle.quorum.proofs.Members.{length_members, among_members}
use Rattle.quorum.proofs.Claims.{distinct_count_once}
use Rattle.frame.specs.Range.{all_members}
use Rattle.frame.proofs.Ranges.{OneTo}
use Rattle.report.proofs.Members.{members_among}
use Rattle.sender.specs.Stage.{permutes, stage_of}
use Rattle.sender.specs.Claims.{Holds}

-- ---- stages

-- with one stage more in front of them
holds_later : (s : ℕ) (l : List ℕ) (k p : ℕ) → s < p → Holds l k (p - s) → Holds (s ∷ l) (suc k) p
unfolding sum
holds_later s l zero p h w = absurd (omega (arith, w.first))
holds_later s l (suc k) p h w =
    let e : suc k - 1 ≡ k = omega arith in
    let f : suc (suc k) - 1 ≡ suc k = omega arith in
    let before : sum (take k l) < p - s = rw e at w.before in
    record { first = omega arith; before = rw f (omega arith); within = omega (arith, w.within) }

pub stage_holds : (l : List ℕ) (p : ℕ) → 1 ≤ p → stage_of l p ≤ length l → Holds l (stage_of l p) p
unfolding stage_of sum
stage_holds [] p h g = absurd (omega arith)
stage_holds (s ∷ l) p h g = go (leb p s) refl g (stage_holds l (p - s))
  where
    go : (b : Bool) → leb p s ≡ b → cond b 1 (suc (stage_of l (p - s))) ≤ suc (length l) → (1 ≤ p - s → stage_of l (p - s) ≤ length l → Holds l (stage_of l (p - s)) (p - s)) → Holds (s ∷ l) (cond b 1 (suc (stage_of l (p - s)))) p
    go true e q ih = record { first = omega arith; before = h; within = omega (arith, leb-true p s e) }
    go false e q ih = let r = leb-false p s e in holds_later s l (stage_of l (p - s)) p r (ih (omega arith) (omega arith))

-- past the last stage a place lies behind them all; place 0 would not, where there are none
pub stage_beyond : (l : List ℕ) (p : ℕ) → (length l ≡ 0 → 1 ≤ p) → length l < stage_of l p → sum l < p
unfolding stage_of sum
stage_beyond [] p h g = h refl
stage_beyond (s ∷ l) p h g = go (leb p s) refl g (stage_beyond l (p - s))
  where
    go : (b : Bool) → leb p s ≡ b → suc (length l) < cond b 1 (suc (stage_of l (p - s))) → ((length l ≡ 0 → 1 ≤ p - s) → length l < stage_of l (p - s) → sum l < p - s) → s + sum l < p
    go true e q ih = absurd (omega arith)
    go false e q ih =
        let r = leb-false p s e in
        let rest = ih (λ _. omega arith) (omega arith) in
        omega arith

-- ---- permutations

-- how many entries differ from j: all where it is not among them, and else fewer
abbrev others_of : ℕ → List ℕ → ℕ
others_of j l = count_if (λ x. not (eqb j x)) l

others_all : (j : ℕ) (l : List ℕ) → among j l ≡ false → others_of j l ≡ length l
others_all j [] e = refl
others_all j (a ∷ l) e = go (eqb j a) refl e (others_all j l)
  where
    go : (b : Bool) → eqb j a ≡ b → (b || among j l) ≡ false → (among j l ≡ false → others_of j l ≡ length l) → tick (not b) (others_of j l) ≡ suc (length l)
    go true q e ih = absurd (false≢true (sym e))
    go false q e ih = ap suc (ih e)

others_fewer : (j : ℕ) (l : List ℕ) → among j l ≡ true → others_of j l < length l
others_fewer j [] e = absurd (false≢true e)
others_fewer j (a ∷ l) e = go (eqb j a) refl e (others_fewer j l)
  where
    go : (b : Bool) → eqb j a ≡ b → (b || among j l) ≡ true → (among j l ≡ true → others_of j l < length l) → tick (not b) (others_of j l) < suc (length l)
    go true q e ih = omega (arith, count_le_length (λ x. not (eqb j x)) l)
    go false q e ih = suc-le-suc (ih e)

pub member_among : (n j : ℕ) (l : List ℕ) → permutes n l ≡ true → OneTo n j → among j l ≡ true
unfolding permutes
member_among n j l h o =
    let p = and-true (eqb (length l) n && all_members n (λ x. x) l) (distinct l) h in
    let q = and-true (eqb (length l) n) (all_members n (λ x. x) l) p.0 in
    let once = distinct_count_once (λ x. not (eqb j x)) (members_to n) l p.1 (λ x e. members_among n (λ x. x) l q.1 x (rw (map-id l) e)) in
    let fewer = others_fewer j (members_to n) (among_members n j o.least o.most) in
    not-false _ (test_false _ (λ e. omega (arith, others_all j l (not-true _ e), length_members n, eqb-true (length l) n q.0)))
