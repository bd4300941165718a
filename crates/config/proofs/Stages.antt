-- Laws of a schedule's stages: the words of `specs/` say what std's words for lists do.
use Rattle.std.proofs.Common.{◌≡◌, ◌∙◌, sym, refl, ℕ, ◌+◌, ◌<◌, ◌≤◌, List, [], ◌∷◌, ap, ◌&&◌, true, false, arith, length, get_or, zero, suc}
use lib.Dec.{leb}
use Rattle.std.specs.List.{sum_by}
use Rattle.std.proofs.lemmas.List.Sums.{sum_by-cons}
use borrow.Author.Tests.{le-leb, lt-leb}
use Rattle.config.specs.Bounds.{none_empty, sum}

pub sum_is : (l : List ℕ) → sum l ≡ sum_by (λ s. s) l
unfolding sum
sum_is [] = refl
sum_is (s ∷ l) = ap (λ n. s + n) (sum_is l) ∙ sym (sum_by-cons (λ s. s) s l)

pub each_is_some : (l : List ℕ) → ((k : ℕ) → k < length l → 1 ≤ get_or l k 0) → none_empty l ≡ true
unfolding none_empty
each_is_some [] h = refl
each_is_some (s ∷ l) h = rw (le-leb 1 s (h 0 (omega arith))) (each_is_some l (λ k p. h (suc k) (omega arith)))

pub one_is_empty : (l : List ℕ) (k : ℕ) → k < length l → get_or l k 0 < 1 → none_empty l ≡ false
unfolding none_empty
one_is_empty [] k p h = absurd (omega arith)
one_is_empty (s ∷ l) zero p h = rw (lt-leb 1 s h) refl
one_is_empty (s ∷ l) (suc k) p h = rw (one_is_empty l k (omega arith) h) (go (leb 1 s))
  where
    go : (b : _) → b && false ≡ false
    go true = refl
    go false = refl
