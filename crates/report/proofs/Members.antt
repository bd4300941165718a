-- What holds of each entry, of one that is among them; and members that are in range, among the members of the feed.
use mathlib.Core.Path.{◌≡◌, refl, sym, subst}
use mathlib.Core.Bool.{Bool, true, false, ◌||◌, false≢true}
use mathlib.Core.Logic.{inl, inr}
use mathlib.Core.List.{List, [], ◌∷◌, map}
use Prim.Native.Nat.{ℕ}
use borrow.Author.Tests.{eqb-true}
use lib.Dec.{eqb}
use Rattle.config.proofs.Facts.{and-true}
use Rattle.quorum.specs.First.{among, members_to, OneOf}
use Rattle.quorum.proofs.Members.{among_members}
use Rattle.frame.specs.Range.{one_to_n, all_members}
use Rattle.frame.specs.Claims.{Each}
use Rattle.frame.proofs.Ranges.{one_to}

pub each_one : {A : Type 0} (P : A → Type 0) (x : A) (l : List A) → Each P l → OneOf x l → P x
each_one P x [] p h = absurd h
each_one P x (a ∷ l) (p, q) (inl e) = subst P (sym e) p
each_one P x (a ∷ l) (p, q) (inr h) = each_one P x l q h

pub members_among : {A : Type 0} (n : ℕ) (member : A → ℕ) (l : List A) → all_members n member l ≡ true → (x : ℕ) → among x (map member l) ≡ true → among x (members_to n) ≡ true
unfolding all_members
members_among n member [] h x e = absurd (false≢true e)
members_among n member (a ∷ l) h x e = go (eqb x (member a)) refl e (and-true (one_to_n n (member a)) (all_members n member l) h) (members_among n member l)
  where
    go : (b : Bool) → eqb x (member a) ≡ b → (b || among x (map member l)) ≡ true → (one_to_n n (member a) ≡ true) × (all_members n member l ≡ true) → (all_members n member l ≡ true → (x : ℕ) → among x (map member l) ≡ true → among x (members_to n) ≡ true) → among x (members_to n) ≡ true
    go true q e p ih = let o = one_to n (member a) p.0 in rw (eqb-true x (member a) q) (among_members n (member a) o.least o.most)
    go false q e p ih = ih p.1 x e
