-- The laws of words: the place of the first space, and that a line that is too long says nothing.
use mathlib.Core.Bool.{Bool, true, false, cond, ◌&&◌}
use mathlib.Core.List.{List}
use mathlib.Core.Path.{◌≡◌, refl, sym, ap, ◌∙◌}
use Prim.Native.Nat.{ℕ, suc, ◌+◌, ◌≤◌, ◌<◌}
use native.Mathlib.Omega.{arith}
use borrow.Author.Tests.{eqb-true, eq-eqb, ne_eqb}
use lib.Dec.{eqb, lit<}
use lib.ListN.{length, get_or, take, length-take, length-drop}
use lib.Seq.{take_all, length-take-le}
use Rattle.std.specs.Prelude.{None}
use Rattle.std.proofs.lemmas.List.Recursion.{is_position_or_len}
use Rattle.std.proofs.lemmas.List.Sums.{position_or_len_is}
use Rattle.quorum.proofs.Cases.{cases, test_false, split}
use Rattle.config.specs.Limits.{last_epoch}
use Rattle.config.proofs.Facts.{and-true}
use Rattle.epochline.specs.Lines.{space_in, word, behind, only, is_member, is_epoch, heard_in, command_of, feed_of, config_in}
use Rattle.epochline.proofs.Decimals.{number_facts}

-- ---- the first space

-- no space stands before it, and it is one unless it is the length
pub space_at : (s : List ℕ) (i : ℕ) → i ≤ length s → ((k : ℕ) → k < i → get_or s k 0 ≡ 32 → ⊥) → (i < length s → get_or s i 0 ≡ 32) → i ≡ space_in s
unfolding space_in
space_at s i h none found =
    sym (is_position_or_len space_in (λ b. eqb b 32) refl (λ b l. ap (cond (eqb b 32) 0) (omega arith)) s
    ∙ position_or_len_is (λ b. eqb b 32) s i 0 h (λ k g. ne_eqb (get_or s k 0) 32 (none k g)) (λ g. eq-eqb (get_or s i 0) 32 (found g)))

-- ---- a line that is too long says nothing

-- what stands before the first space and behind it is all but the space
length_words : (l : List ℕ) → length l ≤ length (word l) + 1 + length (behind l)
length_words l = rw (length-take (space_in l) l, length-drop (suc (space_in l)) l) (omega arith)

heard_long : (l : List ℕ) → 14 < length l → heard_in l ≡ None
unfolding heard_in
heard_long l h = rw (test_false (is_member (word l) && is_epoch (behind l)) none)
  where
    none : is_member (word l) && is_epoch (behind l) ≡ true → ⊥
    none e =
        let (p, q) = and-true (is_member (word l)) (is_epoch (behind l)) e in
        let a = (number_facts 3 255 (word l) p).most in
        let b = (number_facts 10 last_epoch (behind l) q).most in
        omega (arith, length_words l)

only_long : (b : ℕ) (l : List ℕ) → 1 < length l → only b l ≡ false
only_long b l h = rw (ne_eqb (length l) 1 (omega arith))

command_long : (l : List ℕ) → 16 < length l → command_of l ≡ None
unfolding command_of
command_long l h = rw (only_long 83 l (omega arith), only_long 80 l (omega arith)) (go (only 78 (word l)) refl)
  where
    go : (b : Bool) → only 78 (word l) ≡ b → cond b (heard_in (behind l)) None ≡ None
    go true e =
        let one = eqb-true (length (word l)) 1 (and-true (eqb (length (word l)) 1) (eqb (get_or (word l) 0 0) 78) e).0 in
        heard_long (behind l) (omega (arith, length_words l))
    go false e = refl

config_long : (l : List ℕ) → 11 < length l → config_in l ≡ feed_of 0 0 0
unfolding config_in
config_long l h = rw (test_false (is_member (word l) && is_member (word (behind l)) && is_member (behind (behind l))) none)
  where
    none : is_member (word l) && is_member (word (behind l)) && is_member (behind (behind l)) ≡ true → ⊥
    none e =
        let (p, r) = and-true (is_member (word l) && is_member (word (behind l))) (is_member (behind (behind l))) e in
        let (p, q) = and-true (is_member (word l)) (is_member (word (behind l))) p in
        let a = (number_facts 3 255 (word l) p).most in
        let b = (number_facts 3 255 (word (behind l)) q).most in
        let c = (number_facts 3 255 (behind (behind l)) r).most in
        omega (arith, length_words l, length_words (behind l))

-- so the first 17 bytes of a line say what the line says
front : {A : Type 0} (f : List ℕ → A) (a : A) → ((l : List ℕ) → 16 < length l → f l ≡ a) → (l : List ℕ) → f (take 17 l) ≡ f l
front f a long l =
    cases (split (length l) 17)
    (λ h. ap f (take_all 17 l h))
    (λ h. long (take 17 l) (rw (length-take-le 17 l (omega arith)) (lit< tt)) ∙ sym (long l (omega arith)))

pub command_front : (l : List ℕ) → command_of (take 17 l) ≡ command_of l
command_front = front command_of None command_long

pub config_front : (l : List ℕ) → config_in (take 17 l) ≡ config_in l
config_front = front config_in (feed_of 0 0 0) (λ l h. config_long l (omega arith))
