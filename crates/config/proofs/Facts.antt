-- What the tests of a configuration, a commit and an answer tell, as plain facts for whoever passed them; tests that are joined, and what is left of a bound.
use mathlib.Core.Bool.{Bool, true, false, ◌&&◌, beq, cond, false≢true}
use mathlib.Core.List.{List, [], ◌∷◌}
use mathlib.Core.Path.{◌≡◌, refl, sym, ap, ◌∙◌}
use Prim.Native.Nat.{ℕ, zero, suc, ◌+◌, ◌-◌, ◌*◌, ◌%◌, ◌≤◌, ◌<◌}
use native.Mathlib.Nat.{mod-lt}
use native.Mathlib.Omega.{arith, by_contra}
use borrow.Author.Tests.{leb-true, leb-false, le-leb, lt-leb, ltb-true, eqb-true, eq-eqb, ne_eqb}
use lib.Dec.{eqb, leb, ltb}
use lib.ListN.{length, take, get_or, get_or-eq_default}
use Rattle.config.specs.Limits.{members, most_rounds, most_alpha, last_time, longest_stage, most_stages}
use Rattle.config.specs.Bounds.{good_members, good_own, none_empty, sum, good_schedule, good_rates, good_time, good_feed, good_config, paired, good_commit}
use Rattle.config.specs.Leader.{leader_of}
use Rattle.config.specs.Codes.{number_of, is_done}
use Rattle.config.specs.declared.Config.{Config}
use Rattle.config.specs.declared.Commit.{Commit}
use Rattle.std.specs.Prelude.{Ok, Err}
use Rattle.config.specs.Answers.{Answer}
use Rattle.config.specs.Answers as the
use Rattle.config.specs.declared.Refusal.TheVariants as refusal

-- ---- tests

pub and-true : (a b : Bool) → a && b ≡ true → (a ≡ true) × (b ≡ true)
and-true true b h = (refl, h)
and-true false b h = absurd (false≢true h)

-- fewer tests than five are `true`s and those tests
pub and_five : (a b c d e : Bool) → a && b && c && d && e ≡ true → (a ≡ true) × (b ≡ true) × (c ≡ true) × (d ≡ true) × (e ≡ true)
and_five true true true true e h = (refl, refl, refl, refl, h)
and_five true true true false e h = absurd (false≢true h)
and_five true true false d e h = absurd (false≢true h)
and_five true false c d e h = absurd (false≢true h)
and_five false b c d e h = absurd (false≢true h)

-- k and m together are within n exactly if m is within what k leaves of n
pub leb_left : (k m n : ℕ) → k ≤ n → leb (k + m) n ≡ leb m (n - k)
leb_left k m n h = go (leb m (n - k)) refl
  where
    go : (b : Bool) → leb m (n - k) ≡ b → leb (k + m) n ≡ b
    go true e = le-leb (k + m) n (omega (arith, leb-true m (n - k) e))
    go false e = lt-leb (k + m) n (omega (arith, leb-false m (n - k) e))

same_true : (a b : Bool) → beq a b ≡ true → a ≡ b
same_true true true h = refl
same_true true false h = sym h
same_true false true h = h
same_true false false h = refl

-- ---- configurations

pub record Members (n f : ℕ) : Type 0 where
  pub some : 1 ≤ n
  pub most : n ≤ members
  pub faulty : 3 * f < n

pub members_facts : (n f : ℕ) → good_members n f ≡ true → Members n f
members_facts n f h =
    let p = and_five true true (leb 1 n) (leb n members) (ltb (3 * f) n) h in
    omega (arith, leb-true, ltb-true)

pub record Own (n own : ℕ) : Type 0 where
  pub some : 1 ≤ own
  pub most : own ≤ n

pub own_facts : (n own : ℕ) → good_own n own ≡ true → Own n own
own_facts n own h = let p = and-true (leb 1 own) (leb own n) h in omega (arith, leb-true)

pub record Staged (n f count : ℕ) (schedule : List ℕ) : Type 0 where
  pub some : 1 ≤ count
  pub most : count ≤ most_stages
  pub each : (k : ℕ) → k < count → count ≤ length schedule → 1 ≤ get_or schedule k 0
  pub above : f < sum (take count schedule)
  pub below : sum (take count schedule) ≤ n

none_empty_each : (l : List ℕ) (m k : ℕ) → none_empty (take m l) ≡ true → k < m → m ≤ length l → 1 ≤ get_or l k 0
unfolding none_empty
none_empty_each l zero k e h g = omega arith
none_empty_each [] (suc m) k e h g = omega arith
none_empty_each (s ∷ l) (suc m) zero e h g = leb-true 1 s (and-true (leb 1 s) (none_empty (take m l)) e).0
none_empty_each (s ∷ l) (suc m) (suc k) e h g =
    none_empty_each l m k (and-true (leb 1 s) (none_empty (take m l)) e).1 (omega arith) (omega arith)

pub staged_facts : (n f count : ℕ) (schedule : List ℕ) → good_schedule n f count schedule ≡ true → Staged n f count schedule
staged_facts n f count schedule h =
    let s = sum (take count schedule) in
    let p = and_five (leb 1 count) (leb count most_stages) (none_empty (take count schedule)) (ltb f s) (leb s n) h in
    record {
      some = omega (arith, leb-true);
      most = omega (arith, leb-true);
      each = λ k. none_empty_each schedule count k p.2;
      above = omega (arith, ltb-true);
      below = omega (arith, leb-true);
    }

-- what holds of a feed, whichever member this is
pub record Feed (c : Config) : Type 0 where
  pub members : Members c.n c.f
  pub first : 1 ≤ c.r_max
  pub rounds : c.r_max ≤ most_rounds
  pub fraction : c.alpha ≤ most_alpha
  pub due : c.delta_c ≤ last_time
  pub stage : c.delta_stage ≤ longest_stage
  pub schedule : Staged c.n c.f c.stages c.schedule

pub feed_facts : (c : Config) → good_feed c ≡ true → Feed c
unfolding good_feed
feed_facts c h =
    let p = and_five true true (good_members c.n c.f) (good_rates c) (good_schedule c.n c.f c.stages c.schedule) h in
    let q = and_five (leb 1 c.r_max) (leb c.r_max most_rounds) (leb c.alpha most_alpha) (good_time c.delta_c) (leb c.delta_stage longest_stage) p.3 in
    record {
      members = members_facts c.n c.f p.2;
      first = leb-true _ _ q.0;
      rounds = leb-true _ _ q.1;
      fraction = leb-true _ _ q.2;
      due = leb-true _ _ q.3;
      stage = leb-true _ _ q.4;
      schedule = staged_facts c.n c.f c.stages c.schedule p.4;
    }

pub record Good (c : Config) : Type 0 where
  pub feed : Feed c
  pub own : Own c.n c.own

pub good_facts : (c : Config) → good_config c ≡ true → Good c
unfolding good_config
good_facts c h =
    let p = and-true (good_feed c) (good_own c.n c.own) h in
    record { feed = feed_facts c p.0; own = own_facts c.n c.own p.1 }

-- ---- commits

pub record Committed (c : Commit) : Type 0 where
  pub time : c.time ≤ last_time
  pub both : c.epoch ≡ 0 → c.round ≡ 0
  pub neither : c.round ≡ 0 → c.epoch ≡ 0

pub commit_facts : (c : Commit) → good_commit c ≡ true → Committed c
commit_facts c h =
    let p = and-true (paired c.epoch c.round) (good_time c.time) h in
    let e = same_true (eqb c.epoch 0) (eqb c.round 0) p.0 in
    record {
      time = leb-true _ _ p.1;
      both = λ z. eqb-true _ _ (sym e ∙ eq-eqb _ _ z);
      neither = λ z. eqb-true _ _ (e ∙ eq-eqb _ _ z);
    }

-- ---- leaders

pub leader_some : (n e : ℕ) → 0 < n → 0 < e → 1 ≤ leader_of n e
leader_some n e h g = rw (ne_eqb e 0 (λ z. omega arith)) (omega arith)

pub leader_most : (n e : ℕ) → 0 < n → leader_of n e ≤ n
leader_most n e h = go (eqb e 0)
  where
    go : (b : Bool) → cond b 0 (e % n + 1) ≤ n
    go true = omega arith
    go false = omega (arith, mod-lt e h)

pub leader_none : (n : ℕ) → leader_of n 0 ≡ 0
leader_none n = refl

-- ---- answers

-- the answers in the order of their numbers
answers : List Answer
answers = the.Done ∷ the.Ignored ∷ the.State ∷ the.Room ∷ the.Short ∷ the.Version ∷ the.Kind ∷ the.Sender ∷ the.Length ∷ the.Range ∷ the.Proof ∷ the.End ∷ the.Config ∷ the.Old ∷ the.Few ∷ the.Order ∷ the.Twice ∷ the.Signers ∷ the.Funds ∷ the.Similar ∷ the.Queue ∷ []

answer_back : (a : Answer) → get_or answers (number_of a) the.Done ≡ a
unfolding number_of answers
answer_back (Ok tt) = refl
answer_back (Err refusal.Ignored) = refl
answer_back (Err refusal.State) = refl
answer_back (Err refusal.Room) = refl
answer_back (Err refusal.Short) = refl
answer_back (Err refusal.Version) = refl
answer_back (Err refusal.Kind) = refl
answer_back (Err refusal.Sender) = refl
answer_back (Err refusal.Length) = refl
answer_back (Err refusal.Range) = refl
answer_back (Err refusal.Proof) = refl
answer_back (Err refusal.End) = refl
answer_back (Err refusal.Config) = refl
answer_back (Err refusal.Old) = refl
answer_back (Err refusal.Few) = refl
answer_back (Err refusal.Order) = refl
answer_back (Err refusal.Twice) = refl
answer_back (Err refusal.Signers) = refl
answer_back (Err refusal.Funds) = refl
answer_back (Err refusal.Similar) = refl
answer_back (Err refusal.Queue) = refl

pub number_injective : (a b : Answer) → number_of a ≡ number_of b → a ≡ b
number_injective a b e = sym (answer_back a) ∙ ap (λ (k : ℕ). get_or answers k the.Done) e ∙ answer_back b

pub done_only : (a : Answer) → is_done a ≡ true → a ≡ the.Done
done_only (Ok tt) h = refl
done_only (Err r) h = absurd (false≢true h)

-- DONE alone has the number 0
pub done_zero : (a : Answer) → is_done a ≡ eqb (number_of a) 0
unfolding number_of
done_zero (Ok tt) = refl
done_zero (Err refusal.Ignored) = refl
done_zero (Err refusal.State) = refl
done_zero (Err refusal.Room) = refl
done_zero (Err refusal.Short) = refl
done_zero (Err refusal.Version) = refl
done_zero (Err refusal.Kind) = refl
done_zero (Err refusal.Sender) = refl
done_zero (Err refusal.Length) = refl
done_zero (Err refusal.Range) = refl
done_zero (Err refusal.Proof) = refl
done_zero (Err refusal.End) = refl
done_zero (Err refusal.Config) = refl
done_zero (Err refusal.Old) = refl
done_zero (Err refusal.Few) = refl
done_zero (Err refusal.Order) = refl
done_zero (Err refusal.Twice) = refl
done_zero (Err refusal.Signers) = refl
done_zero (Err refusal.Funds) = refl
done_zero (Err refusal.Similar) = refl
done_zero (Err refusal.Queue) = refl

-- past the end of `answers` there is only Done, whose number is 0
pub number_below : (a : Answer) → number_of a < 21
unfolding number_of answers
number_below a = by_contra _ _ (λ g. omega (arith, ap number_of (sym (answer_back a) ∙ get_or-eq_default answers the.Done {n = number_of a} (omega arith))))
