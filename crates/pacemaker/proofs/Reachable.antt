-- What holds of every state that rules lead to, a bound on all that is heard, and what being in range says in plain facts.
use mathlib.Core.Path.{◌≡◌, ◌∙◌}
use mathlib.Core.Bool.{true}
use mathlib.Core.List.{List, [], ◌∷◌}
use Prim.Native.Nat.{ℕ, suc, ◌-◌, ◌*◌, ◌≤◌, zero-le}
use native.Mathlib.Omega.{arith}
use borrow.Author.Tests.{leb-true, le-leb}
use lib.Dec.{leb}
use lib.ListN.{length, take, get_or, replicate, length-set, length-replicate}
use Rattle.config.specs.Limits.{members}
use Rattle.config.proofs.Facts.{and_five}
use Rattle.quorum.specs.Counts.{best, reached}
use Rattle.quorum.proofs.Each.{each_replicate, each_take, each_set}
use Rattle.quorum.proofs.Counts.{candidate_le, reached_none}
use Rattle.pacemaker.specs.declared.Pace.{Pace}
use Rattle.pacemaker.specs.State.{good_pace}
use Rattle.pacemaker.specs.Rules.{heard_by, hear, start_of, resend_of, change_leader_of, progress_of}
use Rattle.pacemaker.specs.Runs.{Next, by_start, by_resend, by_change, by_progress, by_newepoch, Lived, begun, then}
use Rattle.pacemaker.proofs.Settle.{step_is}

-- ---- settled: nothing that was heard is still to be followed

pub record Settled (n f : ℕ) (p : Pace) : Type 0 where
  pub top : reached f (heard_by n p) ≤ p.highest
  pub low : reached (2 * f) (heard_by n p) ≤ p.epoch
  pub size : length p.heard ≡ members

module _ (n f : ℕ) where
  settled_next : (p q : Pace) → Next n f p q → Settled n f p → Settled n f q
  unfolding start_of resend_of change_leader_of progress_of
  settled_next p q by_start s = record { top = omega arith; low = s.low; size = s.size }
  settled_next p q by_resend s = record { top = s.top; low = s.low; size = s.size }
  settled_next p q by_change s = record { top = omega arith; low = s.low; size = s.size }
  settled_next p q by_progress s = record { top = s.top; low = s.low; size = s.size }
  settled_next p q (by_newepoch j x a b) s =
      rw (step_is n f p j x) (record { top = omega arith; low = omega arith; size = length-set p.heard _ _ ∙ s.size })

  pub lived_settled : {p : Pace} → Lived n f p → Settled n f p
  lived_settled (begun s h) =
      record { top = omega (arith, reached_none f n members); low = omega (arith, reached_none (2 * f) n members); size = length-replicate {A = ℕ} members 0 }
  lived_settled (then {p = p} {q = q} r t) = settled_next p q t (lived_settled r)

-- ---- lists whose entries are all at most b

abbrev pub AtMost : ℕ → List ℕ → Type 0
AtMost b l = (k : ℕ) → get_or l k 0 ≤ b

pub at_most_zeros : (b m : ℕ) → AtMost b (replicate m 0)
at_most_zeros b m = each_replicate (λ x. x ≤ b) 0 m zero-le

pub at_most_hear : (b : ℕ) (l : List ℕ) (j x : ℕ) → x ≤ b → AtMost b l → AtMost b (hear l j x)
at_most_hear b l j x g h = each_set (λ x. x ≤ b) 0 l (j - 1) _ (omega (arith, h (j - 1))) h

best_at_most : (b k : ℕ) (l cs : List ℕ) → AtMost b cs → best k l cs ≤ b
best_at_most b k l [] h = zero-le
best_at_most b k l (c ∷ cs) h = omega (arith, candidate_le k l c, h 0, best_at_most b k l cs (λ i. h (suc i)))

-- what is reached is one of the entries, so it is at most b too
pub reached_at_most : (b k n : ℕ) (l : List ℕ) → AtMost b l → reached k (take n l) ≤ b
reached_at_most b k n l h = best_at_most b k (take n l) (take n l) (each_take (λ x. x ≤ b) 0 n l zero-le h)

-- ---- in range

pub record Good (p : Pace) : Type 0 where
  pub order : p.epoch ≤ p.highest
  pub started : p.started ≤ 1
  pub progress : p.progress ≤ 1
  pub resend : p.resend ≤ 1

pub good_facts : (p : Pace) → good_pace p ≡ true → Good p
unfolding good_pace
good_facts p h =
    let (_, o, s, g, r) = and_five true (leb p.epoch p.highest) (leb p.started 1) (leb p.progress 1) (leb p.resend 1) h in
    record { order = leb-true _ _ o; started = leb-true _ _ s; progress = leb-true _ _ g; resend = leb-true _ _ r }

pub facts_good : (p : Pace) → Good p → good_pace p ≡ true
unfolding good_pace
facts_good p g = simp (le-leb _ _ g.order, le-leb _ _ g.started, le-leb _ _ g.progress, le-leb _ _ g.resend)
