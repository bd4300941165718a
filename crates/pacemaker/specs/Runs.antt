-- Runs of the pacemaker: lists of NEWEPOCH messages, and the states that rules lead to.
use Rattle.std.specs.Prelude.{cond, List, [], ◌∷◌, ℕ, ◌≤◌, max, eqb}
use Rattle.config.specs.declared.Saved.{Saved}
use Rattle.pacemaker.specs.declared.Pace.{Pace}
use Rattle.pacemaker.specs.State.{restored_pace}
use Rattle.pacemaker.specs.Rules.{start_of, resend_of, change_leader_of, progress_of, new_epoch_of}

-- a NEWEPOCH that has come: from which member, and its number
pub record Heard : Type 0 where
  pub from : ℕ
  pub number : ℕ

-- each message is from one of the n members
abbrev pub FromMembers : ℕ → List Heard → Type 0
FromMembers n [] = Unit {0}
FromMembers n (m ∷ ms) = (1 ≤ m.from) × (m.from ≤ n) × FromMembers n ms

-- the state after a list of NEWEPOCH
unfoldable pub run : ℕ → ℕ → Pace → List Heard → Pace
run n f p [] = p
run n f p (m ∷ ms) = run n f (new_epoch_of n f p m.from m.number).pace ms

-- the highest number that member j sent in a list; 0 where it sent none
unfoldable pub highest_from : ℕ → List Heard → ℕ
highest_from j [] = 0
highest_from j (m ∷ ms) = max (cond (eqb m.from j) m.number 0) (highest_from j ms)

-- the state q that one rule makes of p, with n members of whom f may be faulty
pub data Next (n f : ℕ) (p : Pace) : Pace → Type 0 where
  by_start : Next n f p (start_of p).pace
  by_resend : Next n f p (resend_of p).pace
  by_change : Next n f p (change_leader_of p).pace
  by_progress : Next n f p (progress_of p).pace
  by_newepoch : (j x : ℕ) → 1 ≤ j → j ≤ n → Next n f p (new_epoch_of n f p j x).pace

-- the states that rules lead to from a fresh or a restored one, in any order and number. Whether a rule's event would be
-- refused plays no part here, so these are more states than a node can reach.
pub data Lived (n f : ℕ) : Pace → Type 0 where
  begun : (s : Saved) → s.epoch ≤ s.highest → Lived n f (restored_pace s)
  then : {p q : Pace} → Lived n f p → Next n f p q → Lived n f q
