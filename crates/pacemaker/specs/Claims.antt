-- What a reader may quote of the pacemaker: each claim is a type, proved in `proofs/Claims.antt`.
use Rattle.std.specs.Prelude.{◌≡◌, true, false, cond, None, Some, List, ℕ, ◌-◌, ◌*◌, ◌≤◌, ◌<◌, max, ltb, get_or}
use Rattle.config.specs.Limits.{members, last_epoch}
use Rattle.config.specs.declared.Saved.{Saved}
use Rattle.quorum.specs.Counts.{count_above, count_reaching, reached}
use Rattle.pacemaker.specs.declared.Pace.{Pace}
use Rattle.pacemaker.specs.declared.Paced.{Paced}
use Rattle.pacemaker.specs.State.{restored_pace, good_pace}
use Rattle.pacemaker.specs.Rules.{start_of, resend_of, fires_resend, change_leader_of, past_end, progress_of, heard_by, new_epoch_of}
use Rattle.pacemaker.specs.Runs.{Heard, FromMembers, run, highest_from, Next, Lived}

-- 01: "So, from a reachable state, after any list of NEWEPOCH, none refused: heard[j] is the largest of what it was and what j
-- sent; highest sent is the larger of what it was and the largest number that more than f entries of heard reach; the epoch
-- likewise with 2f." A timer is armed as it was, or because its number rose.
pub record ClosedForm (n f : ℕ) (p : Pace) (ms : List Heard) (q : Pace) : Type 0 where
  pub heard : (j : ℕ) → 1 ≤ j → j ≤ n → get_or q.heard (j - 1) 0 ≡ max (get_or p.heard (j - 1) 0) (highest_from j ms)
  pub others : (k : ℕ) → n ≤ k → get_or q.heard k 0 ≡ get_or p.heard k 0
  pub highest : q.highest ≡ max p.highest (reached f (heard_by n q))
  pub epoch : q.epoch ≡ max p.epoch (reached (2 * f) (heard_by n q))
  pub resend : q.resend ≡ cond (ltb p.highest q.highest) 1 p.resend
  pub progress : q.progress ≡ cond (ltb p.epoch q.epoch) 1 p.progress
  pub started : q.started ≡ p.started

abbrev pub AfterAnyList : Type 0
AfterAnyList =
    (n f : ℕ) (p : Pace) (ms : List Heard) → n ≤ members → Lived n f p → FromMembers n ms → ClosedForm n f p ms (run n f p ms)

-- Demand 3, for the pacemaker: of two lists with the same highest number from each member, the node ends in the same state after either.
abbrev pub OrderDecidesNothing : Type 0
OrderDecidesNothing =
    (n f : ℕ) (p : Pace) (ms ms' : List Heard) → n ≤ members → Lived n f p → FromMembers n ms → FromMembers n ms' → ((j : ℕ) → 1 ≤ j → j ≤ n → highest_from j ms ≡ highest_from j ms') → run n f p ms ≡ run n f p ms'

-- No rule lowers the epoch, the highest number sent, or a number that was heard.
pub record NoLower (p q : Pace) : Type 0 where
  pub epoch : p.epoch ≤ q.epoch
  pub highest : p.highest ≤ q.highest
  pub heard : (k : ℕ) → get_or p.heard k 0 ≤ get_or q.heard k 0

abbrev pub NothingFalls : Type 0
NothingFalls = (n f : ℕ) (p q : Pace) → Next n f p q → NoLower p q

-- The epoch is never above the highest number sent, and a flag is 0 or 1: each rule keeps it so, and it is so from the beginning.
abbrev pub GoodStaysGood : Type 0
GoodStaysGood = (n f : ℕ) (p q : Pace) → Next n f p q → good_pace p ≡ true → good_pace q ≡ true

abbrev pub AlwaysGood : Type 0
AlwaysGood = (n f : ℕ) (p : Pace) → Lived n f p → good_pace p ≡ true

-- No number is past the last epoch, as long as no event is run that would be refused: a changeleader in the last epoch (END), or a
-- NEWEPOCH out of range.
pub record InRange (p : Pace) : Type 0 where
  pub epoch : p.epoch ≤ last_epoch
  pub highest : p.highest ≤ last_epoch
  pub heard : (k : ℕ) → get_or p.heard k 0 ≤ last_epoch

abbrev pub RestoredInRange : Type 0
RestoredInRange = (s : Saved) → s.epoch ≤ last_epoch → s.highest ≤ last_epoch → InRange (restored_pace s)

abbrev pub ChangeInRange : Type 0
ChangeInRange = (p : Pace) → past_end p ≡ false → InRange p → InRange (change_leader_of p).pace

abbrev pub NewEpochInRange : Type 0
NewEpochInRange = (n f : ℕ) (p : Pace) (j x : ℕ) → x ≤ last_epoch → InRange p → InRange (new_epoch_of n f p j x).pace

-- The other rules send nothing that was not in range: what Start, T_resend and progress leave is in range.
pub record OthersInRange (p : Pace) : Type 0 where
  pub start : InRange (start_of p).pace
  pub resend : InRange (resend_of p).pace
  pub progress : InRange (progress_of p).pace

abbrev pub OthersStayInRange : Type 0
OthersStayInRange = (p : Pace) → InRange p → OthersInRange p

-- Putsch resistance: a NEWEPOCH raises the highest number sent only to what more than f members have reached, and the
-- epoch only to what more than 2f have.
pub record Backed (n f : ℕ) (p q : Pace) : Type 0 where
  pub highest : p.highest < q.highest → f < count_reaching q.highest (heard_by n q)
  pub epoch : p.epoch < q.epoch → 2 * f < count_reaching q.epoch (heard_by n q)

abbrev pub NoPutsch : Type 0
NoPutsch = (n f : ℕ) (p : Pace) (j x : ℕ) → Backed n f p (new_epoch_of n f p j x).pace

-- So no f members alone have a node send, and no 2f members alone move it, whatever they say and however often: after any list, while no
-- more than f entries exceed the highest number sent, that stays, and likewise the epoch with 2f.
pub record Unmoved (n f : ℕ) (p q : Pace) : Type 0 where
  pub highest : count_above p.highest (heard_by n q) ≤ f → q.highest ≡ p.highest
  pub epoch : count_above p.epoch (heard_by n q) ≤ 2 * f → q.epoch ≡ p.epoch

abbrev pub FewMoveNothing : Type 0
FewMoveNothing =
    (n f : ℕ) (p : Pace) (ms : List Heard) → n ≤ members → Lived n f p → FromMembers n ms → Unmoved n f p (run n f p ms)

-- What a rule sends is the highest number sent from then on, and above 0; T_resend has sent before.
pub record Sends (r : Paced) : Type 0 where
  pub highest : (y : ℕ) → r.sent ≡ Some y → y ≡ r.pace.highest
  pub some : (y : ℕ) → r.sent ≡ Some y → 0 < y

pub record AllSend (n f : ℕ) (p : Pace) : Type 0 where
  pub start : Sends (start_of p)
  pub resend : fires_resend p ≡ true → Sends (resend_of p)
  pub change : Sends (change_leader_of p)
  pub new_epoch : (j x : ℕ) → Sends (new_epoch_of n f p j x)

abbrev pub SendsItsHighest : Type 0
SendsItsHighest = (n f : ℕ) (p : Pace) → AllSend n f p

-- A NEWEPOCH moves the node exactly where its epoch rises, and has it send exactly where its highest number rises.
pub record Told (p : Pace) (r : Paced) : Type 0 where
  pub moved : r.moved ≡ ltb p.epoch r.pace.epoch
  pub sent : r.sent ≡ cond (ltb p.highest r.pace.highest) (Some r.pace.highest) None

abbrev pub TellsWhatRose : Type 0
TellsWhatRose = (n f : ℕ) (p : Pace) (j x : ℕ) → Told p (new_epoch_of n f p j x)
