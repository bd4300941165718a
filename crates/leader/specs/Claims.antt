-- What a reader may quote of the leader: each claim is a type, proved in `proofs/Claims.antt`.
use Rattle.std.specs.Prelude.{◌≡◌, true, List, map, ℕ, ◌+◌, ◌*◌, ◌≤◌, ◌<◌, ℤ, length}
use Rattle.config.specs.Limits.{members}
use Rattle.config.specs.declared.Config.{Config}
use Rattle.config.specs.declared.Timer.TheVariants as timer
use Rattle.quorum.specs.First.{all_set, distinct}
use Rattle.quorum.specs.Sort.{Perm}
use Rattle.frame.specs.Message.{Signed, Attested, observe, report_req, final}
use Rattle.report.specs.Faults as fault
use Rattle.outbox.specs.Written.{own_frame}
use Rattle.report.specs.Faults.{first_fault}
use Rattle.report.specs.Stands.{list_fault, bits_fault, attested_fault}
use Rattle.leader.specs.declared.Leader.{Leader}
use Rattle.leader.specs.State.{collecting, in_grace, reporting, finished, good_leader}
use Rattle.leader.specs.Listed.{request_of, final_of}
use Rattle.leader.specs.Takes.{observed_by, reported_by, takes}
use Rattle.leader.specs.Rules.{observing, closing}
use Rattle.leader.specs.Runs.{Observed, FromMembers, NoneObserved, from_of, observe_all, sign_all, Next, Lived}

-- Demand 3, for the leader: in a given state with a given signature buffer, two lists of the same observations in another order, at most one
-- from each member and none from a member that had observed before, lead to the same state and the same signatures. So T_grace fires after both or
-- after neither, and the report request that it sends is the same frame, byte for byte.
pub record SameOutcome (c : Config) (epoch : ℕ) (s : Leader) (signatures : List ℕ) (os os' : List Observed) : Type 0 where
  pub leader : observe_all c s os ≡ observe_all c s os'
  pub signatures_kept : sign_all signatures os ≡ sign_all signatures os'
  pub request : own_frame c (request_of c.n epoch (closing (observe_all c s os)).leader (sign_all signatures os)) ≡ own_frame c (request_of c.n epoch (closing (observe_all c s os')).leader (sign_all signatures os'))

abbrev pub OrderDecidesNothing : Type 0
OrderDecidesNothing =
    (c : Config) (epoch : ℕ) (s : Leader) (signatures : List ℕ) (os os' : List Observed) → c.n ≤ members → length s.observed ≡ members → FromMembers c.n os → NoneObserved s os → distinct (from_of os) ≡ true → Perm os os' → SameOutcome c epoch s signatures os os'

-- A report request of more than 2f observations passes a follower's checks where its bits are set: more than 2f, not falling, distinct members.
abbrev pub RequestPasses : Type 0
RequestPasses =
    (n f epoch round bits : ℕ) (s : Leader) (signatures : List ℕ) (xs : List Signed) → n ≤ length s.observed → 2 * f < observed_by n s → request_of n epoch s signatures ≡ report_req epoch round xs → all_set bits (length xs) ≡ true → first_fault (list_fault f (map (λ (x : Signed). x.said) xs)) (bits_fault bits (length xs)) ≡ fault.Nothing

-- In every state that rules lead to, a leader that asks for reports, or has finished, has more than 2f observations; one in grace too, and one
-- that still collects has not.
pub record Counted (c : Config) (s : Leader) : Type 0 where
  pub few : s.phase ≡ collecting → observed_by c.n s ≤ 2 * c.f
  pub grace : s.phase ≡ in_grace → 2 * c.f < observed_by c.n s
  pub asked : s.phase ≡ reporting → 2 * c.f < observed_by c.n s
  pub done : s.phase ≡ finished → 2 * c.f < observed_by c.n s

abbrev pub AlwaysCounted : Type 0
AlwaysCounted = (c : Config) (s : Leader) → c.n ≤ members → Lived c s → Counted c s

-- So a FINAL passes checks 14 to 17 where its bits are set.
abbrev pub FinalPasses : Type 0
FinalPasses =
    (c : Config) (epoch bits : ℕ) (s : Leader) (signatures : List ℕ) (a : Attested) → c.n ≤ length s.observed → c.n ≤ length s.reported → 2 * c.f < observed_by c.n s → c.f < reported_by c.n s → all_set bits (c.f + 1) ≡ true → final_of c.n c.f epoch s signatures ≡ final a → attested_fault c.f bits a ≡ fault.Nothing

-- T_grace starts at the entry that makes more than 2f, and at no other: a taken OBSERVE starts it exactly where the leader was still collecting,
-- with 2f observations.
pub record StartsAt (c : Config) (s : Leader) (j : ℕ) (v : ℤ) : Type 0 where
  pub entry : (observing c s j v).t_grace ≡ timer.Start → (s.phase ≡ collecting) × (observed_by c.n s ≡ 2 * c.f)
  pub starts : observed_by c.n s ≡ 2 * c.f → ((observing c s j v).t_grace ≡ timer.Start) × ((observing c s j v).leader.phase ≡ in_grace)

abbrev pub GraceStartsAtTheEntry : Type 0
GraceStartsAtTheEntry =
    (c : Config) (s : Leader) (epoch j : ℕ) (v : ℤ) (g : List ℕ) → c.n ≤ members → 1 ≤ j → j ≤ c.n → Lived c s → takes s true epoch j (observe epoch s.round v g) ≡ true → StartsAt c s j v

-- And no rule but a new round goes back to an earlier phase, so it starts at most once a round.
abbrev pub PhaseNeverFalls : Type 0
PhaseNeverFalls = (c : Config) (s t : Leader) → Next c s t → s.round ≡ t.round → s.phase ≤ t.phase

-- Every rule keeps a state in range.
abbrev pub GoodStaysGood : Type 0
GoodStaysGood = (c : Config) (s t : Leader) → Next c s t → good_leader s ≡ true → good_leader t ≡ true
