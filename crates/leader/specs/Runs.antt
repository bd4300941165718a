-- Runs of a leader: lists of OBSERVE, and the states that rules lead to.
use Rattle.std.specs.Prelude.{◌≡◌, true, false, List, [], ◌∷◌, map, ℕ, ◌-◌, ◌≤◌, ℤ, length}
use Rattle.config.specs.Limits.{signature_size}
use Rattle.config.specs.declared.Config.{Config}
use Rattle.quorum.specs.Marks.{marked}
use Rattle.frame.specs.Message.{observe, report, Observation}
use Rattle.leader.specs.declared.Leader.{Leader}
use Rattle.leader.specs.State.{no_round}
use Rattle.leader.specs.Takes.{takes, fires_grace}
use Rattle.leader.specs.Rules.{next_round, observing, observe_signed, closing, reporting_from}

-- an OBSERVE that has come: from which member, its value and its signature
pub record Observed : Type 0 where
  pub from : ℕ
  pub value : ℤ
  pub signature : List ℕ

-- each is from one of n members, and has a whole signature
abbrev pub FromMembers : ℕ → List Observed → Type 0
FromMembers n [] = Unit {0}
FromMembers n (o ∷ os) = (1 ≤ o.from) × (o.from ≤ n) × (length o.signature ≡ signature_size) × FromMembers n os

-- none is from a member that has observed in this round: a second OBSERVE of a member is not taken
abbrev pub NoneObserved : Leader → List Observed → Type 0
NoneObserved s [] = Unit {0}
NoneObserved s (o ∷ os) = (marked s.observed (o.from - 1) ≡ false) × NoneObserved s os

abbrev pub from_of : List Observed → List ℕ
from_of os = map (λ (o : Observed). o.from) os

-- the state, and the signature buffer, after a list of OBSERVE
unfoldable pub observe_all : Config → Leader → List Observed → Leader
observe_all c s [] = s
observe_all c s (o ∷ os) = observe_all c (observing c s o.from o.value).leader os

unfoldable pub sign_all : List ℕ → List Observed → List ℕ
sign_all signatures [] = signatures
sign_all signatures (o ∷ os) = sign_all (observe_signed signatures o.from o.signature) os

-- the state t that one rule makes of s, in a run in which no event is refused
pub data Next (c : Config) (s : Leader) : Leader → Type 0 where
  by_round : Next c s (next_round c s).leader
  by_observe : (epoch j : ℕ) (v : ℤ) (g : List ℕ) → 1 ≤ j → j ≤ c.n → takes s true epoch j (observe epoch s.round v g) ≡ true → Next c s (observing c s j v).leader
  by_grace : fires_grace c.n c.f s true ≡ true → Next c s (closing s).leader
  by_report : (epoch j : ℕ) (xs : List Observation) (g : List ℕ) → 1 ≤ j → j ≤ c.n → takes s true epoch j (report epoch s.round xs g) ≡ true → Next c s (reporting_from c s j).leader

-- the states that rules lead to from a fresh instance
pub data Lived (c : Config) : Leader → Type 0 where
  begun : Lived c no_round
  then : {s t : Leader} → Lived c s → Next c s t → Lived c t
