-- Cases of what a fresh instance begins with.
use Prim.Native.Nat.{ℕ}
use lib.Dec.{eqb}
use Rattle.config.specs.Leader.{leader_of}
use Rattle.config.specs.declared.Config.{Config}
use Rattle.config.specs.declared.Timer.TheVariants as timer
use Rattle.quorum.proofs.Cases.{either}
use Rattle.leader.specs.declared.Led.{Led}
use Rattle.leader.specs.declared.Asking.TheVariants as asking
use Rattle.leader.specs.State.{no_round}
use Rattle.leader.specs.Rules.{led, next_round}
use Rattle.node.specs.Effects.{begun}

-- it has its leader in round 1, and is nothing to everybody else
pub begun_cases : (P : Led → Type 0) (c : Config) (epoch : ℕ) → P (next_round c no_round) → P (led no_round asking.Nothing timer.Stop timer.Stop) → P (begun c epoch)
unfolding begun
begun_cases P c epoch p q =
    either P (eqb c.own (leader_of c.n epoch)) (next_round c no_round) (led no_round asking.Nothing timer.Stop timer.Stop) (λ e. p) (λ e. q)
