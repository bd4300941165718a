-- Document 01, "Numbers": which configurations, times and commits are in range.
use Rattle.std.specs.Prelude.{Bool, true, ◌&&◌, List, [], ◌∷◌, ℕ, ◌+◌, ◌*◌, eqb, leb, ltb, pos, take}
use Rattle.std.specs.Bool.{beq}
use Rattle.config.specs.Limits.{members, most_rounds, most_alpha, last_time, longest_stage, most_stages}
use Rattle.config.specs.declared.Config.{Config}
use Rattle.config.specs.declared.Commit.{Commit}

-- the configuration of these numbers
abbrev pub config_of : ℕ → ℕ → ℕ → ℕ → ℕ → ℕ → ℕ → ℕ → ℕ → List ℕ → Config
config_of number n f own rounds alpha due stage stages schedule =
    record {
      number = number;
      delta_c = due;
      delta_stage = stage;
      alpha = alpha;
      n = n;
      f = f;
      own = own;
      r_max = rounds;
      stages = stages;
      schedule = schedule;
    }

-- "Members n: 1 to 31 .. Faulty f: 3f < n."
abbrev pub good_members : ℕ → ℕ → Bool
good_members n f = leb 1 n && leb n members && ltb (3 * f) n

-- "Own number 1 to n."
abbrev pub good_own : ℕ → ℕ → Bool
good_own n own = leb 1 own && leb own n

-- every stage of a schedule has at least one member
unfoldable pub none_empty : List ℕ → Bool
none_empty [] = true
none_empty (s ∷ l) = leb 1 s && none_empty l

-- how many members all the stages have together
unfoldable pub sum : List ℕ → ℕ
sum [] = 0
sum (s ∷ l) = s + sum l

-- "Schedule: 1 to 8 stages, each at least 1, sum above f and at most n." Places past the count are not read.
abbrev pub good_schedule : ℕ → ℕ → ℕ → List ℕ → Bool
good_schedule n f count schedule =
    leb 1 count && leb count most_stages && none_empty (take count schedule) && ltb f (sum (take count schedule)) && leb (sum (take count schedule)) n

-- "they and Delta_C are at most 2^53"
abbrev pub good_time : ℕ → Bool
good_time t = leb t last_time

-- "r_max 1 to 254.", "Alpha: 0 to 1,000,000,000 parts per billion.", "Delta_C .. at most 2^53", "Delta_stage at most 86,400,000."
abbrev pub good_rates : Config → Bool
good_rates c = leb 1 c.r_max && leb c.r_max most_rounds && leb c.alpha most_alpha && good_time c.delta_c && leb c.delta_stage longest_stage

-- every bound that does not depend on which member this is
unfoldable pub good_feed : Config → Bool
good_feed c = good_members c.n c.f && good_rates c && good_schedule c.n c.f c.stages c.schedule

-- all the bounds of a configuration; its number may be any
unfoldable pub good_config : Config → Bool
good_config c = good_feed c && good_own c.n c.own

-- "a commit has both 0 or neither"
abbrev pub paired : ℕ → ℕ → Bool
paired epoch round = beq (eqb epoch 0) (eqb round 0)

-- the contract's last commit: epoch and round "both 0 or neither, else RANGE", and its time in range
abbrev pub good_commit : Commit → Bool
good_commit c = paired c.epoch c.round && good_time c.time

-- "the last commit is epoch 0 round 0": nothing has been committed
abbrev pub no_commit : Commit → Bool
no_commit c = eqb c.epoch 0 && eqb c.round 0

-- what a contract has before its first report, and what the epoch program delivers
abbrev pub nothing_committed : Commit
nothing_committed = record { median = pos 0; time = 0; epoch = 0; round = 0 }
