-- Document 01, "A round": whether a median should be reported.
use Rattle.std.specs.Prelude.{Bool, ◌||◌, ℕ, ◌-◌, ltb, ℤ}
use Rattle.config.specs.Bounds.{no_commit}
use Rattle.config.specs.declared.Commit.{Commit}
use Rattle.config.specs.declared.Config.{Config}
use Rattle.price.specs.Deviation.{deviates}

-- "Should be reported: the last commit is epoch 0 round 0, or the median deviates from the committed one, or more than
-- Delta_C has passed (nothing, if the clock is behind the commit)." A difference of numbers is 0 where the first is the smaller.
unfoldable pub should_report : Config → ℕ → Commit → ℤ → Bool
should_report c time commit median =
    no_commit commit || deviates c commit.median median || ltb c.delta_c (time - commit.time)
