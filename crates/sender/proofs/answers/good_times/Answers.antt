-- `good_times` meets its contract: `all` tests each of the times.
use Rattle.std.proofs.Common.{ℕ, ◌+◌, ◌≤◌, ◌≡◌, Bool, List, All, leb, refl, rules}
use Rattle.std.specs.Bool.{Decides}
use Rattle.std.proofs.lemmas.Bool.Decides.{same_from_decides, Decides-by_and}
use borrow.Author.Tests.{le-leb, leb-true}
use Rattle.config.specs.Limits.{last_time, longest_delay}
use Rattle.quorum.specs.Counts.{every}
use Rattle.sender.specs.State.{good_times}
use Rattle.sender.proofs.answers.good_times.Goals as goal

all_good : (good : Bool) (times : List ℕ) → Decides good (All (λ t. t ≤ last_time + longest_delay) times) → good ≡ good_times times
unfolding good_times every
all_good good times h =
    let most = last_time + longest_delay in
    same_from_decides good (good_times times) h (Decides-by_and (λ t. leb t most) (λ t. t ≤ most) good_times (λ t. (leb-true t most, le-leb t most)) refl (λ _ _. refl) times)

pub returns : goal.returns
returns c = all_good c.all.result c.args.times (search rules)
