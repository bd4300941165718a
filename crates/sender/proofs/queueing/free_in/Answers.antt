-- `free_in` meets its contract: the first slot that is not taken is the lowest free one.
use Rattle.std.proofs.Common.{ℕ, ◌≡◌, ◌≢◌, ◌<◌, List, length, get_or, MatchOption, EachIndex, ◌∙◌, sym, rules, arith}
use Rattle.std.specs.declared.option.Option.{Option}
use Rattle.std.specs.declared.option.Option.TheVariants.{Some, None}
use Rattle.config.specs.Limits.{slots}
use Rattle.sender.specs.Waiting.{free_in, IsSlot}
use Rattle.sender.proofs.Slots.{free_first, free_none}
use Rattle.sender.proofs.queueing.free_in.Goals as goal

-- what `position` tells
abbrev FirstFree : Option ℕ → List ℕ → Type 0
FirstFree r l = MatchOption r (EachIndex l (λ k. get_or l k 0 ≡ 1)) (λ i. (i < length l) × (get_or l i 0 ≢ 1) × ((k : ℕ) → k < i → get_or l k 0 ≡ 1))

found : (r : Option ℕ) (taken : List ℕ) → length taken ≡ slots → FirstFree r taken → IsSlot r (free_in taken)
found None taken long h = free_none taken h ∙ long
found (Some i) taken long (within, free, before) = (sym (free_first taken i within free before), omega arith)

pub returns : goal.returns
returns c = found c.position.result c.args.taken (search rules) (search rules)
