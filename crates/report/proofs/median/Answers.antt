-- `report::median` meets its contract: it is the value of the entry in the middle of the list.
use Rattle.std.proofs.Common.{ℕ, get_or, drop, sym, ap, ◌∙◌, w64, rules}
use Rattle.std.proofs.lemmas.Int.{to_z-of_z}
use Rattle.price.specs.Median.{median_place}
use Rattle.frame.specs.Message.{no_observation}
use Rattle.frame.specs.Decode.{count_in, list_place, observation_at, observations_in}
use Rattle.frame.proofs.Entries.{length_entries}
use Rattle.report.proofs.Values.{median_values}
use Rattle.report.proofs.median.Goals as goal

pub returns : goal.returns
returns c =
    let b = c.args.body.now in
    let l = observations_in c.args.stride b in
    let many = c.count_of-m.ensures.0 ∙ sym (length_entries observation_at c.args.stride (count_in b) (drop list_place b)) in
    to_z-of_z w64 _ (search rules)
    ∙ c.value_at.ensures
    ∙ ap (λ (k : ℕ). (get_or l k no_observation).value) (c.median_place-place.ensures ∙ ap median_place many)
    ∙ median_values l
