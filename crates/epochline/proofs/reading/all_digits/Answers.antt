-- `all_digits` meets its contract: the definition recurses over the characters as `all` does (`and_is`).
use Rattle.std.proofs.Common.{◌&&◌, leb, refl, rules}
use Rattle.std.proofs.lemmas.List.Recursion.{and_is}
use Rattle.epochline.specs.Decimal.{all_digits}
use Rattle.epochline.proofs.reading.all_digits.Goals as goal

pub returns : goal.returns
unfolding all_digits
returns c = and_is all_digits (λ b. leb 48 b && leb b 57) refl (λ _ _. refl) c.args.s.now 0 _ (search rules) (search rules)
