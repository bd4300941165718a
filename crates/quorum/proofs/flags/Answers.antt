-- `flags` meets its contract: the fold gives the largest.
use Rattle.std.proofs.Common.{◌≡◌, ◌∙◌, ℕ, ap, leb, max, rules}
use Rattle.std.specs.List.{fold}
use Rattle.quorum.proofs.Marks.{flags_largest}
use Rattle.quorum.proofs.flags.Goals as goal

pub returns : goal.returns
returns c =
    let e : c.fold.result ≡ fold max 0 c.args.marks.now = search rules in
    ap (λ (m : ℕ). leb m 1) e ∙ flags_largest 0 c.args.marks.now
