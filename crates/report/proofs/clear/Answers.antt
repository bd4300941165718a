-- `report::clear` meets its contract: zeros in the place of a buffer's first bytes are laid over its start.
use Rattle.std.proofs.Common.{ℕ, ◌≡◌, ◌≤◌, ◌++◌, List, length, drop, replicate, length-take-le, sym, ap, ◌∙◌, arith}
use Rattle.std.proofs.lemmas.List.{length-replicate}
use Rattle.config.specs.Limits.{kept_size}
use Rattle.report.specs.Kept.{cleared}
use Rattle.report.proofs.Kept.{laid_front}
use Rattle.report.proofs.clear.Goals as goal

zeroed : (buffer zeros : List ℕ) → zeros ≡ replicate kept_size 0 → kept_size ≤ length buffer → zeros ++ drop kept_size buffer ≡ cleared buffer
zeroed buffer zeros e h =
    let all : List ℕ = replicate kept_size 0 in
    let long : length all ≡ kept_size = length-replicate {A = ℕ} kept_size 0 in
    rw e (ap (λ (n : ℕ). all ++ drop n buffer) (sym long) ∙ laid_front buffer all (omega arith))

pub returns : goal.returns
returns c = zeroed c.args.buffer.now c.fill.new.self (c.fill.ensures.after (λ y e. e) ∙ ap (λ (n : ℕ). replicate n 0) (length-take-le kept_size c.args.buffer.now c.requires)) c.requires
