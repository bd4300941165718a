-- `outbox::put_report` meets its contract: the head with m, the list and the zeros are laid one behind the other.
use Rattle.std.proofs.Common.{◌≡◌, ◌∷◌, [], ◌++◌, refl, sym, ap, ◌∙◌, ℕ, arith, drop}
use Rattle.wire.specs.Numbers.{Bytes, be_bytes}
use Rattle.wire.specs.Overlay.{over}
use Rattle.frame.specs.Table.{table, shape_of, body_length}
use Rattle.frame.specs.Encode.{observation_bytes, flat, head_bytes, counted_bytes, body_bytes}
use Rattle.frame.specs.Decode.{observation_at, epoch_in, round_in, count_in, list_place, observations_in}
use Rattle.frame.proofs.Entries.{length_entries}
use Rattle.outbox.specs.Written.{own_signature}
use Rattle.outbox.proofs.Runs.{laid_three}
use Rattle.outbox.proofs.Frames.{length_observed, head_copied}
use Rattle.outbox.proofs.put_report.Goals as goal

pub returns : goal.returns
unfolding body_bytes counted_bytes head_bytes be_bytes body_length shape_of table
returns c =
    let out = c.args.out.now in
    let b = c.args.body.now in
    let h = c.copy.new.to in
    let o = c.put_said-p in
    let bytes : Bytes b = λ k. (c.type_inv.body k).fits in
    let xs = observations_in (shape_of 4).entry b in
    let list = flat observation_bytes xs in
    let head = head_bytes (epoch_in b) (round_in b) in
    let many = length_entries observation_at (shape_of 4).entry (count_in b) (drop list_place b) in
    let long = length_observed xs in
    let begun : h ≡ over out 0 (head ++ (count_in b ∷ [])) = rw (head_copied b bytes (omega arith)) at c.copy.ensures in (
      laid_three out h o.new.out c.zero.new.s 0 (head ++ (count_in b ∷ [])) list_place list o.result own_signature
          begun o.ensures.0 c.zero.ensures refl (omega arith)
          ∙ ap (λ (m : ℕ). over out 0 (head ++ (m ∷ (list ++ own_signature)))) (sym many),
      omega arith,
    )
