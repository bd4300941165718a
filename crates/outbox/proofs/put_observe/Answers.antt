-- `outbox::put_observe` meets its contract: the head, the value and the zeros are laid one behind the other.
use Rattle.std.proofs.Common.{◌≡◌, ◌+◌, refl, ap, ◌∙◌, ℤ, w64, of_z}
use Rattle.std.proofs.lemmas.Int.{to_z-of_z}
use Rattle.wire.specs.Numbers.{be_bytes}
use Rattle.wire.specs.Overlay.{over}
use Rattle.frame.specs.Table.{table, shape_of, body_length}
use Rattle.frame.specs.Encode.{head_bytes, body_bytes}
use Rattle.outbox.specs.Written.{own_signature}
use Rattle.outbox.proofs.Runs.{laid_three}
use Rattle.outbox.proofs.put_observe.Goals as goal

pub returns : goal.returns
unfolding body_bytes head_bytes be_bytes body_length shape_of table
returns c =
    let a = c.args in
    let h = c.put_head-p in
    let value = be_bytes 8 (of_z w64 a.value) in
    let said : c.write.new.s ≡ over h.new.out h.result value =
    c.write.ensures ∙ ap (λ (x : ℤ). over h.new.out h.result (be_bytes 8 (of_z w64 x))) (to_z-of_z w64 a.value c.ranges.value) in (
      laid_three a.out.now h.new.out c.write.new.s c.zero.new.s 0 (head_bytes a.epoch a.round) h.result value (h.result + 8) own_signature
          h.ensures.0 said c.zero.ensures h.ensures.1 refl,
      c.body_length.ensures,
    )
