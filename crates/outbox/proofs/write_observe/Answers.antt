-- `outbox::write_observe` meets its contract: a body and its trailer, lent one after the other, are the frame (`wrote`).
use Rattle.std.proofs.Common.{ap, ◌∙◌, ℤ, w64, arith}
use Rattle.std.proofs.lemmas.Int.{to_z-of_z}
use Rattle.wire.specs.Numbers.{be_bytes}
use Rattle.wire.specs.Overlay.{over}
use Rattle.frame.specs.Message.{observe}
use Rattle.frame.specs.Table.{table, shape_of, body_length}
use Rattle.frame.specs.Encode.{head_bytes, body_bytes}
use Rattle.outbox.specs.Written.{own_signature}
use Rattle.outbox.proofs.Frames.{rest, wrote}
use Rattle.outbox.proofs.write_observe.Goals as goal

pub returns : goal.returns
unfolding body_bytes head_bytes be_bytes body_length shape_of table
returns c =
    let a = c.args in
    let p = c.put_observe-n.ensures in
    let t = c.put_trailer.ensures in
    wrote p.1 (omega arith)
    (p.0 ∙ ap (λ (x : ℤ). over (rest a.outbox.now a.at) 0 (body_bytes (observe a.epoch a.round x own_signature))) (to_z-of_z w64 a.value c.ranges.value))
    t.0 t.1
