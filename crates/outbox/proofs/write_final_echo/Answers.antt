-- `outbox::write_final_echo` meets its contract: a body and its trailer, lent one after the other, are the frame (`wrote`).
-- A body of a FINAL is what is written for what it says (`final_forth`).
use Rattle.std.proofs.Common.{◌≡◌, sym, ap, ◌∙◌, length, arith}
use Rattle.wire.specs.Numbers.{Bytes}
use Rattle.wire.specs.Overlay.{over}
use Rattle.frame.specs.Table.{table, shape_of, body_length}
use Rattle.frame.specs.Encode.{attested_bytes, body_bytes}
use Rattle.frame.specs.Decode.{attested_in}
use Rattle.frame.proofs.RoundTrip.{final_forth}
use Rattle.outbox.proofs.Frames.{rest, wrote}
use Rattle.outbox.proofs.write_final_echo.Goals as goal

pub returns : goal.returns
unfolding body_bytes body_length shape_of table
returns c =
    let b = c.args.body.now in
    let bytes : Bytes b = λ k. (c.type_inv.body k).fits in
    let e : b ≡ attested_bytes (attested_in b) = sym (final_forth b bytes c.requires.1) in
    let p = c.put_copy-n.ensures in
    let t = c.put_trailer.ensures in
    wrote (p.1 ∙ ap length e) (omega arith) (p.0 ∙ ap (over (rest c.args.outbox.now c.args.at) 0) e) t.0 t.1
