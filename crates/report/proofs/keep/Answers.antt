-- `report::keep` meets its contract: zeros behind a copy are one list laid over the buffer.
use Rattle.std.proofs.Common.{ℕ, ◌-◌, ◌≡◌, List, length, replicate, ◌∙◌, arith}
use Rattle.std.proofs.Math.Seq.{take-length}
use Rattle.config.specs.Limits.{kept_size}
use Rattle.wire.specs.Numbers.{part}
use Rattle.wire.specs.Overlay.{over}
use Rattle.wire.proofs.Overlay.{over_then}
use Rattle.report.specs.Kept.{keeping}
use Rattle.report.proofs.keep.Goals as goal

kept : (buffer body copied zeroed : List ℕ) → copied ≡ over buffer 0 (part body 0 (length body)) → zeroed ≡ over copied (length body) (replicate (kept_size - length body) 0) → zeroed ≡ keeping buffer body
kept buffer body copied zeroed e g = g ∙ rw (e, take-length) (over_then buffer 0 body (length body) (replicate (kept_size - length body) 0) (omega arith))

pub returns : goal.returns
returns c = kept c.args.buffer.now c.args.body.now _ _ c.copy.ensures c.zero.ensures
