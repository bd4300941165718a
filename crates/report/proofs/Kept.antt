-- A report that is kept: it is short enough, and stands at the start of its buffer, whatever the buffer held.
use mathlib.Core.Bool.{true}
use mathlib.Core.List.{List, ◌++◌, append_assoc}
use mathlib.Core.Path.{◌≡◌, sym, ◌∙◌}
use Prim.Native.Nat.{ℕ, ◌+◌, ◌-◌, ◌≤◌}
use native.Mathlib.Nat.{le_trans, zero-add}
use native.Mathlib.Omega.{arith}
use lib.ListN.{length, drop, replicate, length-append, length-replicate}
use Rattle.config.specs.Limits.{members, kept_size}
use Rattle.wire.specs.Overlay.{over}
use Rattle.wire.proofs.Overlay.{over_eq}
use Rattle.frame.specs.Message.{Attested}
use Rattle.frame.specs.Encode.{attested_bytes}
use Rattle.frame.specs.Range.{good_attested}
use Rattle.frame.specs.Claims.{WritableAttested}
use Rattle.frame.proofs.Ranges.{good_attested_facts}
use Rattle.frame.specs.Decode.{Readable}
use Rattle.frame.proofs.Readable.{readable_long, final_fits}
use Rattle.frame.proofs.RoundTrip.{length_attested}
use Rattle.frame.proofs.Fronts.{Stands}
use Rattle.report.specs.Kept.{kept_bytes, keeping}

pub length_kept : (body : List ℕ) → length body ≤ kept_size → length (kept_bytes body) ≡ kept_size
length_kept body h = length-append body (replicate (kept_size - length body) 0) ∙ rw length-replicate (omega arith)

-- bytes in the place of a list's first ones are laid over its start
pub laid_front : (l bs : List ℕ) → length bs ≤ length l → bs ++ drop (length bs) l ≡ over l 0 bs
laid_front l bs h = sym (over_eq l 0 bs (rw zero-add h) ∙ rw zero-add)

-- a buffer of full size has the bytes of the longest report of n members
pub kept_readable : (n : ℕ) (b : List ℕ) → n ≤ members → kept_size ≤ length b → Readable n b
kept_readable n b few room = readable_long n b (omega (arith, final_fits n n few few))

-- a report in range is short enough to be kept
kept_fits : (n : ℕ) (a : Attested) → n ≤ members → good_attested n a ≡ true → WritableAttested a → length (attested_bytes a) ≤ kept_size
kept_fits n a h good w =
    let g = good_attested_facts n a good in
    omega (arith, length_attested a w, final_fits (length a.list) (length a.signers) (le_trans g.list.count.most h) (le_trans g.signers.count.most h))

pub kept_stands : (n : ℕ) (a : Attested) (buffer : List ℕ) → n ≤ members → good_attested n a ≡ true → WritableAttested a → kept_size ≤ length buffer → Stands n a (keeping buffer (attested_bytes a))
kept_stands n a buffer few good w room =
    let body = attested_bytes a in
    let zeros : List ℕ = replicate (kept_size - length body) 0 in
    let long = length_kept body (kept_fits n a few good w) in
    let behind = drop (0 + length (kept_bytes body)) buffer in
    record { good = good; writable = w; rest = zeros ++ behind; bytes = over_eq buffer 0 (kept_bytes body) (omega arith) ∙ append_assoc body zeros behind }
