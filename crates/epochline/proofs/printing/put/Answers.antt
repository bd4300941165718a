-- `put` meets its contract: before the loop no digit stands, a turn puts one (`put_next`, `put_rest`), and the character goes behind them all (`over_next`).
use Rattle.std.proofs.Common.{◌≡◌, ◌+◌, ◌-◌, ◌≤◌, [], ◌∷◌, ◌++◌, refl, sym, arith, length, length-append, div-one}
use Rattle.std.proofs.Math.ListN.{length-set}
use Rattle.std.proofs.Math.Seq.{drop-length}
use Rattle.wire.specs.Overlay.{over}
use Rattle.wire.proofs.Overlay.{over_none, over_next}
use Rattle.epochline.specs.Decimal.{decimal}
use Rattle.epochline.proofs.Decimals.{put_next, put_rest}
use Rattle.epochline.proofs.printing.put.Goals as goal

pub loop-i-init : goal.loop-i-init
loop-i-init c =
    let a = c.args in
    let z : a.at + length (decimal a.x) - (a.at + c.places.result) ≡ 0 = omega arith in
    let k : a.at + c.places.result - a.at ≡ length (decimal a.x) = omega arith in
    (omega arith, omega arith, refl, rw z (sym (div-one a.x)), rw (k, drop-length, over_none))

pub loop-i-preserved : goal.loop-i-preserved
loop-i-preserved c =
    let l = c.loop-i in
    let a = c.args in
    let h : l.i ≤ a.at + length (decimal a.x) = omega arith in
    (omega arith, omega arith, simp length-set l.invariant.2, put_rest (a.at + length (decimal a.x)) a.x l.rest l.i (omega arith) h l.invariant.3, put_next a.out.now l.out a.at l.i a.x l.rest c.loop-i-test.true h l.invariant.3 l.invariant.4)

pub returns : goal.returns
returns c =
    let l = c.loop-i in
    let a = c.args in
    let d = decimal a.x in
    let i : l.i ≡ a.at = omega arith in
    let z : l.i - a.at ≡ 0 = omega arith in
    let whole : l.out ≡ over a.out.now a.at d = rw (z, i) at l.invariant.4 in
    let long : length (d ++ (a.then ∷ [])) ≡ length d + 1 = length-append d (a.then ∷ []) in
    (rw (whole, over_next a.out.now a.at d c.places.result a.then (sym c.places.ensures.0)), omega arith, omega arith)
