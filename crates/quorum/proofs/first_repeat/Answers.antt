-- The table starts with nothing met; a turn of `first_repeat` is `passed_next`, and where a member is met again it is `passed_repeat`.
use Rattle.std.proofs.Common.{◌≡◌, ◌<◌, length, get_or, refl, arith, length-set}
use Rattle.quorum.proofs.First.{passed_none, passed_next, passed_repeat, passed_all, length_column}
use Rattle.quorum.proofs.first_repeat.Goals as goal

pub loop-i-init : goal.loop-i-init
loop-i-init c = (omega arith, omega arith, refl, passed_none 256 _)

pub returns-then-met-x-eq1 : goal.returns-then-met-x-eq1
returns-then-met-x-eq1 c =
    let l = c.loop-i in
    let a = c.args in
    let byte : get_or a.s.now l.place 0 < length l.met = omega (arith, c.type_inv.s l.place) in
    passed_repeat a.s.now a.at _ _ _ _ _ l.invariant.1 c.loop-i-test.true byte l.invariant.3 c.if-met-x-eq1.true

pub loop-i-preserved : goal.loop-i-preserved
loop-i-preserved c =
    let l = c.loop-i in
    let a = c.args in
    let byte : get_or a.s.now l.place 0 < length l.met = omega (arith, c.type_inv.s l.place) in (
      omega arith,
      omega arith,
      rw length-set l.invariant.2,
      passed_next a.s.now a.at _ _ _ _ _ l.invariant.1 c.loop-i-test.true byte l.invariant.3 c.if-met-x-eq1.false,
    )

pub returns : goal.returns
returns c =
    let e : c.loop-i.i ≡ c.args.many = omega arith in
    passed_all _ _ _ (length_column _ _ _) (rw e at c.loop-i.invariant.3)
