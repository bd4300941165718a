-- `contract::paid_all` meets its contract: a turn pays the member at place i, and what it stores is what `earning` says.
use Rattle.std.proofs.Common.{◌≡◌, ◌≤◌, get_or, sym, ◌∙◌, arith}
use Rattle.config.specs.Limits.{members}
use Rattle.frame.specs.Decode.{count_in}
use Rattle.ledger.specs.Ledger.{earning}
use Rattle.contract.proofs.Bodies.{listed_said, listed_each}
use Rattle.contract.proofs.Fees.{listed_in, listed_count, fees_next, earn_next}
use Rattle.contract.proofs.paid_all.Goals as goal
use Rattle.contract.proofs.paid_all.Goals.{After-member_at}

-- the member that was read, of the list
said : (c : After-member_at) → c.member_at.result ≡ get_or (listed_in c.args.body.now) c.loop-i.i 0
said c = rw (c.member_at.ensures, c.stride-stride.ensures) (sym (listed_said c.args.body.now c.loop-i.i))

ranged : (c : After-member_at) → (1 ≤ c.member_at.result) × (c.member_at.result ≤ members)
ranged c =
    let long = listed_count c.args.body.now in
    let h = listed_each c.args.terms.n c.args.body.now c.requires.body_good c.loop-i.i (omega arith) in
    let e = said c in
    (omega arith, omega (arith, c.requires.few))

pub place_of-place-requires : goal.place_of-place-requires
place_of-place-requires c = (ranged (goal.at.place_of-place-requires c).After-member_at).0

pub bounds-ledger-place : goal.bounds-ledger-place
bounds-ledger-place c = let r = ranged (goal.at.bounds-ledger-place c).After-member_at in omega (arith, c.place_of-place.ensures)

pub loop-i-preserved : goal.loop-i-preserved
unfolding earning
loop-i-preserved c =
    let b = c.args.body.now in
    let i = c.loop-i.i in
    let fee = c.args.terms.observation_fee in
    let next = fees_next (count_in b) i fee (omega arith) in
    let long = listed_count b in
    let e = said (goal.at.loop-i-preserved c).After-member_at in
    record {
      funded = omega (arith, c.loop-i.invariant.funded);
      same = rw (c.credit.ensures, c.place_of-place.ensures)
          (earn_next c.loop-i.ledger (listed_in b) i fee c.member_at.result (omega arith) e ∙ c.loop-i.invariant.same);
    }
