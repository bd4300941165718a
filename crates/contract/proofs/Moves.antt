-- What an accepted call does to the ledger's sums: what was paid in and out is on record, and all that is owed has grown by what was paid in.
use mathlib.Core.Bool.{true}
use mathlib.Core.List.{List, [], ◌∷◌}
use mathlib.Core.Path.{◌≡◌, refl, sym, ap, ◌∙◌}
use Prim.Native.Nat.{ℕ, suc, ◌+◌, ◌*◌, ◌≤◌, ◌<◌}
use native.Mathlib.Nat.{suc-mul}
use native.Mathlib.Omega.{arith}
use borrow.Author.Tests.{le-leb}
use lib.ListN.{length, get_or, drop, length-set}
use Rattle.config.specs.Limits.{members, most_deposits}
use Rattle.config.specs.Codes.{is_done}
use Rattle.config.proofs.Facts.{Own}
use Rattle.frame.specs.Table.{shape_of}
use Rattle.frame.specs.Decode.{count_in, list_place, observation_at, attested_in}
use Rattle.frame.proofs.Ranges.{OneTo}
use Rattle.frame.proofs.Entries.{length_entries}
use Rattle.ledger.specs.declared.Ledger.{Ledger}
use Rattle.ledger.specs.Ledger.{credited, emptied, account_at, paid_out, owed, covered, depositing, earning, withdrawing}
use Rattle.ledger.specs.History.{earn, withdraw, run, deposited}
use Rattle.ledger.proofs.Sums.{sums_set}
use Rattle.ledger.proofs.Claims.{nothing_is_lost}
use Rattle.contract.specs.declared.Contract.{Contract}
use Rattle.contract.specs.State.{place_of}
use Rattle.contract.specs.Calls.{answer_of, refusal_of, withdraw_answer, earning_all, paying}
use Rattle.contract.proofs.Facts.{ContractGood, terms_facts, contract_facts, withdraw_passed, withdraw_place, submit_passed}
use Rattle.contract.proofs.Bodies.{listed_each}
use Rattle.contract.proofs.Fees.{listed_in, listed_count, fund_all}

-- a ledger, and what it has become once so much was paid in and so much out
pub record Moved (l m : Ledger) (put out : ℕ) : Type 0 where
  pub deposits : m.deposits ≡ l.deposits + put
  pub owed_too : owed m ≡ owed l + put
  pub paid : paid_out m.accounts ≡ paid_out l.accounts + out
  pub long : length m.accounts ≡ length l.accounts

pub moved_none : (l : Ledger) → Moved l l 0 0
moved_none l = record { deposits = omega arith; owed_too = omega arith; paid = omega arith; long = refl }

pub moved_then : {l m k : Ledger} {put out put' out' : ℕ} → Moved l m put out → Moved m k put' out' → Moved l k (put + put') (out + out')
moved_then p q = record { deposits = omega arith; owed_too = omega arith; paid = omega arith; long = q.long ∙ p.long }

-- a fee, and a withdrawal, are entries of the ledger's history, in which nothing is lost
pub moved_earn : (l : Ledger) (place amount : ℕ) → l.deposits ≤ most_deposits → owed l ≤ l.deposits → place < length l.accounts → amount ≤ l.fund → Moved l (earning l place amount) 0 0
unfolding run deposited covered earning
moved_earn l place amount w h p f =
    let k = nothing_is_lost l (earn place amount ∷ []) w (le-leb (owed l) l.deposits h) ((p, f), tt) in
    let s = sums_set l.accounts place (credited (account_at l.accounts place) amount) p in
    record { deposits = k.deposits; owed_too = k.owed_too; paid = omega arith; long = simp length-set }

moved_withdraw : (l : Ledger) (place : ℕ) → l.deposits ≤ most_deposits → owed l ≤ l.deposits → place < length l.accounts → Moved l (withdrawing l place) 0 (account_at l.accounts place).balance
unfolding run deposited covered withdrawing
moved_withdraw l place w h p =
    let k = nothing_is_lost l (withdraw place ∷ []) w (le-leb (owed l) l.deposits h) (p, tt) in
    let s = sums_set l.accounts place (emptied (account_at l.accounts place)) p in
    record { deposits = k.deposits; owed_too = k.owed_too; paid = omega arith; long = simp length-set }

-- a fee for each listed member
moved_earn_all : (l : Ledger) (listed : List ℕ) (amount n : ℕ) → n ≤ length l.accounts → l.deposits ≤ most_deposits → owed l ≤ l.deposits → ((i : ℕ) → i < length listed → OneTo n (get_or listed i 0)) → length listed * amount ≤ l.fund → Moved l (earning_all l listed amount) 0 0
unfolding earning_all earning
moved_earn_all l [] amount n few w h each f = moved_none l
moved_earn_all l (member ∷ listed) amount n few w h each f =
    let fees = suc-mul (length listed) amount in
    let first = each 0 (omega arith) in
    let p = moved_earn l (place_of member) amount w h (omega arith) (omega arith) in
    moved_then p (moved_earn_all (earning l (place_of member) amount) listed amount n (omega arith) (omega arith) (omega arith) (λ i k. each (suc i) (omega arith)) (omega arith))

-- ---- the calls

pub deposit_moved : (l : Ledger) (amount : ℕ) → Moved l (depositing l amount) amount 0
deposit_moved l amount = record { deposits = refl; owed_too = omega arith; paid = omega arith; long = refl }

pub withdraw_moved : (c : Contract) (member : ℕ) → length c.ledger.accounts ≡ members → is_done (withdraw_answer c member) ≡ true → Moved c.ledger (withdrawing c.ledger (place_of member)) 0 (account_at c.ledger.accounts (place_of member)).balance
withdraw_moved c member long h =
    let g = contract_facts c (withdraw_passed c member h).0 in
    let k = withdraw_place c member h in
    moved_withdraw c.ledger (place_of member) g.deposits g.covers (omega arith)

-- what an accepted report leaves to the payment of its fees
pub record Ready (c : Contract) (listed : List ℕ) (transmitter : ℕ) : Type 0 where
  pub good : ContractGood c
  pub few : c.terms.n ≤ length c.ledger.accounts
  pub each : (i : ℕ) → i < length listed → OneTo c.terms.n (get_or listed i 0)
  pub own : Own c.terms.n transmitter
  pub fund : length listed * c.terms.observation_fee + c.terms.sending_fee ≤ c.ledger.fund

pub submit_ready : (c : Contract) (body : List ℕ) (transmitter time bits : ℕ) → length c.ledger.accounts ≡ members → is_done (answer_of (refusal_of c body transmitter time bits)) ≡ true → Ready c (listed_in body) transmitter
submit_ready c body transmitter time bits long h =
    let p = submit_passed c body transmitter time bits h in
    let g = contract_facts c p.good in
    let t = terms_facts c.terms g.terms in
    let fee = c.terms.observation_fee in
    let same : length (listed_in body) * fee ≡ length (attested_in body).list * fee = ap (λ (k : ℕ). k * fee) (listed_count body ∙ sym (length_entries observation_at (shape_of 6).entry (count_in body) (drop list_place body))) in
    record {
      good = g;
      few = omega arith;
      each = listed_each c.terms.n body p.body_good;
      own = p.range.report.own;
      fund = omega (arith, p.range.report.fund);
    }

-- the ledger once the observation fees are paid, which the sending fee is paid out of
pub record Listed (c : Contract) (listed : List ℕ) : Type 0 where
  pub moved : Moved c.ledger (earning_all c.ledger listed c.terms.observation_fee) 0 0
  pub fund : c.terms.sending_fee ≤ (earning_all c.ledger listed c.terms.observation_fee).fund

pub ready_listed : (c : Contract) (listed : List ℕ) (transmitter : ℕ) → Ready c listed transmitter → Listed c listed
ready_listed c listed transmitter r =
    let left = fund_all c.ledger listed c.terms.observation_fee (omega arith) in
    record {
      moved = moved_earn_all c.ledger listed c.terms.observation_fee c.terms.n r.few r.good.deposits r.good.covers r.each (omega arith);
      fund = omega arith;
    }

pub submit_moved : (c : Contract) (body : List ℕ) (transmitter time bits : ℕ) → length c.ledger.accounts ≡ members → is_done (answer_of (refusal_of c body transmitter time bits)) ≡ true → Moved c.ledger (paying c.terms c.ledger (listed_in body) transmitter) 0 0
unfolding paying
submit_moved c body transmitter time bits long h =
    let r = submit_ready c body transmitter time bits long h in
    let a = ready_listed c (listed_in body) transmitter r in
    moved_then a.moved (moved_earn (earning_all c.ledger (listed_in body) c.terms.observation_fee) (place_of transmitter) c.terms.sending_fee (omega arith) (omega arith) (omega arith) a.fund)
