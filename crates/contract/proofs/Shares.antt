-- What each account has once fees are paid: the fee where its member is listed, and nothing more; and what it was paid, as before.
use mathlib.Core.Bool.{Bool, true, false, cond, ◌||◌, false≢true}
use mathlib.Core.List.{List, [], ◌∷◌}
use mathlib.Core.Path.{◌≡◌, refl, sym, ap, ◌∙◌}
use Prim.Native.Nat.{ℕ, suc, ◌+◌, ◌*◌, ◌≤◌, ◌<◌}
use native.Mathlib.Nat.{suc-mul}
use native.Mathlib.Omega.{arith}
use borrow.Author.Tests.{eqb-true, eqb-false}
use lib.Dec.{eqb}
use lib.ListN.{length, get_or, set}
use lib.Seq.{get_or-set_same, get_or-set_other}
use Rattle.config.specs.Limits.{most_deposits}
use Rattle.quorum.specs.First.{among, distinct}
use Rattle.quorum.proofs.First.{distinct_cons}
use Rattle.frame.proofs.Ranges.{OneTo}
use Rattle.ledger.specs.declared.Account.{Account}
use Rattle.ledger.specs.declared.Ledger.{Ledger}
use Rattle.ledger.specs.Ledger.{no_money, credited, account_at, owed, earning}
use Rattle.ledger.proofs.Sums.{sums_set, paid_credited}
use Rattle.contract.specs.State.{place_of}
use Rattle.contract.specs.Calls.{earning_all}
use Rattle.contract.proofs.Moves.{moved_earn}

abbrev balance_of : Ledger → ℕ → ℕ
balance_of l member = (account_at l.accounts (place_of member)).balance

-- no sum stops at the largest number, since balance and fee are within the deposits
pub earn_share : (l : Ledger) (m amount k : ℕ) → l.deposits ≤ most_deposits → owed l ≤ l.deposits → 1 ≤ k → 1 ≤ m → place_of m < length l.accounts → amount ≤ l.fund → balance_of (earning l (place_of m) amount) k ≡ balance_of l k + cond (eqb k m) amount 0
unfolding earning
earn_share l m amount k w h low first p f = go (eqb k m) refl
  where
    go : (b : Bool) → eqb k m ≡ b → (account_at (set l.accounts (place_of m) (credited (account_at l.accounts (place_of m)) amount)) (place_of k)).balance ≡ balance_of l k + cond b amount 0
    go true e =
        let q = eqb-true k m e in
        let same = ap (λ (j : ℕ). (account_at (set l.accounts (place_of m) (credited (account_at l.accounts (place_of m)) amount)) (place_of j)).balance) q in
        let got = ap (λ (x : Account). x.balance) (get_or-set_same l.accounts (place_of m) (credited (account_at l.accounts (place_of m)) amount) no_money p) in
        let old = ap (λ (j : ℕ). balance_of l j) q in
        let s = sums_set l.accounts (place_of m) no_money p in
        omega arith
    go false e =
        let got = ap (λ (x : Account). x.balance) (get_or-set_other l.accounts (place_of m) (place_of k) (credited (account_at l.accounts (place_of m)) amount) no_money (λ z. eqb-false k m e (omega arith))) in
        omega arith

-- one of two that are not both true
one_of : (a : ℕ) (b c : Bool) → (b ≡ true → c ≡ false) → cond b a 0 + cond c a 0 ≡ cond (b || c) a 0
one_of a true true h = absurd (false≢true (sym (h refl)))
one_of a true false h = omega arith
one_of a false true h = omega arith
one_of a false false h = omega arith

pub earn_all_share : (l : Ledger) (listed : List ℕ) (amount n k : ℕ) → n ≤ length l.accounts → l.deposits ≤ most_deposits → owed l ≤ l.deposits → ((i : ℕ) → i < length listed → OneTo n (get_or listed i 0)) → length listed * amount ≤ l.fund → distinct listed ≡ true → 1 ≤ k → balance_of (earning_all l listed amount) k ≡ balance_of l k + cond (among k listed) amount 0
unfolding earning_all earning
earn_all_share l [] amount n k few w h each f d low = omega arith
earn_all_share l (m ∷ listed) amount n k few w h each f d low =
    let fees = suc-mul (length listed) amount in
    let first = each 0 (omega arith) in
    let p = moved_earn l (place_of m) amount w h (omega arith) (omega arith) in
    let apart = distinct_cons m listed d in
    let share = earn_share l m amount k w h low first.least (omega arith) (omega arith) in
    let rest = earn_all_share (earning l (place_of m) amount) listed amount n k (omega arith) (omega arith) (omega arith) (λ i j. each (suc i) (omega arith)) (omega arith) apart.1 low in
    let both = one_of amount (eqb k m) (among k listed) (λ e. ap (λ (j : ℕ). among j listed) (eqb-true k m e) ∙ apart.0) in
    omega arith

pub earn_all_paid : (l : Ledger) (listed : List ℕ) (amount place : ℕ) → (account_at (earning_all l listed amount).accounts place).paid ≡ (account_at l.accounts place).paid
unfolding earning_all earning
earn_all_paid l [] amount place = refl
earn_all_paid l (m ∷ listed) amount place =
    earn_all_paid (earning l (place_of m) amount) listed amount place ∙ paid_credited l.accounts (place_of m) place amount
