-- The claims of specs/Claims.antt, each proved, and for each an instance that computes.
use mathlib.Core.Bool.{true}
use mathlib.Core.List.{List, [], ◌∷◌}
use mathlib.Core.Path.{◌≡◌, refl}
use Prim.Native.Nat.{ℕ, ◌+◌, ◌≤◌, ◌<◌}
use native.Mathlib.Omega.{arith}
use borrow.Author.Tests.{leb-true, le-leb}
use lib.ListN.{length}
use Rattle.config.specs.Limits.{most_deposits}
use Rattle.ledger.specs.declared.Account.{Account}
use Rattle.ledger.specs.declared.Ledger.{Ledger}
use Rattle.ledger.specs.Ledger.{no_money, credited, emptied, account_at, balances, paid_out, owed, covered, empty_ledger, earning, withdrawing}
use Rattle.ledger.specs.History.{Entry, deposit, earn, withdraw, after, Allowed, run, AllAllowed, deposited, pays, payments}
use Rattle.ledger.specs.Claims.{DepositsAddUp, NothingIsLost}
use Rattle.ledger.proofs.Sums.{sums_set}

-- a ledger, and what it has become once so much was paid in and so much out
record Moved (l m : Ledger) (put out : ℕ) : Type 0 where
  deposits : m.deposits ≡ l.deposits + put
  owed_too : owed m ≡ owed l + put
  paid : paid_out m.accounts ≡ paid_out l.accounts + out
  within : m.deposits ≤ most_deposits

-- an account has no more than all of them: with none in its place, the sums would be lower by what it has
account_within : (l : List Account) (k : ℕ) → k < length l → ((account_at l k).balance ≤ balances l) × ((account_at l k).paid ≤ paid_out l)
account_within l k h = let s = sums_set l k no_money h in (omega arith, omega arith)

-- no sum stops at the largest number, since all that is owed is within the deposits
moved_entry : (l : Ledger) (e : Entry) → l.deposits ≤ most_deposits → owed l ≤ l.deposits → Allowed l e → Moved l (after l e) (deposited (e ∷ [])) (pays l e)
unfolding deposited earning withdrawing
moved_entry l (deposit amount) w h a = omega arith
moved_entry l (earn place amount) w h a =
    let b = account_within l.accounts place a.0 in
    let s = sums_set l.accounts place (credited (account_at l.accounts place) amount) a.0 in
    omega arith
moved_entry l (withdraw place) w h a =
    let b = account_within l.accounts place a in
    let s = sums_set l.accounts place (emptied (account_at l.accounts place)) a in
    omega arith

deposited_next : (e : Entry) (es : List Entry) → deposited (e ∷ es) ≡ deposited (e ∷ []) + deposited es
unfolding deposited
deposited_next (deposit amount) es = omega arith
deposited_next (earn place amount) es = omega arith
deposited_next (withdraw place) es = omega arith

moved_run : (l : Ledger) (es : List Entry) → l.deposits ≤ most_deposits → owed l ≤ l.deposits → AllAllowed l es → Moved l (run l es) (deposited es) (payments l es)
unfolding run deposited payments
moved_run l [] w h a = omega arith
moved_run l (e ∷ es) w h a =
    let s = moved_entry l e w h a.0 in
    let r = moved_run (after l e) es s.within (omega arith) a.1 in
    let n = deposited_next e es in
    omega arith

pub deposits_add_up : DepositsAddUp
unfolding balances paid_out
deposits_add_up es a = let m = moved_run empty_ledger es (omega arith) (omega arith) a in omega arith

pub nothing_is_lost : NothingIsLost
unfolding covered
nothing_is_lost l es w h a =
    let m = moved_run l es w (leb-true _ _ h) a in
    record {
      deposits = m.deposits;
      owed_too = m.owed_too;
      paid = m.paid;
      within = m.within;
      covers = le-leb (owed (run l es)) (run l es).deposits (omega (arith, leb-true));
    }

-- ---- instances: a deposit of 100, 7 earned at place 2, and a withdrawal there

abbrev history : List Entry
history = deposit 100 ∷ earn 2 7 ∷ withdraw 2 ∷ []

history_allowed : AllAllowed empty_ledger history
unfolding earning
history_allowed = (omega arith, ((omega arith, omega arith), (omega arith, tt)))

-- 93 are in the fund, none is in a balance, and 7 were paid
hundred_parts : ((run empty_ledger history).fund ≡ 93) × (balances (run empty_ledger history).accounts ≡ 0) × (payments empty_ledger history ≡ 7)
unfolding run payments balances earning withdrawing
hundred_parts = (refl, refl, refl)

hundred_adds_up : 100 ≡ (run empty_ledger history).fund + balances (run empty_ledger history).accounts + payments empty_ledger history
unfolding deposited
hundred_adds_up = deposits_add_up history history_allowed

-- the ledger has all 100 on record, and accounts for them
hundred_kept : ((run empty_ledger history).deposits ≡ 100) × (owed (run empty_ledger history) ≡ 100) × (covered (run empty_ledger history) ≡ true)
unfolding deposited balances paid_out covered
hundred_kept =
    let k = nothing_is_lost empty_ledger history (omega arith) refl history_allowed in
    (k.deposits, k.owed_too, k.covers)
