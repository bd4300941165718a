-- Laws of accounts, for any number of them: how another one at a place, or one more, changes their sums, and what a credit leaves alone.
use mathlib.Core.List.{List, [], ◌∷◌}
use mathlib.Core.Path.{◌≡◌, refl}
use Prim.Native.Nat.{ℕ, zero, suc, ◌+◌, ◌<◌}
use native.Mathlib.Omega.{arith}
use lib.ListN.{length, set, drop}
use lib.Seq.{drop-cons}
use Rattle.ledger.specs.declared.Account.{Account}
use Rattle.ledger.specs.Ledger.{no_money, credited, account_at, balances, paid_out}

-- with another account at a place, each sum has the new number for the old
pub sums_set : (l : List Account) (k : ℕ) (a : Account) → k < length l → (balances (set l k a) + (account_at l k).balance ≡ balances l + a.balance) × (paid_out (set l k a) + (account_at l k).paid ≡ paid_out l + a.paid)
unfolding balances paid_out
sums_set [] k a h = absurd (omega arith)
sums_set (b ∷ l) zero a h = (omega arith, omega arith)
sums_set (b ∷ l) (suc k) a h = let r = sums_set l k a (omega arith) in (omega arith, omega arith)

-- from a place on: the account there, and the others behind it
pub sums_next : (l : List Account) (k : ℕ) → k < length l → balances (drop k l) + paid_out (drop k l) ≡ (account_at l k).balance + (account_at l k).paid + (balances (drop (suc k) l) + paid_out (drop (suc k) l))
unfolding balances paid_out
sums_next l k h = rw (drop-cons l k no_money) (omega arith)

-- a credit at a place leaves what each account was paid
pub paid_credited : (l : List Account) (k place amount : ℕ) → (account_at (set l k (credited (account_at l k) amount)) place).paid ≡ (account_at l place).paid
paid_credited [] k place amount = refl
paid_credited (a ∷ l) zero zero amount = refl
paid_credited (a ∷ l) zero (suc place) amount = refl
paid_credited (a ∷ l) (suc k) zero amount = refl
paid_credited (a ∷ l) (suc k) (suc place) amount = paid_credited l k place amount
