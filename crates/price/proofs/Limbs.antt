-- Products in two parts: that they fit, what they say, and how two of them compare.
use Rattle.std.proofs.Common.{◌≡◌, ◌∙◌, sym, ap, ℕ, ◌+◌, ◌*◌, ◌/◌, ◌%◌, ◌<◌, ◌≤◌, ◌^◌, refl, Bool, true, false, arith}
use native.Mathlib.Nat.{mul-le-mul, add-mul, mul_assoc, mul_comm, div-add-mod'}
use lib.Dec.{ltb}
use borrow.Author.Tests.{lt-ltb, le-ltb, ltb-true, ltb-false}
use Rattle.std.specs.Ordering.{partial_lt}
use Rattle.std.proofs.lemmas.Bool.Decides.{nat_tests}
use Rattle.price.specs.Limbs.{Limbs, value_of}
use Rattle.price.specs.contracts.WidePartialOrd.TheImpl.{partial_cmp-value}
use Rattle.price.specs.declared.Wide.{Wide}

pub below_32 : (x k : ℕ) → x < 2 ^ 32 → k < 2 ^ 32 → x * k ≤ 4294967295 * 4294967295
below_32 x k hx hk = mul-le-mul {n₁ = x} {m₁ = k} {n₂ = 4294967295} {m₂ = 4294967295} (omega arith) (omega arith)

pub split_32 : (a k : ℕ) → a / 4294967296 * k * 4294967296 + a % 4294967296 * k ≡ a * k
split_32 a k =
    ap (λ n. n + a % 4294967296 * k) (mul_assoc (a / 4294967296) k 4294967296 ∙ ap (λ n. a / 4294967296 * n) (mul_comm k 4294967296) ∙ sym (mul_assoc (a / 4294967296) 4294967296 k))
    ∙ sym (add-mul (a / 4294967296 * 4294967296) (a % 4294967296) k)
    ∙ ap (λ n. n * k) (div-add-mod' a 4294967296)

-- a test from a test: two orders that follow from each other
pub same_test : (a b m n : ℕ) → (a < b → m < n) → (b ≤ a → n ≤ m) → ltb a b ≡ ltb m n
same_test a b m n f g = go (ltb a b) refl
  where
    go : (t : Bool) → ltb a b ≡ t → ltb a b ≡ ltb m n
    go true e = e ∙ sym (lt-ltb m n (f (ltb-true a b e)))
    go false e = e ∙ sym (le-ltb m n (g (ltb-false a b e)))

by_parts : (p q : Wide) → p.low < 2 ^ 32 → q.low < 2 ^ 32 → partial_lt partial_cmp-value.it p q ≡ ltb (value_of p.high p.low) (value_of q.high q.low)
by_parts p q f g = grind (arith, nat_tests)

-- the order of two products is that of their parts
pub in_order : (p q : Wide) (m n : ℕ) → Limbs p.high p.low m → Limbs q.high q.low n → partial_lt partial_cmp-value.it p q ≡ ltb m n
in_order p q m n f g = rw (sym f.value, sym g.value) (by_parts p q f.small g.small)
