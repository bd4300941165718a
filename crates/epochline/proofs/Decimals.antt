-- The laws of decimals: what their digits are, how many there are, and what number they say.
use mathlib.Core.Bool.{Bool, true, false, not, ◌&&◌, ◌||◌, or-true}
use mathlib.Core.List.{List, [], ◌∷◌, ◌++◌}
use mathlib.Core.Path.{◌≡◌, refl, ap, ap₂, ◌∙◌}
use Prim.Native.Nat.{ℕ, zero, suc, ◌+◌, ◌-◌, ◌*◌, ◌/◌, ◌%◌, ◌^◌, ◌≤◌, ◌<◌}
use native.Mathlib.Numerals.{add-one}
use native.Mathlib.Nat.{pow-suc, pow-succ', div-div-eq-div-mul}
use native.Mathlib.Omega.{arith}
use borrow.Author.Tests.{ltb-true, ltb-false, leb-true, le-leb, ne_eqb, not-true}
use lib.Dec.{leb, ltb, eqb}
use lib.ListN.{length, get_or, drop, set, length-append, get_or-append}
use lib.Seq.{drop-cons, get_or_at}
use Rattle.wire.specs.Overlay.{over}
use Rattle.wire.proofs.Overlay.{set_over}
use Rattle.config.proofs.Facts.{and-true}
use Rattle.quorum.proofs.Cases.{either, leb_not_ltb}
use Rattle.epochline.specs.Decimal.{decimal_from, decimal, all_digits, value_from, value_of, is_number}

-- ---- written

-- what holds of one digit, and of the digits in front with one more, holds of every number
decimal_cases : (P : List ℕ → Type 0) (places x : ℕ) → (x < 10 → P ((48 + x) ∷ [])) → (10 ≤ x → P (decimal_from places (x / 10) ++ ((48 + x % 10) ∷ []))) → P (decimal_from (suc places) x)
unfolding decimal_from
decimal_cases P places x f g = either P (ltb x 10) _ _ (λ e. f (ltb-true x 10 e)) (λ e. g (ltb-false x 10 e))

length_snoc : (l : List ℕ) (b : ℕ) → length (l ++ (b ∷ [])) ≡ suc (length l)
length_snoc l b = length-append l (b ∷ []) ∙ add-one (length l)

-- how many digits stand in front of the last, where this number is left of them
pub more : ℕ → ℕ → ℕ
more places zero = 0
more places (suc x) = length (decimal_from places (suc x))

more_pos : (places x : ℕ) → 0 < x → more places x ≡ length (decimal_from places x)
unfolding more
more_pos places zero h = absurd (omega arith)
more_pos places (suc x) h = refl

pub more_none : (places : ℕ) → more places 0 ≡ 0
unfolding more
more_none places = refl

pub length_decimal : (places x : ℕ) → length (decimal_from (suc places) x) ≡ 1 + more places (x / 10)
length_decimal places x =
    decimal_cases (λ l. length l ≡ 1 + more places (x / 10)) places x
    (λ h. let e : x / 10 ≡ 0 = omega arith in rw (e, more_none))
    (λ h. rw (length_snoc, more_pos places (x / 10) (omega arith)) (omega arith))

-- for a loop: k are counted, and rest is left; one more is counted
pub more_next : (k rest : ℕ) → 0 < rest → k ≤ 10 → rest < 10 ^ (10 - k) → (k + 1 ≤ 10) × (rest / 10 < 10 ^ (10 - (k + 1))) × (k + more (10 - k) rest ≡ k + 1 + more (10 - (k + 1)) (rest / 10))
more_next k rest h g low = go (10 - k) refl low
  where
    go : (m : ℕ) → 10 - k ≡ m → rest < 10 ^ m → (k + 1 ≤ 10) × (rest / 10 < 10 ^ (10 - (k + 1))) × (k + more m rest ≡ k + 1 + more (10 - (k + 1)) (rest / 10))
    go zero e p = absurd (omega arith)
    go (suc m) e p =
        let n : 10 - (k + 1) ≡ m = omega arith in
        let q : rest < 10 ^ m * 10 = rw (← pow-suc 10 m) p in
        (omega arith, rw n (omega arith), rw (n, more_pos (suc m) rest h, length_decimal m rest) (omega arith))

-- the digit j places before the last
abbrev DigitsOf : ℕ → List ℕ → Type 0
DigitsOf x l = (j : ℕ) → j < length l → get_or l (length l - suc j) 0 ≡ 48 + x / 10 ^ j % 10

digits_one : (x : ℕ) → x < 10 → DigitsOf x ((48 + x) ∷ [])
digits_one x h zero g = omega arith
digits_one x h (suc j) g = absurd (omega arith)

digits_more : (x : ℕ) (l : List ℕ) → DigitsOf (x / 10) l → DigitsOf x (l ++ ((48 + x % 10) ∷ []))
digits_more x l ih zero g =
    let e : length (l ++ ((48 + x % 10) ∷ [])) - 1 ≡ length l = rw length_snoc (omega arith) in
    rw (e, get_or_at l (48 + x % 10) [] 0 (length l) refl) (omega arith)
digits_more x l ih (suc j) g =
    let k : suc j < suc (length l) = rw (length_snoc l (48 + x % 10)) at g in
    let e : length (l ++ ((48 + x % 10) ∷ [])) - suc (suc j) ≡ length l - suc j = rw length_snoc (omega arith) in
    rw (e, get_or-append l ((48 + x % 10) ∷ []) 0 (length l - suc j) (omega arith), ih j (omega arith), pow-succ', ← div-div-eq-div-mul x 10 (10 ^ j))

decimal_at : (places x : ℕ) → DigitsOf x (decimal_from places x)
unfolding decimal_from
decimal_at zero x = λ j h. absurd (omega arith)
decimal_at (suc places) x = decimal_cases (DigitsOf x) places x (digits_one x) (λ _. digits_more x (decimal_from places (x / 10)) (decimal_at places (x / 10)))

-- for a loop that writes from the last digit on: the one before place i
put_digit : (l s d : List ℕ) (at i b : ℕ) → i - at < length d → get_or d (i - at) 0 ≡ b → s ≡ over l (suc i) (drop (suc (i - at)) d) → set s i b ≡ over l i (drop (i - at) d)
unfolding over
put_digit l s d at i b h e es = rw (es, drop-cons d (i - at) 0 h, e) (set_over (drop (suc (i - at)) d) l (suc i) i b (omega arith))

pub put_next : (l s : List ℕ) (at i x rest : ℕ) → at < i → i ≤ at + length (decimal x) → rest ≡ x / 10 ^ (at + length (decimal x) - i) → s ≡ over l i (drop (i - at) (decimal x)) → set s (i - 1) (rest % 10 + 48) ≡ over l (i - 1) (drop (i - 1 - at) (decimal x))
put_next l s at i x rest h g er es =
    let d = decimal x in
    let j = at + length d - i in
    let k : i - 1 - at ≡ length d - suc j = omega arith in
    let e : get_or d (i - 1 - at) 0 ≡ rest % 10 + 48 = rw (k, er) (decimal_at 10 x j (omega arith) ∙ omega arith) in
    let p : i ≡ suc (i - 1) = omega arith in
    let q : i - at ≡ suc (i - 1 - at) = omega arith in
    put_digit l s d at (i - 1) (rest % 10 + 48) (omega arith) e (es ∙ ap₂ (λ (a b : ℕ). over l a (drop b d)) p q)

pub put_rest : (n x rest i : ℕ) → 0 < i → i ≤ n → rest ≡ x / 10 ^ (n - i) → rest / 10 ≡ x / 10 ^ (n - (i - 1))
put_rest n x rest i h g e =
    let k : n - (i - 1) ≡ suc (n - i) = omega arith in
    rw (k, e, pow-suc) (div-div-eq-div-mul x (10 ^ (n - i)) 10)

-- ---- read

pub digits_at : (l : List ℕ) (i : ℕ) → i < length l → all_digits l ≡ true → (48 ≤ get_or l i 0) × (get_or l i 0 ≤ 57)
unfolding all_digits
digits_at [] i h e = absurd (omega arith)
digits_at (b ∷ l) zero h e =
    let p = and-true (leb 48 b) (leb b 57) (and-true (leb 48 b && leb b 57) (all_digits l) e).0 in
    omega (arith, leb-true)
digits_at (b ∷ l) (suc i) h e = digits_at l i (omega arith) (and-true (leb 48 b && leb b 57) (all_digits l) e).1

-- for a loop: one character more
pub value_next : (s : List ℕ) (i x : ℕ) → i < length s → value_from 0 s ≡ value_from x (drop i s) → value_from 0 s ≡ value_from (x * 10 + (get_or s i 0 - 48)) (drop (i + 1) s)
unfolding value_from
value_next s i x h e = e ∙ rw (add-one, drop-cons s i 0 h)

pub value_below : (i x d : ℕ) → x < 10 ^ i → d ≤ 9 → x * 10 + d < 10 ^ (i + 1)
value_below i x d h g = rw (add-one, pow-suc) (omega arith)

value_from_snoc : (acc : ℕ) (l : List ℕ) (b : ℕ) → value_from acc (l ++ (b ∷ [])) ≡ value_from acc l * 10 + (b - 48)
unfolding value_from
value_from_snoc acc [] b = refl
value_from_snoc acc (a ∷ l) b = value_from_snoc (acc * 10 + (a - 48)) l b

-- what is written is read as the number
pub decimal_read : (places x : ℕ) → x < 10 ^ places → value_from 0 (decimal_from places x) ≡ x
unfolding decimal_from value_from
decimal_read zero x h = omega arith
decimal_read (suc places) x h =
    let g : x < 10 ^ places * 10 = rw (← pow-suc 10 places) h in
    let ih = decimal_read places (x / 10) (omega arith) in
    decimal_cases (λ l. value_from 0 l ≡ x) places x (λ _. omega arith) (λ _. rw value_from_snoc (omega arith))

-- no more digits than places
pub decimal_short : (places x : ℕ) → length (decimal_from places x) ≤ places
unfolding decimal_from
decimal_short zero x = omega arith
decimal_short (suc places) x =
    let ih = decimal_short places (x / 10) in
    decimal_cases (λ l. length l ≤ suc places) places x (λ _. omega arith) (λ _. rw length_snoc (omega arith))

-- digits, the first of them a 0 only where the number is
record Plain (x : ℕ) (l : List ℕ) : Type 0 where
  some : 1 ≤ length l
  digits : all_digits l ≡ true
  first : 0 < x → 49 ≤ get_or l 0 0

digits_snoc : (l : List ℕ) (d : ℕ) → d < 10 → all_digits l ≡ true → all_digits (l ++ ((48 + d) ∷ [])) ≡ true
unfolding all_digits
digits_snoc [] d h e = rw (le-leb 48 (48 + d) (omega arith), le-leb (48 + d) 57 (omega arith))
digits_snoc (b ∷ l) d h e =
    let (p, q) = and-true (leb 48 b && leb b 57) (all_digits l) e in
    rw (p, digits_snoc l d h q)

plain_one : (x : ℕ) → x < 10 → Plain x ((48 + x) ∷ [])
unfolding all_digits
plain_one x h = record { some = omega arith; digits = digits_snoc [] x h refl; first = λ g. omega arith }

decimal_plain : (places x : ℕ) → x < 10 ^ suc places → Plain x (decimal_from (suc places) x)
decimal_plain zero x h = decimal_cases (Plain x) zero x (plain_one x) (λ high. absurd (omega arith))
decimal_plain (suc k) x h =
    let g : x < 10 ^ suc k * 10 = rw (← pow-suc 10 (suc k)) h in
    let l = decimal_from (suc k) (x / 10) in
    let ih = decimal_plain k (x / 10) (omega arith) in
    decimal_cases (Plain x) (suc k) x (plain_one x)
    (λ high.
    record {
      some = rw length_snoc (omega arith);
      digits = digits_snoc l (x % 10) (omega arith) ih.digits;
      first = λ _. rw (get_or-append l ((48 + x % 10) ∷ []) 0 0 ih.some) (ih.first (omega arith));
    })

-- ---- what a number is

pub record Number (places limit : ℕ) (l : List ℕ) : Type 0 where
  pub most : length l ≤ places
  pub digits : all_digits l ≡ true
  pub within : value_of l ≤ limit

pub number_facts : (places limit : ℕ) (l : List ℕ) → is_number places limit l ≡ true → Number places limit l
unfolding is_number
number_facts places limit l e =
    let (p, value) = and-true (leb 1 (length l) && leb (length l) places && all_digits l && (eqb (length l) 1 || not (eqb (get_or l 0 0) 48))) (leb (value_of l) limit) e in
    let (q, _) = and-true (leb 1 (length l) && leb (length l) places && all_digits l) (eqb (length l) 1 || not (eqb (get_or l 0 0) 48)) p in
    let (r, digits) = and-true (leb 1 (length l) && leb (length l) places) (all_digits l) q in
    record { most = leb-true _ _ (and-true (leb 1 (length l)) (leb (length l) places) r).1; digits = digits; within = leb-true _ _ value }

neither : (a b : Bool) → not a && not b ≡ not (a || b)
neither true b = refl
neither false b = refl

-- the test of the length comes first
pub number_sized : (places limit : ℕ) (l : List ℕ) (b : Bool) → (ltb (length l) 1 || ltb places (length l)) ≡ b → is_number places limit l ≡ not b && all_digits l && (eqb (length l) 1 || not (eqb (get_or l 0 0) 48)) && leb (value_of l) limit
unfolding is_number
number_sized places limit l b e = rw (leb_not_ltb 1 (length l), leb_not_ltb (length l) places, neither (ltb (length l) 1) (ltb places (length l)), e)

pub sized : (n places : ℕ) → (ltb n 1 || ltb places n) ≡ false → (1 ≤ n) × (n ≤ places)
sized n places e =
    let (p, q) = and-true (not (ltb n 1)) (not (ltb places n)) (neither (ltb n 1) (ltb places n) ∙ ap not e) in
    (ltb-false n 1 (not-true (ltb n 1) p), ltb-false places n (not-true (ltb places n) q))

no_zero : (x : ℕ) → Plain x (decimal x) → (eqb (length (decimal x)) 1 || not (eqb (get_or (decimal x) 0 0) 48)) ≡ true
unfolding decimal_from
no_zero zero p = refl
no_zero (suc x) p = rw (ne_eqb (get_or (decimal (suc x)) 0 0) 48 (λ z. omega (arith, p.first (omega arith)))) (or-true (eqb (length (decimal (suc x))) 1))

pub decimal_number : (x limit : ℕ) → x < 10 ^ 10 → x ≤ limit → is_number 10 limit (decimal x) ≡ true
unfolding is_number
decimal_number x limit h g =
    let p = decimal_plain 9 x h in
    let l = decimal x in
    rw (le-leb 1 (length l) p.some, le-leb (length l) 10 (decimal_short 10 x), p.digits, no_zero x p, le-leb (value_of l) limit (rw (decimal_read 10 x h) g))
