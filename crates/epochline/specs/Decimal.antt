-- Document 01, the epoch program: "Numbers are decimal without leading zeros".
use Rattle.std.specs.Prelude.{Bool, true, not, cond, ◌&&◌, ◌||◌, List, [], ◌∷◌, ◌++◌, ℕ, zero, suc, ◌+◌, ◌-◌, ◌*◌, ◌/◌, ◌%◌, eqb, leb, ltb, length, get_or}

-- the character 0; the digits follow it
abbrev pub nought : ℕ
nought = 48

-- ---- written

-- the digits of x, without leading zeros, at most so many
unfoldable pub decimal_from : ℕ → ℕ → List ℕ
decimal_from zero x = []
decimal_from (suc places) x = cond (ltb x 10) ((nought + x) ∷ []) (decimal_from places (x / 10) ++ ((nought + x % 10) ∷ []))

-- a number of 32 bits has at most 10 digits
abbrev pub most_digits : ℕ
most_digits = 10

abbrev pub decimal : ℕ → List ℕ
decimal x = decimal_from most_digits x

-- ---- read

unfoldable pub all_digits : List ℕ → Bool
all_digits [] = true
all_digits (b ∷ l) = leb nought b && leb b (nought + 9) && all_digits l

unfoldable pub value_from : ℕ → List ℕ → ℕ
value_from acc [] = acc
value_from acc (b ∷ l) = value_from (acc * 10 + (b - nought)) l

-- the number that digits say
abbrev pub value_of : List ℕ → ℕ
value_of l = value_from 0 l

-- digits that say a number up to a limit, which has at most so many of them; only the number 0 begins with a 0
unfoldable pub is_number : ℕ → ℕ → List ℕ → Bool
is_number places limit l =
    leb 1 (length l) && leb (length l) places && all_digits l && (eqb (length l) 1 || not (eqb (get_or l 0 0) nought)) && leb (value_of l) limit
