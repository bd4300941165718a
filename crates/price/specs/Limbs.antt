-- A product of up to 96 bits in two parts, for the exact comparison of two of them.
use Rattle.std.specs.Prelude.{◌≡◌, ℕ, ◌+◌, ◌*◌, ◌<◌, ◌^◌}

-- the number that the two parts say
abbrev pub value_of : ℕ → ℕ → ℕ
value_of high low = high * 2 ^ 32 + low

-- the two parts of n
pub record Limbs (high low n : ℕ) : Type 0 where
  pub small : low < 2 ^ 32
  pub value : value_of high low ≡ n
