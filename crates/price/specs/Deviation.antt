-- Document 01, "A round": when one price deviates from another. Whole numbers of any size, so nothing is rounded and nothing overflows.
use Rattle.std.specs.Prelude.{Bool, ℕ, ◌*◌, ltb, ℤ, nat_abs, ◌-ℤ◌}
use Rattle.config.specs.declared.Config.{Config}

-- the 10^9 of parts per billion
abbrev pub billion : ℕ
billion = 1000000000

-- |new − old|
abbrev pub distance_of : ℤ → ℤ → ℕ
distance_of old new = nat_abs (new -ℤ old)

-- "Deviates: |new − old| × 10^9 > alpha × |old|, exactly, over the full signed range."
unfoldable pub deviates : Config → ℤ → ℤ → Bool
deviates c old new = ltb (c.alpha * nat_abs old) (distance_of old new * billion)
