-- Document 01, "A round": which entry of a list is its median.
use Rattle.std.specs.Prelude.{List, ℕ, ◌/◌, ℤ, pos, length, get_or}

-- "Median: entry floor(m/2), counted from 0, as written."
abbrev pub median_place : ℕ → ℕ
median_place m = m / 2

-- the median of values in the order in which they are written
abbrev pub median_of : List ℤ → ℤ
median_of values = get_or values (median_place (length values)) (pos 0)
