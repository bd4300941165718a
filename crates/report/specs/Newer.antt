-- Document 01, code 13 and "Sender": when one report is newer than another.
use Rattle.std.specs.Prelude.{Bool, ◌&&◌, ◌||◌, ℕ, eqb, ltb}

-- "(epoch, round) is .. above" another pair: by the epoch, then by the round
abbrev pub newer : ℕ → ℕ → ℕ → ℕ → Bool
newer epoch round epoch' round' = ltb epoch' epoch || eqb epoch epoch' && ltb round' round
