-- The one statement over the table.
use Rattle.std.specs.Prelude.{◌≡◌, map}
use Rattle.worked.specs.Table.{Row, outcome, table}

-- The definitions give what document 01 says, in each of its worked examples.
abbrev pub Worked : Type 0
Worked = map (λ (r : Row). outcome r.asked) table ≡ map (λ (r : Row). r.says) table
