-- Document 01, "Pacemaker": who leads an epoch.
use Rattle.std.specs.Prelude.{cond, ℕ, ◌+◌, ◌%◌, eqb}

-- "Leader of e is (e mod n) + 1"; 0, which no member is, for epoch 0: a fresh node has "no leader"
abbrev pub leader_of : ℕ → ℕ → ℕ
leader_of n e = cond (eqb e 0) 0 (e % n + 1)
