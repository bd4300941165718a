-- Document 01, "Numbers": "A FINAL body kept or queued stands at the start, zeros after it; clearing or resetting writes zeros".
use Rattle.std.specs.Prelude.{List, ◌++◌, ℕ, ◌-◌, length, replicate}
use Rattle.config.specs.Limits.{kept_size}
use Rattle.wire.specs.Overlay.{over}

-- what a kept report's bytes are, up to their size
abbrev pub kept_bytes : List ℕ → List ℕ
kept_bytes body = body ++ replicate (kept_size - length body) 0

-- a buffer in which a body is kept; what lies behind a kept report's size stays
abbrev pub keeping : List ℕ → List ℕ → List ℕ
keeping buffer body = over buffer 0 (kept_bytes body)

-- a buffer that was cleared
abbrev pub cleared : List ℕ → List ℕ
cleared buffer = over buffer 0 (replicate kept_size 0)
