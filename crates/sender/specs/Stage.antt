-- Document 01, "Sender": the host's permutation, the stage that holds this node's place in it, and the delay of a stage.
use Rattle.std.specs.Prelude.{Bool, cond, ◌&&◌, List, [], ◌∷◌, ℕ, suc, ◌-◌, ◌*◌, eqb, leb, length, get_or, take}
use Rattle.config.specs.declared.Config.{Config}
use Rattle.quorum.specs.First.{distinct}
use Rattle.frame.specs.Range.{all_members}

-- a permutation of 1 to n: n entries, each of them 1 to n, no two the same
unfoldable pub permutes : ℕ → List ℕ → Bool
permutes n l = eqb (length l) n && all_members n (λ x. x) l && distinct l

-- "p = π(own number)"
abbrev pub place_in : Config → List ℕ → ℕ
place_in c permutation = get_or permutation (c.own - 1) 0

-- "stage k is the one holding p": counted from 1, the first stages hold the first places; past the last stage where none holds it
unfoldable pub stage_of : List ℕ → ℕ → ℕ
stage_of [] p = 1
stage_of (s ∷ l) p = cond (leb p s) 1 (suc (stage_of l (p - s)))

-- the stages of a configuration; places past the count are not read
abbrev pub stages_of : Config → List ℕ
stages_of c = take c.stages c.schedule

abbrev pub stage_for : Config → ℕ → ℕ
stage_for c p = stage_of (stages_of c) p

-- "Beyond the last stage nothing waits"
abbrev pub waits : Config → ℕ → Bool
waits c p = leb (stage_for c p) c.stages

-- "the delay is k × Delta_stage"
abbrev pub delay_of : Config → ℕ → ℕ
delay_of c k = k * c.delta_stage
