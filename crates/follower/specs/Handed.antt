-- Document 01, "A round": "The report handed out is a part of the kept buffer if one is held, otherwise of the arriving frame ("held"
-- as the call begins); with none handed out, an empty part."
use Rattle.std.specs.Prelude.{Bool, cond, List, ℕ}
use Rattle.report.specs.Whole.{final_length, part_of}
use Rattle.follower.specs.declared.Handed.{Handed}

-- which buffer, where, and how long: `held` as the call begins, the kept buffer and the body that arrived
abbrev pub handed_of : Bool → Bool → List ℕ → List ℕ → Handed
handed_of out held kept body =
    record { held = held; start = 0; len = cond out (cond held (final_length kept) (final_length body)) 0 }

-- the part itself
abbrev pub handed_part : Handed → List ℕ → List ℕ → List ℕ
handed_part h kept frame = part_of (cond h.held kept frame) h.start h.len
