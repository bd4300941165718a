-- The worked examples of document 01, each a row of one table: what is put in, and what the document says comes out. Where frames go is
-- a row too: no byte of a frame says it, so no run of a program compares it.
use Rattle.std.specs.Prelude.{Bool, true, false, cond, List, [], ◌∷◌, map, ℕ, suc, ◌-◌, ◌^◌, ℤ, pos, neg_ℤ}
use Rattle.config.specs.Bounds.{config_of}
use Rattle.config.specs.Codes.{number_of, is_done}
use Rattle.config.specs.Leader.{leader_of}
use Rattle.config.specs.declared.Config.{Config}
use Rattle.price.specs.Deviation.{deviates}
use Rattle.price.specs.Median.{median_of}
use Rattle.frame.specs.Message.{Observation}
use Rattle.frame.specs.Table.{destination_of}
use Rattle.frame.specs.declared.Destination.{Destination}
use Rattle.frame.specs.declared.Destination.TheVariants.{All, Member}
use Rattle.report.specs.Faults.{code_of}
use Rattle.report.specs.Stands.{list_fault}
use Rattle.epochline.specs.Output.{output_of}
use Rattle.epochline.specs.Claims.{worked_input, worked_output}

-- what a row asks
pub data Asked : Type 0 where
  -- with this alpha, whether the second price deviates from the first
  deviation : ℕ → ℤ → ℤ → Asked
  -- with so many members, who leads this epoch
  leading : ℕ → ℕ → Asked
  -- with so many faulty, the median of a list of these values, of as many members
  median : ℕ → List ℤ → Asked
  -- with this leader, where the frames of the seven kinds go
  addressees : ℕ → Asked
  -- what the epoch program prints for this input
  epochs : List ℕ → Asked

-- what comes out
pub data Outcome : Type 0 where
  deviating : Bool → Outcome
  member : ℕ → Outcome
  price : ℤ → Outcome
  refusal : ℕ → Outcome
  addressed : List Destination → Outcome
  prints : List ℕ → Outcome

-- a configuration of four members, one of whom may be faulty, with this alpha
abbrev pub four : ℕ → Config
four alpha = config_of 0 4 1 1 1 alpha 0 0 1 (4 ∷ 0 ∷ 0 ∷ 0 ∷ 0 ∷ 0 ∷ 0 ∷ 0 ∷ [])

-- these values as the observations of members that are numbered on
abbrev pub numbered : ℕ → List ℤ → List Observation
numbered j [] = []
numbered j (v ∷ values) = record { member = j; value = v } ∷ numbered (suc j) values

-- what the definitions give
abbrev pub outcome : Asked → Outcome
outcome (deviation alpha old new) = deviating (deviates (four alpha) old new)
outcome (leading n epoch) = member (leader_of n epoch)
outcome (median f values) =
    let wrong = list_fault f (numbered 1 values) in
    cond (is_done (code_of wrong)) (price (median_of values)) (refusal (number_of (code_of wrong)))
outcome (addressees leader) =
    addressed (map (λ (kind : ℕ). destination_of kind leader) (1 ∷ 2 ∷ 3 ∷ 4 ∷ 5 ∷ 6 ∷ 7 ∷ []))
outcome (epochs input) = prints (output_of input)

pub record Row : Type 0 where
  pub asked : Asked
  pub says : Outcome

abbrev pub row : Asked → Outcome → Row
row asked says = record { asked = asked; says = says }

-- "Alpha 5,000,000: 20,000 to 20,100 no, to 20,101 yes; −200 to −201 no, to −202 yes; 0 to 0 no, 0 to 1 yes; −2^63 to 2^63−1 yes."
-- "With n = 4: e = 1 gives 2, e = 3 gives 4, e = 4 gives 1."
-- "Medians, n = 4, f = 1: 100, 105, 9000 gives 105; 100, 105, 107, 9000 gives 107; 100, 9000 is FEW."
-- "Goes to", by kind: all, all, leader, all, leader, all, all
-- "Input: `4 1 3`, `S`, `N 2 7`, `N 4 6`, `N 3 5`, `P`, one a line. Whole output: .."
abbrev pub table : List Row
table =
    row (deviation 5000000 (pos 20000) (pos 20100)) (deviating false)
    ∷ row (deviation 5000000 (pos 20000) (pos 20101)) (deviating true)
    ∷ row (deviation 5000000 (neg_ℤ (pos 200)) (neg_ℤ (pos 201))) (deviating false)
    ∷ row (deviation 5000000 (neg_ℤ (pos 200)) (neg_ℤ (pos 202))) (deviating true)
    ∷ row (deviation 5000000 (pos 0) (pos 0)) (deviating false)
    ∷ row (deviation 5000000 (pos 0) (pos 1)) (deviating true)
    ∷ row (deviation 5000000 (neg_ℤ (pos (2 ^ 63))) (pos (2 ^ 63 - 1))) (deviating true)
    ∷ row (leading 4 1) (member 2)
    ∷ row (leading 4 3) (member 4)
    ∷ row (leading 4 4) (member 1)
    ∷ row (median 1 (pos 100 ∷ pos 105 ∷ pos 9000 ∷ [])) (price (pos 105))
    ∷ row (median 1 (pos 100 ∷ pos 105 ∷ pos 107 ∷ pos 9000 ∷ [])) (price (pos 107))
    ∷ row (median 1 (pos 100 ∷ pos 9000 ∷ [])) (refusal 14)
    ∷ row (addressees 3) (addressed (All ∷ All ∷ Member 3 ∷ All ∷ Member 3 ∷ All ∷ All ∷ []))
    ∷ row (epochs worked_input) (prints worked_output)
    ∷ []
