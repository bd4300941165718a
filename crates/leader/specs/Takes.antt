-- Document 01, "A round", Leader: which messages and timers a leader takes, and what is wrong with a message that it takes.
use Rattle.std.specs.Prelude.{Bool, true, false, not, ◌&&◌, ◌||◌, List, [], ◌∷◌, ℕ, ◌+◌, ◌-◌, ◌*◌, eqb, ltb, ℤ, take}
use Rattle.std.specs.Int.Signed.{le_z}
use Rattle.config.specs.Limits.{last_round}
use Rattle.quorum.specs.First.{bit}
use Rattle.quorum.specs.Marks.{marked, count_marks}
use Rattle.frame.specs.Message.{Observation, Message, new_epoch, observe_req, observe, report_req, report, final, final_echo}
use Rattle.leader.specs.declared.Leader.{Leader}
use Rattle.leader.specs.State.{collecting, in_grace, reporting}
use Rattle.leader.specs.Listed.{list_of}

-- "Every rule needs the message's epoch to be current and the instance not halted." `leads` is what the node says of itself: it has started, its
-- instance runs, and its own number is the leader's
abbrev pub current : Bool → ℕ → ℕ → Bool
current leads epoch e = leads && eqb e epoch

-- how many of the n members have observed, and have reported
abbrev pub observed_by : ℕ → Leader → ℕ
observed_by n s = count_marks (take n s.observed)

abbrev pub reported_by : ℕ → Leader → ℕ
reported_by n s = count_marks (take n s.reported)

-- the conditions of each rule, for a message that came from member j
abbrev pub takes : Leader → Bool → ℕ → ℕ → Message → Bool
-- "OBSERVE while collecting or in grace, this round, none from j"
takes s leads epoch j (observe e r v g) =
    current leads epoch e && (eqb s.phase collecting || eqb s.phase in_grace) && eqb r s.round && not (marked s.observed (j - 1))
-- "REPORT after that, none from j"; "With more than f .. take no more reports this round"
takes s leads epoch j (report e r xs g) =
    current leads epoch e && eqb s.phase reporting && eqb r s.round && not (marked s.reported (j - 1))
-- the other kinds are not a leader's
takes s leads epoch j (new_epoch e) = false
takes s leads epoch j (observe_req e r) = false
takes s leads epoch j (report_req e r xs) = false
takes s leads epoch j (final a) = false
takes s leads epoch j (final_echo a) = false

-- two values are one number
abbrev pub same_value : ℤ → ℤ → Bool
same_value v w = le_z v w && le_z w v

-- one member's observation
abbrev pub same_entry : Observation → Observation → Bool
same_entry x y = eqb x.member y.member && same_value x.value y.value

-- "same list": the same members and values in the same order
unfoldable pub same_list : List Observation → List Observation → Bool
same_list [] [] = true
same_list [] (y ∷ ys) = false
same_list (x ∷ xs) [] = false
same_list (x ∷ xs) (y ∷ ys) = same_entry x y && same_list xs ys

-- the checks of a message that is taken: "bit set, else PROOF", and "same list and bit set, else PROOF"
abbrev pub stands : ℕ → Leader → ℕ → Message → Bool
stands n s bits (observe e r v g) = bit bits 0
stands n s bits (report e r xs g) = same_list xs (list_of n s) && bit bits 0
stands n s bits (new_epoch e) = true
stands n s bits (observe_req e r) = true
stands n s bits (report_req e r xs) = true
stands n s bits (final a) = true
stands n s bits (final_echo a) = true

-- "T_grace, with m > 2f"; the timer is armed, the phase is grace, and there is a round to speak of
abbrev pub fires_grace : ℕ → ℕ → Leader → Bool → Bool
fires_grace n f s leads =
    leads && eqb s.t_grace 1 && eqb s.phase in_grace && ltb (2 * f) (observed_by n s) && ltb 0 s.round

-- "T_round starts the next round."
abbrev pub fires_round : Leader → Bool → Bool
fires_round s leads = leads && eqb s.t_round 1

-- "END: .. a round past 255"
abbrev pub past_end : Leader → Bool
past_end s = ltb last_round (s.round + 1)
