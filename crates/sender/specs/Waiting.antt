-- Document 01, "Sender": which reports wait, which of them is the earliest, and where the next one goes.
use Rattle.std.specs.Prelude.{◌≡◌, ◌<◌, Bool, cond, ◌&&◌, ◌||◌, List, [], ◌∷◌, ◌++◌, ℕ, zero, suc, ◌-◌, eqb, ltb}
use Rattle.std.specs.declared.option.Option.{Option}
use Rattle.std.specs.declared.option.Option.TheVariants.{Some, None}
use Rattle.config.specs.Limits.{slots}
use Rattle.frame.specs.Message.{Attested}
use Rattle.report.specs.Newer.{newer}
use Rattle.sender.specs.declared.Sender.{Sender}
use Rattle.sender.specs.declared.Transmit.{Transmit}
use Rattle.sender.specs.declared.Transmit.TheVariants.{Set, Stop}
use Rattle.sender.specs.State.{report_in, taken, time_of}

-- a report that waits, and the time it waits for
pub record Waiting : Type 0 where
  pub time : ℕ
  pub report : Attested

-- the reports that wait in the first slots, in the order of slots
unfoldable pub waiting_below : ℕ → Sender → List ℕ → List Waiting
waiting_below zero s bytes = []
waiting_below (suc k) s bytes = waiting_below k s bytes ++ cond (taken s k) (record { time = time_of s k; report = report_in bytes k } ∷ []) []

-- all the reports that a sender and its slots' bytes say are waiting
abbrev pub waiting : Sender → List ℕ → List Waiting
waiting s bytes = waiting_below slots s bytes

-- "earliest time (ties: lower epoch, round, slot)": whether the report in slot a comes before the one in slot b, slots aside
abbrev pub sooner : Sender → List ℕ → ℕ → ℕ → Bool
sooner s bytes a b =
    ltb (time_of s a) (time_of s b) || eqb (time_of s a) (time_of s b) && newer (report_in bytes b).epoch (report_in bytes b).round (report_in bytes a).epoch (report_in bytes a).round

-- the slot of the earliest report in the first slots; `slots` where none waits. A later slot takes its place only by being sooner.
unfoldable pub earliest_below : ℕ → Sender → List ℕ → ℕ
earliest_below zero s bytes = slots
earliest_below (suc k) s bytes =
    let best = earliest_below k s bytes in
    cond (taken s k && (eqb best slots || sooner s bytes k best)) k best

abbrev pub earliest : Sender → List ℕ → ℕ
earliest s bytes = earliest_below slots s bytes

-- "queueing takes the lowest free slot": its number, and the number of slots where all are taken
unfoldable pub free_in : List ℕ → ℕ
free_in [] = 0
free_in (t ∷ l) = cond (eqb t 1) (suc (free_in l)) 0

-- what a function answers that looks for a slot of this number: none where it is the number of slots
abbrev pub IsSlot : Option ℕ → ℕ → Type 0
IsSlot None k = k ≡ slots
IsSlot (Some slot) k = (slot ≡ k) × (slot < slots)

-- "DONE sets T_transmit to the earliest time less now, at least 0, or stops it." A difference of numbers is 0 where the first is the smaller.
unfoldable pub transmit_at : Sender → List ℕ → ℕ → Transmit
transmit_at s bytes time = cond (eqb (earliest s bytes) slots) Stop (Set (time_of s (earliest s bytes) - time))
