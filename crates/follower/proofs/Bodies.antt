-- What a body that passed LENGTH and RANGE is to a follower: a message of its kind, a list or a report that lies within it, and no more than
-- the kept buffer holds.
use mathlib.Core.Path.{◌≡◌}
use mathlib.Core.List.{List}
use Prim.Native.Nat.{ℕ, ◌≤◌}
use native.Mathlib.Omega.{arith}
use borrow.Author.Tests.{le-leb}
use lib.ListN.{length, drop}
use Rattle.config.specs.Limits.{members, kept_size}
use Rattle.config.specs.Answers.{Done}
use Rattle.frame.specs.Message.{report_req}
use Rattle.frame.specs.Table.{shape_of}
use Rattle.frame.specs.Decode.{epoch_in, round_in, count_in, list_place, signed_at, observations_in, signed_in}
use Rattle.frame.specs.Check.{body_answer}
use Rattle.frame.proofs.Ranges.{kind_cases}
use Rattle.frame.proofs.Entries.{length_entries}
use Rattle.frame.proofs.Checked.{said_in, checked_report_req, CheckedFinal, checked_final, checked_final_echo, checked_fits}
use Rattle.report.specs.Faults.{first_fault}
use Rattle.report.specs.Stands.{list_fault, bits_fault}
use Rattle.report.specs.Whole.{WholeList, WholeReport}
use Rattle.follower.specs.Takes.{fault_of}

-- ---- REPORT-REQ

pub whole_list : (n : ℕ) (b : List ℕ) → body_answer n 4 b ≡ Done → WholeList (shape_of 4).entry b
unfolding shape_of
whole_list n b e = record { wide = omega arith; within = (checked_report_req n b e).list.within }

-- its signatures are passed over
pub list_faults : (f bits : ℕ) (b : List ℕ) → fault_of f bits (report_req (epoch_in b) (round_in b) (signed_in b)) ≡ first_fault (list_fault f (observations_in (shape_of 4).entry b)) (bits_fault bits (count_in b))
list_faults f bits b = rw (said_in b, length_entries signed_at (shape_of 4).entry (count_in b) (drop list_place b))

-- ---- FINAL and FINAL-ECHO

module _ (n kind : ℕ) (b : List ℕ) (low : 6 ≤ kind) (high : kind ≤ 7) (e : body_answer n kind b ≡ Done) where
  pub checked_attested : CheckedFinal n b
  checked_attested =
      kind_cases
      (λ (k : ℕ). 6 ≤ k → body_answer n k b ≡ Done → CheckedFinal n b)
      (λ l _. absurd (omega arith))
      (λ l _. absurd (omega arith))
      (λ l _. absurd (omega arith))
      (λ l _. absurd (omega arith))
      (λ l _. absurd (omega arith))
      (λ _. checked_final n b)
      (λ _. checked_final_echo n b)
      kind
      (rw (le-leb 1 kind (omega arith), le-leb kind 7 high))
      low
      e

  pub whole_report : WholeReport b
  whole_report = record { within = omega (arith, checked_attested.whole) }

  pub fits_kept : n ≤ members → length b ≤ kept_size
  fits_kept h = checked_fits n b h checked_attested
