-- The report that is handed out: the part of the slots' bytes that a timeout points at is a whole body, and says what its slot says.
use mathlib.Core.Path.{◌≡◌, sym, ap, ◌∙◌}
use mathlib.Core.Bool.{true, false}
use mathlib.Core.List.{List, [], ◌∷◌}
use Prim.Native.Nat.{ℕ, suc, ◌*◌, ◌≤◌}
use native.Mathlib.Omega.{arith}
use lib.ListN.{length, take, drop, length-drop}
use lib.Seq.{length-take-le, take-take}
use Rattle.config.specs.Limits.{kept_size}
use Rattle.config.specs.declared.Commit.{Commit}
use Rattle.config.specs.Answers.{Done}
use Rattle.wire.specs.Numbers.{part}
use Rattle.frame.specs.Decode.{attested_in}
use Rattle.frame.specs.Range.{good_attested}
use Rattle.frame.specs.Check.{body_answer}
use Rattle.frame.proofs.Checked.{checked_final}
use Rattle.report.specs.Newer.{newer}
use Rattle.report.specs.Whole.{final_length, report_of}
use Rattle.report.proofs.Whole.{part_within}
use Rattle.report.proofs.Bodies.{attested_take, body_take, report_some}
use Rattle.sender.specs.State.{slot_in, report_in}
use Rattle.sender.specs.Calls.{releasing, handed_part}

-- a body in range says a report
pub report_whole : (n : ℕ) (b : List ℕ) → body_answer n 6 b ≡ Done → report_of b ≡ attested_in b ∷ []
report_whole n b h = report_some b (omega (arith, (checked_final n b h).behind))

module _ (waiting : List ℕ) (slot : ℕ) (commit : Commit) where
  -- it is the front of its slot that the body takes
  handed_front : final_length (slot_in waiting slot) ≤ kept_size → suc slot * kept_size ≤ length waiting → newer (report_in waiting slot).epoch (report_in waiting slot).round commit.epoch commit.round ≡ true → handed_part (releasing waiting commit slot) waiting ≡ take (final_length (slot_in waiting slot)) (slot_in waiting slot)
  unfolding releasing
  handed_front short room e =
      let len = final_length (slot_in waiting slot) in
      let start = slot * kept_size in
      let whole : handed_part (releasing waiting commit slot) waiting ≡ part waiting start len = rw e (part_within waiting start len (omega arith)) in
      whole ∙ sym (take-take len kept_size (drop start waiting) short)

  pub handed_says : final_length (slot_in waiting slot) ≤ kept_size → suc slot * kept_size ≤ length waiting → newer (report_in waiting slot).epoch (report_in waiting slot).round commit.epoch commit.round ≡ true → attested_in (handed_part (releasing waiting commit slot) waiting) ≡ report_in waiting slot
  handed_says short room e = ap attested_in (handed_front short room e) ∙ attested_take (slot_in waiting slot)

  pub handed_whole : (n : ℕ) → final_length (slot_in waiting slot) ≤ kept_size → suc slot * kept_size ≤ length waiting → newer (report_in waiting slot).epoch (report_in waiting slot).round commit.epoch commit.round ≡ true → good_attested n (report_in waiting slot) ≡ true → body_answer n 6 (handed_part (releasing waiting commit slot) waiting) ≡ Done
  handed_whole n short room e good =
      let long : length (slot_in waiting slot) ≡ kept_size = length-take-le kept_size (drop (slot * kept_size) waiting) (rw length-drop (omega arith)) in
      ap (body_answer n 6) (handed_front short room e) ∙ body_take (slot_in waiting slot) n (omega arith) good

  pub handed_nothing : newer (report_in waiting slot).epoch (report_in waiting slot).round commit.epoch commit.round ≡ false → handed_part (releasing waiting commit slot) waiting ≡ []
  unfolding releasing
  handed_nothing e = rw e
