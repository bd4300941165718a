-- The claims of specs/Claims.antt, each proved, and instances that compute.
use mathlib.Core.Bool.{not, ◌&&◌}
use mathlib.Core.List.{[], ◌∷◌}
use mathlib.Core.Path.{◌≡◌, refl}
use Prim.Native.Nat.{ℕ, ◌≤◌, zero-le}
use native.Mathlib.Omega.{arith}
use lib.Dec.{eqb}
use lib.ListN.{length, length-append, length-replicate}
use Rattle.std.specs.Prelude.{Option, None, Some}
use Rattle.std.specs.Option.{unwrap_or, option_map}
use Rattle.config.specs.Limits.{last_epoch, frame_size, kept_size, signatures_size}
use Rattle.config.specs.Bounds.{none_empty, sum, good_feed, good_config}
use Rattle.config.specs.Codes.{number_of, is_done}
use Rattle.quorum.proofs.Cases.{either}
use Rattle.node.specs.Calls.{fresh_of, restore_of, restore_answer}
use Rattle.epochline.specs.declared.Command.{Command}
use Rattle.epochline.specs.Decimal.{decimal_from, all_digits, value_from, is_number}
use Rattle.epochline.specs.Lines.{newline, lines_from, space_in, command_of, config_in}
use Rattle.epochline.specs.Output.{four_numbers, printed_size, printed, no_configuration, output_of}
use Rattle.epochline.specs.Machine.{Machine, Turn, first, going, line_of, first_turn, later_turn, line_turn, byte_turn, end_turn}
use Rattle.epochline.specs.Claims.{BytesMakeTheOutput, PrintsAreShort, DecimalIsRead, worked_input, worked_output}
use Rattle.epochline.proofs.Decimals.{decimal_read, decimal_short, decimal_number}
use Rattle.epochline.proofs.Machine.{machine_whole}
use Rattle.epochline.proofs.Worked.{later_lines}

pub bytes_make_the_output : BytesMakeTheOutput
bytes_make_the_output = machine_whole

pub decimal_is_read : DecimalIsRead
decimal_is_read x h = record { shape = decimal_number x last_epoch (omega arith) h; value = decimal_read 10 x (omega arith) }

-- ---- what is printed at once

four_short : (a b c d : ℕ) → length (four_numbers a b c d) ≤ printed_size
four_short a b c d =
    let p = decimal_short 10 a in
    let q = decimal_short 10 b in
    let r = decimal_short 10 c in
    let s = decimal_short 10 d in
    simp length-append (omega arith)

abbrev Short : Turn → Type 0
Short t = length t.prints ≤ printed_size

-- what a line says is run, or the run ends
said_short : (f : Command → Turn) (t : Turn) (c : Option Command) → ((k : Command) → Short (f k)) → Short t → Short (unwrap_or (option_map f c) t)
said_short f t None h g = g
said_short f t (Some k) h g = h k

line_short : (m : Machine) → Short (line_turn m)
unfolding line_turn first_turn later_turn no_configuration printed
line_short m =
    either Short (eqb m.program.phase first) _ _
    (λ _. either Short (is_done (fresh_of (config_in (line_of m.program))).answer) _ _ (λ _. zero-le) (λ _. four_short 12 0 0 0))
    (λ _. either Short (eqb m.program.phase going) _ _
    (λ _. said_short _ _ (command_of (line_of m.program)) (λ _. four_short _ _ _ _) zero-le)
    (λ _. zero-le))

pub prints_are_short : PrintsAreShort
unfolding byte_turn end_turn
prints_are_short m =
    record {
      byte = λ b. either Short (eqb b newline) _ _ (λ _. line_short m) (λ _. zero-le);
      last = either Short (eqb m.program.len 0 && not (eqb m.program.phase first)) _ _ (λ _. zero-le) (λ _. line_short m);
    }

-- ---- instances that compute

empty_input : output_of [] ≡ 49 ∷ 50 ∷ 32 ∷ 48 ∷ 32 ∷ 48 ∷ 32 ∷ 48 ∷ 10 ∷ []
unfolding output_of lines_from no_configuration decimal_from
empty_input = refl

-- "4 2 1": two of four members cannot be faulty
no_configuration_lem : output_of (52 ∷ 32 ∷ 50 ∷ 32 ∷ 49 ∷ 10 ∷ []) ≡ 49 ∷ 50 ∷ 32 ∷ 48 ∷ 32 ∷ 48 ∷ 32 ∷ 48 ∷ 10 ∷ []
unfolding output_of lines_from no_configuration decimal_from config_in is_number all_digits value_from space_in fresh_of restore_of restore_answer good_config good_feed number_of
no_configuration_lem = refl

-- 01's worked run
pub worked_run : output_of worked_input ≡ worked_output
unfolding output_of lines_from config_in is_number all_digits value_from space_in fresh_of restore_of restore_answer good_config good_feed number_of none_empty sum
worked_run =
    later_lines _ _ _ (record {
      of_outbox = length-replicate {A = ℕ} frame_size 0;
      of_kept = length-replicate {A = ℕ} kept_size 0;
      of_signatures = length-replicate {A = ℕ} signatures_size 0;
    })
