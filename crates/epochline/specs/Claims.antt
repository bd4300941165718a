-- What a reader may quote of the epoch program: each claim is a type, proved in `proofs/Claims.antt`.
use Rattle.std.specs.Prelude.{◌≡◌, List, [], ◌∷◌, true, ℕ, ◌≤◌, length}
use Rattle.config.specs.Limits.{last_epoch}
use Rattle.epochline.specs.Decimal.{most_digits, decimal, value_of, is_number}
use Rattle.epochline.specs.Output.{printed_size, output_of}
use Rattle.epochline.specs.Machine.{Machine, byte_turn, end_turn, printed_by, new_machine}

-- Read a byte at a time, an input of any length is answered with its whole output.
abbrev pub BytesMakeTheOutput : Type 0
BytesMakeTheOutput = (input : List ℕ) → printed_by new_machine input ≡ output_of input

-- What a turn prints has at most 44 bytes: none is lost where as many are lent to it.
pub record Short (m : Machine) : Type 0 where
  pub byte : (b : ℕ) → length (byte_turn m b).prints ≤ printed_size
  pub last : length (end_turn m).prints ≤ printed_size

abbrev pub PrintsAreShort : Type 0
PrintsAreShort = (m : Machine) → Short m

-- What is printed for a number of 32 bits is a number "without leading zeros", and is read as that number.
pub record Shown (x : ℕ) : Type 0 where
  pub shape : is_number most_digits last_epoch (decimal x) ≡ true
  pub value : value_of (decimal x) ≡ x

abbrev pub DecimalIsRead : Type 0
DecimalIsRead = (x : ℕ) → x ≤ last_epoch → Shown x

-- 01's worked run: "`4 1 3`, `S`, `N 2 7`, `N 4 6`, `N 3 5`, `P`, one a line", and its "Whole output".
abbrev pub worked_input : List ℕ
worked_input =
    52 ∷ 32 ∷ 49 ∷ 32 ∷ 51 ∷ 10
    ∷ 83 ∷ 10
    ∷ 78 ∷ 32 ∷ 50 ∷ 32 ∷ 55 ∷ 10
    ∷ 78 ∷ 32 ∷ 52 ∷ 32 ∷ 54 ∷ 10
    ∷ 78 ∷ 32 ∷ 51 ∷ 32 ∷ 53 ∷ 10
    ∷ 80 ∷ 10
    ∷ []

abbrev pub worked_output : List ℕ
worked_output =
    48 ∷ 32 ∷ 48 ∷ 32 ∷ 48 ∷ 32 ∷ 49 ∷ 10
    ∷ 48 ∷ 32 ∷ 48 ∷ 32 ∷ 48 ∷ 32 ∷ 49 ∷ 10
    ∷ 48 ∷ 32 ∷ 48 ∷ 32 ∷ 48 ∷ 32 ∷ 54 ∷ 10
    ∷ 48 ∷ 32 ∷ 53 ∷ 32 ∷ 50 ∷ 32 ∷ 54 ∷ 10
    ∷ 48 ∷ 32 ∷ 53 ∷ 32 ∷ 50 ∷ 32 ∷ 54 ∷ 10
    ∷ []
