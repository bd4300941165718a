-- Document 01, the epoch program: its lines, and what each says.
use Rattle.std.specs.Prelude.{Bool, cond, ◌&&◌, Option, None, Some, List, [], ◌∷◌, ◌++◌, ℕ, suc, eqb, length, get_or, take, drop}
use Rattle.config.specs.Limits.{last_epoch}
use Rattle.config.specs.Bounds.{config_of}
use Rattle.config.specs.declared.Config.{Config}
use Rattle.epochline.specs.declared.Command.{Command}
use Rattle.epochline.specs.declared.Command.TheVariants.{Start, Heard, Progress}
use Rattle.epochline.specs.Decimal.{is_number, value_of}

abbrev pub newline : ℕ
newline = 10

abbrev pub space : ℕ
space = 32

-- ---- lines

-- the lines of an input, of which `line` has been read: each ends with a newline, and what follows the last one is a line only if it is not empty
unfoldable pub lines_from : List ℕ → List ℕ → List (List ℕ)
lines_from line [] = cond (eqb (length line) 0) [] (line ∷ [])
lines_from line (b ∷ input) = cond (eqb b newline) (line ∷ lines_from [] input) (lines_from (line ++ (b ∷ [])) input)

abbrev pub lines_of : List ℕ → List (List ℕ)
lines_of input = lines_from [] input

-- ---- words, "one space apart"

-- the place of the first space; the length where there is none
unfoldable pub space_in : List ℕ → ℕ
space_in [] = 0
space_in (b ∷ l) = cond (eqb b space) 0 (suc (space_in l))

-- what stands before the first space, and what stands behind it
abbrev pub word : List ℕ → List ℕ
word l = take (space_in l) l

abbrev pub behind : List ℕ → List ℕ
behind l = drop (suc (space_in l)) l

-- this character and no other
abbrev pub only : ℕ → List ℕ → Bool
only b l = eqb (length l) 1 && eqb (get_or l 0 0) b

-- ---- what a line says

-- "members to 255, epochs to 32 bits"
abbrev pub is_member : List ℕ → Bool
is_member l = is_number 3 255 l

abbrev pub is_epoch : List ℕ → Bool
is_epoch l = is_number 10 last_epoch l

-- the characters S, P and N
abbrev pub letter_s : ℕ
letter_s = 83

abbrev pub letter_p : ℕ
letter_p = 80

abbrev pub letter_n : ℕ
letter_n = 78

-- "member epoch"
unfoldable pub heard_in : List ℕ → Option Command
heard_in l = cond (is_member (word l) && is_epoch (behind l)) (Some (Heard (value_of (word l)) (value_of (behind l)))) None

-- "S (Start), "N member epoch" or P (T_progress)"; nothing where a line has another shape
unfoldable pub command_of : List ℕ → Option Command
command_of l =
    cond (only letter_s l) (Some Start) (cond (only letter_p l) (Some Progress) (cond (only letter_n (word l)) (heard_in (behind l)) None))

-- the configuration of n members, f of whom may be faulty, for the member `own`; the rest of it is in range, and cannot be seen in what the program prints
abbrev pub feed_of : ℕ → ℕ → ℕ → Config
feed_of n f own = config_of 0 n f own 1 0 0 0 1 (n ∷ 0 ∷ 0 ∷ 0 ∷ 0 ∷ 0 ∷ 0 ∷ 0 ∷ [])

-- "a first line "n f own"": the configuration it says; one of no members, which is none, where it has another shape
unfoldable pub config_in : List ℕ → Config
config_in l =
    cond (is_member (word l) && is_member (word (behind l)) && is_member (behind (behind l)))
    (feed_of (value_of (word l)) (value_of (word (behind l))) (value_of (behind (behind l))))
    (feed_of 0 0 0)
