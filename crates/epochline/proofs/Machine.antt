-- The machine reads what the lines say: it keeps the first 17 bytes of the line so far, and its node with the buffers is that of the whole output's run.
use mathlib.Core.Bool.{Bool, true, false, not, cond, ◌&&◌}
use mathlib.Core.List.{List, [], ◌∷◌, ◌++◌, append-nil}
use mathlib.Core.Path.{◌≡◌, refl, sym, ap, ◌∙◌}
use Prim.Native.Nat.{ℕ, suc, ◌+◌, ◌≤◌, min}
use native.Mathlib.Omega.{arith}
use borrow.Author.Tests.{ltb-true, ltb-false, eqb-true, eqb-false, eq-eqb, ne_eqb}
use lib.Dec.{eqb, ltb, eqb-suc-zero}
use lib.ListN.{length, take, set, replicate, length-set, length-append}
use lib.Seq.{take_all, take-suc-set, take-append-le}
use Rattle.std.specs.Prelude.{Option, None, Some}
use Rattle.std.specs.Option.{unwrap_or, option_map}
use Rattle.config.specs.Limits.{frame_size, kept_size, signatures_size}
use Rattle.config.specs.Bounds.{good_feed, good_config}
use Rattle.config.specs.Codes.{number_of, is_done}
use Rattle.config.specs.declared.Config.{Config}
use Rattle.node.specs.declared.Node.{Node}
use Rattle.node.specs.Calls.{fresh_of, restore_of, restore_answer}
use Rattle.epochline.specs.declared.Command.{Command}
use Rattle.epochline.specs.declared.Program.{Program}
use Rattle.epochline.specs.Decimal.{is_number}
use Rattle.epochline.specs.Lines.{lines_from, space_in, command_of, config_in}
use Rattle.epochline.specs.Output.{Running, calling, onward, printed, no_configuration, beginning, output_from, first_line, output_of}
use Rattle.epochline.specs.Machine.{Machine, machine, Turn, turn, longer, first_turn, later_turn, line_turn, byte_turn, end_turn, printed_by, new_machine}
use Rattle.epochline.proofs.Words.{command_front, config_front}

abbrev program_of : Node → ℕ → List ℕ → ℕ → Program
program_of n phase held len = record { node = n; phase = phase; line = held; len = len }

-- ---- the line so far

record Holds (held : List ℕ) (len : ℕ) (line : List ℕ) : Type 0 where
  size : length held ≡ 17
  long : len ≡ min (length line) 17
  bytes : take len held ≡ take 17 line

holds_none : (held : List ℕ) → length held ≡ 17 → Holds held 0 []
holds_none held e = record { size = e; long = refl; bytes = refl }

holds_line : (held : List ℕ) (len : ℕ) (line : List ℕ) → Holds held len line → take (min len 17) held ≡ take 17 line
holds_line held len line h = let e : min len 17 ≡ len = omega (arith, h.long) in rw e h.bytes

holds_empty : (held : List ℕ) (len : ℕ) (line : List ℕ) → Holds held len line → eqb (length line) 0 ≡ eqb len 0
holds_empty held len line h = go (eqb len 0) refl
  where
    go : (t : Bool) → eqb len 0 ≡ t → eqb (length line) 0 ≡ t
    go true e = let z = eqb-true len 0 e in eq-eqb (length line) 0 (omega (arith, h.long))
    go false e = let z = eqb-false len 0 e in ne_eqb (length line) 0 (omega (arith, h.long))

-- one byte more
record Longer (n : Node) (phase : ℕ) (held : List ℕ) (len b : ℕ) (line : List ℕ) : Type 0 where
  held_after : List ℕ
  len_after : ℕ
  made : longer (program_of n phase held len) b ≡ program_of n phase held_after len_after
  holds : Holds held_after len_after (line ++ (b ∷ []))

holds_next : (n : Node) (phase : ℕ) (held : List ℕ) (len b : ℕ) (line : List ℕ) → Holds held len line → Longer n phase held len b line
unfolding longer
holds_next n phase held len b line h = go (ltb len 17) refl
  where
    snoc : length (line ++ (b ∷ [])) ≡ length line + 1
    snoc = length-append line (b ∷ [])

    go : (t : Bool) → ltb len 17 ≡ t → Longer n phase held len b line
    go true e =
        let low = ltb-true len 17 e in
        let all : length line ≤ 17 = omega (arith, h.long) in
        let most : length (line ++ (b ∷ [])) ≤ 17 = omega (arith, h.long, snoc) in
        record {
          held_after = set held len b;
          len_after = suc len;
          made = rw e;
          holds = record {
            size = length-set held len b ∙ h.size;
            long = omega (arith, h.long, snoc);
            bytes = take-suc-set held len b (omega (arith, h.size))
                ∙ ap (λ (l : List ℕ). l ++ (b ∷ [])) (h.bytes ∙ take_all 17 line all)
                ∙ sym (take_all 17 (line ++ (b ∷ [])) most);
          };
        }
    go false e =
        let most = ltb-false len 17 e in
        record {
          held_after = held;
          len_after = len;
          made = rw e;
          holds = record {
            size = h.size;
            long = omega (arith, h.long, snoc);
            bytes = h.bytes ∙ sym (take-append-le 17 line (b ∷ []) (omega (arith, h.long)));
          };
        }

-- ---- a turn, and what is printed from it on

abbrev from : Turn → List ℕ → List ℕ
from t input = t.prints ++ printed_by t.machine_after input

-- the two ways of a byte: what is printed is f of the lines
byte_ways : (f : List (List ℕ) → List ℕ) (m : Machine) (b : ℕ) (line input : List ℕ) → from (line_turn m) input ≡ f (line ∷ lines_from [] input) → printed_by (machine (longer m.program b) m.outbox m.kept m.signatures) input ≡ f (lines_from (line ++ (b ∷ [])) input) → printed_by m (b ∷ input) ≡ f (lines_from line (b ∷ input))
unfolding printed_by byte_turn lines_from
byte_ways f m b line input whole more = go (eqb b 10)
  where
    go : (t : Bool) → from (cond t (line_turn m) (turn (machine (longer m.program b) m.outbox m.kept m.signatures) [])) input ≡ f (cond t (line ∷ lines_from [] input) (lines_from (line ++ (b ∷ [])) input))
    go true = whole
    go false = more

-- ---- a run that has ended prints nothing

longer_phase : (p : Program) (b : ℕ) → (longer p b).phase ≡ p.phase
unfolding longer
longer_phase p b = go (ltb p.len 17)
  where
    go : (t : Bool) → (cond t (program_of p.node p.phase (set p.line p.len b) (suc p.len)) p).phase ≡ p.phase
    go true = refl
    go false = refl

ended_line : (m : Machine) → m.program.phase ≡ 2 → line_turn m ≡ turn m []
unfolding line_turn
ended_line m e = rw e

ended_silent : (input : List ℕ) (m : Machine) → m.program.phase ≡ 2 → printed_by m input ≡ []
unfolding printed_by end_turn
ended_silent [] m e = go (eqb m.program.len 0 && not (eqb m.program.phase 0))
  where
    go : (t : Bool) → (cond t (turn m []) (line_turn m)).prints ≡ []
    go true = refl
    go false = ap (λ (t : Turn). t.prints) (ended_line m e)
ended_silent (b ∷ input) m e =
    byte_ways (λ _. []) m b [] input (rw (ended_line m e) (ended_silent input m e)) (ended_silent input _ (longer_phase m.program b ∙ e))

-- ---- a later line

abbrev machine_of : Running → ℕ → List ℕ → ℕ → Machine
machine_of s phase held len =
    machine (program_of s.whole_now.node phase held len) s.outbox s.whole_now.kept s.whole_now.signatures

-- what a command comes to: the run ends, or it goes on
abbrev later_with : Running → List ℕ → Option Command → Turn
later_with s held said =
    unwrap_or
    (option_map (λ k. let o = calling s k in turn (machine_of (onward o) 1 held 0) (printed o.result.answer o.result.node)) said)
    (turn (machine_of s 2 held 0) [])

later_line : (s : Running) (held : List ℕ) (len : ℕ) (line : List ℕ) → Holds held len line → line_turn (machine_of s 1 held len) ≡ later_with s held (command_of line)
unfolding line_turn later_turn
later_line s held len line h =
    ap (later_with s held) (ap command_of (holds_line held len line h) ∙ command_front line)

later_prints : (s : Running) (held line : List ℕ) → (later_with s held (command_of line)).prints ≡ output_from s (line ∷ [])
unfolding output_from
later_prints s held line = go (command_of line)
  where
    said : Command → List ℕ
    said k = let o = calling s k in printed o.result.answer o.result.node

    go : (c : Option Command) → (later_with s held c).prints ≡ unwrap_or (option_map (λ k. said k ++ []) c) []
    go None = refl
    go (Some k) = sym (append-nil (said k))

later_from : (s : Running) (held line input : List ℕ) → ((s' : Running) → printed_by (machine_of s' 1 held 0) input ≡ output_from s' (lines_from [] input)) → from (later_with s held (command_of line)) input ≡ output_from s (line ∷ lines_from [] input)
unfolding output_from
later_from s held line input ih = go (command_of line)
  where
    said : Command → List ℕ
    said k = let o = calling s k in printed o.result.answer o.result.node

    go : (c : Option Command) → from (later_with s held c) input ≡ unwrap_or (option_map (λ k. said k ++ output_from (onward (calling s k)) (lines_from [] input)) c) []
    go None = ended_silent input _ refl
    go (Some k) = ap (λ (l : List ℕ). said k ++ l) (ih (onward (calling s k)))

going_end : (s : Running) (held : List ℕ) (len : ℕ) (line : List ℕ) → Holds held len line → printed_by (machine_of s 1 held len) [] ≡ output_from s (lines_from line [])
unfolding lines_from output_from printed_by end_turn
going_end s held len line h = rw (holds_empty held len line h) (go (eqb len 0))
  where
    go : (t : Bool) → (cond (t && true) (turn (machine_of s 1 held len) []) (line_turn (machine_of s 1 held len))).prints ≡ output_from s (cond t [] (line ∷ []))
    go true = refl
    go false = ap (λ (t : Turn). t.prints) (later_line s held len line h) ∙ later_prints s held line

going_whole : (input : List ℕ) (s : Running) (held : List ℕ) (len : ℕ) (line : List ℕ) → Holds held len line → printed_by (machine_of s 1 held len) input ≡ output_from s (lines_from line input)
going_whole [] s held len line h = going_end s held len line h
going_whole (b ∷ input) s held len line h =
    let next = holds_next s.whole_now.node 1 held len b line h in
    byte_ways (output_from s) (machine_of s 1 held len) b line input
    (ap (λ (t : Turn). from t input) (later_line s held len line h)
    ∙ later_from s held line input (λ s'. going_whole input s' held 0 [] (holds_none held h.size)))
    (ap (λ (p : Program). printed_by (machine p s.outbox s.whole_now.kept s.whole_now.signatures) input) next.made
    ∙ going_whole input s next.held_after next.len_after (line ++ (b ∷ [])) next.holds)

-- ---- the first line

-- what a configuration comes to: a node is made, or the run ends
abbrev first_with : List ℕ → Config → Bool → Turn
first_with held c done =
    let s = beginning (fresh_of c).node in
    cond done (turn (machine_of s 1 held 0) []) (turn (machine_of s 2 held 0) no_configuration)

first_line_lem : (n : Node) (held : List ℕ) (len : ℕ) (line : List ℕ) → Holds held len line → line_turn (machine_of (beginning n) 0 held len) ≡ first_with held (config_in line) (is_done (fresh_of (config_in line)).answer)
unfolding line_turn first_turn
first_line_lem n held len line h =
    ap (λ (c : Config). first_with held c (is_done (fresh_of c).answer)) (ap config_in (holds_line held len line h) ∙ config_front line)

first_from : (held line input : List ℕ) → (let s = beginning (fresh_of (config_in line)).node in printed_by (machine_of s 1 held 0) input ≡ output_from s (lines_from [] input)) → from (first_with held (config_in line) (is_done (fresh_of (config_in line)).answer)) input ≡ first_line (line ∷ lines_from [] input)
first_from held line input ih = go (is_done (fresh_of (config_in line)).answer)
  where
    go : (t : Bool) → from (first_with held (config_in line) t) input ≡ cond t (output_from (beginning (fresh_of (config_in line)).node) (lines_from [] input)) no_configuration
    go true = ih
    go false = ap (λ (l : List ℕ). no_configuration ++ l) (ended_silent input _ refl) ∙ append-nil no_configuration

-- an empty line is no configuration
none_made : is_done (fresh_of (config_in [])).answer ≡ false
unfolding config_in is_number space_in fresh_of restore_of restore_answer good_config good_feed number_of
none_made = refl

first_prints : (held line : List ℕ) → (first_with held (config_in line) (is_done (fresh_of (config_in line)).answer)).prints ≡ first_line (lines_from line [])
unfolding lines_from output_from
first_prints held [] = rw none_made
first_prints held (a ∷ l) = rw (eqb-suc-zero (length l)) (go (is_done (fresh_of (config_in (a ∷ l))).answer))
  where
    go : (t : Bool) → (first_with held (config_in (a ∷ l)) t).prints ≡ cond t [] no_configuration
    go true = refl
    go false = refl

first_end : (n : Node) (held : List ℕ) (len : ℕ) (line : List ℕ) → Holds held len line → printed_by (machine_of (beginning n) 0 held len) [] ≡ first_line (lines_from line [])
unfolding printed_by end_turn
first_end n held len line h =
    go (eqb len 0) ∙ ap (λ (t : Turn). t.prints) (first_line_lem n held len line h) ∙ first_prints held line
  where
    m : Machine
    m = machine_of (beginning n) 0 held len

    go : (t : Bool) → (cond (t && false) (turn m []) (line_turn m)).prints ≡ (line_turn m).prints
    go true = refl
    go false = refl

first_whole : (input : List ℕ) (n : Node) (held : List ℕ) (len : ℕ) (line : List ℕ) → Holds held len line → printed_by (machine_of (beginning n) 0 held len) input ≡ first_line (lines_from line input)
first_whole [] n held len line h = first_end n held len line h
first_whole (b ∷ input) n held len line h =
    let next = holds_next n 0 held len b line h in
    let s = beginning (fresh_of (config_in line)).node in
    byte_ways first_line (machine_of (beginning n) 0 held len) b line input
    (ap (λ (t : Turn). from t input) (first_line_lem n held len line h)
    ∙ first_from held line input (going_whole input s held 0 [] (holds_none held h.size)))
    (ap (λ (p : Program). printed_by (machine p (replicate frame_size 0) (replicate kept_size 0) (replicate signatures_size 0)) input) next.made
    ∙ first_whole input n next.held_after next.len_after (line ++ (b ∷ [])) next.holds)

pub machine_whole : (input : List ℕ) → printed_by new_machine input ≡ output_of input
unfolding output_of
machine_whole input = first_whole input _ (replicate 17 0) 0 [] (holds_none (replicate 17 0) refl)
