-- The epoch program read a byte at a time, in memory that does not grow with the input.
use Rattle.std.specs.Prelude.{◌≡◌, not, cond, ◌&&◌, List, [], ◌∷◌, ◌++◌, ℕ, suc, min, eqb, ltb, length, replicate, set, take}
use Rattle.std.specs.Option.{unwrap_or, option_map}
use Rattle.config.specs.Limits.{frame_size, kept_size, signatures_size}
use Rattle.config.specs.Codes.{is_done}
use Rattle.wire.specs.Overlay.{over}
use Rattle.node.specs.declared.Node.{Node}
use Rattle.node.specs.Calls.{fresh_of}
use Rattle.epochline.specs.declared.Program.{Program}
use Rattle.epochline.specs.declared.Fed.{Fed}
use Rattle.epochline.specs.Lines.{newline, command_of, config_in, feed_of}
use Rattle.epochline.specs.Output.{Running, running, calling, onward, printed, no_configuration}

-- the longest line that is read has 16 bytes ("N 255 4294967295"); of a longer one, which has another shape, 17 are kept
abbrev pub line_size : ℕ
line_size = 17

-- the phases of a run: before the first line, going on, ended
abbrev pub first : ℕ
first = 0

abbrev pub going : ℕ
going = 1

abbrev pub ended : ℕ
ended = 2

-- a program with the buffers that it is lent
pub record Machine : Type 0 where
  pub program : Program
  pub outbox : List ℕ
  pub kept : List ℕ
  pub signatures : List ℕ

abbrev pub machine : Program → List ℕ → List ℕ → List ℕ → Machine
machine p outbox kept signatures = record { program = p; outbox = outbox; kept = kept; signatures = signatures }

-- a machine, and what it prints
pub record Turn : Type 0 where
  pub machine_after : Machine
  pub prints : List ℕ

abbrev pub turn : Machine → List ℕ → Turn
turn m prints = record { machine_after = m; prints = prints }

-- what a call leaves: the program and the buffers it is lent, and what is printed at the start of its last one
pub record Leaves (r : Fed) (outbox kept signatures out_before out_after : List ℕ) (t : Turn) : Type 0 where
  pub machine_after : machine r.program outbox kept signatures ≡ t.machine_after
  pub printed_bytes : out_after ≡ over out_before 0 t.prints
  pub written : r.written ≡ length t.prints

-- a program before the first line: the node is not made yet
abbrev pub new_program : Program
new_program = record { node = (fresh_of (feed_of 0 0 0)).node; phase = first; line = replicate line_size 0; len = 0 }

-- the line so far
abbrev pub line_of : Program → List ℕ
line_of p = take (min p.len line_size) p.line

-- a byte more, while there is room for it
unfoldable pub longer : Program → ℕ → Program
longer p b =
    cond (ltb p.len line_size)
    (record { node = p.node; phase = p.phase; line = set p.line p.len b; len = suc p.len })
    p

-- a program with this node in this phase, at the beginning of a line
abbrev pub on_line : Program → Node → ℕ → Program
on_line p n phase = record { node = n; phase = phase; line = p.line; len = 0 }

-- ---- a line is whole

-- the first line
unfoldable pub first_turn : Machine → Turn
first_turn m =
    let made = fresh_of (config_in (line_of m.program)) in
    cond (is_done made.answer)
    (turn (machine (on_line m.program made.node going) m.outbox m.kept m.signatures) [])
    (turn (machine (on_line m.program made.node ended) m.outbox m.kept m.signatures) no_configuration)

-- the node with its buffers
abbrev pub running_in : Machine → Running
running_in m = running m.program.node m.outbox m.kept m.signatures

abbrev pub going_on : Program → Running → Machine
going_on p s = machine (on_line p s.whole_now.node going) s.outbox s.whole_now.kept s.whole_now.signatures

-- a later line
unfoldable pub later_turn : Machine → Turn
later_turn m =
    unwrap_or
    (option_map (λ k. let o = calling (running_in m) k in turn (going_on m.program (onward o)) (printed o.result.answer o.result.node)) (command_of (line_of m.program)))
    (turn (machine (on_line m.program m.program.node ended) m.outbox m.kept m.signatures) [])

unfoldable pub line_turn : Machine → Turn
line_turn m =
    cond (eqb m.program.phase first) (first_turn m) (cond (eqb m.program.phase going) (later_turn m) (turn m []))

-- ---- a byte, and the end of the input

unfoldable pub byte_turn : Machine → ℕ → Turn
byte_turn m b =
    cond (eqb b newline) (line_turn m) (turn (machine (longer m.program b) m.outbox m.kept m.signatures) [])

-- what follows the last newline is a line only if it is not empty; a first line that is missing is an empty one
unfoldable pub end_turn : Machine → Turn
end_turn m = cond (eqb m.program.len 0 && not (eqb m.program.phase first)) (turn m []) (line_turn m)

-- ---- a whole input

unfoldable pub printed_by : Machine → List ℕ → List ℕ
printed_by m [] = (end_turn m).prints
printed_by m (b ∷ input) = let t = byte_turn m b in t.prints ++ printed_by t.machine_after input

-- the machine that the program begins with
abbrev pub new_machine : Machine
new_machine = machine new_program (replicate frame_size 0) (replicate kept_size 0) (replicate signatures_size 0)
