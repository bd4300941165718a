-- The laws of turns: what each line comes to, and what a call that takes such a turn leaves.
use mathlib.Core.Bool.{true, false, not, ◌&&◌}
use mathlib.Core.List.{List, []}
use mathlib.Core.Path.{◌≡◌, refl, sym, ap, ◌∙◌}
use Prim.Native.Nat.{ℕ}
use borrow.Author.Tests.{eq-eqb, ne_eqb}
use lib.Dec.{eqb}
use lib.ListN.{length, replicate}
use Rattle.std.specs.Prelude.{None, Some}
use Rattle.wire.specs.Numbers.{be_bytes}
use Rattle.wire.specs.Overlay.{over}
use Rattle.wire.proofs.Overlay.{over_none}
use Rattle.config.specs.Codes.{is_done}
use Rattle.frame.specs.Message.{new_epoch}
use Rattle.frame.specs.Encode.{body_bytes, trailer_bytes, frame_bytes}
use Rattle.node.specs.declared.Made.{Made}
use Rattle.node.specs.declared.Outcome.{Outcome}
use Rattle.node.specs.Calls.{fresh_of, out}
use Rattle.epochline.specs.declared.Command.{Command}
use Rattle.epochline.specs.declared.Fed.{Fed}
use Rattle.epochline.specs.declared.Program.{Program}
use Rattle.epochline.specs.Lines.{command_of, config_in}
use Rattle.epochline.specs.Output.{calling, printed, no_configuration}
use Rattle.epochline.specs.Machine.{Machine, machine, Turn, turn, Leaves, line_of, longer, on_line, running_in, first_turn, later_turn, line_turn, byte_turn, end_turn}

-- a call leaves the turn that it takes
pub leaves : {p p' : Program} {written : ℕ} {outbox kept signatures before after : List ℕ} (prints : List ℕ) {t : Turn} → p ≡ p' → t ≡ turn (machine p' outbox kept signatures) prints → after ≡ over before 0 prints → written ≡ length prints → Leaves (record { program = p; written = written }) outbox kept signatures before after t
leaves {outbox} {kept} {signatures} {before} prints q e a w = record {
  machine_after = ap (λ (p : Program). machine p outbox kept signatures) q ∙ ap (λ (t : Turn). t.machine_after) (sym e);
  printed_bytes = a ∙ ap (λ (t : Turn). over before 0 t.prints) (sym e);
  written = w ∙ ap (λ (t : Turn). length t.prints) (sym e);
}

-- where nothing is printed
pub leaves_silent : {p p' : Program} {outbox kept signatures before : List ℕ} {t : Turn} → p ≡ p' → t ≡ turn (machine p' outbox kept signatures) [] → Leaves (record { program = p; written = 0 }) outbox kept signatures before before t
leaves_silent {before} q e = leaves [] q e (sym (over_none before 0)) refl

-- where the turn is another's
pub leaves_same : {r : Fed} {outbox kept signatures before after : List ℕ} {t t' : Turn} → t ≡ t' → Leaves r outbox kept signatures before after t' → Leaves r outbox kept signatures before after t
leaves_same e h = rw e h

-- ---- the first line

pub first_goes : (m : Machine) (made : Made) → made ≡ fresh_of (config_in (line_of m.program)) → is_done made.answer ≡ true → first_turn m ≡ turn (machine (on_line m.program made.node 1) m.outbox m.kept m.signatures) []
unfolding first_turn
first_goes m made e done = rw (← e, done)

pub first_ends : (m : Machine) (made : Made) → made ≡ fresh_of (config_in (line_of m.program)) → is_done made.answer ≡ false → first_turn m ≡ turn (machine (on_line m.program made.node 2) m.outbox m.kept m.signatures) no_configuration
unfolding first_turn
first_ends m made e done = rw (← e, done)

-- ---- a later line

pub later_ends : (m : Machine) → None ≡ command_of (line_of m.program) → later_turn m ≡ turn (machine (on_line m.program m.program.node 2) m.outbox m.kept m.signatures) []
unfolding later_turn
later_ends m e = rw (← e)

pub later_goes : (m : Machine) (k : Command) (r : Outcome) (outbox kept signatures : List ℕ) → Some k ≡ command_of (line_of m.program) → out r outbox kept signatures ≡ calling (running_in m) k → later_turn m ≡ turn (machine (on_line m.program r.node 1) outbox kept signatures) (printed r.answer r.node)
unfolding later_turn
later_goes m k r outbox kept signatures e o = rw (← e, ← o)

-- ---- by the phase

pub line_first : (m : Machine) → m.program.phase ≡ 0 → line_turn m ≡ first_turn m
unfolding line_turn
line_first m e = rw e

pub line_later : (m : Machine) → m.program.phase ≡ 1 → line_turn m ≡ later_turn m
unfolding line_turn
line_later m e = rw e

pub line_ended : (m : Machine) → (m.program.phase ≡ 0 → ⊥) → (m.program.phase ≡ 1 → ⊥) → line_turn m ≡ turn m []
unfolding line_turn
line_ended m h g = rw (ne_eqb m.program.phase 0 h, ne_eqb m.program.phase 1 g)

-- ---- a byte, and the end of the input

pub byte_line : (m : Machine) (b : ℕ) → b ≡ 10 → byte_turn m b ≡ line_turn m
unfolding byte_turn
byte_line m b e = rw (eq-eqb b 10 e)

pub byte_more : (m : Machine) (b : ℕ) → (b ≡ 10 → ⊥) → byte_turn m b ≡ turn (machine (longer m.program b) m.outbox m.kept m.signatures) []
unfolding byte_turn
byte_more m b h = rw (ne_eqb b 10 h)

pub end_silent : (m : Machine) → eqb m.program.len 0 && not (eqb m.program.phase 0) ≡ true → end_turn m ≡ turn m []
unfolding end_turn
end_silent m e = rw e

pub end_line : (m : Machine) → eqb m.program.len 0 && not (eqb m.program.phase 0) ≡ false → end_turn m ≡ line_turn m
unfolding end_turn
end_line m e = rw e

-- ---- the frame of a NEWEPOCH fills its buffer

pub frame_whole : (n number j x : ℕ) → over (replicate 20 0) 0 (frame_bytes n number j (new_epoch x)) ≡ frame_bytes n number j (new_epoch x)
unfolding over frame_bytes body_bytes trailer_bytes be_bytes
frame_whole n number j x = refl
