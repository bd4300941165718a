-- Document 01, the epoch program: what it prints, from the bytes of its input to the bytes of its output.
use Rattle.std.specs.Prelude.{cond, List, [], ◌∷◌, ◌++◌, ℕ, ◌+◌, ◌*◌, eqb, pos, replicate}
use Rattle.std.specs.Option.{unwrap_or, option_map}
use Rattle.config.specs.Limits.{frame_size, kept_size, signatures_size}
use Rattle.config.specs.Bounds.{nothing_committed}
use Rattle.config.specs.Codes.{number_of, is_done}
use Rattle.config.specs.Leader.{leader_of}
use Rattle.config.specs.Answers.{Answer}
use Rattle.config.specs.declared.Config.{Config}
use Rattle.frame.specs.Message.{new_epoch}
use Rattle.frame.specs.Encode.{frame_bytes}
use Rattle.node.specs.declared.Node.{Node}
use Rattle.node.specs.declared.Fired.TheVariants as fired
use Rattle.node.specs.Event.{Whole, whole, delivery, Event, starts, delivers, fires}
use Rattle.node.specs.Calls.{fresh_of, Out, called}
use Rattle.epochline.specs.declared.Command.{Command}
use Rattle.epochline.specs.declared.Command.TheVariants.{Start, Heard, Progress}
use Rattle.epochline.specs.Decimal.{most_digits, decimal}
use Rattle.epochline.specs.Lines.{newline, space, lines_of, command_of, config_in}

-- ---- a run of the node

-- the node with its buffers, and the program's frame buffer, which is its outbox
pub record Running : Type 0 where
  pub whole_now : Whole
  pub outbox : List ℕ

abbrev pub running : Node → List ℕ → List ℕ → List ℕ → Running
running n outbox kept signatures = record { whole_now = whole n kept signatures; outbox = outbox }

-- "The epoch program's frame buffer is 4,096 zero bytes at its start."
abbrev pub beginning : Node → Running
beginning n = running n (replicate frame_size 0) (replicate kept_size 0) (replicate signatures_size 0)

-- the event of a command: the time is 0, nothing is committed, no bit is set, and a frame comes over its sender's link
abbrev pub event_of : Config → Command → Event
event_of c Start = starts 0
event_of c (Heard j x) = delivers (delivery j 0 (pos 0) nothing_committed 0 (frame_bytes c.n c.number j (new_epoch x)))
event_of c Progress = fires fired.Progress 0

-- a command's call: "each call writes at position 0"
unfoldable pub calling : Running → Command → Out
calling s k = called s.whole_now (event_of s.whole_now.node.config k) s.outbox 0

abbrev pub onward : Out → Running
onward o = running o.result.node o.outbox o.kept o.signatures

-- ---- what is printed

-- four numbers, one space apart, and a newline
abbrev pub four_numbers : ℕ → ℕ → ℕ → ℕ → List ℕ
four_numbers a b c d = decimal a ++ (space ∷ decimal b ++ (space ∷ decimal c ++ (space ∷ decimal d ++ (newline ∷ []))))

-- as many bytes as they have at most
abbrev pub printed_size : ℕ
printed_size = 4 * (most_digits + 1)

-- "leader (0 for none)": there is none where there are no members
abbrev pub leader_shown : Node → ℕ
leader_shown n = cond (eqb n.config.n 0) 0 (leader_of n.config.n n.pace.epoch)

-- "prints code, epoch, leader (0 for none), highest sent after each"
unfoldable pub printed : Answer → Node → List ℕ
printed a n = four_numbers (number_of a) n.pace.epoch (leader_shown n) n.pace.highest

-- "A first line missing or no configuration prints `12 0 0 0` and ends the run"
unfoldable pub no_configuration : List ℕ
no_configuration = four_numbers 12 0 0 0

-- ---- the whole output

-- "a later line of another shape just ends it"
unfoldable pub output_from : Running → List (List ℕ) → List ℕ
output_from s [] = []
output_from s (l ∷ ls) =
    unwrap_or (option_map (λ k. let o = calling s k in printed o.result.answer o.result.node ++ output_from (onward o) ls) (command_of l)) []

abbrev pub first_line : List (List ℕ) → List ℕ
first_line [] = no_configuration
first_line (l ∷ ls) =
    cond (is_done (fresh_of (config_in l)).answer) (output_from (beginning (fresh_of (config_in l)).node) ls) no_configuration

unfoldable pub output_of : List ℕ → List ℕ
output_of input = first_line (lines_of input)
