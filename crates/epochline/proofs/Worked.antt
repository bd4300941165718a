-- 01's worked run, a line at a time: what each command makes of the node, whatever stands in buffers of full size.
use mathlib.Core.Bool.{true, false}
use mathlib.Core.List.{List, [], ◌∷◌, ◌++◌}
use mathlib.Core.Path.{◌≡◌, refl, ap, ◌∙◌}
use Prim.Native.Nat.{ℕ}
use lib.ListN.{length, drop, replicate}
use Rattle.std.specs.Prelude.{Some}
use Rattle.wire.specs.Numbers.{be_from, be_number, be_bytes}
use Rattle.wire.proofs.Overlay.{length_over}
use Rattle.quorum.specs.Marks.{flags}
use Rattle.config.specs.Limits.{frame_size, kept_size, signatures_size}
use Rattle.config.specs.Bounds.{none_empty, sum, good_feed, good_config}
use Rattle.config.specs.Codes.{number_of, is_done}
use Rattle.config.specs.Answers.{Done}
use Rattle.frame.specs.Check.{frame_answer, after_short, after_version, after_kind, after_sender, body_answer}
use Rattle.frame.specs.Decode.{message_of}
use Rattle.frame.specs.Encode.{body_bytes, trailer_bytes, frame_bytes}
use Rattle.frame.specs.Table.{table, shape_of, body_length}
use Rattle.pacemaker.specs.declared.Pace.{Pace}
use Rattle.pacemaker.specs.State.{good_pace}
use Rattle.pacemaker.specs.Rules as pacemaker
use Rattle.follower.specs.State.{is_set, good_follower, in_round}
use Rattle.leader.specs.State.{good_leader, no_round}
use Rattle.node.specs.declared.Node.{Node}
use Rattle.node.specs.State.{roomy, good_node, good_kept, good_state}
use Rattle.node.specs.Event.{whole, Event, Effect}
use Rattle.node.specs.Answers.{start_answer, firing, ending, timer_answer, message_answer, delivery_answer, event_answer, after_state}
use Rattle.node.specs.Effects.{pacing, begun, moving, hearing, effect_of}
use Rattle.node.specs.Calls.{settled, called}
use Rattle.epochline.specs.declared.Command.{Command}
use Rattle.epochline.specs.declared.Command.TheVariants.{Start, Heard, Progress}
use Rattle.epochline.specs.Decimal.{decimal_from, all_digits, value_from, is_number}
use Rattle.epochline.specs.Lines.{lines_from, lines_of, space_in, heard_in, command_of, feed_of}
use Rattle.epochline.specs.Output.{Running, running, event_of, calling, printed, output_from}
use Rattle.epochline.specs.Claims.{worked_input, worked_output}

-- ---- a line

pub record Sized (outbox kept signatures : List ℕ) : Type 0 where
  pub of_outbox : length outbox ≡ frame_size
  pub of_kept : length kept ≡ kept_size
  pub of_signatures : length signatures ≡ signatures_size

-- what an event makes of a node with its buffers
abbrev effect : Node → Command → List ℕ → List ℕ → Effect
effect n k kept signatures = effect_of (whole n kept signatures) (event_of n.config k)

record Goes (n n' : Node) (k : Command) : Type 0 where
  good : good_node n ≡ true
  none : is_set n.follower.kept ≡ false
  done : is_done (event_answer n (event_of n.config k)) ≡ true
  after : (kept signatures : List ℕ) → (effect n k kept signatures).whole_after.node ≡ n'
  of_kept : (kept signatures : List ℕ) → length (effect n k kept signatures).whole_after.kept ≡ length kept
  of_signatures : (kept signatures : List ℕ) → length (effect n k kept signatures).whole_after.signatures ≡ length signatures

called_settled : (n : Node) (e : Event) (outbox kept signatures : List ℕ) → Sized outbox kept signatures → good_node n ≡ true → is_set n.follower.kept ≡ false → is_done (event_answer n e) ≡ true → called (whole n kept signatures) e outbox 0 ≡ settled (effect_of (whole n kept signatures) e) outbox 0
unfolding called after_state good_state good_kept roomy
called_settled n e outbox kept signatures h good none done = rw (good, none, h.of_outbox, h.of_kept, h.of_signatures, done)

goes_on : (n n' : Node) (k : Command) (l : List ℕ) (ls : List (List ℕ)) (rest : List ℕ) → command_of l ≡ Some k → Goes n n' k → ((outbox kept signatures : List ℕ) → Sized outbox kept signatures → output_from (running n' outbox kept signatures) ls ≡ rest) → (outbox kept signatures : List ℕ) → Sized outbox kept signatures → output_from (running n outbox kept signatures) (l ∷ ls) ≡ printed Done n' ++ rest
unfolding output_from calling settled
goes_on n n' k l ls rest e g ih outbox kept signatures h =
    rw (e, called_settled n (event_of n.config k) outbox kept signatures h g.good g.none g.done, g.after kept signatures)
    (ap (λ (r : List ℕ). printed Done n' ++ r) (ih _ _ _ (record {
      of_outbox = length_over outbox 0 _ ∙ h.of_outbox;
      of_kept = g.of_kept kept signatures ∙ h.of_kept;
      of_signatures = g.of_signatures kept signatures ∙ h.of_signatures;
    })))

no_more : (s : Running) → output_from s [] ≡ []
unfolding output_from
no_more s = refl

-- ---- the nodes of the run

-- what the four members have sent
abbrev sent_by : ℕ → ℕ → ℕ → ℕ → List ℕ
sent_by a b c d = a ∷ b ∷ c ∷ d ∷ replicate 27 0

abbrev pace_of : ℕ → ℕ → List ℕ → ℕ → ℕ → Pace
pace_of epoch highest heard started progress =
    record { epoch = epoch; highest = highest; heard = heard; started = started; progress = progress; resend = started }

abbrev node_of : Pace → ℕ → Node
node_of p live = record { config = feed_of 4 1 3; pace = p; follower = in_round live 0; leader = no_round }

abbrev made : Node
made = node_of (pace_of 0 0 (sent_by 0 0 0 0) 0 0) 0

abbrev started : Node
started = node_of (pace_of 0 1 (sent_by 0 0 0 0) 1 1) 0

abbrev heard_seven : Node
heard_seven = node_of (pace_of 0 1 (sent_by 0 7 0 0) 1 1) 0

abbrev heard_six : Node
heard_six = node_of (pace_of 0 6 (sent_by 0 7 0 6) 1 1) 0

abbrev moved : Node
moved = node_of (pace_of 5 6 (sent_by 0 7 5 6) 1 1) 1

abbrev changed : Node
changed = node_of (pace_of 5 6 (sent_by 0 7 5 6) 1 0) 1

starts : Goes made started Start
unfolding good_node good_config good_feed none_empty sum good_pace good_follower good_leader flags start_answer number_of pacing pacemaker.start_of
starts = record { good = refl; none = refl; done = refl; after = λ k s. refl; of_kept = λ k s. refl; of_signatures = λ k s. refl }

hears : Goes started heard_seven (Heard 2 7) × Goes heard_seven heard_six (Heard 4 6) × Goes heard_six moved (Heard 3 5)
unfolding good_node good_config good_feed none_empty sum good_pace good_follower good_leader flags delivery_answer message_answer frame_answer after_short after_version after_kind after_sender body_answer message_of body_bytes trailer_bytes frame_bytes table shape_of body_length be_from be_number be_bytes number_of pacing begun moving hearing pacemaker.new_epoch_of pacemaker.hearing pacemaker.amplifying pacemaker.moving
hears = (
  record { good = refl; none = refl; done = refl; after = λ k s. refl; of_kept = λ k s. refl; of_signatures = λ k s. refl },
  record { good = refl; none = refl; done = refl; after = λ k s. refl; of_kept = λ k s. refl; of_signatures = λ k s. refl },
  record {
    good = refl;
    none = refl;
    done = refl;
    after = λ k s. refl;
    of_kept = λ k s. length_over k 0 (replicate kept_size 0);
    of_signatures = λ k s. length_over s 0 (replicate signatures_size 0);
  },
)

changes : Goes moved changed Progress
unfolding good_node good_config good_feed none_empty sum good_pace good_follower good_leader flags timer_answer firing ending number_of pacing pacemaker.change_leader_of
changes = record { good = refl; none = refl; done = refl; after = λ k s. refl; of_kept = λ k s. refl; of_signatures = λ k s. refl }

-- ---- the run

pub later_lines : (outbox kept signatures : List ℕ) → Sized outbox kept signatures → output_from (running made outbox kept signatures) (lines_of (drop 6 worked_input)) ≡ worked_output
unfolding lines_from printed decimal_from command_of heard_in is_number all_digits value_from space_in number_of
later_lines =
    goes_on made started _ _ _ _ refl starts
    (goes_on started heard_seven _ _ _ _ refl hears.0
    (goes_on heard_seven heard_six _ _ _ _ refl hears.1
    (goes_on heard_six moved _ _ _ _ refl hears.2
    (goes_on moved changed _ _ [] [] refl changes (λ o k s _. no_more (running changed o k s))))))
