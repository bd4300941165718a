-- The public calls of a node: the step of its event, with the frames of what is sent laid over the outbox.
use Rattle.std.specs.Prelude.{Bool, true, not, cond, List, [], ◌∷◌, ◌++◌, ℕ, leb, length}
use Rattle.config.specs.Bounds.{good_config}
use Rattle.config.specs.Codes.{is_done}
use Rattle.config.specs.Answers.{Answer}
use Rattle.config.specs.Answers as answer
use Rattle.config.specs.declared.Config.{Config}
use Rattle.config.specs.declared.Saved.{Saved}
use Rattle.config.specs.declared.Timer.TheVariants.{Leave}
use Rattle.wire.specs.Overlay.{over}
use Rattle.frame.specs.Message.{Message}
use Rattle.outbox.specs.Written.{own_frame}
use Rattle.follower.specs.declared.Handed.{Handed}
use Rattle.node.specs.declared.Node.{Node}
use Rattle.node.specs.declared.Timers.{Timers}
use Rattle.node.specs.declared.Made.{Made}
use Rattle.node.specs.declared.Outcome.{Outcome}
use Rattle.node.specs.State.{restored_node, nothing_saved, roomy}
use Rattle.node.specs.Event.{Whole, whole, Event, Effect, Step, refused, done}
use Rattle.node.specs.Answers.{after_state, unarmed_answer, answer_to}
use Rattle.node.specs.Effects.{nothing_handed, effect_of}

-- ---- making one: "Making a fresh state: 12. Restoring one: 12, then 2."

-- 12: "bad configuration"; 2: "highest sent below current epoch"
unfoldable pub restore_answer : Config → Saved → Answer
restore_answer c s = cond (not (good_config c)) answer.Config (cond (not (leb s.epoch s.highest)) answer.State answer.Done)

unfoldable pub restore_of : Config → Saved → Made
restore_of c s = record { answer = restore_answer c s; node = restored_node c s }

unfoldable pub fresh_of : Config → Made
fresh_of c = restore_of c nothing_saved

-- ---- the step: ROOM aside, which is about the buffers that are lent

unfoldable pub step : Whole → Event → Step
step w e = cond (is_done (answer_to true w e)) (done (effect_of w e)) (refused (answer_to true w e))

-- ---- a call

-- a call's result with every buffer as it leaves it
pub record Out : Type 0 where
  pub result : Outcome
  pub outbox : List ℕ
  pub kept : List ℕ
  pub signatures : List ℕ

abbrev pub out : Outcome → List ℕ → List ℕ → List ℕ → Out
out r outbox kept signatures = record { result = r; outbox = outbox; kept = kept; signatures = signatures }

-- the frames of the messages sent, one directly after the other
unfoldable pub frames_of : Config → List Message → List ℕ
frames_of c [] = []
frames_of c (m ∷ ms) = own_frame c m ++ frames_of c ms

-- every timer is left alone
abbrev pub no_timers : Timers
no_timers = record { resend = Leave; progress = Leave; round = Leave; grace = Leave }

-- what a refusal answers: no state, timer or byte changes, nothing is written or handed out
abbrev pub refusing : Answer → Node → Outcome
refusing a n = record { answer = a; node = n; written = 0; timers = no_timers; handed = nothing_handed n }

-- and a rule that ran and left this node
abbrev pub doing : Node → ℕ → Timers → Handed → Outcome
doing n written timers handed = record { answer = answer.Done; node = n; written = written; timers = timers; handed = handed }

-- what a rule answers, and the frames it sends over the outbox from the position on
unfoldable pub settled : Effect → List ℕ → ℕ → Out
settled f outbox at =
    let n = f.whole_after.node in
    let frames = frames_of n.config f.sent in
    out (doing n (length frames) f.timers f.handed)
    (over outbox at frames) f.whole_after.kept f.whole_after.signatures

-- ROOM, of the buffers that are lent
abbrev pub in_room : Whole → List ℕ → ℕ → Bool
in_room w outbox at = roomy (length outbox) at (length w.kept) (length w.signatures)

unfoldable pub called : Whole → Event → List ℕ → ℕ → Out
called w e outbox at =
    let a = answer_to (in_room w outbox at) w e in
    cond (is_done a) (settled (effect_of w e) outbox at) (out (refusing a w.node) outbox w.kept w.signatures)

abbrev pub call_of : Node → Event → List ℕ → ℕ → List ℕ → List ℕ → Out
call_of n e outbox at kept signatures = called (whole n kept signatures) e outbox at

-- a timer that is none of the four: 2, 3, 9, 1, and nothing else
abbrev pub unarmed_of : Node → ℕ → List ℕ → ℕ → List ℕ → List ℕ → Out
unarmed_of n time outbox at kept signatures =
    let a = after_state (in_room (whole n kept signatures) outbox at) n kept (unarmed_answer time) in
    out (refusing a n) outbox kept signatures
