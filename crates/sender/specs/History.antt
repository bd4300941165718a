-- Histories of a sender: the calls that were made of it, one after another, with the slots' bytes that each leaves to the next.
use Rattle.std.specs.Prelude.{cond, ◌&&◌, List, [], ◌∷◌, ◌++◌, ℕ}
use Rattle.config.specs.Codes.{is_done}
use Rattle.config.specs.declared.Commit.{Commit}
use Rattle.frame.specs.Message.{Attested}
use Rattle.frame.specs.Decode.{attested_in}
use Rattle.report.specs.Whole.{report_of}
use Rattle.sender.specs.declared.Sender.{Sender}
use Rattle.sender.specs.State.{report_in, time_of}
use Rattle.sender.specs.Stage.{place_in, waits}
use Rattle.sender.specs.Waiting.{Waiting, earliest}
use Rattle.sender.specs.Calls.{transmit_of, timeout_of, due_at, handed_part}

-- a sender with its slots' bytes
pub record Whole : Type 0 where
  pub sender : Sender
  pub slots : List ℕ

pub data Call : Type 0 where
  -- the body, the time, the commit, the permutation
  transmits : List ℕ → ℕ → Commit → List ℕ → Call
  -- the time, the commit
  expires : ℕ → Commit → Call

-- the sender and its slots' bytes after a call, which are as before where the call is refused; a timeout writes no byte
abbrev pub after : Whole → Call → Whole
after w (transmits body time commit permutation) =
    record { sender = (transmit_of w.sender body time commit permutation w.slots).result.sender; slots = (transmit_of w.sender body time commit permutation w.slots).slots }
after w (expires time commit) = record { sender = (timeout_of w.sender time commit w.slots).sender; slots = w.slots }

unfoldable pub run : Whole → List Call → Whole
run w [] = w
run w (call ∷ calls) = run (after w call) calls

-- what a call has wait: the report that it accepts, unless the node's place is beyond the last stage
abbrev pub queued_by : Whole → Call → List Waiting
queued_by w (transmits body time commit permutation) =
    let p = place_in w.sender.config permutation in
    cond (is_done (transmit_of w.sender body time commit permutation w.slots).result.answer && waits w.sender.config p)
    (record { time = due_at w.sender time p; report = attested_in body } ∷ [])
    []
queued_by w (expires time commit) = []

-- what a call removes from the queue
abbrev pub removed_by : Whole → Call → List Waiting
removed_by w (transmits body time commit permutation) = []
removed_by w (expires time commit) =
    let slot = earliest w.sender w.slots in
    cond (is_done (timeout_of w.sender time commit w.slots).answer)
    (record { time = time_of w.sender slot; report = report_in w.slots slot } ∷ [])
    []

-- the report that a call hands out, if it does
abbrev pub handed_by : Whole → Call → List Attested
handed_by w (transmits body time commit permutation) = []
handed_by w (expires time commit) = report_of (handed_part (timeout_of w.sender time commit w.slots).handed w.slots)

-- all that a history has wait, and removes
unfoldable pub queued_in : Whole → List Call → List Waiting
queued_in w [] = []
queued_in w (call ∷ calls) = queued_by w call ++ queued_in (after w call) calls

unfoldable pub removed_in : Whole → List Call → List Waiting
removed_in w [] = []
removed_in w (call ∷ calls) = removed_by w call ++ removed_in (after w call) calls
