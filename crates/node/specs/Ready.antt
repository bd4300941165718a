-- What the checks of a call leave to its rule, and what a rule leaves in the outbox.
use Rattle.std.specs.Prelude.{◌≡◌, true, false, ◌⊎◌, List, ℕ, ◌+◌, ◌≤◌, length}
use Rattle.config.specs.Limits.{outbox_size, kept_size, signatures_size}
use Rattle.config.specs.Bounds.{good_config}
use Rattle.config.specs.Answers.{Done}
use Rattle.config.specs.declared.Config.{Config}
use Rattle.wire.specs.Overlay.{over}
use Rattle.frame.specs.Message.{Message}
use Rattle.frame.specs.Decode.{count_in, signer_count_in, attested_in, message_in}
use Rattle.frame.specs.Range.{good_attested}
use Rattle.frame.specs.Check.{body_answer, frame_answer}
use Rattle.outbox.specs.Written.{Fits}
use Rattle.follower.specs.declared.Reply.{Reply}
use Rattle.follower.specs.declared.Reply.TheVariants as reply
use Rattle.follower.specs.State.{is_set}
use Rattle.leader.specs.declared.Leader.{Leader}
use Rattle.leader.specs.declared.Asking.{Asking}
use Rattle.leader.specs.declared.Asking.TheVariants as asking
use Rattle.leader.specs.Listed.{order, lowest_signers}
use Rattle.node.specs.declared.Node.{Node}
use Rattle.node.specs.Answers.{past_last}
use Rattle.node.specs.Calls.{frames_of}

-- the lent buffers have their sizes
pub record Room (outbox : List ℕ) (at : ℕ) (kept signatures : List ℕ) : Type 0 where
  pub from : at + outbox_size ≤ length outbox
  pub report : kept_size ≤ length kept
  pub signed : signatures_size ≤ length signatures

-- a body of this kind that a member sent, and that passed LENGTH and RANGE
pub record Sound (c : Config) (j kind : ℕ) (body : List ℕ) : Type 0 where
  pub config : good_config c ≡ true
  pub kind_first : 1 ≤ kind
  pub kind_last : kind ≤ 7
  pub body_good : body_answer c.n kind body ≡ Done
  pub member_first : 1 ≤ j
  pub member_last : j ≤ c.n

-- a delivery that no check refuses, and a kept report in range
pub record Taken (n : Node) (link : ℕ) (frame kept : List ℕ) : Type 0 where
  pub config : good_config n.config ≡ true
  pub frame_good : frame_answer frame n.config.n n.config.number link ≡ Done
  pub not_past : past_last n (message_in frame) ≡ false
  pub held : is_set n.follower.kept ≡ true → good_attested n.config.n (attested_in kept) ≡ true

-- the frames of these messages were laid over the outbox from the position on, and this is how long they are
pub record WroteAll (c : Config) (ms : List Message) (outbox : List ℕ) (at : ℕ) (exit : List ℕ) (r : ℕ) : Type 0 where
  pub frames : exit ≡ over outbox at (frames_of c ms)
  pub long : r ≡ length (frames_of c ms)

-- what the leader asks for has room at the position
abbrev pub AskingFits : Config → Leader → Asking → List ℕ → ℕ → Type 0
AskingFits c l asking.Nothing outbox at = Unit {0}
AskingFits c l asking.Observations outbox at = Fits 2 0 0 outbox at
AskingFits c l asking.Reports outbox at = Fits 4 (length (order c.n l.observed l.values)) 0 outbox at
AskingFits c l asking.Final outbox at =
    Fits 6 (length (order c.n l.observed l.values)) (length (lowest_signers c.n c.f l)) outbox at

-- which kinds a reply answers
abbrev pub Answers : Reply → ℕ → Type 0
Answers reply.Nothing kind = Unit {0}
Answers reply.Observe kind = kind ≡ 2
Answers reply.Report kind = kind ≡ 4
Answers reply.Echo kind = (kind ≡ 6) ⊎ (kind ≡ 7)

-- a reply to a body has room at the position
abbrev pub ReplyFits : Reply → List ℕ → List ℕ → ℕ → Type 0
ReplyFits reply.Nothing body outbox at = Unit {0}
ReplyFits reply.Observe body outbox at = Fits 3 0 0 outbox at
ReplyFits reply.Report body outbox at = Fits 5 (count_in body) 0 outbox at
ReplyFits reply.Echo body outbox at = Fits 7 (count_in body) (signer_count_in body) outbox at
