-- What happens to a node, and what comes of it.
use Rattle.std.specs.Prelude.{◌≡◌, List, ℕ, ◌≤◌, ◌<◌, ℤ, cond, eqb, Result, MatchResult}
use Rattle.config.specs.Answers.{Answer}
use Rattle.config.specs.declared.Commit.{Commit}
use Rattle.frame.specs.Message.{Message}
use Rattle.follower.specs.declared.Handed.{Handed}
use Rattle.node.specs.declared.Node.{Node}
use Rattle.node.specs.declared.Arrival.{Arrival}
use Rattle.node.specs.declared.Fired.{Fired}
use Rattle.node.specs.declared.Fired.TheVariants.{Resend, Progress, Round, Grace}
use Rattle.node.specs.declared.NoTimer.{NoTimer}
use Rattle.node.specs.declared.Timers.{Timers}

-- a node with the buffers that are its own: the kept report, and the leader's signatures
pub record Whole : Type 0 where
  pub node : Node
  pub kept : List ℕ
  pub signatures : List ℕ

abbrev pub whole : Node → List ℕ → List ℕ → Whole
whole n kept signatures = record { node = n; kept = kept; signatures = signatures }

-- "With each delivery it gives the member number of the link, the time, its own observation, the contract's last commit .. and verdict bits."
pub record Delivery : Type 0 where
  pub link : ℕ
  pub time : ℕ
  pub observation : ℤ
  pub commit : Commit
  pub bits : ℕ
  pub frame : List ℕ

abbrev pub delivery : ℕ → ℕ → ℤ → Commit → ℕ → List ℕ → Delivery
delivery link time observation commit bits frame =
    record { link = link; time = time; observation = observation; commit = commit; bits = bits; frame = frame }

-- what the host hands over with a delivery
abbrev pub delivery_of : Arrival → Delivery
delivery_of a = delivery a.link a.time a.observation a.commit a.bits a.frame.now

-- which timer has fired: 0 T_resend, 1 T_progress, 2 T_round, 3 T_grace; asked of these four alone
abbrev pub fired_of : ℕ → Fired
fired_of timer = cond (eqb timer 0) Resend (cond (eqb timer 1) Progress (cond (eqb timer 2) Round Grace))

-- whether this is what a number names: one of the four, or none
abbrev pub Names : ℕ → Result Fired NoTimer → Type 0
Names timer named = MatchResult named (λ fired. (timer ≤ 3) × (fired ≡ fired_of timer)) (λ _. 3 < timer)

-- Start at a time, a delivery, or a timer that fires at a time
pub data Event : Type 0 where
  starts : ℕ → Event
  delivers : Delivery → Event
  fires : Fired → ℕ → Event

-- what a rule comes to: the new state with its buffers, the messages sent in their order, what becomes of the timers, and the report handed out
pub record Effect : Type 0 where
  pub whole_after : Whole
  pub sent : List Message
  pub timers : Timers
  pub handed : Handed

-- "Only code 0 changes anything."
pub data Step : Type 0 where
  refused : Answer → Step
  done : Effect → Step
