-- What the checks of a call leave to its rule.
use Rattle.std.specs.Prelude.{◌≡◌, true, List, ℕ, ◌≤◌, ◌<◌, length}
use Rattle.config.specs.Limits.{last_time, slots, waiting_size}
use Rattle.config.specs.Bounds.{good_config}
use Rattle.config.specs.Answers.{Done}
use Rattle.frame.specs.Check.{body_answer}
use Rattle.sender.specs.declared.Sender.{Sender}
use Rattle.sender.specs.Stage.{waits}
use Rattle.sender.specs.Waiting.{earliest, free_in}

-- a transmission: a configuration and a body in range, room for the slots, and a free one where the report is to wait
pub record Passed (s : Sender) (body : List ℕ) (time place : ℕ) (waiting : List ℕ) : Type 0 where
  pub config : good_config s.config ≡ true
  pub body_good : body_answer s.config.n 6 body ≡ Done
  pub time_good : time ≤ last_time
  pub room : waiting_size ≤ length waiting
  pub free : waits s.config place ≡ true → free_in s.taken < slots

-- a timeout: a report waits
pub record Due (s : Sender) (waiting : List ℕ) : Type 0 where
  pub room : waiting_size ≤ length waiting
  pub some : earliest s waiting < slots
