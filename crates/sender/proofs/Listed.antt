-- Each call ends with an answer that document 01 lists for it.
use mathlib.Core.Path.{refl}
use mathlib.Core.Bool.{not, ◌&&◌}
use mathlib.Core.List.{List, [], ◌∷◌}
use Prim.Native.Nat.{ℕ}
use lib.Dec.{eqb}
use Rattle.config.specs.Limits.{slots}
use Rattle.config.specs.Bounds.{good_config, good_time, good_commit}
use Rattle.config.specs.Codes.{number_of, is_done}
use Rattle.config.specs.Answers as answer
use Rattle.config.specs.declared.Commit.{Commit}
use Rattle.frame.specs.Message.{Attested}
use Rattle.frame.specs.Decode.{attested_in}
use Rattle.frame.specs.Check.{body_answer}
use Rattle.report.proofs.Listed.{In, either_in, body_in_lem}
use Rattle.sender.specs.declared.Sender.{Sender}
use Rattle.sender.specs.State.{roomy, good_sender}
use Rattle.sender.specs.Stage.{permutes, place_in, waits}
use Rattle.sender.specs.Waiting.{free_in}
use Rattle.sender.specs.Calls.{made_of, median_in, after_similar, similar, old, after_config, after_body, transmit_answer, early, timeout_answer}
use Rattle.sender.specs.History.{Whole, Call, transmits, expires}
use Rattle.sender.specs.Claims.{answered, listed, AnswersAreListed}
use Rattle.sender.proofs.Facts.{transmit_told, timeout_told}

-- ---- a transmission

module _ (body : List ℕ) (time : ℕ) (commit : Commit) (permutation : List ℕ) where
  abbrev all : List ℕ
  all = listed (transmits body time commit permutation)

  config_in_lem : (s : Sender) (a : Attested) (p : ℕ) → In all (after_config s commit a p)
  unfolding number_of after_config after_similar
  config_in_lem s a p =
      either_in all (old s commit a) _ _ refl
      (either_in all (similar s commit (median_in a)) _ _ refl (either_in all (waits s.config p && eqb (free_in s.taken) slots) _ _ refl refl))

  transmit_in : (s : Sender) (waiting : List ℕ) → In all (transmit_answer s body time commit permutation waiting)
  unfolding number_of transmit_answer after_body
  transmit_in s waiting =
      either_in all (not (good_sender s waiting)) _ _ refl
      (either_in all (not (roomy waiting)) _ _ refl
      (either_in all (not (is_done (body_answer s.config.n 6 body))) _ _ (body_in_lem all s.config.n 6 body refl refl refl)
      (either_in all (not (good_time time && good_commit commit)) _ _ refl
      (either_in all (not (permutes s.config.n permutation)) _ _ refl (config_in_lem s (attested_in body) (place_in s.config permutation))))))

-- ---- its timeout

timeout_in : (time : ℕ) (commit : Commit) (s : Sender) (waiting : List ℕ) → In (listed (expires time commit)) (timeout_answer s time commit waiting)
unfolding number_of timeout_answer
timeout_in time commit s waiting =
    let l = listed (expires time commit) in
    either_in l (not (good_sender s waiting)) _ _ refl
    (either_in l (not (roomy waiting)) _ _ refl
    (either_in l (not (good_time time && good_commit commit)) _ _ refl (either_in l (early s time waiting) _ _ refl refl)))

-- ---- all of them

call_in : (w : Whole) (call : Call) → In (listed call) (answered w call)
call_in w (transmits body time commit permutation) =
    rw (transmit_told w.sender body time commit permutation w.slots, answered) (transmit_in body time commit permutation w.sender w.slots)
call_in w (expires time commit) = rw (timeout_told w.sender time commit w.slots, answered) (timeout_in time commit w.sender w.slots)

pub answers_are_listed : AnswersAreListed
unfolding number_of made_of
answers_are_listed w call c = record { call_listed = call_in w call; fresh = either_in (0 ∷ 12 ∷ []) (good_config c) answer.Done answer.Config refl refl }
