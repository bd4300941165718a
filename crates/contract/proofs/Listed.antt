-- Each call ends with an answer that document 01 lists for it.
use mathlib.Core.Path.{refl}
use mathlib.Core.Bool.{Bool, true, false, not, cond}
use mathlib.Core.List.{List, [], ◌∷◌}
use Prim.Native.Nat.{ℕ, ◌+◌}
use lib.Dec.{ltb}
use lib.ListN.{length}
use Rattle.std.specs.Prelude.{Ok, Err}
use Rattle.config.specs.Limits.{most_deposits}
use Rattle.config.specs.Bounds.{good_own, good_time}
use Rattle.config.specs.Codes.{number_of}
use Rattle.config.specs.Answers.{Answer}
use Rattle.config.specs.Answers as answer
use Rattle.frame.specs.Message.{Attested}
use Rattle.frame.specs.Decode.{attested_in}
use Rattle.frame.specs.Check.{body_answer}
use Rattle.report.specs.declared.Fault.TheVariants.{Few, Falling, Twice, TooFewSigners, SignerTwice, ClearBit}
use Rattle.report.specs.Faults.{Standing}
use Rattle.report.specs.Stands.{attested_fault}
use Rattle.report.specs.Newer.{newer}
use Rattle.report.proofs.Listed.{In, either_in, body_in_lem}
use Rattle.contract.specs.declared.Contract.{Contract}
use Rattle.contract.specs.State.{good_terms, good_contract}
use Rattle.contract.specs.Calls.{made_of, cost, Checked, answer_of, after_report, unless_wrong, unless_refused, after_old, after_range, refusal_of, submitted_of, deposit_answer, deposited_of, withdraw_answer, withdrawn_of}
use Rattle.contract.specs.History.{Call, submits, deposits, withdraws}
use Rattle.contract.specs.Claims.{answered, listed, AnswersAreListed}

-- ---- a submission

module _ (body : List ℕ) (transmitter time bits : ℕ) where
  abbrev all : List ℕ
  all = listed (submits body transmitter time bits)

  abbrev Says : Checked → Type 0
  Says r = In all (answer_of r)

  either_says : (t : Bool) (x y : Checked) → Says x → Says y → Says (cond t x y)
  either_says true x y p q = p
  either_says false x y p q = q

  fault_in : (x : Standing) (later : Checked) → Says later → Says (unless_wrong x later)
  unfolding number_of
  fault_in (Ok tt) later p = p
  fault_in (Err Few) later p = refl
  fault_in (Err Falling) later p = refl
  fault_in (Err Twice) later p = refl
  fault_in (Err TooFewSigners) later p = refl
  fault_in (Err (SignerTwice i)) later p = refl
  fault_in (Err (ClearBit i)) later p = refl

  refused_in : (said : Answer) (later : Checked) → In all said → Says later → Says (unless_refused said later)
  refused_in (Ok tt) later p q = q
  refused_in (Err r) later p q = p

  range_in : (c : Contract) (a : Attested) → Says (after_range c a transmitter bits)
  unfolding number_of after_range after_old after_report
  range_in c a =
      either_says (not (newer a.epoch a.round c.commit.epoch c.commit.round)) _ _ refl
      (fault_in (attested_fault c.terms.f bits a) _
      (either_says (not (good_own c.terms.n transmitter)) _ _ refl (either_says (ltb c.ledger.fund (cost c.terms (length a.list))) _ _ refl refl)))

  refusal_in : (c : Contract) → Says (refusal_of c body transmitter time bits)
  unfolding number_of refusal_of
  refusal_in c =
      either_says (not (good_contract c)) _ _ refl
      (refused_in (body_answer c.terms.n 6 body) _ (body_in_lem all c.terms.n 6 body refl refl refl)
      (either_says (not (good_time time)) _ _ refl (range_in c (attested_in body))))

-- ---- all of them

call_in : (c : Contract) (call : Call) → In (listed call) (answered c call)
unfolding number_of submitted_of deposited_of deposit_answer withdrawn_of withdraw_answer
call_in c (submits body transmitter time bits) = refusal_in body transmitter time bits c
call_in c (deposits amount) =
    let l = listed (deposits amount) in
    either_in l (not (good_contract c)) _ _ refl (either_in l (ltb most_deposits (c.ledger.deposits + amount)) _ _ refl refl)
call_in c (withdraws member) =
    let l = listed (withdraws member) in
    either_in l (not (good_contract c)) _ _ refl (either_in l (not (good_own c.terms.n member)) _ _ refl refl)

pub answers_are_listed : AnswersAreListed
unfolding number_of made_of
answers_are_listed c call t = record { call_listed = call_in c call; fresh = either_in (0 ∷ 12 ∷ []) (good_terms t) answer.Done answer.Config refl refl }
