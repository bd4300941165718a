-- Checks that stand one after another: where what comes of them is DONE, each was passed. What a check hands on may be an answer, or hold more beside it:
-- `says` is the answer in it.
use mathlib.Core.Bool.{Bool, true, false, not, cond, false≢true}
use mathlib.Core.Path.{◌≡◌, refl, sym, ap, ◌∙◌}
use Rattle.config.specs.Codes.{is_done}
use Rattle.config.specs.Answers.{Answer, Done}
use Rattle.config.proofs.Facts.{done_only}

-- where an answer is handed on, and nothing beside it
abbrev pub itself : Answer → Answer
itself a = a

module _ {A : Type 0} (says : A → Answer) where
  -- a check that refuses where its test holds
  pub stage_passed : (test : Bool) (refusal rest : A) → is_done (says refusal) ≡ false → is_done (says (cond test refusal rest)) ≡ true → (test ≡ false) × (is_done (says rest) ≡ true)
  stage_passed true refusal rest n e = absurd (false≢true (sym n ∙ e))
  stage_passed false refusal rest n e = (refl, e)

  -- a check whose own answer is handed on unless it is DONE
  pub answer_passed : (said : Answer) (refusal rest : A) → says refusal ≡ said → is_done (says (cond (not (is_done said)) refusal rest)) ≡ true → (said ≡ Done) × (is_done (says rest) ≡ true)
  answer_passed said refusal rest same h = go (is_done said) refl h
    where
      go : (b : Bool) → is_done said ≡ b → is_done (says (cond (not b) refusal rest)) ≡ true → (said ≡ Done) × (is_done (says rest) ≡ true)
      go true e g = (done_only said e, g)
      go false e g = absurd (false≢true (sym e ∙ ap is_done (sym same) ∙ g))

  -- a call that its checks decide answers what they answer
  pub answer_told : (said : Answer) (accepted refusal : A) → says accepted ≡ Done → says refusal ≡ said → says (cond (is_done said) accepted refusal) ≡ said
  answer_told said accepted refusal done same = go (is_done said) refl
    where
      go : (b : Bool) → is_done said ≡ b → says (cond b accepted refusal) ≡ said
      go true e = done ∙ sym (done_only said e)
      go false e = same
