-- Which answers a call can end with: every test of its checks hands on one of two answers, and both are listed.
use mathlib.Core.Path.{◌≡◌}
use mathlib.Core.Bool.{Bool, true, false, not, cond}
use mathlib.Core.List.{List}
use Prim.Native.Nat.{ℕ}
use Rattle.config.specs.Codes.{number_of}
use Rattle.config.specs.Answers.{Answer}
use Rattle.config.specs.Answers.{Done, Length, Range}
use Rattle.quorum.specs.First.{among}
use Rattle.frame.specs.Decode.{message_of}
use Rattle.frame.specs.Range.{good_message}
use Rattle.frame.specs.Check.{good_length, body_answer}

abbrev pub In : List ℕ → Answer → Type 0
In l a = among (number_of a) l ≡ true

pub either_in : (l : List ℕ) (t : Bool) (a b : Answer) → In l a → In l b → In l (cond t a b)
either_in l true a b p q = p
either_in l false a b p q = q

-- a body's checks end with one of three answers
pub body_in_lem : (l : List ℕ) (n kind : ℕ) (b : List ℕ) → In l Length → In l Range → In l Done → In l (body_answer n kind b)
unfolding body_answer
body_in_lem l n kind b length range done =
    either_in l (not (good_length kind b)) Length _ length (either_in l (not (good_message n (message_of kind b))) Range Done range done)
