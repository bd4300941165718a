-- Document 01, "Codes": the number of each answer.
use Rattle.std.specs.Prelude.{Ok, Err, Bool, cond, ℕ}
use Rattle.std.specs.Result.{is_ok}
use Rattle.config.specs.Answers.{Answer, Done, Config}
use Rattle.config.specs.declared.Refusal.TheVariants as refusal

unfoldable pub number_of : Answer → ℕ
number_of (Ok done) = 0
number_of (Err refusal.Ignored) = 1
number_of (Err refusal.State) = 2
number_of (Err refusal.Room) = 3
number_of (Err refusal.Short) = 4
number_of (Err refusal.Version) = 5
number_of (Err refusal.Kind) = 6
number_of (Err refusal.Sender) = 7
number_of (Err refusal.Length) = 8
number_of (Err refusal.Range) = 9
number_of (Err refusal.Proof) = 10
number_of (Err refusal.End) = 11
number_of (Err refusal.Config) = 12
number_of (Err refusal.Old) = 13
number_of (Err refusal.Few) = 14
number_of (Err refusal.Order) = 15
number_of (Err refusal.Twice) = 16
number_of (Err refusal.Signers) = 17
number_of (Err refusal.Funds) = 18
number_of (Err refusal.Similar) = 19
number_of (Err refusal.Queue) = 20

-- "Making a fresh state: 12", where what it is made of is out of range
abbrev pub making : Bool → Answer
making good = cond good Done Config

-- "Only code 0 changes anything"
abbrev pub is_done : Answer → Bool
is_done a = is_ok a
