-- What a FINAL body that passed LENGTH and RANGE holds for a contract: a whole report, of observations by its members.
use mathlib.Core.List.{List}
use mathlib.Core.Path.{◌≡◌}
use Prim.Native.Nat.{ℕ, ◌<◌}
use native.Mathlib.Omega.{arith}
use lib.ListN.{length, get_or, get_or-map}
use Rattle.config.specs.Answers.{Done}
use Rattle.frame.specs.Message.{Observation, no_observation}
use Rattle.frame.specs.Table.{shape_of}
use Rattle.frame.specs.Decode.{count_in, observations_in, ListIn}
use Rattle.frame.specs.Check.{body_answer}
use Rattle.frame.proofs.Ranges.{OneTo}
use Rattle.frame.proofs.Checked.{checked_final}
use Rattle.report.specs.Whole.{WholeReport}
use Rattle.contract.proofs.Fees.{listed_in, listed_count}

-- the member at place i of the list, as it is read
pub listed_said : (body : List ℕ) (i : ℕ) → get_or (listed_in body) i 0 ≡ (get_or (observations_in (shape_of 6).entry body) i no_observation).member
listed_said body i = get_or-map (λ (o : Observation). o.member) (observations_in (shape_of 6).entry body) i no_observation

module _ (n : ℕ) (body : List ℕ) (e : body_answer n 6 body ≡ Done) where
  pub whole_report : WholeReport body
  whole_report = record { within = omega (arith, (checked_final n body e).whole) }

  pub some_listed : 0 < count_in body
  some_listed = omega (arith, (checked_final n body e).list.count)

  pub listed_entry : (i : ℕ) → i < count_in body → ListIn (shape_of 6).entry i body
  listed_entry i known = (checked_final n body e).list.entry i known

  pub listed_each : (i : ℕ) → i < length (listed_in body) → OneTo n (get_or (listed_in body) i 0)
  listed_each i known =
      let long = listed_count body in
      let o = (checked_final n body e).list.each i (omega arith) in
      rw (listed_said body i) o
