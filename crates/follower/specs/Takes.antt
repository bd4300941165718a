-- Document 01, "A round", Follower: which messages a follower takes, and what is wrong with one that it takes.
use Rattle.std.specs.Prelude.{Bool, false, not, cond, ◌&&◌, map, ℕ, ◌-◌, eqb, ltb, length, Result, Ok, Err}
use Rattle.config.specs.Answers.{Answer}
use Rattle.config.specs.Answers as answer
use Rattle.quorum.specs.Marks.{marked}
use Rattle.frame.specs.Message.{Signed, Message, new_epoch, observe_req, observe, report_req, report, final, final_echo}
use Rattle.report.specs.Faults.{Standing, Nothing, first_fault}
use Rattle.report.specs.Stands.{list_fault, bits_fault, attested_fault}
use Rattle.follower.specs.declared.Follower.{Follower}
use Rattle.follower.specs.declared.Objection.{Objection}
use Rattle.follower.specs.declared.Objection.TheVariants as objection
use Rattle.follower.specs.State.{is_set}

-- how one round stands to another: 0 below it, 1 the same, 2 above it
abbrev pub relation_of : ℕ → ℕ → ℕ
relation_of r own = cond (ltb r own) 0 (cond (eqb r own) 1 2)

-- "Every rule needs the message's epoch to be current and the instance not halted."
abbrev pub current : Follower → ℕ → ℕ → Bool
current s epoch e = is_set s.live && eqb e epoch

-- the conditions of each rule, in an epoch led by `leader`, for a message that came from member j
abbrev pub takes : Follower → ℕ → ℕ → ℕ → Message → Bool
-- "OBSERVE-REQ from the leader with a higher round"
takes s epoch leader j (observe_req e r) = current s epoch e && eqb j leader && ltb s.round r
-- "REPORT-REQ from the leader, this round, none signed, not completed"
takes s epoch leader j (report_req e r xs) = current s epoch e && eqb j leader && eqb r s.round && not (is_set s.signed) && not (is_set s.completed)
-- "FINAL from the leader, this round, nothing kept"
takes s epoch leader j (final a) = current s epoch a.epoch && eqb j leader && eqb a.round s.round && not (is_set s.kept)
-- "FINAL-ECHO from j, this round, none from j yet, not completed"
takes s epoch leader j (final_echo a) = current s epoch a.epoch && eqb a.round s.round && not (marked s.marks (j - 1)) && not (is_set s.completed)
-- the other kinds are not a follower's
takes s epoch leader j (new_epoch e) = false
takes s epoch leader j (observe e r v g) = false
takes s epoch leader j (report e r xs g) = false

-- what is wrong, which is PROOF. "m > 2f, members distinct, values not falling, all bits set", and "checks 14 to 17"
abbrev pub fault_of : ℕ → ℕ → Message → Standing
fault_of f bits (observe_req e r) = Nothing
fault_of f bits (report_req e r xs) = first_fault (list_fault f (map (λ (x : Signed). x.said) xs)) (bits_fault bits (length xs))
fault_of f bits (final a) = attested_fault f bits a
fault_of f bits (final_echo a) = attested_fault f bits a
fault_of f bits (new_epoch e) = Nothing
fault_of f bits (observe e r v g) = Nothing
fault_of f bits (report e r xs g) = Nothing

-- what is said of a message: that it is taken, or why it is not
abbrev pub Finding : Type 0
Finding = Result (Unit {0}) Objection

abbrev pub Taken : Finding
Taken = Ok tt

abbrev pub Ignored : Finding
Ignored = Err objection.Ignored

-- taken, unless this is wrong with it
abbrev pub wrong_or_taken : Standing → Finding
wrong_or_taken (Ok stands) = Taken
wrong_or_taken (Err x) = Err (objection.Wrong x)

-- IGNORED: "a well-formed message whose rule's conditions fail"; PROOF: "conditions hold, check fails"
unfoldable pub finding_of : Follower → ℕ → ℕ → ℕ → ℕ → ℕ → Message → Finding
finding_of s f epoch leader j bits m = cond (takes s epoch leader j m) (wrong_or_taken (fault_of f bits m)) Ignored

abbrev pub answer_of : Finding → Answer
answer_of (Ok taken) = answer.Done
answer_of (Err objection.Ignored) = answer.Ignored
answer_of (Err (objection.Wrong x)) = answer.Proof
