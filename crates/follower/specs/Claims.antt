-- What a reader may quote of the follower: each claim is a type, proved in `proofs/Claims.antt`.
use Rattle.std.specs.Prelude.{◌≡◌, true, false, cond, List, map, ℕ, suc, ◌≤◌, length}
use Rattle.config.specs.declared.Config.{Config}
use Rattle.config.specs.declared.Commit.{Commit}
use Rattle.quorum.specs.First.{all_set}
use Rattle.quorum.specs.Marks.{marked}
use Rattle.frame.specs.Message.{Signed, Attested, Message, new_epoch, observe_req, observe, report_req, report, final, final_echo}
use Rattle.frame.specs.Encode.{attested_bytes}
use Rattle.report.specs.Faults as fault
use Rattle.report.specs.Stands.{list_fault, attested_fault}
use Rattle.report.specs.Kept.{keeping, cleared}
use Rattle.follower.specs.declared.Follower.{Follower}
use Rattle.follower.specs.declared.Reply.TheVariants as reply
use Rattle.follower.specs.State.{good_follower}
use Rattle.follower.specs.Takes.{finding_of, Taken}
use Rattle.follower.specs.Rules.{marked_by, requests, follow_of, kept_of}

-- the report that a message carries, where it carries one
abbrev pub Carries : Message → Attested → Type 0
Carries (final b) a = b ≡ a
Carries (final_echo b) a = b ≡ a
Carries (new_epoch e) a = ⊥
Carries (observe_req e r) a = ⊥
Carries (observe e r v g) a = ⊥
Carries (report_req e r xs) a = ⊥
Carries (report e r xs g) a = ⊥

-- What is put into the kept buffer passed the checks in that call: where a taken message is echoed, it carries a report that stands, and
-- the buffer then holds it.
pub record KeptAndChecked (s : Follower) (f bits : ℕ) (kept : List ℕ) (m : Message) : Type 0 where
  pub kept_report : Attested
  pub carried : Carries m kept_report
  pub stands : attested_fault f bits kept_report ≡ fault.Nothing
  pub buffer : kept_of s kept m ≡ keeping kept (attested_bytes kept_report)

abbrev pub KeptWasChecked : Type 0
KeptWasChecked =
    (c : Config) (s : Follower) (epoch leader j bits time : ℕ) (commit : Commit) (kept : List ℕ) (m : Message) → finding_of s c.f epoch leader j bits m ≡ Taken → (follow_of c s j time commit m).reply ≡ reply.Echo → KeptAndChecked s c.f bits kept m

-- the list that a message asks to be reported, with signatures
abbrev pub Asks : Message → List Signed → Type 0
Asks (report_req e r xs) ys = xs ≡ ys
Asks (new_epoch e) ys = ⊥
Asks (observe_req e r) ys = ⊥
Asks (observe e r v g) ys = ⊥
Asks (report e r xs g) ys = ⊥
Asks (final a) ys = ⊥
Asks (final_echo a) ys = ⊥

-- A REPORT is sent only for a list with every bit set, more than 2f entries, distinct members and values that do not fall.
pub record ListWasChecked (f bits : ℕ) (m : Message) : Type 0 where
  pub list : List Signed
  pub asked : Asks m list
  pub stands : list_fault f (map (λ (x : Signed). x.said) list) ≡ fault.Nothing
  pub bits_set : all_set bits (length list) ≡ true

abbrev pub ReportedWasChecked : Type 0
ReportedWasChecked =
    (c : Config) (s : Follower) (epoch leader j bits time : ℕ) (commit : Commit) (m : Message) → finding_of s c.f epoch leader j bits m ≡ Taken → (follow_of c s j time commit m).reply ≡ reply.Report → ListWasChecked c.f bits m

-- A FINAL-ECHO that is taken from one of the n members counts for one, and after it no other is taken from that member, whatever it says.
pub record CountedOnce (c : Config) (s : Follower) (j time : ℕ) (commit : Commit) (a : Attested) : Type 0 where
  pub one : marked_by c.n (follow_of c s j time commit (final_echo a)).follower ≡ suc (marked_by c.n s)
  pub never_again : (epoch leader bits : ℕ) (b : Attested) → finding_of (follow_of c s j time commit (final_echo a)).follower c.f epoch leader j bits (final_echo b) ≡ Taken → ⊥

abbrev pub EchoCountsOnce : Type 0
EchoCountsOnce =
    (c : Config) (s : Follower) (epoch leader j bits time : ℕ) (commit : Commit) (a : Attested) → 1 ≤ j → j ≤ c.n → c.n ≤ length s.marks → finding_of s c.f epoch leader j bits (final_echo a) ≡ Taken → CountedOnce c s j time commit a

-- And a mark stays until the round changes: no message but an OBSERVE-REQ takes one away.
abbrev pub MarksStay : Type 0
MarksStay =
    (c : Config) (s : Follower) (j time place : ℕ) (commit : Commit) (m : Message) → requests m ≡ false → marked s.marks place ≡ true → marked (follow_of c s j time commit m).follower.marks place ≡ true

-- A taken message that is not echoed leaves the kept buffer as it was, or clears it.
abbrev pub KeptNothingElse : Type 0
KeptNothingElse =
    (c : Config) (s : Follower) (epoch leader j bits time : ℕ) (commit : Commit) (kept : List ℕ) (m : Message) → finding_of s c.f epoch leader j bits m ≡ Taken → ((follow_of c s j time commit m).reply ≡ reply.Echo → ⊥) → kept_of s kept m ≡ cond (requests m) (cleared kept) kept

-- Every rule keeps a state in range.
abbrev pub GoodStaysGood : Type 0
GoodStaysGood =
    (c : Config) (s : Follower) (j time : ℕ) (commit : Commit) (m : Message) → good_follower s ≡ true → good_follower (follow_of c s j time commit m).follower ≡ true
