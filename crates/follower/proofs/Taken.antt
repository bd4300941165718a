-- What it tells of a message that a follower takes it: its conditions, one by one.
use mathlib.Core.Path.{◌≡◌}
use mathlib.Core.List.{List}
use mathlib.Core.Bool.{true, false, not, false≢true}
use Prim.Native.Nat.{ℕ, ◌-◌, ◌<◌}
use borrow.Author.Tests.{eqb-true, ltb-true, not-true}
use lib.Dec.{eqb, ltb}
use Rattle.config.proofs.Facts.{and-true, and_five}
use Rattle.quorum.specs.Marks.{marked}
use Rattle.frame.specs.Message.{Signed, Attested, Message, new_epoch, observe_req, observe, report_req, report, final, final_echo}
use Rattle.follower.specs.declared.Follower.{Follower}
use Rattle.follower.specs.State.{is_set}
use Rattle.follower.specs.Takes.{current, takes}

module _ (s : Follower) (epoch leader j : ℕ) where
  -- "the message's epoch to be current and the instance not halted"
  pub record Current (e : ℕ) : Type 0 where
    pub live : is_set s.live ≡ true
    pub same : e ≡ epoch

  current_facts : (e : ℕ) → current s epoch e ≡ true → Current e
  current_facts e h = let p = and-true (is_set s.live) (eqb e epoch) h in record { live = p.0; same = eqb-true e epoch p.1 }

  pub record Request (e r : ℕ) : Type 0 where
    pub current : Current e
    pub from_leader : j ≡ leader
    pub later : s.round < r

  pub taken_request : (e r : ℕ) → takes s epoch leader j (observe_req e r) ≡ true → Request e r
  taken_request e r h =
      let p = and_five true true (current s epoch e) (eqb j leader) (ltb s.round r) h in
      record { current = current_facts e p.2; from_leader = eqb-true _ _ p.3; later = ltb-true _ _ p.4 }

  pub record Report (a : Attested) : Type 0 where
    pub current : Current a.epoch
    pub round : a.round ≡ s.round

  pub taken_final : (a : Attested) → takes s epoch leader j (final a) ≡ true → Report a × (is_set s.kept ≡ false)
  taken_final a h =
      let p = and_five true (current s epoch a.epoch) (eqb j leader) (eqb a.round s.round) (not (is_set s.kept)) h in
      (record { current = current_facts a.epoch p.1; round = eqb-true _ _ p.3 }, not-true _ p.4)

  pub taken_echo : (a : Attested) → takes s epoch leader j (final_echo a) ≡ true → Report a × (marked s.marks (j - 1) ≡ false) × (is_set s.completed ≡ false)
  taken_echo a h =
      let p = and_five true (current s epoch a.epoch) (eqb a.round s.round) (not (marked s.marks (j - 1))) (not (is_set s.completed)) h in
      (record { current = current_facts a.epoch p.1; round = eqb-true _ _ p.2 }, not-true _ p.3, not-true _ p.4)

  -- "REPORT-REQ from the leader, this round, none signed, not completed"
  pub record Listing (e r : ℕ) : Type 0 where
    pub current : Current e
    pub from_leader : j ≡ leader
    pub round : r ≡ s.round
    pub unsigned : is_set s.signed ≡ false
    pub still_open : is_set s.completed ≡ false

  pub taken_list : (e r : ℕ) (xs : List Signed) → takes s epoch leader j (report_req e r xs) ≡ true → Listing e r
  taken_list e r xs h =
      let p = and_five (current s epoch e) (eqb j leader) (eqb r s.round) (not (is_set s.signed)) (not (is_set s.completed)) h in
      record { current = current_facts e p.0; from_leader = eqb-true _ _ p.1; round = eqb-true _ _ p.2; unsigned = not-true _ p.3; still_open = not-true _ p.4 }

  -- whatever it is, the instance is not halted
  pub taken_live : (m : Message) → takes s epoch leader j m ≡ true → is_set s.live ≡ true
  taken_live (observe_req e r) h = (taken_request e r h).current.live
  taken_live (report_req e r xs) h = (taken_list e r xs h).current.live
  taken_live (final a) h = (taken_final a h).0.current.live
  taken_live (final_echo a) h = (taken_echo a h).0.current.live
  taken_live (new_epoch e) h = absurd (false≢true h)
  taken_live (observe e r v g) h = absurd (false≢true h)
  taken_live (report e r xs g) h = absurd (false≢true h)
