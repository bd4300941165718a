-- The claims of specs/Claims.antt, each proved, and for each an instance that computes, with n = 4 and f = 1.
use mathlib.Core.Path.{◌≡◌, refl, ap, sym, ◌∙◌}
use mathlib.Core.Bool.{Bool, true, false, cond, ◌&&◌}
use mathlib.Core.List.{List, [], ◌∷◌}
use Prim.Native.Nat.{ℕ, zero, suc, ◌-◌, ◌*◌, ◌≤◌, ◌<◌, max, zero-le}
use native.Mathlib.Nat.{le_refl}
use native.Mathlib.Omega.{arith}
use borrow.Author.Tests.{ltb-true, ltb-false, le-ltb}
use lib.Dec.{ltb, eqb}
use lib.ListN.{take, get_or}
use Rattle.std.specs.Prelude.{None, Some}
use Rattle.config.specs.Limits.{members, last_epoch}
use Rattle.config.proofs.Facts.{and-true}
use Rattle.quorum.specs.Counts.{count_above, count_reaching, reached}
use Rattle.quorum.proofs.Cases.{either}
use Rattle.quorum.proofs.Counts.{Below, none, some, reached_reach, reached_anti, raise_max}
use Rattle.pacemaker.specs.declared.Pace.{Pace}
use Rattle.pacemaker.specs.declared.Paced.{Paced}
use Rattle.pacemaker.specs.State.{restored_pace, fresh_pace, good_pace, is_started, resend_armed}
use Rattle.pacemaker.specs.Rules.{hear, heard_by, hearing, amplifying, moving, start_of, resend_of, change_leader_of, past_end, progress_of, new_epoch_of}
use Rattle.pacemaker.specs.Runs.{Heard, run, highest_from, Next, by_start, by_resend, by_change, by_progress, by_newepoch, Lived, begun, then}
use Rattle.pacemaker.specs.Claims.{AfterAnyList, OrderDecidesNothing, NoLower, NothingFalls, GoodStaysGood, AlwaysGood, InRange, RestoredInRange, ChangeInRange, NewEpochInRange, OthersStayInRange, NoPutsch, FewMoveNothing, Sends, SendsItsHighest, TellsWhatRose}
use Rattle.pacemaker.proofs.Settle.{armed, settle, step_is, sent_is, moved_is, below_hear, heard_is, others_are, heard_same, run_is}
use Rattle.pacemaker.proofs.Reachable.{lived_settled, AtMost, at_most_zeros, at_most_hear, reached_at_most, Good, good_facts, facts_good}

-- ---- after any list

pub after_any_list : AfterAnyList
after_any_list n f p ms m r w =
    let s = lived_settled n f r in
    rw (run_is n f p ms s.top s.low)
    (record {
      heard = λ j a b. heard_is n p.heard ms w j a (omega (arith, s.size));
      others = others_are n p.heard ms w;
      highest = refl;
      epoch = refl;
      resend = refl;
      progress = refl;
      started = refl;
    })

pub order_decides_nothing : OrderDecidesNothing
order_decides_nothing n f p ms ms' m r w w' same =
    let s = lived_settled n f r in
    run_is n f p ms s.top s.low ∙ ap (settle n f p) (heard_same n p.heard ms ms' w w' same) ∙ sym (run_is n f p ms' s.top s.low)

-- ---- what a rule keeps

below_at : {l m : List ℕ} → Below l m → (k : ℕ) → get_or l k 0 ≤ get_or m k 0
below_at none k = zero-le
below_at (some h r) zero = h
below_at (some h r) (suc k) = below_at r k

pub nothing_falls : NothingFalls
unfolding start_of resend_of change_leader_of progress_of
nothing_falls n f p q by_start = record { epoch = omega arith; highest = omega arith; heard = λ k. le_refl _ }
nothing_falls n f p q by_resend = record { epoch = omega arith; highest = omega arith; heard = λ k. le_refl _ }
nothing_falls n f p q by_change = record { epoch = omega arith; highest = omega arith; heard = λ k. le_refl _ }
nothing_falls n f p q by_progress = record { epoch = omega arith; highest = omega arith; heard = λ k. le_refl _ }
nothing_falls n f p q (by_newepoch j x a b) =
    rw (step_is n f p j x) (record { epoch = omega arith; highest = omega arith; heard = below_at (below_hear p.heard j x) })

armed_flag : (old new flag : ℕ) → flag ≤ 1 → armed old new flag ≤ 1
armed_flag old new flag h = either (λ x. x ≤ 1) (ltb old new) 1 flag (λ e. le_refl 1) (λ e. h)

good_next : (n f : ℕ) (p q : Pace) → Next n f p q → Good p → Good q
unfolding start_of resend_of change_leader_of progress_of
good_next n f p q by_start g = omega arith
good_next n f p q by_resend g = omega arith
good_next n f p q by_change g = omega arith
good_next n f p q by_progress g = omega arith
good_next n f p q (by_newepoch j x a b) g =
    rw (step_is n f p j x)
    (record {
      order = omega (arith, reached_anti f (2 * f) (take n (hear p.heard j x)) (omega arith));
      started = g.started;
      progress = armed_flag p.epoch _ _ g.progress;
      resend = armed_flag p.highest _ _ g.resend;
    })

pub good_stays_good : GoodStaysGood
good_stays_good n f p q t h = facts_good q (good_next n f p q t (good_facts p h))

pub always_good : AlwaysGood
always_good n f p (begun s h) =
    facts_good p (record { order = h; started = zero-le; progress = zero-le; resend = zero-le })
always_good n f q (then {p = p} r t) = good_stays_good n f p q t (always_good n f p r)

-- ---- in range

pub change_in_range : ChangeInRange
unfolding change_leader_of
change_in_range p h r = record { epoch = r.epoch; highest = omega (arith, ltb-false); heard = r.heard }

pub new_epoch_in_range : NewEpochInRange
new_epoch_in_range n f p j x h r =
    let l = hear p.heard j x in
    let heard : AtMost last_epoch l = at_most_hear last_epoch p.heard j x h r.heard in
    rw (step_is n f p j x)
    (record {
      epoch = omega (arith, reached_at_most last_epoch (2 * f) n l heard);
      highest = omega (arith, reached_at_most last_epoch f n l heard);
      heard = heard;
    })

pub others_stay_in_range : OthersStayInRange
unfolding start_of resend_of progress_of
others_stay_in_range p r =
    record {
      start = record { epoch = r.epoch; highest = omega arith; heard = r.heard };
      resend = record { epoch = r.epoch; highest = r.highest; heard = r.heard };
      progress = record { epoch = r.epoch; highest = r.highest; heard = r.heard };
    }

-- ---- what moves a node

reached_backed : (k h : ℕ) (l : List ℕ) → h < max h (reached k l) → k < count_reaching (max h (reached k l)) l
reached_backed k h l g = let e : max h (reached k l) ≡ reached k l = omega arith in rw e (reached_reach k l (omega arith))

pub no_putsch : NoPutsch
no_putsch n f p j x =
    let l = take n (hear p.heard j x) in
    rw (step_is n f p j x) (record { highest = reached_backed f p.highest l; epoch = reached_backed (2 * f) p.epoch l })

-- what more than k have reached is no higher while no more than k are ahead
few_raise_nothing : (k h : ℕ) (l : List ℕ) → count_above h l ≤ k → max h (reached k l) ≡ h
few_raise_nothing k h l g = sym (rw (le-ltb k (count_above h l) g) at (raise_max k h l))

pub few_move_nothing : FewMoveNothing
few_move_nothing n f p ms m r w =
    let after = after_any_list n f p ms m r w in
    let l = heard_by n (run n f p ms) in
    record {
      highest = λ few. after.highest ∙ few_raise_nothing f p.highest l few;
      epoch = λ few. after.epoch ∙ few_raise_nothing (2 * f) p.epoch l few;
    }

-- ---- what is told and sent

pub restored_in_range : RestoredInRange
restored_in_range s h g = record { epoch = h; highest = g; heard = at_most_zeros last_epoch members }

pub tells_what_rose : TellsWhatRose
tells_what_rose n f p j x =
    record {
      moved = moved_is n f p j x ∙ ap (λ (q : Pace). ltb p.epoch q.epoch) (sym (step_is n f p j x));
      sent = sent_is n f p j x ∙ ap (λ (q : Pace). cond (ltb p.highest q.highest) (Some q.highest) None) (sym (step_is n f p j x));
    }

sends_own : (r : Paced) → r.sent ≡ Some r.pace.highest → 0 < r.pace.highest → Sends r
sends_own r e h = record { highest = λ y s. cc; some = λ y s. let same : y ≡ r.pace.highest = cc in omega arith }

sends_nothing : (r : Paced) → r.sent ≡ None → Sends r
sends_nothing r e = record { highest = λ y s. cc; some = λ y s. let z : ◌≡◌ {A = ℕ} 0 1 = cc in omega arith }

pub sends_its_highest : SendsItsHighest
unfolding start_of resend_of change_leader_of
sends_its_highest n f p =
    record {
      start = sends_own (start_of p) refl (omega arith);
      resend = λ fires. sends_own (resend_of p) refl (ltb-true _ _ (and-true (is_started p && resend_armed p) _ fires).1);
      change = sends_own (change_leader_of p) refl (omega arith);
      new_epoch = λ j x. told (new_epoch_of n f p j x) _ refl (tells_what_rose n f p j x).sent;
    }
  where
    told : (r : Paced) (b : Bool) → ltb p.highest r.pace.highest ≡ b → r.sent ≡ cond b (Some r.pace.highest) None → Sends r
    told r true e s = sends_own r s (omega (arith, ltb-true))
    told r false e s = sends_nothing r s

-- ---- the run of document 01: Start, then NEWEPOCH 7 from 2, 6 from 4, 5 from 3

abbrev begins : Pace
begins = (start_of fresh_pace).pace

begins_lived : Lived 4 1 begins
begins_lived = then (begun (record { epoch = 0; highest = 0 }) (omega arith)) by_start

abbrev says : ℕ → ℕ → Heard
says j x = record { from = j; number = x }

abbrev three : List Heard
three = says 2 7 ∷ says 4 6 ∷ says 3 5 ∷ []

-- highest sent and epoch, as the run goes on
abbrev shown : Pace → List ℕ
shown p = p.highest ∷ p.epoch ∷ []

shown_after_start : shown begins ≡ 1 ∷ 0 ∷ []
unfolding start_of
shown_after_start = refl

shown_after_one : shown (run 4 1 begins (says 2 7 ∷ [])) ≡ 1 ∷ 0 ∷ []
unfolding start_of run new_epoch_of hearing amplifying moving
shown_after_one = refl

shown_after_two : shown (run 4 1 begins (says 2 7 ∷ says 4 6 ∷ [])) ≡ 6 ∷ 0 ∷ []
unfolding start_of run new_epoch_of hearing amplifying moving
shown_after_two = refl

shown_after_three : shown (run 4 1 begins three) ≡ 6 ∷ 5 ∷ []
unfolding start_of run new_epoch_of hearing amplifying moving
shown_after_three = refl

-- ---- an instance of each claim

-- the closed form of the three: what more than 2f of 0, 7, 5 and 6 reach
epoch_of_three : (run 4 1 begins three).epoch ≡ max 0 (reached 2 (0 ∷ 7 ∷ 5 ∷ 6 ∷ []))
unfolding start_of run new_epoch_of hearing amplifying moving
epoch_of_three = (after_any_list 4 1 begins three (omega arith) begins_lived (omega arith)).epoch

-- in another order, and with an old number of 2 besides: each member's highest is the same
abbrev four : List Heard
four = says 3 5 ∷ says 4 6 ∷ says 2 3 ∷ says 2 7 ∷ []

three_as_four : run 4 1 begins three ≡ run 4 1 begins four
unfolding highest_from
three_as_four =
    order_decides_nothing 4 1 begins three four (omega arith) begins_lived (omega arith) (omega arith)
    (λ j a b. same (eqb 2 j) (cond (eqb 3 j) 5 0) (cond (eqb 4 j) 6 0))
  where
    same : (b : Bool) (y z : ℕ) → max (cond b 7 0) (max z (max y 0)) ≡ max y (max z (max (cond b 3 0) (max (cond b 7 0) 0)))
    same true y z = omega arith
    same false y z = omega arith

-- an old number of 2 lowers nothing, and leaves the state in range
old_of_2 : Next 4 1 (run 4 1 begins three) (new_epoch_of 4 1 (run 4 1 begins three) 2 3).pace
old_of_2 = by_newepoch 2 3 (omega arith) (omega arith)

old_lowers_nothing : NoLower (run 4 1 begins three) (new_epoch_of 4 1 (run 4 1 begins three) 2 3).pace
old_lowers_nothing = nothing_falls 4 1 _ _ old_of_2

three_lived : Lived 4 1 (run 4 1 begins three)
unfolding run
three_lived =
    then (then (then begins_lived (by_newepoch 2 7 (omega arith) (omega arith))) (by_newepoch 4 6 (omega arith) (omega arith))) (by_newepoch 3 5 (omega arith) (omega arith))

three_good : good_pace (run 4 1 begins three) ≡ true
three_good = always_good 4 1 _ three_lived

old_leaves_good : good_pace (new_epoch_of 4 1 (run 4 1 begins three) 2 3).pace ≡ true
old_leaves_good = good_stays_good 4 1 _ _ old_of_2 three_good

-- Start leaves a fresh node in range, and so does a NEWEPOCH of the last epoch
abbrev restored_in : ℕ → Pace
restored_in e = restored_pace (record { epoch = e; highest = e })

restored_once : (e : ℕ) → e ≤ last_epoch → InRange (restored_in e)
restored_once e h = restored_in_range (record { epoch = e; highest = e }) h h

begins_in_range : InRange begins
begins_in_range = (others_stay_in_range fresh_pace (restored_once 0 zero-le)).start

last_heard_in_range : InRange (new_epoch_of 4 1 begins 2 last_epoch).pace
last_heard_in_range = new_epoch_in_range 4 1 begins 2 last_epoch (le_refl last_epoch) begins_in_range

-- the leader can be changed in the last epoch but one, and not in the last
last_sent_in_range : InRange (change_leader_of (restored_in (last_epoch - 1))).pace
last_sent_in_range = change_in_range (restored_in (last_epoch - 1)) refl (restored_once (last_epoch - 1) (omega arith))

last_past_end : past_end (restored_in last_epoch) ≡ true
last_past_end = refl

-- one member alone has the node send nothing, whatever it says, and two do not move it
alone_sends_nothing : (run 4 1 begins (says 2 7 ∷ says 2 last_epoch ∷ [])).highest ≡ 1
unfolding start_of run new_epoch_of hearing amplifying moving
alone_sends_nothing = (few_move_nothing 4 1 begins (says 2 7 ∷ says 2 last_epoch ∷ []) (omega arith) begins_lived (omega arith)).highest (omega arith)

two_move_nothing : (run 4 1 begins (says 2 7 ∷ says 4 6 ∷ [])).epoch ≡ 0
unfolding start_of run new_epoch_of hearing amplifying moving
two_move_nothing = (few_move_nothing 4 1 begins (says 2 7 ∷ says 4 6 ∷ []) (omega arith) begins_lived (omega arith)).epoch (omega arith)

-- the second that is ahead makes more than f
backed_by_two : 1 < count_reaching 6 (0 ∷ 7 ∷ 0 ∷ 6 ∷ [])
unfolding start_of run new_epoch_of hearing amplifying moving
backed_by_two = (no_putsch 4 1 (run 4 1 begins (says 2 7 ∷ [])) 4 6).highest (omega arith)

-- and has the node send 6, which becomes its highest; the third moves it
six_sent : (new_epoch_of 4 1 (run 4 1 begins (says 2 7 ∷ [])) 4 6).sent ≡ Some 6
unfolding start_of run new_epoch_of hearing amplifying moving
six_sent = (tells_what_rose 4 1 (run 4 1 begins (says 2 7 ∷ [])) 4 6).sent

six_highest : 6 ≡ (new_epoch_of 4 1 (run 4 1 begins (says 2 7 ∷ [])) 4 6).pace.highest
six_highest = ((sends_its_highest 4 1 (run 4 1 begins (says 2 7 ∷ []))).new_epoch 4 6).highest 6 six_sent

third_moves : (new_epoch_of 4 1 (run 4 1 begins (says 2 7 ∷ says 4 6 ∷ [])) 3 5).moved ≡ true
unfolding start_of run new_epoch_of hearing amplifying moving
third_moves = (tells_what_rose 4 1 (run 4 1 begins (says 2 7 ∷ says 4 6 ∷ [])) 3 5).moved
