-- What a step sends: at most two messages, of which the first is a NEWEPOCH; and what is for the node's own signature answers the delivery.
use mathlib.Core.Path.{◌≡◌, refl}
use mathlib.Core.List.{List, ◌∷◌, ◌++◌, map}
use Prim.Native.Nat.{ℕ}
use lib.IntN.{ℤ}
use lib.ListN.{length}
use Rattle.std.specs.Prelude.{Option, None, Some}
use Rattle.config.specs.declared.Config.{Config}
use Rattle.config.specs.declared.Commit.{Commit}
use Rattle.price.specs.Median.{median_of}
use Rattle.quorum.proofs.Cases.{either}
use Rattle.frame.specs.Message.{Signed, Message, new_epoch, observe_req, observe, report_req, report, final, final_echo}
use Rattle.frame.specs.Decode.{message_in}
use Rattle.frame.specs.Claims.{Each}
use Rattle.frame.proofs.Entries.{each_append}
use Rattle.report.specs.Faults as fault
use Rattle.report.specs.Stands.{list_fault, bits_fault, values_of}
use Rattle.report.proofs.Faults.{first_nothing}
use Rattle.report.proofs.Stands.{bits_fault_nothing}
use Rattle.pacemaker.specs.declared.Pace.{Pace}
use Rattle.pacemaker.specs.declared.Paced.{Paced}
use Rattle.pacemaker.specs.Rules as pacemaker
use Rattle.follower.specs.declared.Follower.{Follower}
use Rattle.follower.specs.declared.Followed.{Followed}
use Rattle.follower.specs.declared.Reply.{Reply}
use Rattle.follower.specs.declared.Reply.TheVariants as reply
use Rattle.follower.specs.State.{is_set}
use Rattle.follower.specs.Takes.{fault_of}
use Rattle.follower.specs.Rules.{received, follow_of}
use Rattle.follower.proofs.Rules.{requested_each, asked_each, echoed_each}
use Rattle.follower.proofs.Findings.{finding_taken}
use Rattle.leader.specs.declared.Leader.{Leader}
use Rattle.leader.specs.declared.Led.{Led}
use Rattle.leader.specs.declared.Asking.{Asking}
use Rattle.leader.specs.declared.Asking.TheVariants as asking
use Rattle.leader.specs.State.{no_round}
use Rattle.leader.specs.Listed.{request_of, final_of}
use Rattle.leader.specs.Rules.{no_signatures}
use Rattle.leader.proofs.Cases.{round_cases}
use Rattle.node.specs.declared.Fired.TheVariants as fired
use Rattle.node.specs.State.{epoch_of, leader_now}
use Rattle.node.specs.Event.{Whole, Delivery, Event, starts, delivers, fires, Effect}
use Rattle.node.specs.Effects.{announced, asking_for, answering, replying, pacing, begun, moving, raising, following, leading}
use Rattle.node.specs.Claims.{FewSent, NewEpochGoesFirst, SignedFor, Unsigned, Signs, SignsOnlyWhatItAnswers}
use Rattle.node.proofs.Ruled.{Ruled, by_start, by_resend, by_progress, by_round, by_grace, by_hearing, by_moving, by_following, by_observe, by_report, heard_from, step_ruled}
use Rattle.node.proofs.Cases.{begun_cases}

-- ---- how many

few_announced : (s : Option ℕ) → FewSent (announced s)
few_announced None = tt
few_announced (Some x) = tt

few_asked : (c : Config) (epoch : ℕ) (l : Leader) (signatures : List ℕ) (a : Asking) → FewSent (asking_for c epoch l signatures a)
few_asked c epoch l signatures asking.Nothing = tt
few_asked c epoch l signatures asking.Observations = tt
few_asked c epoch l signatures asking.Reports = tt
few_asked c epoch l signatures asking.Final = tt

-- of a move: the NEWEPOCH, if it sends one, stands before the request
few_moved : (c : Config) (epoch : ℕ) (signatures : List ℕ) (s : Option ℕ) → FewSent (announced s ++ asking_for c epoch (begun c epoch).leader signatures (begun c epoch).asking)
few_moved c epoch signatures None = few_asked c epoch (begun c epoch).leader signatures (begun c epoch).asking
few_moved c epoch signatures (Some x) =
    let P : Led → Type 0 = λ l. FewSent (new_epoch x ∷ asking_for c epoch l.leader signatures l.asking) in
    begun_cases P c epoch (round_cases P c no_round (refl, refl) (refl, refl)) tt

-- of a message that is followed: what it raises sends nothing where there is a reply
module _ (c : Config) (s : Follower) (j time : ℕ) (commit : Commit) (p : Pace) (v : ℤ) where
  abbrev Few : Message → Followed → Type 0
  Few m d = FewSent (announced (raising d.raised p).sent ++ replying v m d.reply)

  few_followed : (m : Message) → Few m (follow_of c s j time commit m)
  unfolding received pacemaker.change_leader_of pacemaker.progress_of
  few_followed (observe_req e r) = requested_each (Few (observe_req e r)) c s r tt tt
  few_followed (report_req e r xs) = asked_each (Few (report_req e r xs)) c s time commit (median_of (values_of (map (λ (x : Signed). x.said) xs))) tt tt
  few_followed (final a) = tt
  few_followed (final_echo a) =
      let one = either (λ r. FewSent (replying v (final_echo a) r)) (is_set s.kept) _ _ (λ e. tt) (λ e. tt) in
      echoed_each (Few (final_echo a)) c s j one one
  few_followed (new_epoch e) = tt
  few_followed (observe e r u g) = tt
  few_followed (report e r xs g) = tt

few_pacing : (w : Whole) (p : Paced) → FewSent (pacing w p).sent
unfolding pacing
few_pacing w p = few_announced p.sent

few_leading : (w : Whole) (l : Led) (signatures : List ℕ) → FewSent (leading w l signatures).sent
unfolding leading
few_leading w l signatures = few_asked w.node.config (epoch_of w.node) l.leader signatures l.asking

few_ruled : {w : Whole} {e : Event} {f : Effect} → Ruled w e f → FewSent f.sent
unfolding moving following
few_ruled (by_start time) = few_pacing _ _
few_ruled (by_resend time h) = few_pacing _ _
few_ruled (by_progress time h) = few_pacing _ _
few_ruled (by_round time h g) = few_leading _ _ _
few_ruled (by_grace time h) = few_leading _ _ _
few_ruled (by_hearing d x s h) = few_pacing _ _
few_ruled {w} (by_moving d x s h) =
    let p = heard_from w.node d.link x in
    few_moved w.node.config p.pace.epoch (no_signatures w.signatures) p.sent
few_ruled {w} (by_following d m s h g) = few_followed w.node.config w.node.follower d.link d.time d.commit w.node.pace d.observation m
few_ruled (by_observe d e r v g s h) = few_leading _ _ _
few_ruled (by_report d e r xs g s h k) = few_leading _ _ _

pub new_epoch_goes_first : NewEpochGoesFirst
new_epoch_goes_first w e f h = few_ruled (step_ruled w e f h).1

-- ---- for whose signature

pub announced_each : (P : Message → Type 0) (s : Option ℕ) → ((x : ℕ) → s ≡ Some x → P (new_epoch x)) → Each P (announced s)
announced_each P None h = tt
announced_each P (Some x) h = (h x refl, tt)

pub replying_each : (P : Message → Type 0) (v : ℤ) (m : Message) (r : Reply) → Each P (answering v m) → Each P (replying v m r)
replying_each P v m reply.Nothing p = tt
replying_each P v m reply.Observe p = p
replying_each P v m reply.Report p = p
replying_each P v m reply.Echo p = p

-- what is not for the node's own signature may be sent whatever the event
unsigned_signs : (e : Event) (m : Message) → Unsigned m → Signs e m
unsigned_signs (starts time) m u = u
unsigned_signs (fires t time) m u = u
unsigned_signs (delivers d) (new_epoch e) u = tt
unsigned_signs (delivers d) (observe_req e r) u = tt
unsigned_signs (delivers d) (observe e r v g) u = absurd u
unsigned_signs (delivers d) (report_req e r xs) u = tt
unsigned_signs (delivers d) (report e r xs g) u = absurd u
unsigned_signs (delivers d) (final a) u = tt
unsigned_signs (delivers d) (final_echo a) u = tt

module _ (e : Event) where
  signs_announced : (s : Option ℕ) → Each (Signs e) (announced s)
  signs_announced s = announced_each (Signs e) s (λ x h. unsigned_signs e (new_epoch x) tt)

  signs_asked : (c : Config) (epoch : ℕ) (l : Leader) (signatures : List ℕ) (a : Asking) → Each (Signs e) (asking_for c epoch l signatures a)
  signs_asked c epoch l signatures asking.Nothing = tt
  signs_asked c epoch l signatures asking.Observations = (unsigned_signs e (observe_req epoch l.round) tt, tt)
  signs_asked c epoch l signatures asking.Reports = (unsigned_signs e (request_of c.n epoch l signatures) tt, tt)
  signs_asked c epoch l signatures asking.Final = (unsigned_signs e (final_of c.n c.f epoch l signatures) tt, tt)

  signs_pacing : (w : Whole) (p : Paced) → Each (Signs e) (pacing w p).sent
  unfolding pacing
  signs_pacing w p = signs_announced p.sent

  signs_leading : (w : Whole) (l : Led) (signatures : List ℕ) → Each (Signs e) (leading w l signatures).sent
  unfolding leading
  signs_leading w l signatures = signs_asked w.node.config (epoch_of w.node) l.leader signatures l.asking

  signs_moving : (w : Whole) (p : Paced) → Each (Signs e) (moving w p).sent
  unfolding moving
  signs_moving w p =
      let c = w.node.config in
      let epoch = p.pace.epoch in
      let l = begun c epoch in
      let signatures = no_signatures w.signatures in
      each_append (Signs e) (announced p.sent) (asking_for c epoch l.leader signatures l.asking) (signs_announced p.sent) (signs_asked c epoch l.leader signatures l.asking)

-- an answer to a message with which nothing is wrong
answer_signed : (f : ℕ) (d : Delivery) (m : Message) → message_in d.frame ≡ m → fault_of f d.bits m ≡ fault.Nothing → Each (SignedFor d) (answering d.observation m)
answer_signed f d (observe_req e r) s h = (record { request = s; value = refl; signature = refl }, tt)
answer_signed f d (report_req e r xs) s h =
    let p = first_nothing (list_fault f (map (λ (x : Signed). x.said) xs)) (bits_fault d.bits (length xs)) h in
    (record { list = xs; request = s; same = refl; bits = bits_fault_nothing d.bits (length xs) p.1; signature = refl }, tt)
answer_signed f d (final a) s h = (tt, tt)
answer_signed f d (final_echo a) s h = (tt, tt)
answer_signed f d (new_epoch e) s h = tt
answer_signed f d (observe e r v g) s h = tt
answer_signed f d (report e r xs g) s h = tt

signs_following : (w : Whole) (d : Delivery) (m : Message) → message_in d.frame ≡ m → fault_of w.node.config.f d.bits m ≡ fault.Nothing → Each (SignedFor d) (following w d m).sent
unfolding following
signs_following w d m s h =
    let r = follow_of w.node.config w.node.follower d.link d.time d.commit m in
    let p = raising r.raised w.node.pace in
    each_append (SignedFor d) (announced p.sent) (replying d.observation m r.reply)
    (signs_announced (delivers d) p.sent) (replying_each (SignedFor d) d.observation m r.reply (answer_signed w.node.config.f d m s h))

signs_ruled : {w : Whole} {e : Event} {f : Effect} → Ruled w e f → Each (Signs e) f.sent
signs_ruled (by_start time) = signs_pacing (starts time) _ _
signs_ruled (by_resend time h) = signs_pacing (fires fired.Resend time) _ _
signs_ruled (by_progress time h) = signs_pacing (fires fired.Progress time) _ _
signs_ruled (by_round time h g) = signs_leading (fires fired.Round time) _ _ _
signs_ruled (by_grace time h) = signs_leading (fires fired.Grace time) _ _ _
signs_ruled (by_hearing d x s h) = signs_pacing (delivers d) _ _
signs_ruled (by_moving d x s h) = signs_moving (delivers d) _ _
signs_ruled {w} (by_following d m s h g) =
    let n = w.node in
    signs_following w d m s.says (finding_taken n.follower n.config.f (epoch_of n) (leader_now n) d.link d.bits m h).1
signs_ruled (by_observe d e r v g s h) = signs_leading (delivers d) _ _ _
signs_ruled (by_report d e r xs g s h k) = signs_leading (delivers d) _ _ _

pub signs_only_what_it_answers : SignsOnlyWhatItAnswers
signs_only_what_it_answers w e f h = signs_ruled (step_ruled w e f h).1
