-- Instances of the claims over runs and of demand 3, with the node of `Instances.antt`: it hears epochs and observations in two orders, follows two rounds whose reports it hands out,
-- is asked for more rounds than there may be, and is restored.
use mathlib.Core.Path.{◌≡◌, refl, sym, ap, ap₂, ◌∙◌, subst}
use mathlib.Core.Bool.{Bool, true, false, ◌&&◌}
use mathlib.Core.List.{List, [], ◌∷◌, ◌++◌, map}
use Prim.Native.Nat.{ℕ, zero, suc, ◌+◌, ◌-◌, ◌≤◌, max, zero-le}
use native.Mathlib.Omega.{arith}
use lib.Dec.{lit<, lit≤}
use lib.IntN.{pos}
use lib.ListN.{length}
use Rattle.config.specs.Limits.{members, kept_size, signatures_size, outbox_size}
use Rattle.config.specs.Bounds.{good_feed, good_config, none_empty, sum}
use Rattle.config.specs.Codes.{number_of, is_done}
use Rattle.config.proofs.Facts.{and-true}
use Rattle.wire.specs.Numbers.{part, be_from, be_number, be_bytes}
use Rattle.wire.proofs.Overlay.{length_over, over_again}
use Rattle.quorum.specs.Counts.{reached}
use Rattle.quorum.specs.First.{first_at}
use Rattle.quorum.specs.Marks.{flags}
use Rattle.quorum.specs.Sort.{keep, swap, then}
use Rattle.frame.specs.Message.{Attested, Message, new_epoch, observe_req, observe, final, final_echo, kind_of, blank}
use Rattle.frame.specs.Table.{shape_of, body_length}
use Rattle.frame.specs.Encode.{observation_bytes, signer_bytes, flat, head_bytes, counted_bytes, attested_bytes, body_bytes, trailer_bytes, frame_bytes}
use Rattle.frame.specs.Decode.{entries, attested_in, message_of}
use Rattle.frame.specs.Check.{body_answer, after_sender, after_kind, after_version, after_short, frame_answer}
use Rattle.frame.specs.Range.{all_members, good_attested}
use Rattle.frame.specs.Claims.{Each, WritableAttested}
use Rattle.frame.proofs.Claims.{blank_writable}
use Rattle.outbox.specs.Written.{own_frame, own_signature}
use Rattle.report.specs.Stands.{not_falling, list_fault, bits_fault, repeat_fault, signers_fault, attested_fault}
use Rattle.report.specs.Newer.{newer}
use Rattle.report.specs.Kept.{kept_bytes, keeping, cleared}
use Rattle.report.specs.Whole.{final_length, part_of, report_of}
use Rattle.report.proofs.Kept.{kept_stands}
use Rattle.report.proofs.Bodies.{none_handed, stands_long, stands_handed}
use Rattle.pacemaker.specs.State.{good_pace}
use Rattle.pacemaker.specs.Rules as pacemaker
use Rattle.follower.specs.State.{is_set, good_follower}
use Rattle.follower.specs.Takes.{finding_of}
use Rattle.follower.specs.Rules.{requested, received, echoed}
use Rattle.leader.specs.State.{collecting, good_leader, empty_round}
use Rattle.leader.specs.Rules.{next_round, observing}
use Rattle.node.specs.declared.Fired.TheVariants as fired
use Rattle.node.specs.State.{restored_node, nothing_saved, good_node, good_kept, good_state, roomy}
use Rattle.node.specs.Event.{Whole, whole, Delivery, Event, starts, delivers, fires, Effect, done}
use Rattle.node.specs.Answers.{start_answer, firing, ending, timer_answer, follower_answer, leader_answer, message_answer, delivery_answer, event_answer, after_state}
use Rattle.node.specs.Effects.{pacing, begun, moving, hearing, following, leading, effect_of}
use Rattle.node.specs.Calls.{step, Out, frames_of}
use Rattle.node.specs.Runs.{settled_in, after, run, Begun, Reachable, sent_in, handed_by, handed_in, deliveries, Done, AllOf, highest_from, Call, call_all, AllDone}
use Rattle.node.specs.Typed.{TypedEvents}
use Rattle.node.specs.Claims.{Checked, KeptChecked, Rising, count_observes, ClosedForm, SameRequest, grace_at, SameWritten}
use Rattle.node.proofs.Written.{frames_stand}
use Rattle.node.proofs.Closed.{good_stays_good}
use Rattle.node.proofs.Runs.{configuration_stays, always_good}
use Rattle.node.proofs.Rounds.{few_rounds_an_epoch, restored_waits_for_a_move}
use Rattle.node.proofs.Kept.{kept_was_checked}
use Rattle.node.proofs.Handed.{handed_was_checked, handed_once_a_round}
use Rattle.node.proofs.Order.{after_any_list, epoch_order_decides_nothing, observation_order_decides_nothing}
use Rattle.node.proofs.Calls.{calls_run, calls_in, call_in_room, calls_in_room, epoch_calls_decide_nothing, observation_calls_decide_nothing}
use Rattle.node.proofs.Instances.{member, says, zeros, lent, waiting, fresh, nearly, in_epoch_lem, moved, starting, two_heard, third, zeros_again, moving_on, observes, graced, three_observed, passed, grace_done, asked, grace_asks, bytes, typed_says, moved_typed, graced_typed, outbox, longer, fresh_good, sized, graced_sized}

-- ---- a beginning

fresh_begun : Begun fresh
unfolding good_config good_feed none_empty sum
fresh_begun =
    record { config = member 2; saved = nothing_saved; good = refl; saved_good = zero-le; in_range = zero-le; node = refl; kept = lit≤ tt; signatures = lit≤ tt }

abbrev started : Whole
started = waiting (zeros members)

started_reachable : Reachable started
unfolding run
started_reachable = record { first = fresh; begun = fresh_begun; events = starts 0 ∷ []; ends = starting }

-- ---- NEWEPOCH

abbrev one_by_one : List Delivery
one_by_one = says 1 (new_epoch 1) ∷ says 3 (new_epoch 5) ∷ says 4 (new_epoch 5) ∷ []

-- member 4 says 2 first, so the node moves before it has heard the last number; member 3 says its number twice, and a lower one
abbrev mixed : List Delivery
mixed = says 4 (new_epoch 2) ∷ says 3 (new_epoch 5) ∷ says 1 (new_epoch 1) ∷ says 3 (new_epoch 4) ∷ says 3 (new_epoch 5) ∷ says 4 (new_epoch 5) ∷ []

one_by_one_done : AllOf 1 started one_by_one
unfolding step after_state good_state good_node good_config good_feed none_empty sum good_pace good_follower good_leader flags good_kept delivery_answer message_answer frame_answer after_short after_version after_kind after_sender body_answer body_length message_of frame_bytes body_bytes trailer_bytes be_bytes be_number be_from number_of hearing pacing moving begun next_round pacemaker.new_epoch_of pacemaker.hearing pacemaker.amplifying pacemaker.moving
one_by_one_done = (refl, tt, (refl, tt, (refl, tt, tt)))

mixed_done : AllOf 1 started mixed
unfolding step after_state good_state good_node good_config good_feed none_empty sum good_pace good_follower good_leader flags good_kept delivery_answer message_answer frame_answer after_short after_version after_kind after_sender body_answer body_length message_of frame_bytes body_bytes trailer_bytes be_bytes be_number be_from number_of hearing pacing moving begun next_round pacemaker.new_epoch_of pacemaker.hearing pacemaker.amplifying pacemaker.moving
mixed_done = (refl, tt, (refl, tt, (refl, tt, (refl, tt, (refl, tt, (refl, tt, tt))))))

-- the two lists have the same highest number from each member
same_highest : (j : ℕ) → 1 ≤ j → j ≤ 4 → highest_from j one_by_one ≡ highest_from j mixed
unfolding highest_from frame_bytes body_bytes trailer_bytes be_bytes be_number be_from
same_highest zero h g = absurd (omega arith)
same_highest (suc zero) h g = refl
same_highest (suc (suc zero)) h g = refl
same_highest (suc (suc (suc zero))) h g = refl
same_highest (suc (suc (suc (suc zero)))) h g = refl
same_highest (suc (suc (suc (suc (suc j))))) h g = absurd (omega arith)

one_by_one_ends : run started (deliveries one_by_one) ≡ moved
unfolding run third
one_by_one_ends = ap (λ (w : Whole). after w (delivers third)) two_heard ∙ moving_on

-- so the node ends in the same state, and the numbers are those of the closed form
mixed_ends : run started (deliveries mixed) ≡ moved
mixed_ends = sym (epoch_order_decides_nothing started one_by_one mixed started_reachable refl one_by_one_done mixed_done same_highest) ∙ one_by_one_ends

mixed_closed : ClosedForm started mixed moved
mixed_closed = subst (ClosedForm started mixed) mixed_ends (after_any_list started mixed started_reachable refl mixed_done)

mixed_highest : 5 ≡ max 1 (reached 1 (1 ∷ 0 ∷ 5 ∷ 5 ∷ []))
mixed_highest = mixed_closed.highest

mixed_epoch : 1 ≡ max 0 (reached 2 (1 ∷ 0 ∷ 5 ∷ 5 ∷ []))
mixed_epoch = mixed_closed.epoch

-- whole calls: the first list's frames go to the start of an outbox, the second's behind three bytes of another
mixed_calls : (call_all started (calls_in outbox 0 one_by_one) ≡ call_all started (calls_in longer 3 mixed)) × ClosedForm started one_by_one (call_all started (calls_in outbox 0 one_by_one))
mixed_calls =
    let z = sized started.node in
    epoch_calls_decide_nothing started (calls_in outbox 0 one_by_one) (calls_in longer 3 mixed) started_reachable refl (calls_in_room outbox 0 (lit≤ tt) 1 started one_by_one z one_by_one_done) (calls_in_room longer 3 (lit≤ tt) 1 started mixed z mixed_done) same_highest

-- ---- OBSERVE

abbrev in_turn : List Delivery
in_turn = observes 1 (pos 107) ∷ observes 3 (pos 100) ∷ observes 4 (pos 105) ∷ []

abbrev in_another : List Delivery
in_another = observes 4 (pos 105) ∷ observes 1 (pos 107) ∷ observes 3 (pos 100) ∷ []

in_turn_done : AllOf 3 moved in_turn
unfolding step after_state good_state good_node good_config good_feed none_empty sum good_pace good_follower good_leader flags good_kept delivery_answer message_answer frame_answer after_short after_version after_kind after_sender body_answer body_length message_of frame_bytes body_bytes head_bytes trailer_bytes be_bytes be_number be_from number_of leader_answer leading observing
in_turn_done = (refl, tt, (refl, tt, (refl, tt, tt)))

in_another_done : AllOf 3 moved in_another
unfolding step after_state good_state good_node good_config good_feed none_empty sum good_pace good_follower good_leader flags good_kept delivery_answer message_answer frame_answer after_short after_version after_kind after_sender body_answer body_length message_of frame_bytes body_bytes head_bytes trailer_bytes be_bytes be_number be_from number_of leader_answer leading observing
in_another_done = (refl, tt, (refl, tt, (refl, tt, tt)))

same_observations : SameRequest moved in_turn in_another
same_observations = observation_order_decides_nothing moved in_turn in_another moved_typed in_turn_done in_another_done (then (keep swap) swap)

in_another_ends : run moved (deliveries in_another) ≡ graced
in_another_ends = sym same_observations.whole_after ∙ three_observed

-- T_grace then asks for the same reports
in_another_fires : step (run moved (deliveries in_another)) (fires fired.Grace 0) ≡ done (effect_of graced (fires fired.Grace 0))
in_another_fires = rw in_another_ends grace_done

in_another_asks : (time : ℕ) (f : Effect) → step (run moved (deliveries in_another)) (fires fired.Grace time) ≡ done f → frames_of (member 2) f.sent ≡ frames_of (member 2) (asked ∷ [])
in_another_asks time f h =
    sym (same_observations.request 0 time (effect_of graced (fires fired.Grace 0)) f (rw three_observed grace_done) h) ∙ ap (frames_of (member 2)) grace_asks

-- whole calls, where the request stands behind three bytes
abbrev turn_calls : List Call
turn_calls = calls_in outbox 0 in_turn

abbrev another_calls : List Call
another_calls = calls_in longer 3 in_another

turn_called : AllDone 3 moved turn_calls
turn_called = calls_in_room outbox 0 (lit≤ tt) 3 moved in_turn (sized moved.node) in_turn_done

same_calls : SameWritten moved turn_calls another_calls
same_calls =
    observation_calls_decide_nothing moved turn_calls another_calls moved_typed turn_called (calls_in_room longer 3 (lit≤ tt) 3 moved in_another (sized moved.node) in_another_done) (then (keep swap) swap)

turn_calls_end : call_all moved turn_calls ≡ graced
turn_calls_end = calls_run 3 moved turn_calls turn_called ∙ three_observed

another_calls_end : call_all moved another_calls ≡ graced
another_calls_end = sym same_calls.whole_after ∙ turn_calls_end

graced_called : (outbox : List ℕ) (at : ℕ) → at + outbox_size ≤ length outbox → is_done (grace_at graced 0 outbox at).result.answer ≡ true
graced_called outbox at long = call_in_room outbox at long graced (fires fired.Grace 0) graced_sized (subst Done (sym grace_done) tt)

abbrev written : Out → ℕ → List ℕ
written r at = part r.outbox at r.result.written

graced_written : written (grace_at graced 0 outbox 0) 0 ≡ frames_of (member 2) (asked ∷ [])
unfolding roomy
graced_written =
    (frames_stand graced (fires fired.Grace 0) (effect_of graced (fires fired.Grace 0)) outbox 0 graced_typed tt (simp length_over refl) grace_done).frames
    ∙ ap (frames_of (member 2)) grace_asks

another_written : written (grace_at (call_all moved another_calls) 0 longer 3) 3 ≡ frames_of (member 2) (asked ∷ [])
another_written =
    sym (same_calls.request 0 0 outbox longer 0 3 (rw turn_calls_end (graced_called outbox 0 (lit≤ tt))) (rw another_calls_end (graced_called longer 3 (lit≤ tt))))
    ∙ rw turn_calls_end graced_written

-- ---- two rounds that the node follows

-- what the leader, and the members that echo it, say of a round
abbrev attested : ℕ → Attested
attested round =
    record {
      epoch = 1;
      round = round;
      list = record { member = 3; value = pos 100 } ∷ record { member = 4; value = pos 105 } ∷ record { member = 1; value = pos 107 } ∷ [];
      signers = record { member = 1; signature = blank } ∷ record { member = 3; signature = blank } ∷ [];
    }

abbrev asks : ℕ → Delivery
asks round = says 2 (observe_req 1 round)

-- the node, as a follower
abbrev follows : ℕ → ℕ → ℕ → List ℕ → List ℕ → Whole
follows round completed held marks kept =
    whole (in_epoch_lem (record { live = 1; round = round; signed = 0; completed = completed; kept = held; marks = marks }) (empty_round collecting 1 1)) kept (zeros signatures_size)

abbrev open_in : ℕ → Whole
open_in round = follows round 0 0 (zeros members) (zeros kept_size)

abbrev holding : ℕ → List ℕ
holding round = keeping (zeros kept_size) (attested_bytes (attested round))

-- ---- the run

-- these events lead from w to v, and hand out l
record Leads (w : Whole) (es : List Event) (l : List Attested) (v : Whole) : Type 0 where
  lead : TypedEvents es → good_state w.node w.kept ≡ true → (run w es ≡ v) × (handed_in w es ≡ l)

no_more : {w : Whole} → Leads w [] [] w
unfolding run handed_in
no_more = record { lead = λ t g. (refl, refl) }

-- an event that is done, and one that is refused
module _ {w u : Whole} {e : Event} {es : List Event} {m : List Attested} where
  taken : (v : Whole) (l : List Attested) → is_done (event_answer w.node e) ≡ true → (effect_of w e).whole_after ≡ v → handed_by w e (done (effect_of w e)) ≡ l → Leads v es m u → Leads w (e ∷ es) (l ++ m) u
  unfolding after_state run handed_in
  taken v l h next out rest =
      record {
        lead = λ t g.
            let s = passed w e (rw g h) in
            let to = ap (settled_in w) s ∙ next in
            let p = rest.lead t.1 (subst (λ (x : Whole). good_state x.node x.kept ≡ true) to (good_stays_good w e t.0 g)) in
            (ap (λ (x : Whole). run x es) to ∙ p.0, ap₂ (λ (k r : List Attested). k ++ r) (ap (handed_by w e) s ∙ out) (ap (λ (x : Whole). handed_in x es) to ∙ p.1));
      }

  ignored : is_done (event_answer w.node e) ≡ false → Leads w es m u → Leads w (e ∷ es) m u
  unfolding step after_state run handed_in
  ignored h rest = record { lead = λ t g. rw (g, h) (rest.lead t.1 g) }

-- a report that is held is what is handed out
attested_writable : (round : ℕ) → WritableAttested (attested round)
attested_writable round =
    record { values = (record { sfits = lit< tt }, (record { sfits = lit< tt }, (record { sfits = lit< tt }, tt))); signatures = (blank_writable, (blank_writable, tt)) }

handed_out : (round : ℕ) → good_attested 4 (attested round) ≡ true → report_of (part_of (holding round) 0 (final_length (holding round))) ≡ attested round ∷ []
handed_out round good =
    let s = kept_stands 4 (attested round) (zeros kept_size) (lit≤ tt) good (attested_writable round) (lit≤ tt) in
    ap (λ (len : ℕ). report_of (part_of (holding round) 0 len)) (stands_long 4 (attested round) (holding round) s) ∙ stands_handed 4 (attested round) (holding round) s

-- what a request clears
cleared_again : cleared (holding 1) ≡ zeros kept_size
unfolding attested_bytes counted_bytes flat observation_bytes signer_bytes head_bytes be_bytes
cleared_again = over_again (zeros kept_size) 0 (kept_bytes (attested_bytes (attested 1))) (zeros kept_size) refl ∙ zeros_again kept_size

-- who says what. In round 1 the leader's FINAL is kept, members 1 and 3 echo it, and member 4 too late. In round 2 nothing comes from the leader, and members 1 and 4 echo.
abbrev said : List (ℕ × Message)
said =
    (1, new_epoch 1)
    ∷ (3, new_epoch 5)
    ∷ (4, new_epoch 5)
    ∷ (2, observe_req 1 1)
    ∷ (2, final (attested 1))
    ∷ (1, final_echo (attested 1))
    ∷ (3, final_echo (attested 1))
    ∷ (4, final_echo (attested 1))
    ∷ (2, observe_req 1 2)
    ∷ (1, final_echo (attested 2))
    ∷ (4, final_echo (attested 2))
    ∷ []

abbrev saying : List (ℕ × Message) → List Event
saying l = map (λ (p : ℕ × Message). delivers (says p.0 p.1)) l

abbrev events : List Event
events = starts 0 ∷ saying said

-- both rounds are completed
abbrev last : Whole
last = follows 2 1 1 (1 ∷ 0 ∷ 0 ∷ 1 ∷ zeros (members - 4)) (holding 2)

events_lead : Leads fresh events (attested 1 ∷ attested 2 ∷ []) last
unfolding start_answer delivery_answer message_answer frame_answer after_short after_version after_kind after_sender body_answer body_length shape_of message_of entries frame_bytes body_bytes attested_bytes counted_bytes flat observation_bytes signer_bytes head_bytes trailer_bytes be_bytes be_number be_from all_members number_of follower_answer finding_of attested_fault list_fault not_falling signers_fault repeat_fault bits_fault first_at hearing pacing moving begun next_round following requested received echoed pacemaker.start_of pacemaker.new_epoch_of pacemaker.hearing pacemaker.amplifying pacemaker.moving pacemaker.progress_of
events_lead =
    taken started [] refl refl refl
    (taken (waiting (1 ∷ zeros (members - 1))) [] refl refl refl
    (taken nearly [] refl refl refl
    (taken moved [] refl (ap₂ (λ (kept signatures : List ℕ). whole moved.node kept signatures) (zeros_again kept_size) (zeros_again signatures_size)) refl
    (taken (open_in 1) [] refl (ap (λ (kept : List ℕ). follows 1 0 0 (zeros members) kept) (zeros_again kept_size)) refl
    (taken (follows 1 0 1 (zeros members) (holding 1)) [] refl refl refl
    (taken (follows 1 0 1 (1 ∷ zeros (members - 1)) (holding 1)) [] refl refl (none_handed (holding 1))
    (taken (follows 1 1 1 (1 ∷ 0 ∷ 1 ∷ zeros (members - 3)) (holding 1)) (attested 1 ∷ []) refl refl (handed_out 1 refl)
    (ignored refl
    (taken (open_in 2) [] refl (ap (λ (kept : List ℕ). follows 2 0 0 (zeros members) kept) cleared_again) (none_handed (holding 1))
    (taken (follows 2 0 1 (1 ∷ zeros (members - 1)) (holding 2)) [] refl refl refl
    (taken last (attested 2 ∷ []) refl refl (handed_out 2 refl)
    no_more)))))))))))

-- whether all the frames are bytes is one computed test
abbrev all_bytes : List (ℕ × Message) → Bool
all_bytes [] = true
all_bytes (p ∷ l) = bytes (own_frame (member p.0) p.1) && all_bytes l

saying_typed : (l : List (ℕ × Message)) → all_bytes l ≡ true → TypedEvents (saying l)
saying_typed [] h = tt
saying_typed (p ∷ l) h = let b = and-true (bytes (own_frame (member p.0) p.1)) (all_bytes l) h in (typed_says p.0 p.1 b.0, saying_typed l b.1)

events_typed : TypedEvents events
unfolding frame_bytes body_bytes attested_bytes counted_bytes flat observation_bytes signer_bytes head_bytes trailer_bytes be_bytes
events_typed = (tt, saying_typed said refl)

events_end : run fresh events ≡ last
events_end = (events_lead.lead events_typed fresh_good).0

events_hand : handed_in fresh events ≡ attested 1 ∷ attested 2 ∷ []
events_hand = (events_lead.lead events_typed fresh_good).1

-- the FINAL is echoed as it is kept
final_echoed : (effect_of (open_in 1) (delivers (says 2 (final (attested 1))))).sent ≡ final_echo (attested 1) ∷ []
unfolding body_length shape_of message_of entries frame_bytes body_bytes attested_bytes counted_bytes flat observation_bytes signer_bytes head_bytes trailer_bytes be_bytes be_number be_from following received
final_echoed = refl

-- the configuration has stayed, and the state is in range with the report that is kept
events_config : (run fresh events).node.config ≡ member 2
events_config = configuration_stays fresh events

last_good : good_state last.node last.kept ≡ true
last_good = ap (λ (w : Whole). good_state w.node w.kept) (sym events_end) ∙ always_good fresh events fresh_begun events_typed

-- what is kept was checked, and is of epoch 1 and round 2
last_kept : KeptChecked last events
last_kept =
    subst (λ (w : Whole). KeptChecked w events) events_end (kept_was_checked fresh events fresh_begun events_typed (ap (λ (w : Whole). is_set w.node.follower.kept) events_end))

kept_epoch : (attested_in (holding 2)).epoch ≡ 1
kept_epoch = last_kept.epoch

kept_round : (attested_in (holding 2)).round ≡ 2
kept_round = last_kept.round

-- both reports that were handed out were checked, and the second is of a later round
both_checked : Checked (member 2) events (attested 1) × Checked (member 2) events (attested 2)
both_checked =
    let all = subst (Each (Checked (member 2) events)) events_hand (handed_was_checked fresh events fresh_begun events_typed) in
    (all.0, all.1.0)

both_rise : newer 1 2 1 1 ≡ true
both_rise = (subst Rising events_hand (handed_once_a_round fresh events fresh_begun events_typed)).0

-- ---- how many rounds are followed

-- r_max is 2: of three requests two are answered, as many as may be, and the third halts the instance
abbrev requests : List Event
requests = delivers (asks 1) ∷ delivers (asks 2) ∷ delivers (asks 3) ∷ []

requests_sent : sent_in moved requests ≡ observe 1 1 (pos 105) own_signature ∷ observe 1 2 (pos 105) own_signature ∷ new_epoch 5 ∷ []
unfolding sent_in step after_state good_state good_node good_config good_feed none_empty sum good_pace good_follower good_leader flags good_kept delivery_answer message_answer frame_answer after_short after_version after_kind after_sender body_answer body_length message_of frame_bytes body_bytes head_bytes trailer_bytes be_bytes be_number be_from number_of follower_answer finding_of following requested pacemaker.change_leader_of
requests_sent = refl

requests_few : 2 ≤ 2
unfolding count_observes
requests_few = rw requests_sent at (few_rounds_an_epoch moved requests 1)

-- ---- a node that was restored

abbrev restored : Whole
restored = lent (restored_node (member 2) (record { epoch = 3; highest = 3 }))

restored_begun : Begun restored
unfolding good_config good_feed none_empty sum
restored_begun =
    record { config = member 2; saved = record { epoch = 3; highest = 3 }; good = refl; saved_good = lit≤ tt; in_range = lit≤ tt; node = refl; kept = lit≤ tt; signatures = lit≤ tt }

-- the leader of its epoch asks it in vain
abbrev before_a_move : List Event
before_a_move = starts 0 ∷ delivers (says 4 (observe_req 3 1)) ∷ fires fired.Resend 0 ∷ []

restored_sends : sent_in restored before_a_move ≡ new_epoch 3 ∷ new_epoch 3 ∷ []
unfolding sent_in step after_state good_state good_node good_config good_feed none_empty sum good_pace good_follower good_leader flags good_kept start_answer timer_answer firing ending delivery_answer message_answer frame_answer after_short after_version after_kind after_sender body_answer body_length message_of frame_bytes body_bytes head_bytes trailer_bytes be_bytes be_number be_from number_of follower_answer finding_of pacing pacemaker.start_of pacemaker.resend_of
restored_sends = refl

restored_waits : Each (λ m. kind_of m ≡ 1) (new_epoch 3 ∷ new_epoch 3 ∷ [])
unfolding run step after_state good_state good_node good_config good_feed none_empty sum good_pace good_follower good_leader flags good_kept start_answer timer_answer firing ending delivery_answer message_answer frame_answer after_short after_version after_kind after_sender body_answer body_length message_of frame_bytes body_bytes head_bytes trailer_bytes be_bytes be_number be_from number_of follower_answer finding_of pacing pacemaker.start_of pacemaker.resend_of
restored_waits = subst (Each (λ m. kind_of m ≡ 1)) restored_sends (restored_waits_for_a_move restored before_a_move restored_begun refl).sends
