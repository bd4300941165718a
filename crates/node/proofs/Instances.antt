-- Instances of the claims over one step: n = 4 and f = 1, of whom this node is member 2. It starts, is moved to epoch 1, which it leads, takes observations and asks for reports.
use mathlib.Core.Path.{◌≡◌, refl, sym, ap, ap₂, ◌∙◌}
use mathlib.Core.Bool.{Bool, true, ◌&&◌}
use mathlib.Core.List.{List, [], ◌∷◌, ◌++◌, map, append-nil}
use Prim.Native.Nat.{ℕ, ◌+◌, ◌-◌, zero-le}
use native.Mathlib.Omega.{arith}
use borrow.Author.Tests.{ltb-true}
use lib.Dec.{ltb, lit<, lit≤}
use lib.IntN.{ℤ, pos}
use lib.ListN.{length, replicate, length-replicate, drop_of_length-le}
use Rattle.config.specs.Limits.{members, kept_size, signatures_size, outbox_size}
use Rattle.config.specs.Bounds.{config_of, good_feed, good_config, none_empty, sum}
use Rattle.config.specs.Codes.{number_of, is_done}
use Rattle.config.specs.Answers as answer
use Rattle.config.specs.declared.Commit.{Commit}
use Rattle.config.specs.declared.Config.{Config}
use Rattle.config.specs.declared.Saved.{Saved}
use Rattle.config.proofs.Facts.{and-true}
use Rattle.wire.specs.Numbers.{Bytes, be_from, be_number, be_bytes}
use Rattle.wire.specs.Overlay.{over}
use Rattle.wire.proofs.Numbers.{bytes_cons, bytes_replicate}
use Rattle.wire.proofs.Overlay.{length_over, over_eq}
use Rattle.price.specs.Due.{should_report}
use Rattle.quorum.specs.First.{first_at, among}
use Rattle.quorum.specs.Marks.{flags}
use Rattle.frame.specs.Message.{Observation, Signed, Message, new_epoch, observe_req, observe, report_req, report, blank}
use Rattle.frame.specs.Table.{shape_of, body_length}
use Rattle.frame.specs.Encode.{observation_bytes, signed_bytes, flat, head_bytes, counted_bytes, body_bytes, trailer_bytes, frame_bytes}
use Rattle.frame.specs.Decode.{entries, message_of}
use Rattle.frame.specs.Range.{all_members}
use Rattle.frame.specs.Check.{body_answer, after_sender, after_kind, after_version, after_short, frame_answer}
use Rattle.frame.specs.Claims.{ReadAs}
use Rattle.outbox.specs.Written.{own_frame, own_signature, signed_observations}
use Rattle.report.specs.Stands.{not_falling, list_fault, bits_fault}
use Rattle.pacemaker.specs.declared.Pace.{Pace}
use Rattle.pacemaker.specs.State.{good_pace}
use Rattle.pacemaker.specs.Rules as pacemaker
use Rattle.follower.specs.declared.Follower.{Follower}
use Rattle.follower.specs.State.{good_follower, in_round}
use Rattle.follower.specs.Takes.{finding_of}
use Rattle.follower.specs.Rules.{requested, asked as asked_for}
use Rattle.leader.specs.declared.Leader.{Leader}
use Rattle.leader.specs.State.{collecting, in_grace, good_leader, empty_round, no_round}
use Rattle.leader.specs.Listed.{marked_up_to, order}
use Rattle.leader.specs.Rules.{next_round, observing, observe_signed, closing}
use Rattle.node.specs.declared.Node.{Node}
use Rattle.node.specs.declared.Fired.TheVariants as fired
use Rattle.node.specs.declared.Outcome.{Outcome}
use Rattle.node.specs.State.{restored_node, nothing_saved, good_node, good_kept, good_state, roomy}
use Rattle.node.specs.Event.{Whole, whole, Delivery, delivery, Event, starts, delivers, fires, done}
use Rattle.node.specs.Answers.{start_answer, firing, ending, timer_answer, unarmed_answer, follower_answer, leader_answer, message_answer, delivery_answer, after_state, answer_to}
use Rattle.node.specs.Effects.{pacing, begun, moving, hearing, following, leading, effect_of}
use Rattle.node.specs.Calls.{restore_answer, step, out, refusing, settled, called, unarmed_of}
use Rattle.node.specs.Runs.{after, run, left}
use Rattle.node.specs.Typed.{TypedWhole, TypedDelivery, TypedEvents}
use Rattle.node.specs.Claims.{Unchanged, Sized, listed, StandIn, FewSent, AnswersRequest, AnswersList, Armed}
use Rattle.node.proofs.Steps.{refusal_changes_nothing, refused_is_no_node, made_is_good, new_epoch_is_taken, call_is_the_step, one_result}
use Rattle.node.proofs.Listed.{unarmed_changes_nothing, answers_are_listed}
use Rattle.node.proofs.Sent.{new_epoch_goes_first, signs_only_what_it_answers}
use Rattle.node.proofs.Written.{sent_is_read, frames_stand}
use Rattle.node.proofs.Closed.{good_stays_good}
use Rattle.node.proofs.Armed.{flags_are_the_timers}
use Rattle.node.proofs.Typed.{typed_stays_typed, restored_typed}
use Rattle.node.proofs.Calls.{call_leaves_the_step}

-- ---- the members, and what they say

abbrev pub member : ℕ → Config
member own = config_of 5 4 1 own 2 5000000 1000 100 1 (4 ∷ [])

abbrev none : Commit
none = record { median = pos 0; time = 0; epoch = 0; round = 0 }

-- a frame from member j, whose first two signatures verified
abbrev pub says : ℕ → Message → Delivery
says j m = delivery j 0 (pos 105) none 3 (own_frame (member j) m)

-- ---- the states of the run

abbrev pub zeros : ℕ → List ℕ
zeros n = replicate n 0

abbrev pub lent : Node → Whole
lent n = whole n (zeros kept_size) (zeros signatures_size)

abbrev pace : ℕ → ℕ → List ℕ → Pace
pace epoch highest heard = record { epoch = epoch; highest = highest; heard = heard; started = 1; progress = 1; resend = 1 }

-- no instance has begun
abbrev pub waiting : List ℕ → Whole
waiting heard = lent (record { config = member 2; pace = pace 0 1 heard; follower = in_round 0 0; leader = no_round })

abbrev pub fresh : Whole
fresh = lent (restored_node (member 2) nothing_saved)

abbrev pub nearly : Whole
nearly = waiting (1 ∷ 0 ∷ 5 ∷ zeros (members - 3))

abbrev pub in_epoch_lem : Follower → Leader → Node
in_epoch_lem s l = record { config = member 2; pace = pace 1 5 (1 ∷ 0 ∷ 5 ∷ 5 ∷ zeros (members - 4)); follower = s; leader = l }

abbrev pub moved : Whole
moved = lent (in_epoch_lem (in_round 1 0) (empty_round collecting 1 1))

-- ---- the run

pub starting : after fresh (starts 0) ≡ waiting (zeros members)
unfolding step after_state good_state good_node good_config good_feed none_empty sum good_pace good_follower good_leader flags good_kept start_answer number_of pacing pacemaker.start_of
starting = refl

pub two_heard : run (waiting (zeros members)) (delivers (says 1 (new_epoch 1)) ∷ delivers (says 3 (new_epoch 5)) ∷ []) ≡ nearly
unfolding run step after_state good_state good_node good_config good_feed none_empty sum good_pace good_follower good_leader flags good_kept delivery_answer message_answer frame_answer after_short after_version after_kind after_sender body_answer body_length message_of frame_bytes body_bytes trailer_bytes be_bytes be_number be_from number_of hearing pacing pacemaker.new_epoch_of pacemaker.hearing pacemaker.amplifying pacemaker.moving
two_heard = refl

-- zeros over zeros are zeros
pub zeros_again : (n : ℕ) → over (zeros n) 0 (zeros n) ≡ zeros n
zeros_again n =
    let long = length-replicate {A = ℕ} n 0 in
    over_eq (zeros n) 0 (zeros n) (omega arith) ∙ ap (λ (l : List ℕ). zeros n ++ l) (drop_of_length-le (zeros n) {i = 0 + length (zeros n)} (omega arith)) ∙ append-nil (zeros n)

-- two entries above what was sent, and three above the epoch: the node sends 5, and moves to 1, which it leads
unfoldable pub third : Delivery
third = says 4 (new_epoch 5)

third_sends : (effect_of nearly (delivers third)).sent ≡ new_epoch 5 ∷ observe_req 1 1 ∷ []
unfolding third message_of frame_bytes body_bytes trailer_bytes be_bytes be_number be_from hearing moving begun next_round pacemaker.new_epoch_of pacemaker.hearing pacemaker.amplifying pacemaker.moving
third_sends = refl

pub moving_on : after nearly (delivers third) ≡ moved
unfolding third step after_state good_state good_node good_config good_feed none_empty sum good_pace good_follower good_leader flags good_kept delivery_answer message_answer frame_answer after_short after_version after_kind after_sender body_answer body_length message_of frame_bytes body_bytes trailer_bytes be_bytes be_number be_from number_of hearing moving begun next_round pacemaker.new_epoch_of pacemaker.hearing pacemaker.amplifying pacemaker.moving
moving_on = ap₂ (λ (kept signatures : List ℕ). whole moved.node kept signatures) (zeros_again kept_size) (zeros_again signatures_size)

-- three observations make more than 2f, and T_grace starts
abbrev pub observes : ℕ → ℤ → Delivery
observes j v = says j (observe 1 1 v blank)

abbrev observed_by_lem : List ℤ → List ℕ → Leader
observed_by_lem values observed =
    record { values = values; observed = observed; reported = zeros members; phase = in_grace; round = 1; t_round = 1; t_grace = 1 }

abbrev pub graced : Whole
graced =
    whole (in_epoch_lem (in_round 1 0) (observed_by_lem (pos 107 ∷ pos 0 ∷ pos 100 ∷ pos 105 ∷ replicate (members - 4) (pos 0)) (1 ∷ 0 ∷ 1 ∷ 1 ∷ zeros (members - 4)))) (zeros kept_size)
    (observe_signed (observe_signed (observe_signed (zeros signatures_size) 1 blank) 3 blank) 4 blank)

pub three_observed : run moved (delivers (observes 1 (pos 107)) ∷ delivers (observes 3 (pos 100)) ∷ delivers (observes 4 (pos 105)) ∷ []) ≡ graced
unfolding run step after_state good_state good_node good_config good_feed none_empty sum good_pace good_follower good_leader flags good_kept delivery_answer message_answer frame_answer after_short after_version after_kind after_sender body_answer body_length message_of frame_bytes body_bytes head_bytes trailer_bytes be_bytes be_number be_from number_of leader_answer leading observing
three_observed = refl

-- ---- steps that are done

pub passed : (w : Whole) (e : Event) → is_done (answer_to true w e) ≡ true → step w e ≡ done (effect_of w e)
unfolding step
passed w e h = rw h

third_done : step nearly (delivers third) ≡ done (effect_of nearly (delivers third))
unfolding third after_state good_state good_node good_config good_feed none_empty sum good_pace good_follower good_leader flags good_kept delivery_answer message_answer frame_answer after_short after_version after_kind after_sender body_answer body_length message_of frame_bytes body_bytes trailer_bytes be_bytes be_number be_from number_of
third_done = passed nearly (delivers third) refl

-- the node's own request, which it follows as everybody does
request : Delivery
request = says 2 (observe_req 1 1)

request_done : step moved (delivers request) ≡ done (effect_of moved (delivers request))
unfolding request after_state good_state good_node good_config good_feed none_empty sum good_pace good_follower good_leader flags good_kept delivery_answer message_answer frame_answer after_short after_version after_kind after_sender body_answer body_length message_of frame_bytes body_bytes head_bytes trailer_bytes be_bytes be_number be_from number_of follower_answer finding_of
request_done = passed moved (delivers request) refl

request_answered : (effect_of moved (delivers request)).sent ≡ observe 1 1 (pos 105) own_signature ∷ []
unfolding request message_of frame_bytes body_bytes head_bytes trailer_bytes be_bytes be_number be_from following requested
request_answered = refl

pub grace_done : step graced (fires fired.Grace 0) ≡ done (effect_of graced (fires fired.Grace 0))
unfolding after_state good_state good_node good_config good_feed none_empty sum good_pace good_follower good_leader flags good_kept timer_answer firing ending number_of
grace_done = passed graced (fires fired.Grace 0) refl

-- members 3, 4 and 1, in the order of their values
abbrev pub asked : Message
asked = report_req 1 1 (signed_observations (3 ∷ 4 ∷ 1 ∷ []) graced.node.leader.values graced.signatures)

pub grace_asks : (effect_of graced (fires fired.Grace 0)).sent ≡ asked ∷ []
unfolding leading closing order marked_up_to
grace_asks = refl

-- ---- what types hold, along the run

-- whether all of a list are bytes is one computed test
abbrev pub bytes : List ℕ → Bool
bytes [] = true
bytes (b ∷ l) = ltb b 256 && bytes l

are_bytes : (l : List ℕ) → bytes l ≡ true → Bytes l
are_bytes [] h = λ k. lit< tt
are_bytes (b ∷ l) h = let p = and-true (ltb b 256) (bytes l) h in bytes_cons b l (ltb-true b 256 p.0) (are_bytes l p.1)

-- a frame from a member is bytes, and 105 has 64 bits
pub typed_says : (j : ℕ) (m : Message) → bytes (own_frame (member j) m) ≡ true → TypedDelivery (says j m)
typed_says j m h = record { observation = record { sfits = lit< tt }; frame = are_bytes (own_frame (member j) m) h }

typed_run : (w : Whole) (es : List Event) → TypedWhole w → TypedEvents es → TypedWhole (run w es)
unfolding run
typed_run w [] t u = t
typed_run w (e ∷ es) t (u, us) = typed_run (after w e) es (typed_stays_typed w e t u) us

fresh_typed : TypedWhole fresh
fresh_typed = restored_typed (member 2) nothing_saved (zeros kept_size) (zeros signatures_size) (lit< tt) zero-le zero-le (bytes_replicate kept_size) (bytes_replicate signatures_size)

third_typed : TypedDelivery third
unfolding third frame_bytes body_bytes trailer_bytes be_bytes
third_typed = typed_says 4 (new_epoch 5) refl

nearly_typed : TypedWhole nearly
unfolding frame_bytes body_bytes trailer_bytes be_bytes
nearly_typed =
    rw two_heard at (typed_run (waiting (zeros members)) (delivers (says 1 (new_epoch 1)) ∷ delivers (says 3 (new_epoch 5)) ∷ [])
    (rw starting at (typed_stays_typed fresh (starts 0) fresh_typed tt)) (typed_says 1 (new_epoch 1) refl, (typed_says 3 (new_epoch 5) refl, tt)))

pub moved_typed : TypedWhole moved
moved_typed = rw moving_on at (typed_stays_typed nearly (delivers third) nearly_typed third_typed)

pub graced_typed : TypedWhole graced
unfolding frame_bytes body_bytes head_bytes trailer_bytes be_bytes
graced_typed =
    rw three_observed at (typed_run moved (delivers (observes 1 (pos 107)) ∷ delivers (observes 3 (pos 100)) ∷ delivers (observes 4 (pos 105)) ∷ []) moved_typed
    (typed_says 1 (observe 1 1 (pos 107) blank) refl, (typed_says 3 (observe 1 1 (pos 100) blank) refl, (typed_says 4 (observe 1 1 (pos 105) blank) refl, tt))))

-- ---- an instance of each claim

-- a NEWEPOCH before Start changes nothing
abbrev early : Event
early = delivers (says 1 (new_epoch 1))

abbrev pub outbox : List ℕ
outbox = zeros outbox_size

-- and one with three bytes before the position
abbrev pub longer : List ℕ
longer = zeros (3 + outbox_size)

early_changes_nothing : Unchanged fresh outbox (called fresh early outbox 0)
unfolding called after_state good_state good_node good_config good_feed none_empty sum good_pace good_follower good_leader flags good_kept roomy delivery_answer message_answer frame_answer after_short after_version after_kind after_sender body_answer body_length message_of frame_bytes body_bytes trailer_bytes be_bytes be_number be_from number_of
early_changes_nothing = refusal_changes_nothing fresh early outbox 0 refl

-- what was sent below the epoch is no state to restore
abbrev below : Saved
below = record { epoch = 3; highest = 2 }

below_is_no_node : (e : Event) → (called (lent (restored_node (member 2) below)) e outbox 0).result.answer ≡ answer.State
unfolding restore_answer good_config good_feed none_empty sum number_of
below_is_no_node e = refused_is_no_node (member 2) below e outbox (zeros kept_size) (zeros signatures_size) 0 refl

pub fresh_good : good_state fresh.node fresh.kept ≡ true
unfolding restore_answer good_config good_feed none_empty sum number_of
fresh_good = made_is_good (member 2) nothing_saved (zeros kept_size) refl

-- the third NEWEPOCH is taken, is the step, and leaves a state in range, with numbers that its types hold and its timers armed
third_taken : (called nearly (delivers third) outbox 0).result.answer ≡ answer.Done
unfolding third good_state good_node good_config good_feed none_empty sum good_pace good_follower good_leader flags good_kept roomy frame_answer after_short after_version after_kind after_sender body_answer body_length message_of frame_bytes body_bytes trailer_bytes be_bytes be_number be_from
third_taken = new_epoch_is_taken nearly third outbox 0 refl refl refl refl refl refl

third_is_the_step : called nearly (delivers third) outbox 0 ≡ settled (effect_of nearly (delivers third)) outbox 0
unfolding roomy
third_is_the_step = (call_is_the_step nearly (delivers third) outbox 0).rule (effect_of nearly (delivers third)) refl third_done

-- its call leaves the state that it moves to or, in an outbox of no byte, the one that it found
third_leaves : left (called nearly (delivers third) outbox 0) ≡ moved
unfolding roomy
third_leaves = (call_leaves_the_step nearly (delivers third) outbox 0).with_room refl ∙ moving_on

third_without_room : left (called nearly (delivers third) [] 0) ≡ nearly
unfolding roomy
third_without_room = (call_leaves_the_step nearly (delivers third) [] 0).no_room refl

moved_good : good_state moved.node moved.kept ≡ true
unfolding good_state good_node good_config good_feed none_empty sum good_pace good_follower good_leader flags good_kept
moved_good =
    ap (λ (w : Whole). good_state w.node w.kept) (sym moving_on) ∙ good_stays_good nearly (delivers third) third_typed refl

third_armed : Armed nearly (delivers third) (effect_of nearly (delivers third))
third_armed = flags_are_the_timers nearly (delivers third) (effect_of nearly (delivers third)) third_done

-- of its two frames the NEWEPOCH goes first; both are read back, and stand in the outbox, with the bytes around them as they were
third_in_order : FewSent (new_epoch 5 ∷ observe_req 1 1 ∷ [])
third_in_order = rw third_sends at (new_epoch_goes_first nearly (delivers third) (effect_of nearly (delivers third)) third_done)

pub sized : (n : Node) → Sized (lent n)
sized n = record { kept = lit≤ tt; signatures = lit≤ tt }

third_is_read : ReadAs (own_frame (member 2) (new_epoch 5)) 4 5 2 (new_epoch 5) × ReadAs (own_frame (member 2) (observe_req 1 1)) 4 5 2 (observe_req 1 1)
third_is_read =
    let all = rw third_sends at (sent_is_read nearly (delivers third) (effect_of nearly (delivers third)) nearly_typed (sized nearly.node) third_typed third_done) in
    (all.0, all.1.0)

third_stands : StandIn (member 2) (new_epoch 5 ∷ observe_req 1 1 ∷ []) longer 3 (called nearly (delivers third) longer 3)
unfolding roomy
third_stands =
    rw third_sends at (frames_stand nearly (delivers third) (effect_of nearly (delivers third)) longer 3 nearly_typed third_typed refl third_done)

-- the OBSERVE answers the request, with the host's observation
request_signed : AnswersRequest request 1 1 (pos 105) own_signature
request_signed = (rw request_answered at (signs_only_what_it_answers moved (delivers request) (effect_of moved (delivers request)) request_done)).0

-- in round 1 the leader lists three observations, whose signatures verified: nothing is committed yet, so the node reports them
abbrev in_first : Whole
in_first = lent (in_epoch_lem (in_round 1 1) (empty_round collecting 1 1))

abbrev three : List Signed
three = map (λ (o : Observation). record { said = o; signature = blank }) (record { member = 3; value = pos 100 } ∷ record { member = 4; value = pos 105 } ∷ record { member = 1; value = pos 107 } ∷ [])

listing : Delivery
listing = delivery 2 0 (pos 105) none 7 (own_frame (member 2) (report_req 1 1 three))

listing_done : step in_first (delivers listing) ≡ done (effect_of in_first (delivers listing))
unfolding listing after_state good_state good_node good_config good_feed none_empty sum good_pace good_follower good_leader flags good_kept delivery_answer message_answer frame_answer after_short after_version after_kind after_sender body_answer body_length shape_of message_of entries frame_bytes body_bytes counted_bytes flat signed_bytes observation_bytes head_bytes trailer_bytes be_bytes be_number be_from all_members number_of follower_answer finding_of list_fault not_falling bits_fault first_at
listing_done = passed in_first (delivers listing) refl

listing_answered : (effect_of in_first (delivers listing)).sent ≡ report 1 1 (map (λ (x : Signed). x.said) three) own_signature ∷ []
unfolding listing shape_of message_of entries frame_bytes body_bytes counted_bytes flat signed_bytes observation_bytes head_bytes trailer_bytes be_bytes be_number be_from following asked_for should_report
listing_answered = refl

listing_signed : AnswersList listing 1 1 (map (λ (x : Signed). x.said) three) own_signature
listing_signed = (rw listing_answered at (signs_only_what_it_answers in_first (delivers listing) (effect_of in_first (delivers listing)) listing_done)).0

-- the request for reports is read back too
pub graced_sized : Sized graced
graced_sized = record { kept = lit≤ tt; signatures = simp length_over (lit≤ tt) }

grace_is_read : ReadAs (own_frame (member 2) asked) 4 5 2 asked
grace_is_read = (rw grace_asks at (sent_is_read graced (fires fired.Grace 0) (effect_of graced (fires fired.Grace 0)) graced_typed graced_sized tt grace_done)).0

-- T_grace that is not armed is IGNORED, which is listed
unarmed_listed : among (number_of (called moved (fires fired.Grace 0) outbox 0).result.answer) (listed (fires fired.Grace 0)) ≡ true
unarmed_listed = (answers_are_listed moved (fires fired.Grace 0) outbox 0 (member 2) nothing_saved).call

-- so is a timer that is none of the four
none_of_four : called moved (fires fired.Grace 0) outbox 0 ≡ unarmed_of moved.node 0 outbox 0 moved.kept moved.signatures
unfolding firing
none_of_four = (unarmed_changes_nothing moved 0 outbox 0).same fired.Grace refl

-- its promise allows IGNORED, with every buffer as it was, and nothing else
none_of_four_once : (r : Outcome) (o k g : List ℕ) → out r o k g ≡ unarmed_of moved.node 0 outbox 0 moved.kept moved.signatures → (r ≡ refusing answer.Ignored moved.node) × (o ≡ outbox) × (k ≡ moved.kept) × (g ≡ moved.signatures)
unfolding unarmed_answer after_state good_state good_node good_config good_feed none_empty sum good_pace good_follower good_leader flags good_kept roomy
none_of_four_once r o k g h =
    (one_result moved (fires fired.Grace 0) 0 outbox 0 (member 2) nothing_saved).unarmed r (refusing answer.Ignored moved.node) o outbox k moved.kept g moved.signatures h refl
