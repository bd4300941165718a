-- What a call leaves. And lists of whole calls, none refused: each is the step of its event, so what is shown of steps holds of calls, and what T_grace writes stands in the outbox.
use mathlib.Core.Path.{◌≡◌, refl, sym, ap, ◌∙◌, subst}
use mathlib.Core.Bool.{true, false, false≢true}
use mathlib.Core.List.{List, [], ◌∷◌, map}
use Prim.Native.Nat.{ℕ, ◌+◌, ◌≤◌}
use native.Mathlib.Omega.{arith}
use borrow.Author.Tests.{le-leb}
use lib.ListN.{length, length-append, length-map}
use Rattle.config.specs.Limits.{members, kept_size, signatures_size, outbox_size}
use Rattle.config.specs.Codes.{number_of, is_done}
use Rattle.config.proofs.Facts.{good_facts}
use Rattle.wire.specs.Numbers.{part, be_bytes}
use Rattle.wire.proofs.Overlay.{length_over, part_over}
use Rattle.quorum.proofs.Cases.{test_false}
use Rattle.frame.specs.Table.{shape_of, body_length}
use Rattle.frame.specs.Encode.{signed_bytes, head_bytes, counted_bytes, body_bytes}
use Rattle.outbox.specs.Written.{own_frame, signed_observations}
use Rattle.outbox.proofs.Runs.{length_flat}
use Rattle.outbox.proofs.Frames.{signed, signed_even}
use Rattle.leader.specs.declared.Leader.{Leader}
use Rattle.leader.specs.declared.Asking.TheVariants as asking
use Rattle.leader.specs.Listed.{order, request_of}
use Rattle.leader.specs.Rules.{closing}
use Rattle.leader.proofs.Marked.{order_members}
use Rattle.node.specs.declared.Fired.TheVariants as fired
use Rattle.node.specs.State.{epoch_of, roomy}
use Rattle.node.specs.Event.{Whole, Delivery, Event, delivers, fires, Effect, Step, refused, done}
use Rattle.node.specs.Answers.{event_answer, answer_to}
use Rattle.node.specs.Effects.{pacing, moving, following, leading, timing, effect_of}
use Rattle.node.specs.Calls.{step, Out, frames_of, settled, in_room, called}
use Rattle.node.specs.Runs.{settled_in, after, run, deliveries, Done, AllOf, Call, given_by, left, answered, call_all, AllDone}
use Rattle.node.specs.Claims.{Sized, CallLeavesTheStep, ClosedForm, EpochCallsDecideNothing, grace_at, ObservationCallsDecideNothing}
use Rattle.node.proofs.Checks.{state_passed, state_config}
use Rattle.node.proofs.Ready.{room_facts}
use Rattle.node.proofs.Frames.{asking_fits}
use Rattle.node.proofs.Steps.{called_refused, called_answer, call_is_the_step}
use Rattle.node.proofs.Ruled.{Ruled, by_start, by_resend, by_progress, by_round, by_grace, by_hearing, by_moving, by_following, by_observe, by_report, kept_by_steps}
use Rattle.node.proofs.Turns.{done_step}
use Rattle.node.proofs.Kept.{length_kept}
use Rattle.node.proofs.Written.{length_own}
use Rattle.node.proofs.Order.{after_any_list, epoch_order_decides_nothing, observation_order_decides_nothing}

-- ---- one call

module _ (w : Whole) (e : Event) (outbox : List ℕ) (at : ℕ) where
  left_in_room : in_room w outbox at ≡ true → left (called w e outbox at) ≡ after w e
  unfolding settled
  left_in_room room = go (step w e) refl
    where
      go : (s : Step) → step w e ≡ s → left (called w e outbox at) ≡ settled_in w s
      go (refused a) h = ap left ((call_is_the_step w e outbox at).refusal a room h)
      go (done f) h = ap left ((call_is_the_step w e outbox at).rule f room h)

  refused_no_room : in_room w outbox at ≡ false → is_done (answer_to (in_room w outbox at) w e) ≡ false
  refused_no_room room =
      test_false _ (λ h. false≢true (sym room ∙ (state_passed (in_room w outbox at) w.node w.kept (event_answer w.node e) h).roomy))

pub call_leaves_the_step : CallLeavesTheStep
call_leaves_the_step w e outbox at =
    record {
      with_room = left_in_room w e outbox at;
      no_room = λ room. ap left (called_refused w e outbox at (refused_no_room w e outbox at room));
    }

-- one that is done
module _ (w : Whole) (e : Event) (outbox : List ℕ) (at : ℕ) (h : is_done (called w e outbox at).result.answer ≡ true) where
  call_done : is_done (answer_to (in_room w outbox at) w e) ≡ true
  call_done = ap is_done (sym (called_answer w e outbox at)) ∙ h

  call_room : in_room w outbox at ≡ true
  call_room = (state_passed (in_room w outbox at) w.node w.kept (event_answer w.node e) call_done).roomy

  call_step : step w e ≡ done (effect_of w e)
  unfolding step
  call_step = let d : is_done (answer_to true w e) ≡ true = rw call_room at call_done in rw d

  call_settled : called w e outbox at ≡ settled (effect_of w e) outbox at
  call_settled = (call_is_the_step w e outbox at).rule (effect_of w e) call_room call_step

  call_left : left (called w e outbox at) ≡ after w e
  call_left = left_in_room w e outbox at call_room

-- ---- a list

module _ (kind : ℕ) where
  calls_done : (w : Whole) (ks : List Call) → AllDone kind w ks → AllOf kind w (given_by ks)
  calls_done w [] h = tt
  calls_done w (k ∷ ks) (is, h, rest) =
      let e = delivers k.given in
      (is, subst Done (sym (call_step w e k.outbox k.at h)) tt, subst (λ (v : Whole). AllOf kind v (given_by ks)) (call_left w e k.outbox k.at h) (calls_done (left (answered w k)) ks rest))

  pub calls_run : (w : Whole) (ks : List Call) → AllDone kind w ks → call_all w ks ≡ run w (deliveries (given_by ks))
  unfolding call_all run
  calls_run w [] h = refl
  calls_run w (k ∷ ks) (is, h, rest) =
      calls_run (left (answered w k)) ks rest ∙ ap (λ (v : Whole). run v (deliveries (given_by ks))) (call_left w (delivers k.given) k.outbox k.at h)

pub epoch_calls_decide_nothing : EpochCallsDecideNothing
epoch_calls_decide_nothing w ks ks' r started h h' same =
    let ds = given_by ks in
    let all = calls_done 1 w ks h in
    let steps = calls_run 1 w ks h in (
      steps ∙ epoch_order_decides_nothing w ds (given_by ks') r started all (calls_done 1 w ks' h') same ∙ sym (calls_run 1 w ks' h'),
      subst (ClosedForm w ds) (sym steps) (after_any_list w ds r started all),
    )

-- ---- what T_grace writes

-- how long the body of a request is, whatever was observed
request_long : (n epoch : ℕ) (s : Leader) (signatures : List ℕ) → n ≤ members → signatures_size ≤ length signatures → length (body_bytes (request_of n epoch s signatures)) ≡ body_length 4 (length (order n s.observed s.values)) 0
unfolding body_bytes head_bytes counted_bytes be_bytes body_length
request_long n epoch s signatures few long =
    let l = order n s.observed s.values in
    let many = length-map l (signed s.values signatures) in
    let even = signed_even n l signatures (order_members n s.observed s.values) (omega arith) s.values in
    omega (arith, length_flat signed_bytes (shape_of 4).entry (signed s.values signatures 0) (signed_observations l s.values signatures) even)

grace_written : (w : Whole) (time : ℕ) (outbox : List ℕ) (at : ℕ) → is_done (grace_at w time outbox at).result.answer ≡ true → part (grace_at w time outbox at).outbox at (grace_at w time outbox at).result.written ≡ frames_of w.node.config (timing w fired.Grace).sent
unfolding frames_of settled leading closing
grace_written w time outbox at h =
    let e = fires fired.Grace time in
    let c = w.node.config in
    let good = good_facts c (state_config (in_room w outbox at) w.node w.kept (event_answer w.node e) (call_done w e outbox at h)) in
    let room = room_facts outbox at w.kept w.signatures (call_room w e outbox at h) in
    let l = (closing w.node.leader).leader in
    let m = request_of c.n (epoch_of w.node) l w.signatures in
    rw (call_settled w e outbox at h)
    (part_over outbox at (frames_of c (timing w fired.Grace).sent) (omega (arith, length-append (own_frame c m) [], length_own c m, request_long c.n (epoch_of w.node) l w.signatures (omega arith) (omega arith), asking_fits c l asking.Reports outbox at (omega arith) (omega arith))))

pub observation_calls_decide_nothing : ObservationCallsDecideNothing
observation_calls_decide_nothing w ks ks' t h h' r =
    let same = calls_run 3 w ks h ∙ (observation_order_decides_nothing w (given_by ks) (given_by ks') t (calls_done 3 w ks h) (calls_done 3 w ks' h') r).whole_after ∙ sym (calls_run 3 w ks' h') in
    record {
      whole_after = same;
      request = λ time time' outbox outbox' at at' g g'.
          grace_written (call_all w ks) time outbox at g
          ∙ ap (λ (v : Whole). frames_of v.node.config (timing v fired.Grace).sent) same
          ∙ sym (grace_written (call_all w ks') time' outbox' at' g');
    }

-- ---- the other way round: in buffers of their sizes, what is done by steps is done by calls

-- no rule changes how long a buffer is
sized_ruled : {w : Whole} {e : Event} {f : Effect} → Sized w → Ruled w e f → Sized f.whole_after
unfolding pacing moving following leading
sized_ruled z (by_start time) = record { kept = z.kept; signatures = z.signatures }
sized_ruled z (by_resend time h) = record { kept = z.kept; signatures = z.signatures }
sized_ruled z (by_progress time h) = record { kept = z.kept; signatures = z.signatures }
sized_ruled z (by_round time h g) = record { kept = z.kept; signatures = rw length_over z.signatures }
sized_ruled z (by_grace time h) = record { kept = z.kept; signatures = z.signatures }
sized_ruled z (by_hearing d x s h) = record { kept = z.kept; signatures = z.signatures }
sized_ruled z (by_moving d x s h) = record { kept = rw length_over z.kept; signatures = rw length_over z.signatures }
sized_ruled {w} z (by_following d m s h g) = record { kept = rw (length_kept w.node.follower w.kept m) z.kept; signatures = z.signatures }
sized_ruled z (by_observe d x r v g s h) = record { kept = z.kept; signatures = rw length_over z.signatures }
sized_ruled z (by_report d x r xs g s h q) = record { kept = z.kept; signatures = rw length_over z.signatures }

-- each with the same outbox and position
abbrev pub calls_in : List ℕ → ℕ → List Delivery → List Call
calls_in outbox at ds = map (λ d. record { given = d; outbox = outbox; at = at }) ds

module _ (outbox : List ℕ) (at : ℕ) (long : at + outbox_size ≤ length outbox) where
  pub call_in_room : (w : Whole) (e : Event) → Sized w → Done (step w e) → is_done (called w e outbox at).result.answer ≡ true
  unfolding roomy settled number_of
  call_in_room w e z h =
      let room : in_room w outbox at ≡ true = rw (le-leb (at + outbox_size) (length outbox) long, le-leb kept_size (length w.kept) z.kept, le-leb signatures_size (length w.signatures) z.signatures) in
      ap (λ (r : Out). is_done r.result.answer) ((call_is_the_step w e outbox at).rule (effect_of w e) room (done_step w e h))

  pub calls_in_room : (kind : ℕ) (w : Whole) (ds : List Delivery) → Sized w → AllOf kind w ds → AllDone kind w (calls_in outbox at ds)
  calls_in_room kind w [] z h = tt
  calls_in_room kind w (d ∷ ds) z (is, h, rest) =
      let e = delivers d in
      let done = call_in_room w e z h in
      let more = calls_in_room kind (after w e) ds (kept_by_steps Sized w e z (λ f good r. sized_ruled z r)) rest in
      (is, done, subst (λ (v : Whole). AllDone kind v (calls_in outbox at ds)) (sym (call_left w e outbox at done)) more)
