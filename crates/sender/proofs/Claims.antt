-- The claims of specs/Claims.antt, each proved, and for each an instance that computes.
use mathlib.Core.Path.{◌≡◌, refl, sym, ap, ◌∙◌, subst}
use mathlib.Core.Bool.{Bool, true, false, cond, false≢true}
use mathlib.Core.List.{List, [], ◌∷◌, ◌++◌}
use Prim.Native.Nat.{ℕ, suc, ◌*◌, ◌≤◌, ◌<◌}
use native.Mathlib.Omega.{arith}
use borrow.Author.Tests.{leb-true, leb-false}
use lib.Dec.{eqb}
use lib.IntN.{pos}
use lib.ListN.{length, replicate, get_or-replicate}
use lib.Seq.{length-take-le}
use Rattle.std.specs.declared.option.Option.{Option}
use Rattle.config.specs.Limits.{kept_size, slots, waiting_size}
use Rattle.config.specs.Bounds.{config_of, none_empty, sum, good_feed, good_config}
use Rattle.config.specs.Codes.{number_of, is_done}
use Rattle.config.specs.Answers as answer
use Rattle.config.specs.declared.Config.{Config}
use Rattle.config.specs.declared.Commit.{Commit}
use Rattle.config.proofs.Facts.{good_facts}
use Rattle.wire.specs.Numbers.{be_from, be_number, be_bytes}
use Rattle.price.specs.Deviation.{deviates}
use Rattle.quorum.specs.Marks.{flags}
use Rattle.quorum.specs.Sort.{Perm}
use Rattle.quorum.specs.First.{first_at, among}
use Rattle.quorum.proofs.Marks.{flags_none}
use Rattle.quorum.proofs.Cases.{cases, test}
use Rattle.frame.specs.Message.{Attested, blank}
use Rattle.frame.specs.Table.{table, shape_of, body_length}
use Rattle.frame.specs.Encode.{observation_bytes, signer_bytes, flat, head_bytes, counted_bytes, attested_bytes}
use Rattle.frame.specs.Decode.{entries, attested_in, message_of}
use Rattle.frame.specs.Range.{all_members}
use Rattle.frame.specs.Check.{body_answer}
use Rattle.report.specs.Newer.{newer}
use Rattle.report.specs.Kept.{kept_bytes}
use Rattle.report.specs.Whole.{report_of}
use Rattle.report.proofs.Bodies.{good_short}
use Rattle.sender.specs.declared.Sender.{Sender}
use Rattle.sender.specs.declared.Accepted.{Accepted}
use Rattle.sender.specs.declared.Transmit.TheVariants.{Leave}
use Rattle.sender.specs.declared.Queued.{Queued}
use Rattle.sender.specs.declared.Part.{Part}
use Rattle.sender.specs.State.{fresh_sender, taken, slot_in, good_times, good_slots, good_fields, good_sender}
use Rattle.sender.specs.Stage.{permutes, stage_of, stage_for, stages_of, place_in, waits}
use Rattle.sender.specs.Waiting.{waiting_below, waiting, sooner, earliest_below, earliest, free_in}
use Rattle.sender.specs.Calls.{after_similar, after_config, after_body, transmit_answer, accepted_of, with_accepted, queueing, due_at, accepting, Sent, sent, transmitted, transmit_of, early, timeout_answer, nothing, releasing, released, timeout_of, handed_part}
use Rattle.sender.specs.History.{Whole, Call, transmits, expires, after, run, queued_in, removed_in, handed_by}
use Rattle.sender.specs.Claims.{RefusalChangesNothing, FreshIsGood, GoodStaysGood, RefusedIsNoSender, OneResult, ConfigurationStays, DoneIsAccepted, AcceptsOnlyNewer, NotOlder, AcceptedOnlyRises, NothingIsLost, NothingWaitsAtFirst, Rising, QueuedOnlyRises, if_newer, HandsOutWhatItRemoves, Stays, SlotsStay, TimeoutTakesTheEarliest, TimeoutsEmptyTheQueue, StageHoldsThePlace, BeyondTheLastStage, EveryPlaceIsTaken, Good, RemovesOne, Timeout, calling, Holds}
use Rattle.sender.proofs.Places.{stage_holds, stage_beyond, member_among}
use Rattle.sender.proofs.Facts.{sender_facts, good_sender_lem, config_refused, transmit_passed, transmit_done, transmit_answer_lem, timeout_passed, timeout_done, timeout_answer_lem}
use Rattle.sender.proofs.Queue.{held_at, earliest_law}
use Rattle.sender.proofs.Writes.{times_none, taken_here, slots_each, each_slots}
use Rattle.sender.proofs.Runs.{good_call, rises_run, config_run, queued_rises, slot_stays, moved_run, timeouts_empty}
use Rattle.sender.proofs.Handed.{report_whole, handed_says, handed_whole, handed_nothing}

pub refusal_changes_nothing : RefusalChangesNothing
unfolding transmit_of timeout_of
refusal_changes_nothing w =
    record {
      transmit = λ body time commit permutation h.
          let e = sym (transmit_answer_lem w.sender body time commit permutation w.slots) ∙ h in
          (rw e, rw e, rw e);
      timeout = λ time commit h.
          let e = sym (timeout_answer_lem w.sender time commit w.slots) ∙ h in
          (rw e, rw e, rw e);
    }

-- ---- states in range

pub fresh_is_good : FreshIsGood
fresh_is_good c bytes h room =
    record {
      sized = record { taken = refl; times = refl };
      room = room;
      range =
          good_sender_lem (fresh_sender c) bytes
          (record {
            config = h;
            accepted = refl;
            taken = flags_none slots;
            times = times_none slots;
            held = each_slots slots (fresh_sender c) bytes (λ j g e. absurd (false≢true (sym (ap (λ (m : ℕ). eqb m 1) (get_or-replicate slots j 0 0 g)) ∙ e)));
          });
    }

pub good_stays_good : GoodStaysGood
good_stays_good = good_call

pub refused_is_no_sender : RefusedIsNoSender
unfolding transmit_of transmit_answer timeout_of timeout_answer number_of
refused_is_no_sender c bytes h =
    let e = config_refused (fresh_sender c) bytes h in
    record { transmit = λ body time commit permutation. rw e; timeout = λ time commit. rw e }

pub one_result : OneResult
one_result s time commit bytes =
    record {
      made = λ c r r' e e'. e ∙ sym e';
      transmit = λ body permutation r r' b b' e e'.
          let same = e ∙ sym e' in
          (ap (λ (x : Sent). x.result) same, ap (λ (x : Sent). x.slots) same);
      timeout = λ r r' e e'. e ∙ sym e';
    }

pub configuration_stays : ConfigurationStays
configuration_stays = config_run

-- ---- the accepted report

-- whether it waits or not
accepting_accepted : (s : Sender) (a : Attested) (time place : ℕ) → (accepting s a time place).accepted ≡ accepted_of a
unfolding accepting
accepting_accepted s a time place = go (waits s.config place)
  where
    go : (b : Bool) → (cond b (queueing (with_accepted s (accepted_of a)) (due_at s time place)) (with_accepted s (accepted_of a))).accepted ≡ accepted_of a
    go true = refl
    go false = refl

pub done_is_accepted : DoneIsAccepted
unfolding transmit_of transmitted
done_is_accepted s body time commit permutation bytes h =
    let e = sym (transmit_answer_lem s body time commit permutation bytes) ∙ h in
    record {
      accepted = rw e (accepting_accepted s (attested_in body) time (place_in s.config permutation));
      above = (transmit_passed s body time commit permutation bytes e).above;
    }

pub accepts_only_newer : AcceptsOnlyNewer
accepts_only_newer s body time commit permutation bytes h =
    let e = sym (transmit_answer_lem s body time commit permutation bytes) ∙ h in
    ap (λ (b : Accepted). newer b.epoch b.round s.accepted.epoch s.accepted.round) (done_is_accepted s body time commit permutation bytes h).accepted ∙ (transmit_passed s body time commit permutation bytes e).rises

pub accepted_only_rises : AcceptedOnlyRises
accepted_only_rises = rises_run

-- ---- the queue

pub nothing_is_lost : NothingIsLost
nothing_is_lost = moved_run

pub nothing_waits_at_first : NothingWaitsAtFirst
unfolding waiting_below
nothing_waits_at_first c bytes = refl

pub queued_only_rises : QueuedOnlyRises
queued_only_rises = queued_rises

pub slots_stay : SlotsStay
slots_stay = slot_stays

pub timeout_takes_the_earliest : TimeoutTakesTheEarliest
unfolding timeout_of released
timeout_takes_the_earliest w time commit g h =
    let s = w.sender in
    let slot = earliest s w.slots in
    let done = sym (timeout_answer_lem s time commit w.slots) ∙ h in
    let p = timeout_passed s time commit w.slots done in
    let e = earliest_law s w.slots p.some in
    let f = sender_facts s w.slots g.room g.range in
    let good = slots_each slots s w.slots f.held slot e.within e.held in
    let short = good_short s.config.n (slot_in w.slots slot) (good_facts s.config f.config).feed.members.most good in
    let room : suc slot * kept_size ≤ length w.slots = omega (arith, e.within, leb-true waiting_size (length w.slots) g.room) in
    record {
      removed = held_at s w.slots slot;
      so =
          record {
            one = rw h;
            waited = e.waited;
            due = p.due;
            freed = rw done (taken_here s slot 0 0 (omega (arith, e.within, g.sized.taken)));
            lowest = e.lowest;
            earliest = e.first;
            handed = λ q. rw done (handed_says w.slots slot commit short room q);
            whole_body = λ q. rw done (handed_whole w.slots slot commit s.config.n short room q good);
            held_back = λ q. rw done (handed_nothing w.slots slot commit q);
          };
    }

pub hands_out_what_it_removes : HandsOutWhatItRemoves
hands_out_what_it_removes w time commit g =
    let bytes = w.slots in
    let out = (timeout_of w.sender time commit bytes).handed in
    cases (test (is_done (timeout_of w.sender time commit bytes).answer))
    (λ e.
    let r = timeout_takes_the_earliest w time commit g e in
    let x = r.removed.report in
    let gone = ap (if_newer commit) r.so.one in
    cases (test (newer x.epoch x.round commit.epoch commit.round))
    (λ q. report_whole w.sender.config.n (handed_part out bytes) (r.so.whole_body q) ∙ ap (λ (a : Attested). a ∷ []) (r.so.handed q) ∙ sym (gone ∙ rw q))
    (λ q. ap report_of (r.so.held_back q) ∙ sym (gone ∙ rw q)))
    (λ e. ap (λ (p : Option Part). report_of (handed_part p bytes)) ((refusal_changes_nothing w).timeout time commit e).2 ∙ rw e)

pub timeouts_empty_the_queue : TimeoutsEmptyTheQueue
timeouts_empty_the_queue = timeouts_empty

-- ---- places

pub stage_holds_the_place : StageHoldsThePlace
stage_holds_the_place c p h long low late =
    let most = (good_facts c h).feed.schedule.most in
    stage_holds (stages_of c) p low (omega (arith, leb-true, length-take-le c.stages c.schedule (omega arith)))

pub beyond_the_last_stage : BeyondTheLastStage
beyond_the_last_stage c p h long late =
    let schedule = (good_facts c h).feed.schedule in
    let many = length-take-le c.stages c.schedule (omega (arith, schedule.most)) in
    stage_beyond (stages_of c) p (λ z. absurd (omega (arith, schedule.some))) (omega (arith, leb-false (stage_for c p) c.stages late))

pub every_place_is_taken : EveryPlaceIsTaken
every_place_is_taken n j l h low high = member_among n j l h (record { least = low; most = high })

-- ---- instances: n = 4 and f = 1; the first stage has one member, the second two

abbrev four : Config
four = config_of 9 4 1 2 10 5000000 1000 100 2 (1 ∷ 2 ∷ 0 ∷ 0 ∷ 0 ∷ 0 ∷ 0 ∷ 0 ∷ [])

abbrev begun : Whole
begun = record { sender = fresh_sender four; slots = replicate waiting_size 7 }

-- 100, 105 and 9000 by members 1, 2 and 3, signed by 1 and 2, in a round of epoch 7
abbrev reported : ℕ → Attested
reported round =
    record {
      epoch = 7;
      round = round;
      list = record { member = 1; value = pos 100 } ∷ record { member = 2; value = pos 105 } ∷ record { member = 3; value = pos 9000 } ∷ [];
      signers = record { member = 1; signature = blank } ∷ record { member = 2; signature = blank } ∷ [];
    }

abbrev commit_of : ℕ → ℕ → Commit
commit_of epoch round = record { median = pos 0; time = 0; epoch = epoch; round = round }

-- member 2 is given place 3, which is in the second stage
abbrev order : List ℕ
order = 1 ∷ 3 ∷ 2 ∷ 4 ∷ []

abbrev first : Call
first = transmits (attested_bytes (reported 1)) 5 (commit_of 0 0) order

place_held : Holds (stages_of four) 2 3
unfolding stage_of good_config good_feed none_empty sum
place_held = stage_holds_the_place four 3 refl refl (omega arith) refl

behind_all : sum (stages_of four) < 4
unfolding stage_of good_config good_feed none_empty sum
behind_all = beyond_the_last_stage four 4 refl refl refl

place_of_three : among 3 order ≡ true
unfolding permutes all_members first_at
place_of_three = every_place_is_taken 4 3 order refl (omega arith) (omega arith)

begun_good : Good begun
unfolding good_config good_feed none_empty sum
begun_good = fresh_is_good four begun.slots refl refl

first_done : is_done (transmit_of begun.sender (attested_bytes (reported 1)) 5 (commit_of 0 0) order begun.slots).result.answer ≡ true
unfolding transmit_of transmit_answer after_body after_config after_similar good_sender good_fields good_config good_feed none_empty sum flags good_times good_slots number_of body_answer body_length shape_of table message_of all_members attested_bytes head_bytes counted_bytes flat observation_bytes signer_bytes be_bytes be_number be_from entries permutes first_at stage_of free_in transmitted
first_done = refl

-- an order that gives a place twice is refused, and so is a timeout where nothing waits
begun_refuses :
    let t = transmit_of begun.sender (attested_bytes (reported 1)) 5 (commit_of 0 0) (1 ∷ 3 ∷ 3 ∷ 4 ∷ []) begun.slots in
    let u = timeout_of begun.sender 5 (commit_of 0 0) begun.slots in
    (t.result.answer ≡ answer.Config) × (t.result.sender ≡ begun.sender) × (t.result.transmit ≡ Leave) × (u.answer ≡ answer.Ignored) × (u.sender ≡ begun.sender) × (u.handed ≡ nothing)
unfolding timeout_of timeout_answer early earliest_below transmit_of transmit_answer after_body good_sender good_fields good_config good_feed none_empty sum flags good_times good_slots number_of body_answer body_length shape_of table message_of all_members attested_bytes head_bytes counted_bytes flat observation_bytes signer_bytes be_bytes be_number be_from entries permutes first_at
begun_refuses =
    let r = refusal_changes_nothing begun in
    let t = r.transmit (attested_bytes (reported 1)) 5 (commit_of 0 0) (1 ∷ 3 ∷ 3 ∷ 4 ∷ []) refl in
    let u = r.timeout 5 (commit_of 0 0) refl in
    (refl, t.0, t.2, refl, u.0, u.2)

-- so whatever keeps that promise says CONFIG and leaves the slots' bytes
begun_left : (r : Queued) (b : List ℕ) → sent r b ≡ transmit_of begun.sender (attested_bytes (reported 1)) 5 (commit_of 0 0) (1 ∷ 3 ∷ 3 ∷ 4 ∷ []) begun.slots → (r.answer ≡ answer.Config) × (b ≡ begun.slots)
unfolding number_of
begun_left r b e =
    let t = transmit_of begun.sender (attested_bytes (reported 1)) 5 (commit_of 0 0) (1 ∷ 3 ∷ 3 ∷ 4 ∷ []) begun.slots in
    let o = (one_result begun.sender 5 (commit_of 0 0) begun.slots).transmit (attested_bytes (reported 1)) (1 ∷ 3 ∷ 3 ∷ 4 ∷ []) r t.result b t.slots e refl in
    let stays = ((refusal_changes_nothing begun).transmit (attested_bytes (reported 1)) 5 (commit_of 0 0) (1 ∷ 3 ∷ 3 ∷ 4 ∷ []) (ap is_done begun_refuses.0)).1 in
    (ap (λ (q : Queued). q.answer) o.0 ∙ begun_refuses.0, o.1 ∙ stays)

-- member 5 of 4
none_made : (timeout_of (fresh_sender (config_of 9 4 1 5 10 5000000 1000 100 2 (1 ∷ 2 ∷ []))) 5 (commit_of 0 0) begun.slots).answer ≡ answer.State
unfolding good_config good_feed none_empty sum
none_made = (refused_is_no_sender (config_of 9 4 1 5 10 5000000 1000 100 2 (1 ∷ 2 ∷ [])) begun.slots refl).timeout 5 (commit_of 0 0)

first_accepted : (after begun first).sender.accepted ≡ record { median = pos 105; epoch = 7; round = 1 }
unfolding attested_bytes head_bytes counted_bytes flat observation_bytes signer_bytes be_bytes be_number be_from entries shape_of table
first_accepted = (done_is_accepted begun.sender (attested_bytes (reported 1)) 5 (commit_of 0 0) order begun.slots first_done).accepted

first_newer : let a = (after begun first).sender.accepted in newer a.epoch a.round 0 0 ≡ true
first_newer = accepts_only_newer begun.sender (attested_bytes (reported 1)) 5 (commit_of 0 0) order begun.slots first_done

first_rises : NotOlder begun.sender.accepted (record { median = pos 105; epoch = 7; round = 1 })
unfolding run accepting transmit_of transmit_answer after_body after_config after_similar good_sender good_fields good_config good_feed none_empty sum flags good_times good_slots number_of body_answer body_length shape_of table message_of all_members attested_bytes head_bytes counted_bytes flat observation_bytes signer_bytes be_bytes be_number be_from entries permutes first_at stage_of free_in transmitted
first_rises = accepted_only_rises begun (first ∷ [])

first_keeps : (run begun (first ∷ [])).sender.config ≡ four
first_keeps = configuration_stays begun (first ∷ [])

first_good : Good (after begun first)
first_good = good_stays_good begun first begun_good

first_waits : let w = after begun first in Perm (record { time = 205; report = reported 1 } ∷ []) (waiting w.sender w.slots ++ [])
unfolding run queued_in removed_in waiting_below transmit_of transmit_answer after_body after_config after_similar good_sender good_fields good_config good_feed none_empty sum flags good_times good_slots number_of body_answer body_length shape_of table message_of all_members attested_bytes head_bytes counted_bytes flat observation_bytes signer_bytes be_bytes be_number be_from entries permutes first_at stage_of free_in transmitted
first_waits = nothing_is_lost begun (first ∷ []) begun_good

-- the report of the next round is accepted once the commit has reached the first: each that waits is newer than the one before
abbrev second : Call
second = transmits (attested_bytes (reported 2)) 6 (commit_of 7 1) order

second_done : let w = after begun first in is_done (transmit_of w.sender (attested_bytes (reported 2)) 6 (commit_of 7 1) order w.slots).result.answer ≡ true
unfolding transmit_of transmit_answer after_body after_config after_similar deviates good_sender good_fields good_config good_feed none_empty sum flags good_times good_slots number_of body_answer body_length shape_of table message_of all_members attested_bytes head_bytes counted_bytes flat observation_bytes signer_bytes be_bytes be_number be_from entries permutes first_at stage_of free_in transmitted accepting
second_done =
    let w = after begun first in
    transmit_answer_lem w.sender (attested_bytes (reported 2)) 6 (commit_of 7 1) order w.slots
    ∙ transmit_done w.sender (attested_bytes (reported 2)) 6 (commit_of 7 1) order w.slots first_good.range first_good.room refl

both_queued : queued_in begun (first ∷ second ∷ []) ≡ record { time = 205; report = reported 1 } ∷ record { time = 206; report = reported 2 } ∷ []
unfolding queued_in transmit_of transmit_answer after_body after_config after_similar good_sender good_fields good_config good_feed none_empty sum flags good_times good_slots number_of body_answer body_length shape_of table message_of all_members attested_bytes head_bytes counted_bytes flat observation_bytes signer_bytes be_bytes be_number be_from entries permutes first_at stage_of free_in transmitted accepting
both_queued = rw second_done

both_rise : newer 7 2 7 1 ≡ true
both_rise = (subst Rising both_queued (queued_only_rises begun (first ∷ second ∷ []))).0

-- it is due at 205
first_expires : let w = after begun first in is_done (timeout_of w.sender 205 (commit_of 0 0) w.slots).answer ≡ true
unfolding earliest_below transmit_of transmit_answer after_body after_config after_similar good_sender good_fields good_config good_feed none_empty sum flags good_times good_slots number_of body_answer body_length shape_of table message_of all_members attested_bytes head_bytes counted_bytes flat observation_bytes signer_bytes be_bytes be_number be_from entries permutes first_at stage_of free_in transmitted accepting
first_expires =
    let w = after begun first in
    timeout_answer_lem w.sender 205 (commit_of 0 0) w.slots ∙ timeout_done w.sender 205 (commit_of 0 0) w.slots refl (record { good = first_good.range; room = first_good.room; some = λ z. omega arith; due = omega arith })

-- two reports wait for the same time, the newer one in the lower slot
abbrev two : Whole
two =
    record {
      sender =
          record {
            config = four;
            accepted = record { median = pos 105; epoch = 7; round = 2 };
            times = 205 ∷ 205 ∷ replicate 14 0;
            taken = 1 ∷ 1 ∷ replicate 14 0;
          };
      slots = kept_bytes (attested_bytes (reported 2)) ++ (kept_bytes (attested_bytes (reported 1)) ++ replicate (14 * kept_size) 0);
    }

two_good : Good two
unfolding good_sender good_fields good_config good_feed none_empty sum flags good_times good_slots shape_of table all_members attested_bytes head_bytes counted_bytes flat observation_bytes signer_bytes be_bytes be_number be_from entries
two_good = record { sized = record { taken = refl; times = refl }; room = refl; range = refl }

two_done : is_done (timeout_of two.sender 205 (commit_of 0 0) two.slots).answer ≡ true
unfolding timeout_of timeout_answer early earliest_below released good_sender good_fields good_config good_feed none_empty sum flags good_times good_slots number_of shape_of table all_members attested_bytes head_bytes counted_bytes flat observation_bytes signer_bytes be_bytes be_number be_from entries
two_done = refl

two_removes : RemovesOne two 205 (commit_of 0 0)
two_removes = timeout_takes_the_earliest two 205 (commit_of 0 0) two_good two_done

-- the older one leaves, and is handed out unless the commit has reached it; a millisecond earlier nothing does
two_answers :
    (two_removes.removed ≡ record { time = 205; report = reported 1 })
    × (attested_in (handed_part (timeout_of two.sender 205 (commit_of 0 0) two.slots).handed two.slots) ≡ reported 1)
    × (body_answer 4 6 (handed_part (timeout_of two.sender 205 (commit_of 0 0) two.slots).handed two.slots) ≡ answer.Done)
    × (handed_part (timeout_of two.sender 205 (commit_of 7 1) two.slots).handed two.slots ≡ [])
    × ((timeout_of two.sender 204 (commit_of 0 0) two.slots).answer ≡ answer.Ignored)
unfolding two_removes timeout_takes_the_earliest timeout_of timeout_answer early earliest_below released releasing good_sender good_fields good_config good_feed none_empty sum flags good_times good_slots number_of body_answer message_of body_length shape_of table all_members attested_bytes head_bytes counted_bytes flat observation_bytes signer_bytes be_bytes be_number be_from entries
two_answers = (refl, refl, refl, refl, refl)

-- so its report is handed out, or none
two_hands : (handed_by two (expires 205 (commit_of 0 0)) ≡ reported 1 ∷ []) × (handed_by two (expires 205 (commit_of 7 1)) ≡ [])
unfolding timeout_of timeout_answer early earliest_below released good_sender good_fields good_config good_feed none_empty sum flags good_times good_slots number_of shape_of table all_members attested_bytes head_bytes counted_bytes flat observation_bytes signer_bytes be_bytes be_number be_from entries
two_hands = (hands_out_what_it_removes two 205 (commit_of 0 0) two_good, hands_out_what_it_removes two 205 (commit_of 7 1) two_good)

-- and the newer one stays in its slot
two_keeps : Stays two (after two (expires 205 (commit_of 0 0))) 0
unfolding earliest_below attested_bytes head_bytes counted_bytes flat observation_bytes signer_bytes be_bytes be_number be_from shape_of table entries
two_keeps = (slots_stay two (expires 205 (commit_of 0 0)) 0 two_good refl).1 (λ z. absurd (omega arith))

-- which is the lower one, since its report comes later
two_later : sooner two.sender two.slots 1 0 ≡ true
unfolding earliest_below attested_bytes head_bytes counted_bytes flat observation_bytes signer_bytes be_bytes be_number be_from shape_of table entries
two_later = two_removes.so.lowest 0 (omega arith) refl

-- of two reports alike the one in the lower slot leaves
abbrev alike : Whole
alike = record { sender = two.sender; slots = kept_bytes (attested_bytes (reported 1)) ++ (kept_bytes (attested_bytes (reported 1)) ++ replicate (14 * kept_size) 0) }

alike_leaves : let w = after alike (expires 205 (commit_of 0 0)) in (taken w.sender 0 ≡ false) × (taken w.sender 1 ≡ true)
unfolding timeout_of timeout_answer early earliest_below released good_sender good_fields good_config good_feed none_empty sum flags good_times good_slots number_of shape_of table all_members attested_bytes head_bytes counted_bytes flat observation_bytes signer_bytes be_bytes be_number be_from entries
alike_leaves = (refl, refl)

abbrev twice : List Timeout
twice = record { time = 205; commit = commit_of 0 0 } ∷ record { time = 206; commit = commit_of 7 1 } ∷ []

two_empty : let w = run two (calling twice) in waiting w.sender w.slots ≡ []
unfolding waiting_below
two_empty = timeouts_empty_the_queue two twice two_good ((refl, (omega arith, (omega arith, tt)), (refl, (omega arith, (omega arith, tt)), tt))) refl
