-- What a step sends is in range and can be written: so its frame is read back as it was meant, and has room in the outbox.
use mathlib.Core.Path.{◌≡◌, refl, sym, ◌∙◌}
use mathlib.Core.Bool.{Bool, true, false, cond, ◌&&◌, false≢true}
use mathlib.Core.List.{List, [], ◌∷◌, ◌++◌, map}
use Prim.Native.Nat.{ℕ, ◌+◌, ◌-◌, ◌*◌, ◌%◌, ◌≤◌, ◌<◌, zero-le}
use native.Mathlib.Omega.{arith}
use borrow.Author.Tests.{le-leb, ltb-true, ltb-false, eqb-true, eqb-false}
use lib.Dec.{eqb, ltb}
use lib.IntN.{ℤ}
use lib.ListN.{length, take, drop, length-append, length-take, length-drop, length-map, length-set}
use lib.Seq.{length-take-le}
use mir.Syntax.{w64}
use mir.Val.{SFits}
use Rattle.config.specs.Limits.{members, last_epoch, last_round, signature_size, report_signatures, signatures_size, outbox_size}
use Rattle.config.specs.declared.Config.{Config}
use Rattle.config.proofs.Facts.{and-true, good_facts}
use Rattle.wire.specs.Numbers.{Bytes, be_bytes}
use Rattle.wire.proofs.Numbers.{bytes_drop, bytes_over}
use Rattle.wire.proofs.Overlay.{length_over, part_over, take_over, drop_over}
use Rattle.quorum.specs.First.{bit}
use Rattle.quorum.proofs.Cases.{cases, test}
use Rattle.quorum.proofs.Marks.{marks_le_length}
use Rattle.frame.specs.Message.{Observation, Signed, Signer, Attested, Message, new_epoch, observe_req, observe, report_req, report, final, final_echo, kind_of}
use Rattle.frame.specs.Table.{body_length, trailer_length}
use Rattle.frame.specs.Encode.{observation_bytes, head_bytes, counted_bytes, attested_bytes, body_bytes, trailer_bytes, frame_bytes}
use Rattle.frame.specs.Range.{good_epoch, good_round, one_to_n, all_members, good_entries, good_observations, good_attested}
use Rattle.frame.specs.Claims.{WritableSignature, Each, WritableSigned, WritableAttested, ReadAs, ReadWell}
use Rattle.frame.proofs.Ranges.{OneTo, one_to, good_head_facts, good_entries_facts, good_entries_map, good_attested_facts}
use Rattle.frame.proofs.Readable.{frame_fits}
use Rattle.frame.proofs.Entries.{each_append, each_so, each_map, observation_entry, signed_entry, part_signature}
use Rattle.frame.proofs.RoundTrip.{length_counted, length_attested}
use Rattle.frame.proofs.Claims.{written_is_read, blank_writable}
use Rattle.outbox.specs.Written.{own_frame, own_signature, value_of, observed, Members}
use Rattle.outbox.proofs.Frames.{signed, signer}
use Rattle.pacemaker.specs.declared.Pace.{Pace}
use Rattle.pacemaker.specs.declared.Paced.{Paced}
use Rattle.pacemaker.specs.State.{is_started}
use Rattle.pacemaker.specs.Rules as pacemaker
use Rattle.pacemaker.specs.Claims.{InRange, Sends}
use Rattle.pacemaker.proofs.Claims.{change_in_range, new_epoch_in_range, others_stay_in_range, sends_its_highest, tells_what_rose}
use Rattle.follower.specs.declared.Raised.{Raised}
use Rattle.follower.specs.declared.Raised.TheVariants as raised
use Rattle.follower.specs.State.{is_set}
use Rattle.follower.specs.Rules.{follow_of}
use Rattle.leader.specs.declared.Leader.{Leader}
use Rattle.leader.specs.declared.Led.{Led}
use Rattle.leader.specs.State.{in_grace, no_round}
use Rattle.leader.specs.Listed.{order, list_of, request_of, lowest_signers, final_of}
use Rattle.leader.specs.Takes as leader
use Rattle.leader.specs.Rules.{next_round, no_signatures, observe_signed, closing, with_report, now_finished, report_signed}
use Rattle.leader.proofs.Cases.{round_cases, observing_cases, reporting_cases}
use Rattle.leader.proofs.Taken.{taken_report}
use Rattle.leader.proofs.Lines.{same_apart}
use Rattle.leader.proofs.Marked.{length_marked, lowest_members, order_members, length_order}
use Rattle.node.specs.declared.Node.{Node}
use Rattle.node.specs.State.{epoch_of, leader_now, leads}
use Rattle.node.specs.Event.{Whole, Delivery, Event, Effect}
use Rattle.node.specs.Effects.{announced, asking_for, answering, replying, pacing, begun, moving, raising, following, leading, led_by}
use Rattle.node.specs.Calls.{frames_of, settled}
use Rattle.node.specs.Typed.{TypedWhole, TypedEvent}
use Rattle.node.specs.Answers.{past_last}
use Rattle.node.specs.Claims.{Sized, SentIsRead, StandIn, FramesStand, FewSent}
use Rattle.node.proofs.Checks.{NodeGood, node_facts}
use Rattle.node.proofs.Ready.{room_facts}
use Rattle.node.proofs.Steps.{good_node_lem, call_is_the_step}
use Rattle.node.proofs.Ruled.{Says, heard_from, Ruled, by_start, by_resend, by_progress, by_round, by_grace, by_hearing, by_moving, by_following, by_observe, by_report, step_ruled, config_ruled, said_range, said_well}
use Rattle.node.proofs.Cases.{begun_cases}
use Rattle.node.proofs.Followed.{raised_past}
use Rattle.node.proofs.Sent.{new_epoch_goes_first, announced_each, replying_each}

-- ---- numbers

epoch_good : (e : ℕ) → 1 ≤ e → e ≤ last_epoch → good_epoch e ≡ true
epoch_good e h g = rw (le-leb 1 e h, le-leb e last_epoch g)

head_good : (e r : ℕ) → 1 ≤ e → e ≤ last_epoch → 1 ≤ r → r ≤ last_round → good_epoch e && good_round r ≡ true
head_good e r h g k l = rw (le-leb 1 e h, le-leb e last_epoch g, le-leb 1 r k, le-leb r last_round l)

-- who leads is a member, so there is an epoch
leads_epoch : (n : Node) → 1 ≤ n.config.own → leads n ≡ true → 1 ≤ epoch_of n
leads_epoch n some h = go (eqb (epoch_of n) 0) refl (eqb-true n.config.own (leader_now n) (and-true (is_started n.pace && is_set n.follower.live) (eqb n.config.own (leader_now n)) h).1)
  where
    go : (b : Bool) → eqb (epoch_of n) 0 ≡ b → n.config.own ≡ cond b 0 (epoch_of n % n.config.n + 1) → 1 ≤ epoch_of n
    go true e same = absurd (omega arith)
    go false e same = let some = eqb-false (epoch_of n) 0 e in omega arith

-- ---- NEWEPOCH and OBSERVE-REQ

well_observe_req : (n e r : ℕ) → 1 ≤ e → e ≤ last_epoch → 1 ≤ r → r ≤ last_round → ReadWell n (observe_req e r)
well_observe_req n e r h g k l = record { range = head_good e r h g k l; writable = tt }

well_announced : (n : ℕ) (p : Paced) → Sends p → InRange p.pace → Each (ReadWell n) (announced p.sent)
well_announced n p s r =
    announced_each (ReadWell n) p.sent
    (λ x e. let same = s.highest x e in record { range = epoch_good x (s.some x e) (omega (arith, r.highest)); writable = tt })

well_raised : (n : ℕ) (r : Raised) (p : Pace) → (r ≡ raised.ChangeLeader → pacemaker.past_end p ≡ false) → InRange p → Each (ReadWell n) (announced (raising r p).sent)
unfolding pacemaker.progress_of
well_raised n raised.Nothing p h k = tt
well_raised n raised.Progress p h k = tt
well_raised n raised.ChangeLeader p h k = well_announced n (pacemaker.change_leader_of p) (sends_its_highest n 0 p).change (change_in_range p (h refl) k)

pub heard_in_range : (n : Node) (d : Delivery) (x : ℕ) → Says n d (new_epoch x) → InRange n.pace → InRange (heard_from n d.link x).pace
heard_in_range n d x s r = new_epoch_in_range n.config.n n.config.f n.pace d.link x (one_to last_epoch x (said_range n d s)).most r

-- who moves moves to a higher epoch
moved_some : (n : Node) (j x : ℕ) → (heard_from n j x).moved ≡ true → 1 ≤ (heard_from n j x).pace.epoch
moved_some n j x h = omega (arith, ltb-true n.pace.epoch (heard_from n j x).pace.epoch (sym (tells_what_rose n.config.n n.config.f n.pace j x).moved ∙ h))

-- ---- lists of members, with values and signatures from tables

-- what holds of the entry of each member holds of all of them
each_made : {A : Type 0} (P : A → Type 0) (n : ℕ) (make : ℕ → A) → ((j : ℕ) → OneTo n j → P (make j)) → (l : List ℕ) → Members n l → Each P (map make l)
unfolding all_members
each_made P n make h [] m = tt
each_made P n make h (j ∷ l) m =
    let p = and-true (one_to_n n j) (all_members n (λ x. x) l) m in
    (h j (one_to n j p.0), each_made P n make h l p.1)

-- as many members as a list may have
members_good : (n : ℕ) (l : List ℕ) → Members n l → 1 ≤ length l → length l ≤ n → good_entries n (λ x. x) l ≡ true
members_good n l m h g = rw (le-leb 1 (length l) h, le-leb (length l) n g, m)

-- two lists that are the same are as long
same_length : (xs ys : List Observation) → leader.same_list xs ys ≡ true → length xs ≡ length ys
same_length xs ys h =
    cases (test (eqb (length xs) (length ys))) (λ e. eqb-true (length xs) (length ys) e) (λ e. absurd (false≢true (sym (same_apart xs ys (eqb-false (length xs) (length ys) e)) ∙ h)))

-- a leader whose tables and signatures serve for the frames of an epoch
record Tabled (n epoch : ℕ) (s : Leader) (signatures : List ℕ) : Type 0 where
  few : n ≤ members
  epoch_least : 1 ≤ epoch
  epoch_most : epoch ≤ last_epoch
  round_least : 1 ≤ s.round
  round_most : s.round ≤ last_round
  observed : n ≤ length s.observed
  reported : n ≤ length s.reported
  value : (k : ℕ) → SFits w64 (value_of s.values k)
  bytes : Bytes signatures
  long : signatures_size ≤ length signatures

module _ (n epoch : ℕ) (s : Leader) (signatures : List ℕ) (t : Tabled n epoch s signatures) where
  abbrev listed : List ℕ
  listed = order n s.observed s.values

  head_tabled : good_epoch epoch && good_round s.round ≡ true
  head_tabled = head_good epoch s.round t.epoch_least t.epoch_most t.round_least t.round_most

  -- no more members have observed than there are
  listed_good : 1 ≤ length listed → good_entries n (λ x. x) listed ≡ true
  listed_good some =
      members_good n listed (order_members n s.observed s.values) some
      (omega (arith, length_order n s.observed s.values t.observed, marks_le_length (take n s.observed), length-take n s.observed))

  well_request : 1 ≤ length listed → ReadWell n (request_of n epoch s signatures)
  well_request some =
      let make = signed s.values signatures in
      record {
        range = rw (head_tabled, good_entries_map n (λ (x : Signed). x.said.member) make listed) (listed_good some);
        writable = each_made WritableSigned n make
            (λ j o. record { value = t.value j; signature = part_signature signatures (signature_size * (j - 1)) t.bytes (omega (arith, t)) })
            listed (order_members n s.observed s.values);
      }

  well_final : (f : ℕ) → 1 ≤ length listed → f + 1 ≤ n → f < leader.reported_by n s → ReadWell n (final_of n f epoch s signatures)
  well_final f some few many =
      let g = drop report_signatures signatures in
      let l = lowest_signers n f s in
      let long : length l ≡ f + 1 = length-take-le (f + 1) _ (omega (arith, length_marked n s.reported t.reported)) in
      let signers = members_good n l (lowest_members n (f + 1) s.reported) (omega arith) (omega arith) in
      record {
        range = rw (head_tabled, good_entries_map n (λ (o : Observation). o.member) (observed s.values) listed, listed_good some, good_entries_map n (λ (x : Signer). x.member) (signer g) l) signers;
        writable = record {
          values = each_made (λ (o : Observation). SFits w64 o.value) n (observed s.values) (λ j o. t.value j) listed (order_members n s.observed s.values);
          signatures = each_made (λ (x : Signer). WritableSignature x.signature) n (signer g)
              (λ j o. part_signature g (signature_size * (j - 1)) (bytes_drop report_signatures signatures t.bytes) (rw length-drop (omega (arith, t))))
              l (lowest_members n (f + 1) s.reported);
        };
      }

-- ---- answers

own_writable : WritableSignature own_signature
own_writable = blank_writable

said_values : (xs : List Signed) → Each WritableSigned xs → Each (λ (o : Observation). SFits w64 o.value) (map (λ (x : Signed). x.said) xs)
said_values = each_map WritableSigned (λ (o : Observation). SFits w64 o.value) (λ (x : Signed). x.said) (λ x w. w.value)

well_answer : (n : ℕ) (v : ℤ) (m : Message) → SFits w64 v → ReadWell n m → Each (ReadWell n) (answering v m)
well_answer n v (observe_req e r) f w = (record { range = w.range; writable = (f, own_writable) }, tt)
well_answer n v (report_req e r xs) f w =
    let said : Signed → Observation = λ x. x.said in
    (record { range = rw (good_entries_map n (λ (o : Observation). o.member) said xs) w.range; writable = (said_values xs w.writable, own_writable) }, tt)
well_answer n v (final a) f w = (record { range = w.range; writable = w.writable }, tt)
well_answer n v (final_echo a) f w = (w, tt)
well_answer n v (new_epoch e) f w = tt
well_answer n v (observe e r u g) f w = tt
well_answer n v (report e r xs g) f w = tt

-- ---- each rule

module _ (w : Whole) (t : TypedWhole w) (p : NodeGood w.node) where
  abbrev all : ℕ
  all = w.node.config.n

  abbrev Well : List Message → Type 0
  Well ms = Each (ReadWell all) ms

  well_pacing : (q : Paced) → Sends q → InRange q.pace → Well (pacing w q).sent
  unfolding pacing
  well_pacing q s r = well_announced all q s r

  -- where the node moves its epoch has risen, so it is above 0
  well_moving : (q : Paced) → Sends q → InRange q.pace → 1 ≤ q.pace.epoch → Well (moving w q).sent
  unfolding moving
  well_moving q s r some =
      let c = w.node.config in
      let epoch = q.pace.epoch in
      let signatures = no_signatures w.signatures in
      let P : Led → Type 0 = λ l. Well (asking_for c epoch l.leader signatures l.asking) in
      let first : ReadWell all (observe_req epoch 1) = well_observe_req all epoch 1 some r.epoch (omega arith) (omega arith) in
      each_append (ReadWell all) (announced q.sent) (asking_for c epoch (begun c epoch).leader signatures (begun c epoch).asking)
      (well_announced all q s r) (begun_cases P c epoch (round_cases P c no_round (first, tt) (first, tt)) tt)

  well_following : (d : Delivery) (m : Message) → SFits w64 d.observation → ReadWell all m → past_last w.node m ≡ false → Well (following w d m).sent
  unfolding following
  well_following d m f k past =
      let c = w.node.config in
      let r = follow_of c w.node.follower d.link d.time d.commit m in
      each_append (ReadWell all) (announced (raising r.raised w.node.pace).sent) (replying d.observation m r.reply)
      (well_raised all r.raised w.node.pace (raised_past w.node d.link d.time d.commit m past) t.node.pace)
      (replying_each (ReadWell all) d.observation m r.reply (well_answer all d.observation m f k))

  abbrev own : Leader
  own = w.node.leader

  well_round : leads w.node ≡ true → leader.past_end own ≡ false → Well (leading w (next_round w.node.config own) (no_signatures w.signatures)).sent
  unfolding leading
  well_round h past =
      let c = w.node.config in
      let epoch = epoch_of w.node in
      let P : Led → Type 0 = λ l. Well (asking_for c epoch l.leader (no_signatures w.signatures) l.asking) in
      let some = leads_epoch w.node (good_facts c p.config).own.some h in
      let next : ReadWell all (observe_req epoch (own.round + 1)) = well_observe_req all epoch (own.round + 1) some t.node.pace.epoch (omega arith) (ltb-false last_round (own.round + 1) past) in
      round_cases P c own (next, tt) (next, tt)

  module _ (sized : signatures_size ≤ length w.signatures) where
    -- the tables of a leader that leads, whatever phase it is in
    tabled : (s : Leader) (g : List ℕ) → leads w.node ≡ true → s.values ≡ own.values → s.observed ≡ own.observed → length s.reported ≡ members → s.round ≡ own.round → 1 ≤ own.round → Bytes g → length g ≡ length w.signatures → Tabled all (epoch_of w.node) s g
    tabled s g h v o r same some b l =
        let c = good_facts w.node.config p.config in
        record {
          few = c.feed.members.most;
          epoch_least = leads_epoch w.node c.own.some h;
          epoch_most = t.node.pace.epoch;
          round_least = omega arith;
          round_most = omega (arith, t.node.leader_round);
          observed = rw o (omega (arith, t.node.observed, c.feed.members));
          reported = omega (arith, c.feed.members);
          value = λ k. rw v (t.node.value (k - 1));
          bytes = b;
          long = omega arith;
        }

    well_grace : leader.fires_grace all w.node.config.f own (leads w.node) ≡ true → Well (leading w (closing own) w.signatures).sent
    unfolding leading closing
    well_grace h =
        let armed = leads w.node && eqb own.t_grace 1 in
        let many = ltb (2 * w.node.config.f) (leader.observed_by all own) in
        let q = and-true (armed && eqb own.phase in_grace && many) (ltb 0 own.round) h in
        let r = and-true (armed && eqb own.phase in_grace) many q.0 in
        let k = and-true (leads w.node) (eqb own.t_grace 1) (and-true armed (eqb own.phase in_grace) r.0).0 in
        let s = (closing own).leader in
        let ready = tabled s w.signatures k.0 refl refl t.node.reported refl (ltb-true 0 own.round q.1) t.signatures refl in
        let some : 1 ≤ length (order all own.observed own.values) = omega (arith, ltb-true (2 * w.node.config.f) (leader.observed_by all own) r.1, length_order all own.observed own.values ready.observed) in
        (well_request all (epoch_of w.node) s w.signatures ready some, tt)

    well_observe : (j e r : ℕ) (v : ℤ) (g : List ℕ) → Well (led_by w j (observe e r v g)).sent
    unfolding leading
    well_observe j e r v g =
        let c = w.node.config in
        observing_cases (λ l. Well (asking_for c (epoch_of w.node) l.leader (observe_signed w.signatures j g) l.asking)) c own j v (λ h. tt) (λ h. tt)

    -- the list of a REPORT is the leader's own, so that is not empty
    well_report : (j e r : ℕ) (xs : List Observation) (g : List ℕ) (bits : ℕ) → ReadWell all (report e r xs g) → leader.takes own (leads w.node) (epoch_of w.node) j (report e r xs g) ≡ true → leader.stands all own bits (report e r xs g) ≡ true → Well (led_by w j (report e r xs g)).sent
    unfolding leading
    well_report j e r xs g bits k h stands =
        let c = w.node.config in
        let s = with_report own j in
        let signatures = report_signed w.signatures j g in
        let time = (taken_report own (leads w.node) (epoch_of w.node) j e r xs g h).in_time in
        let head = and-true (good_epoch e && good_round r) (good_observations all xs) k.range in
        let round = (good_head_facts e r head.0).round in
        let many = (good_entries_facts all (λ (o : Observation). o.member) xs head.1).count in
        let same = same_length xs (list_of all own) (and-true (leader.same_list xs (list_of all own)) (bit bits 0) stands).0 in
        let some : 1 ≤ length (order all own.observed own.values) = omega (arith, length-map (order all own.observed own.values) (observed own.values)) in
        let ready = tabled (now_finished s) signatures time.leading refl refl (length-set own.reported (j - 1) 1 ∙ t.node.reported) refl (omega (arith, time.round_same)) (bytes_over w.signatures (report_signatures + signature_size * (j - 1)) g t.signatures k.writable.1.bytes) (length_over w.signatures (report_signatures + signature_size * (j - 1)) g) in
        reporting_cases (λ l. Well (asking_for c (epoch_of w.node) l.leader signatures l.asking)) c own j
        (λ enough. (well_final all (epoch_of w.node) (now_finished s) signatures ready c.f some (omega (arith, (good_facts c p.config).feed.members)) enough, tt))
        tt

-- ---- all of them

well_ruled : {w : Whole} {e : Event} {f : Effect} → TypedWhole w → Sized w → NodeGood w.node → Ruled w e f → TypedEvent e → Each (ReadWell w.node.config.n) f.sent
well_ruled {w} t z p (by_start time) k =
    let n = w.node in
    well_pacing w t p (pacemaker.start_of n.pace) (sends_its_highest n.config.n n.config.f n.pace).start (others_stay_in_range n.pace t.node.pace).start
well_ruled {w} t z p (by_resend time h) k =
    let n = w.node in
    well_pacing w t p (pacemaker.resend_of n.pace) ((sends_its_highest n.config.n n.config.f n.pace).resend h) (others_stay_in_range n.pace t.node.pace).resend
well_ruled {w} t z p (by_progress time h) k =
    let n = w.node in
    well_pacing w t p (pacemaker.change_leader_of n.pace) (sends_its_highest n.config.n n.config.f n.pace).change (change_in_range n.pace h t.node.pace)
well_ruled {w} t z p (by_round time h g) k = well_round w t p h g
well_ruled {w} t z p (by_grace time h) k = well_grace w t p z.signatures h
well_ruled {w} t z p (by_hearing d x s h) k =
    let n = w.node in
    well_pacing w t p (heard_from n d.link x) ((sends_its_highest n.config.n n.config.f n.pace).new_epoch d.link x) (heard_in_range n d x s t.node.pace)
well_ruled {w} t z p (by_moving d x s h) k =
    let n = w.node in
    well_moving w t p (heard_from n d.link x) ((sends_its_highest n.config.n n.config.f n.pace).new_epoch d.link x) (heard_in_range n d x s t.node.pace) (moved_some n d.link x h)
well_ruled {w} t z p (by_following d m s h g) k = well_following w t p d m k.observation (said_well w.node d s k.frame) g
well_ruled {w} t z p (by_observe d e r v g s h) k = well_observe w t p z.signatures d.link e r v g
well_ruled {w} t z p (by_report d e r xs g s h q) k = well_report w t p z.signatures d.link e r xs g d.bits (said_well w.node d s k.frame) h q

pub sent_is_read : SentIsRead
sent_is_read w e f t z k h =
    let (good, r) = step_ruled w e f h in
    let p = node_facts w.node (good_node_lem w.node w.kept good) in
    let c = w.node.config in
    let g = good_facts c p.config in
    each_so (ReadWell c.n) (λ m. ReadAs (own_frame c m) c.n c.number c.own m)
    (λ m v. written_is_read c.n c.number c.own m (omega (arith, g.feed.members)) t.node.number g.own.some g.own.most v.range v.writable)
    f.sent (well_ruled t z p r k)

-- ---- room

-- a report has room, kept or sent
report_fits : (n : ℕ) (a : Attested) → n ≤ members → good_attested n a ≡ true → WritableAttested a → length (attested_bytes a) + trailer_length ≤ outbox_size
report_fits n a few h w =
    let k = good_attested_facts n a h in
    omega (arith, length_attested a w, frame_fits 6 (length a.list) (length a.signers) (omega (arith, k.list.count)) (omega (arith, k.signers.count)))

module _ (c : Config) where
  pub length_own : (m : Message) → length (own_frame c m) ≡ length (body_bytes m) + trailer_length
  unfolding frame_bytes trailer_bytes be_bytes
  length_own m = length-append (body_bytes m) _

  -- one frame of any kind has room
  one_fits : (m : Message) → c.n ≤ members → ReadWell c.n m → length (body_bytes m) + trailer_length ≤ outbox_size
  unfolding body_bytes body_length head_bytes be_bytes
  one_fits (new_epoch e) few w = omega (arith, frame_fits 1 0 0 zero-le zero-le)
  one_fits (observe_req e r) few w = omega (arith, frame_fits 2 0 0 zero-le zero-le)
  one_fits (observe e r v g) few w = omega (arith, w.writable.1.long, frame_fits 3 0 0 zero-le zero-le)
  one_fits (report_req e r xs) few w =
      let most = (good_entries_facts c.n (λ (x : Signed). x.said.member) xs (and-true (good_epoch e && good_round r) _ w.range).1).count.most in
      omega (arith, length_counted signed_entry xs w.writable, frame_fits 4 (length xs) 0 (omega arith) zero-le)
  one_fits (report e r xs g) few w =
      let most = (good_entries_facts c.n (λ (o : Observation). o.member) xs (and-true (good_epoch e && good_round r) _ w.range).1).count.most in
      omega (arith, length-append (counted_bytes observation_bytes xs) g, length_counted observation_entry xs w.writable.0, w.writable.1.long, frame_fits 5 (length xs) 0 (omega arith) zero-le)
  one_fits (final a) few w = report_fits c.n a few w.range w.writable
  one_fits (final_echo a) few w = report_fits c.n a few w.range w.writable

  -- of two, the first is a NEWEPOCH and the second an OBSERVE-REQ, which are short
  short_body : (m : Message) → kind_of m ≤ 2 → length (body_bytes m) ≤ 5
  unfolding body_bytes head_bytes be_bytes
  short_body (new_epoch e) h = omega arith
  short_body (observe_req e r) h = omega arith
  short_body (observe e r v g) h = absurd (omega arith)
  short_body (report_req e r xs) h = absurd (omega arith)
  short_body (report e r xs g) h = absurd (omega arith)
  short_body (final a) h = absurd (omega arith)
  short_body (final_echo a) h = absurd (omega arith)

  all_fit : (ms : List Message) → c.n ≤ members → FewSent ms → Each (ReadWell c.n) ms → length (frames_of c ms) ≤ outbox_size
  unfolding frames_of
  all_fit [] few s w = zero-le
  all_fit (m ∷ []) few s w = omega (arith, length-append (own_frame c m) [], length_own m, one_fits m few w.0)
  all_fit (m ∷ k ∷ []) few s w =
      let first = short_body m (omega (arith, s.0)) in
      let second = short_body k (omega (arith, s.1)) in
      omega (arith, length-append (own_frame c m) (own_frame c k ++ []), length-append (own_frame c k) [], length_own m, length_own k)
  all_fit (m ∷ k ∷ l ∷ ms) few s w = absurd s

-- what is laid over a buffer with room for it stands there, and the rest of the buffer is as it was
stands_there : (f : Effect) (c : Config) (outbox : List ℕ) (at : ℕ) → f.whole_after.node.config ≡ c → at + length (frames_of c f.sent) ≤ length outbox → StandIn c f.sent outbox at (settled f outbox at)
unfolding settled
stands_there f c outbox at e h =
    let frames = frames_of c f.sent in
    record {
      frames = rw e (part_over outbox at frames h);
      before = rw e (take_over outbox at frames);
      behind = rw e (drop_over outbox at frames);
    }

pub frames_stand : FramesStand
frames_stand w e f outbox at t k room h =
    let (good, r) = step_ruled w e f h in
    let p = node_facts w.node (good_node_lem w.node w.kept good) in
    let c = w.node.config in
    let few = (good_facts c p.config).feed.members.most in
    let sizes = room_facts outbox at w.kept w.signatures room in
    let fits = all_fit c f.sent few (new_epoch_goes_first w e f h) (well_ruled t (record { kept = sizes.report; signatures = sizes.signed }) p r k) in
    rw ((call_is_the_step w e outbox at).rule f room h) (stands_there f c outbox at (config_ruled r) (omega arith))
