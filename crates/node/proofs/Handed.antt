-- What is handed out, over a run: reports that were checked, each of the node's epoch and round as it goes out, which completes the round. So each is of a later round than the
-- one before.
use mathlib.Core.Path.{◌≡◌, refl, sym, ap, ◌∙◌, subst}
use mathlib.Core.Bool.{Bool, true, false, cond, false≢true}
use mathlib.Core.List.{List, [], ◌∷◌, ◌++◌, map}
use mathlib.Core.Logic.{inl, inr}
use Prim.Native.Nat.{ℕ, ◌≤◌, ◌<◌}
use native.Mathlib.Omega.{arith}
use Rattle.config.specs.Limits.{members}
use Rattle.config.specs.declared.Config.{Config}
use Rattle.config.specs.declared.Commit.{Commit}
use Rattle.wire.specs.Numbers.{Bytes}
use Rattle.quorum.specs.First.{OneOf}
use Rattle.quorum.proofs.Cases.{cases, split}
use Rattle.price.specs.Median.{median_of}
use Rattle.frame.specs.Message.{Signed, Attested, Message, new_epoch, observe_req, observe, report_req, report, final, final_echo}
use Rattle.frame.specs.Decode.{body_in}
use Rattle.frame.specs.Claims.{Each}
use Rattle.frame.proofs.Entries.{each_append}
use Rattle.report.specs.Faults as fault
use Rattle.report.specs.Newer.{newer}
use Rattle.report.specs.Stands.{values_of}
use Rattle.report.specs.Whole.{final_length, part_of, report_of}
use Rattle.report.proofs.Order.{newer_of}
use Rattle.report.proofs.Bodies.{none_handed, stands_long, stands_handed}
use Rattle.follower.specs.declared.Followed.{Followed}
use Rattle.follower.specs.declared.Raised.TheVariants as raised
use Rattle.follower.specs.State.{is_set}
use Rattle.follower.specs.Takes.{takes, fault_of}
use Rattle.follower.specs.Rules.{requests, received, follow_of}
use Rattle.follower.specs.Handed.{handed_of, handed_part}
use Rattle.follower.proofs.Rules.{requested_each, asked_each, echoed_each, by_request, round_stays, completed_stays}
use Rattle.follower.proofs.Taken.{Report, taken_request, taken_echo}
use Rattle.follower.proofs.Findings.{finding_taken}
use Rattle.node.specs.declared.Node.{Node}
use Rattle.node.specs.State.{epoch_of, leader_now}
use Rattle.node.specs.Event.{Whole, Delivery, Event, delivers, Effect, done}
use Rattle.node.specs.Effects.{pacing, moving, following, leading}
use Rattle.node.specs.Calls.{step}
use Rattle.node.specs.Runs.{settled_in, after, arriving, handed_by, handed_in}
use Rattle.node.specs.Typed.{TypedEvent, TypedEvents}
use Rattle.node.specs.Claims.{Checked, HandedWasChecked, Rising, HandedOnceARound}
use Rattle.node.proofs.Ruled.{Says}
use Rattle.node.proofs.Turns.{Turn, paced, moved, followed, led, step_turns, raising_epoch}
use Rattle.node.proofs.Rounds.{leaves}
use Rattle.node.proofs.Bodies.{frame_stands, body_stands}
use Rattle.node.proofs.Kept.{Keeps, Brings, brought_checked, keeps_brings, keeps_after, begun_few, begun_keeps, all_one}

-- ---- one event

-- an event by which the round is completed
record Closes (n v : Node) : Type 0 where
  still_open : is_set n.follower.completed ≡ false
  same_epoch : epoch_of v ≡ epoch_of n
  same_round : v.follower.round ≡ n.follower.round
  closed : is_set v.follower.completed ≡ true

-- hands out nothing; or one report, of this epoch and round, which that completes
data Hands (c : Config) (es : List Event) (n v : Node) : List Attested → Type 0 where
  nothing : Hands c es n v []
  one : (a : Attested) → Checked c es a → a.epoch ≡ epoch_of n → a.round ≡ n.follower.round → Closes n v → Hands c es n v (a ∷ [])

-- an empty part, of whichever buffer, is nothing
hands_none : (c : Config) (es : List Event) (w : Whole) (v : Node) (frame : List ℕ) → Hands c es w.node v (report_of (part_of (cond (is_set w.node.follower.kept) w.kept frame) 0 0))
hands_none c es w v frame = subst (Hands c es w.node v) (sym (none_handed (cond (is_set w.node.follower.kept) w.kept frame))) nothing

-- what the follower's rule hands out
abbrev hands_out : Whole → Delivery → Followed → List Attested
hands_out w d r = report_of (handed_part (handed_of r.handed (is_set w.node.follower.kept) w.kept (body_in d.frame)) w.kept d.frame)

module _ (c : Config) (es : List Event) (w : Whole) (k : Keeps c es w) (d : Delivery) (is : OneOf (delivers d) es) (typed : Bytes d.frame) where
  -- the kept report goes out, or else the one that has come
  echo_hands : (v : Node) (a : Attested) → Brings c es w.node d (final_echo a) a → Report w.node.follower (epoch_of w.node) (leader_now w.node) d.link a → Closes w.node v → (b : Bool) → is_set w.node.follower.kept ≡ b → Hands c es w.node v (report_of (part_of (cond b w.kept d.frame) 0 (cond b (final_length w.kept) (final_length (body_in d.frame)))))
  echo_hands v a b r closes true e =
      let h = k.held e in
      let out = ap (λ (len : ℕ). report_of (part_of w.kept 0 len)) (stands_long c.n h.held_report w.kept h.stands) ∙ stands_handed c.n h.held_report w.kept h.stands in
      subst (Hands c es w.node v) (sym out) (one h.held_report h.checked h.same_epoch h.same_round closes)
  echo_hands v a b r closes false e =
      let n = w.node in
      let body = body_stands n d (final_echo a) a b.says refl typed in
      let frame = frame_stands n d (final_echo a) a b.says refl typed in
      let out = ap (λ (len : ℕ). report_of (part_of d.frame 0 len)) (stands_long n.config.n a (body_in d.frame) body) ∙ stands_handed n.config.n a d.frame frame in
      subst (Hands c es n v) (sym out) (one a (brought_checked c es n d (final_echo a) a b) r.current.same r.round closes)

  abbrev Gives : Followed → Type 0
  Gives r = Hands c es w.node (leaves w.node r) (hands_out w d r)

  follow_hands : (m : Message) → Says w.node d m → takes w.node.follower (epoch_of w.node) (leader_now w.node) d.link m ≡ true → fault_of w.node.config.f d.bits m ≡ fault.Nothing → Gives (follow_of w.node.config w.node.follower d.link d.time d.commit m)
  unfolding received
  follow_hands (observe_req e r) says t stands = requested_each Gives w.node.config w.node.follower r (hands_none c es w _ d.frame) (hands_none c es w _ d.frame)
  follow_hands (report_req e r xs) says t stands =
      asked_each Gives w.node.config w.node.follower d.time d.commit (median_of (values_of (map (λ (x : Signed). x.said) xs))) (hands_none c es w _ d.frame) (hands_none c es w _ d.frame)
  follow_hands (final a) says t stands = hands_none c es w _ d.frame
  follow_hands (final_echo a) says t stands =
      let s = w.node.follower in
      let p = taken_echo s (epoch_of w.node) (leader_now w.node) d.link a t in
      echoed_each Gives w.node.config s d.link
      (echo_hands _ a (keeps_brings c es w d (final_echo a) a k is typed says refl stands) p.0 (record { still_open = p.2; same_epoch = raising_epoch raised.Progress w.node.pace; same_round = refl; closed = refl }) (is_set s.kept) refl)
      (hands_none c es w _ d.frame)
  follow_hands (new_epoch e) says t stands = hands_none c es w _ d.frame
  follow_hands (observe e r v g) says t stands = hands_none c es w _ d.frame
  follow_hands (report e r xs g) says t stands = hands_none c es w _ d.frame

hands_turn : (c : Config) (es : List Event) (w : Whole) (e : Event) (f : Effect) → Keeps c es w → OneOf e es → TypedEvent e → Turn w e f → Hands c es w.node f.whole_after.node (handed_by w e (done f))
unfolding pacing moving following leading
hands_turn c es w e f k is typed (paced p t s) = hands_none c es w _ (arriving e)
hands_turn c es w e f k is typed (moved p t s) = hands_none c es w _ (arriving e)
hands_turn c es w e f k is typed (followed d m s t) =
    let p = finding_taken w.node.follower _ _ _ d.link d.bits m t in
    follow_hands c es w k d is typed.frame m s p.0 p.1
hands_turn c es w e f k is typed (led l g h) = hands_none c es w _ (arriving e)

hands_after : (c : Config) (es : List Event) (w : Whole) (e : Event) → Keeps c es w → OneOf e es → TypedEvent e → Hands c es w.node (after w e).node (handed_by w e (step w e))
hands_after c es w e k is typed = step_turns (λ s. Hands c es w.node (settled_in w s).node (handed_by w e s)) w e (λ a. nothing) (λ f t. hands_turn c es w e f k is typed t)

-- ---- all that is handed out was checked

hands_checked : (c : Config) (es : List Event) (n v : Node) (l : List Attested) → Hands c es n v l → Each (Checked c es) l
hands_checked c es n v l nothing = tt
hands_checked c es n v l (one a checked epoch round closes) = (checked, tt)

handed_checked : (c : Config) (es : List Event) → c.n ≤ members → (w : Whole) (fs : List Event) → Each (λ e. OneOf e es) fs → TypedEvents fs → Keeps c es w → Each (Checked c es) (handed_in w fs)
unfolding handed_in
handed_checked c es few w [] is typed k = tt
handed_checked c es few w (e ∷ fs) (is, rest) (typed, more) k =
    each_append (Checked c es) (handed_by w e (step w e)) (handed_in (after w e) fs)
    (hands_checked c es _ _ _ (hands_after c es w e k is typed))
    (handed_checked c es few (after w e) fs rest more (keeps_after c es few w e is typed k))

pub handed_was_checked : HandedWasChecked
handed_was_checked w es b typed = handed_checked w.node.config es (begun_few w b) w es (all_one es) typed (begun_keeps w es b)

-- ---- each is of a later round than the one before

-- a report that has gone out: the node is in a later round, or has completed that one
record Past (n : Node) (a : Attested) : Type 0 where
  epoch : a.epoch ≤ epoch_of n
  round : a.epoch ≡ epoch_of n → a.round ≤ n.follower.round
  closed : a.epoch ≡ epoch_of n → a.round ≡ n.follower.round → is_set n.follower.completed ≡ true

-- in the same round, what was completed is so
past_same : (n v : Node) (a : Attested) → epoch_of v ≡ epoch_of n → v.follower.round ≡ n.follower.round → (is_set n.follower.completed ≡ true → is_set v.follower.completed ≡ true) → Past n a → Past v a
past_same n v a e r stays p =
    record { epoch = omega (arith, p.epoch); round = λ h. omega (arith, p.round (omega arith)); closed = λ h q. stays (p.closed (omega arith) (omega arith)) }

past_later : (n v : Node) (a : Attested) → epoch_of v ≡ epoch_of n → n.follower.round < v.follower.round → Past n a → Past v a
past_later n v a e r p =
    record { epoch = omega (arith, p.epoch); round = λ h. omega (arith, p.round (omega arith)); closed = λ h q. absurd (omega (arith, p.round (omega arith))) }

past_moved : (n v : Node) (a : Attested) → epoch_of n < epoch_of v → Past n a → Past v a
past_moved n v a e p =
    record { epoch = omega (arith, p.epoch); round = λ h. absurd (omega (arith, p.epoch)); closed = λ h q. absurd (omega (arith, p.epoch)) }

module _ (n : Node) (a : Attested) (j time : ℕ) (commit : Commit) (p : Past n a) where
  past_stays : (m : Message) → requests m ≡ false → Past (leaves n (follow_of n.config n.follower j time commit m)) a
  past_stays m q =
      let r = follow_of n.config n.follower j time commit m in
      past_same n (leaves n r) a (raising_epoch r.raised n.pace) (round_stays n.config n.follower j time commit m q) (completed_stays n.config n.follower j time commit m q) p

  past_follows : (m : Message) → takes n.follower (epoch_of n) (leader_now n) j m ≡ true → Past (leaves n (follow_of n.config n.follower j time commit m)) a
  past_follows =
      by_request _
      (λ e r t.
      let later = (taken_request n.follower (epoch_of n) (leader_now n) j e r t).later in
      requested_each (λ (d : Followed). Past (leaves n d) a) n.config n.follower r
      (past_later n _ a (raising_epoch raised.ChangeLeader n.pace) later p)
      (past_later n _ a refl later p))
      (λ m q t. past_stays m q)

past_turn : (w : Whole) (e : Event) (f : Effect) (a : Attested) → Past w.node a → Turn w e f → Past f.whole_after.node a
unfolding pacing moving following leading
past_turn w e f a q (paced p t s) = past_same w.node _ a s refl (λ h. h) q
past_turn w e f a q (moved p t s) = past_moved w.node _ a s q
past_turn w e f a q (followed d m s t) = past_follows w.node a d.link d.time d.commit q m (finding_taken w.node.follower _ _ _ d.link d.bits m t).0
past_turn w e f a q (led l g h) = past_same w.node _ a refl refl (λ h. h) q

past_after : (w : Whole) (e : Event) (a : Attested) → Past w.node a → Past (after w e).node a
past_after w e a p = step_turns (λ s. Past (settled_in w s).node a) w e (λ x. p) (λ f t. past_turn w e f a p t)

-- what goes out is then past, and was not before
past_handed : (n v : Node) (a : Attested) → a.epoch ≡ epoch_of n → a.round ≡ n.follower.round → Closes n v → Past v a
past_handed n v a e r c =
    record { epoch = omega (arith, c.same_epoch); round = λ h. omega (arith, c.same_round); closed = λ h q. c.closed }

newer_than_past : (n : Node) (a b : Attested) → a.epoch ≡ epoch_of n → a.round ≡ n.follower.round → is_set n.follower.completed ≡ false → Past n b → newer a.epoch a.round b.epoch b.round ≡ true
newer_than_past n a b e r o p =
    let low = p.epoch in
    newer_of a.epoch a.round b.epoch b.round
    (cases (split a.epoch b.epoch)
    (λ same.
    let no : b.round ≡ n.follower.round → ⊥ = λ q. false≢true (sym o ∙ p.closed (omega arith) q) in
    let at = p.round (omega arith) in
    inr (omega arith, omega (arith, no)))
    (λ later. inl later))

-- with whatever went out last
record Rises (n : Node) (l : List Attested) : Type 0 where
  alone : Rising l
  behind : (b : Attested) → Past n b → Rising (b ∷ l)

rises_hands : (c : Config) (es : List Event) (n v : Node) (l m : List Attested) → Hands c es n v l → ((b : Attested) → Past n b → Past v b) → Rises v m → Rises n (l ++ m)
rises_hands c es n v l m nothing on r = record { alone = r.alone; behind = λ b p. r.behind b (on b p) }
rises_hands c es n v l m (one a checked e q closes) on r =
    let rest = r.behind a (past_handed n v a e q closes) in
    record { alone = rest; behind = λ b p. (newer_than_past n a b e q closes.still_open p, rest) }

rises_run : (c : Config) (es : List Event) → c.n ≤ members → (w : Whole) (fs : List Event) → Each (λ e. OneOf e es) fs → TypedEvents fs → Keeps c es w → Rises w.node (handed_in w fs)
unfolding handed_in
rises_run c es few w [] is typed k = record { alone = tt; behind = λ b p. tt }
rises_run c es few w (e ∷ fs) (is, rest) (typed, more) k =
    rises_hands c es w.node (after w e).node _ _ (hands_after c es w e k is typed) (past_after w e) (rises_run c es few (after w e) fs rest more (keeps_after c es few w e is typed k))

pub handed_once_a_round : HandedOnceARound
handed_once_a_round w es b typed = (rises_run w.node.config es (begun_few w b) w es (all_one es) typed (begun_keeps w es b)).alone
