-- Rounds over runs: no epoch falls; in an epoch each OBSERVE that is sent is of a later round, and none of a round past r_max; before its first move a restored node
-- takes no part in rounds.
use mathlib.Core.Path.{◌≡◌, refl, sym, ap, ◌∙◌, subst}
use mathlib.Core.Bool.{Bool, true, false, cond, ◌&&◌, false≢true}
use mathlib.Core.List.{List, [], ◌∷◌, ◌++◌}
use Prim.Native.Nat.{ℕ, ◌+◌, ◌-◌, ◌≤◌, ◌<◌, zero-le}
use native.Mathlib.Nat.{add-zero, le_refl, le_trans}
use native.Mathlib.Omega.{arith}
use borrow.Author.Tests.{eqb-true, eqb-false, ltb-false}
use lib.Dec.{eqb, ltb}
use lib.IntN.{ℤ}
use Rattle.std.specs.Prelude.{Option, None, Some}
use Rattle.config.specs.declared.Config.{Config}
use Rattle.config.specs.declared.Commit.{Commit}
use Rattle.config.proofs.Facts.{and-true}
use Rattle.quorum.proofs.Cases.{either}
use Rattle.frame.specs.Message.{Message, new_epoch, observe_req, observe, report_req, report, final, final_echo, kind_of}
use Rattle.frame.specs.Claims.{Each}
use Rattle.frame.proofs.Entries.{each_append}
use Rattle.report.proofs.Bodies.{none_handed}
use Rattle.pacemaker.specs.State.{is_started}
use Rattle.pacemaker.specs.Rules.{change_leader_of}
use Rattle.follower.specs.declared.Followed.{Followed}
use Rattle.follower.specs.declared.Raised.TheVariants as raised
use Rattle.follower.specs.declared.Reply.{Reply}
use Rattle.follower.specs.declared.Reply.TheVariants as reply
use Rattle.follower.specs.State.{is_set, in_round}
use Rattle.follower.specs.Takes.{takes}
use Rattle.follower.specs.Rules.{followed as came_to, requests, requested, follow_of}
use Rattle.follower.proofs.Rules.{by_request, round_stays}
use Rattle.follower.proofs.Taken.{taken_request, taken_live}
use Rattle.follower.proofs.Findings.{finding_taken}
use Rattle.leader.specs.declared.Leader.{Leader}
use Rattle.leader.specs.declared.Asking.{Asking}
use Rattle.leader.specs.declared.Asking.TheVariants as asking
use Rattle.leader.specs.Rules.{no_signatures}
use Rattle.node.specs.declared.Node.{Node}
use Rattle.node.specs.State.{with_round, epoch_of, leader_now, leads}
use Rattle.node.specs.Event.{Whole, Event, Effect, done}
use Rattle.node.specs.Effects.{announced, asking_for, answering, replying, pacing, begun, moving, raising, following, leading}
use Rattle.node.specs.Calls.{step}
use Rattle.node.specs.Runs.{settled_in, after, run, sent_by, sent_in, arriving, handed_by, handed_in}
use Rattle.node.specs.Claims.{count_observes, FewRoundsAnEpoch, Waits, RestoredWaitsForAMove}
use Rattle.node.proofs.Sent.{announced_each}
use Rattle.node.proofs.Turns.{Turn, paced, moved, followed, led, step_turns, raising_epoch}
use Rattle.node.proofs.Runs.{config_after}

-- ---- no epoch falls

epoch_turn : (w : Whole) (e : Event) (f : Effect) → Turn w e f → epoch_of w.node ≤ epoch_of f.whole_after.node
unfolding pacing moving following leading
epoch_turn w e f (paced p t s) = omega arith
epoch_turn w e f (moved p t s) = omega arith
epoch_turn w e f (followed d m s t) = omega (arith, raising_epoch (follow_of w.node.config w.node.follower d.link d.time d.commit m).raised w.node.pace)
epoch_turn w e f (led l g h) = le_refl _

epoch_after : (w : Whole) (e : Event) → epoch_of w.node ≤ epoch_of (after w e).node
epoch_after w e = step_turns (λ s. epoch_of w.node ≤ epoch_of (settled_in w s).node) w e (λ a. le_refl _) (epoch_turn w e)

epoch_run : (w : Whole) (es : List Event) → epoch_of w.node ≤ epoch_of (run w es).node
unfolding run
epoch_run w [] = le_refl _
epoch_run w (e ∷ es) = le_trans (epoch_after w e) (epoch_run (after w e) es)

-- ---- how many OBSERVE are sent

module _ (epoch : ℕ) where
  count_append : (ms ns : List Message) → count_observes epoch (ms ++ ns) ≡ count_observes epoch ms + count_observes epoch ns
  unfolding count_observes
  count_append [] ns = omega arith
  count_append (m ∷ ms) ns = omega (arith, count_append ms ns)

  count_announced : (s : Option ℕ) → count_observes epoch (announced s) ≡ 0
  unfolding count_observes
  count_announced None = refl
  count_announced (Some x) = refl

  count_asked : (c : Config) (e : ℕ) (l : Leader) (signatures : List ℕ) (a : Asking) → count_observes epoch (asking_for c e l signatures a) ≡ 0
  unfolding count_observes
  count_asked c e l signatures asking.Nothing = refl
  count_asked c e l signatures asking.Observations = refl
  count_asked c e l signatures asking.Reports = refl
  count_asked c e l signatures asking.Final = refl

  count_answered : (v : ℤ) (m : Message) → requests m ≡ false → count_observes epoch (answering v m) ≡ 0
  unfolding count_observes
  count_answered v (observe_req e r) h = absurd (false≢true (sym h))
  count_answered v (report_req e r xs) h = refl
  count_answered v (final a) h = refl
  count_answered v (final_echo a) h = refl
  count_answered v (new_epoch e) h = refl
  count_answered v (observe e r u g) h = refl
  count_answered v (report e r xs g) h = refl

  count_replied : (v : ℤ) (m : Message) (r : Reply) → requests m ≡ false → count_observes epoch (replying v m r) ≡ 0
  unfolding count_observes
  count_replied v m reply.Nothing h = refl
  count_replied v m reply.Observe h = count_answered v m h
  count_replied v m reply.Report h = count_answered v m h
  count_replied v m reply.Echo h = count_answered v m h

  -- at most k are to come: none in a later epoch, and in this one no more than there are rounds left
  record Few (rounds : ℕ) (n : Node) (k : ℕ) : Type 0 where
    past : epoch < epoch_of n → k ≡ 0
    now : epoch_of n ≡ epoch → k ≤ rounds - n.follower.round
    all : k ≤ rounds

  few_same : (rounds : ℕ) (n v : Node) (j k : ℕ) → epoch_of v ≡ epoch_of n → v.follower.round ≡ n.follower.round → j ≡ 0 → Few rounds v k → Few rounds n (j + k)
  few_same rounds n v j k e r z g =
      record { past = λ h. omega (arith, g.past (omega arith)); now = λ h. omega (arith, g.now (omega arith)); all = omega (arith, g.all) }

  few_moved : (rounds : ℕ) (n v : Node) (j k : ℕ) → epoch_of n < epoch_of v → j ≡ 0 → Few rounds v k → Few rounds n (j + k)
  few_moved rounds n v j k e z g =
      record { past = λ h. omega (arith, g.past (omega arith)); now = λ h. omega (arith, g.past (omega arith)); all = omega (arith, g.all) }

  -- a request of a later round, that halts or is answered
  module _ (rounds : ℕ) (n v : Node) (e r k : ℕ) (same : epoch_of v ≡ epoch_of n) (later : n.follower.round < r) (round : v.follower.round ≡ r) (here : e ≡ epoch_of n) (g : Few rounds v k) where
    few_halted : (j : ℕ) → j ≡ 0 → Few rounds n (j + k)
    few_halted j z =
        record { past = λ h. omega (arith, g.past (omega arith)); now = λ h. omega (arith, g.now (omega arith)); all = omega (arith, g.all) }

    few_asked : (j : ℕ) → j ≡ cond (eqb e epoch) 1 0 → r ≤ rounds → Few rounds n (j + k)
    few_asked j z most = go _ refl z
      where
        go : (b : Bool) → eqb e epoch ≡ b → j ≡ cond b 1 0 → Few rounds n (j + k)
        go true q z =
            let now = eqb-true e epoch q in
            let few = g.now (omega arith) in
            record { past = λ h. omega arith; now = λ h. omega arith; all = omega arith }
        go false q z =
            let other = eqb-false e epoch q in
            record { past = λ h. omega (arith, g.past (omega arith)); now = λ h. absurd (other (omega arith)); all = omega (arith, g.all) }

-- what the follower's rule leaves and sends
abbrev pub leaves : Node → Followed → Node
leaves n r = with_round n (raising r.raised n.pace).pace r.follower

abbrev sends : Node → ℤ → Message → Followed → List Message
sends n v m r = announced (raising r.raised n.pace).sent ++ replying v m r.reply

module _ (epoch : ℕ) (n : Node) (v : ℤ) (j time : ℕ) (commit : Commit) (k : ℕ) where
  abbrev Fewer : Message → Followed → Type 0
  Fewer m r = Few epoch n.config.r_max (leaves n r) k → Few epoch n.config.r_max n (count_observes epoch (sends n v m r) + k)

  few_requested : (e r : ℕ) → e ≡ epoch_of n → n.follower.round < r → Fewer (observe_req e r) (requested n.config n.follower r)
  unfolding change_leader_of requested count_observes
  few_requested e r here later =
      let halted = came_to (in_round 0 r) reply.Nothing raised.ChangeLeader false in
      let asked = came_to (in_round n.follower.live r) reply.Observe raised.Nothing false in
      either (Fewer (observe_req e r)) (ltb n.config.r_max r) halted asked
      (λ h g. few_halted epoch _ n (leaves n halted) e r k (raising_epoch raised.ChangeLeader n.pace) later refl here g _ refl)
      (λ h g. few_asked epoch _ n (leaves n asked) e r k refl later refl here g _ (add-zero _) (ltb-false _ _ h))

  few_stays : (m : Message) → requests m ≡ false → Fewer m (follow_of n.config n.follower j time commit m)
  few_stays m q g =
      let r = follow_of n.config n.follower j time commit m in
      let p = raising r.raised n.pace in
      few_same epoch _ n (leaves n r) _ k (raising_epoch r.raised n.pace) (round_stays n.config n.follower j time commit m q)
      (count_append epoch (announced p.sent) (replying v m r.reply) ∙ omega (arith, count_announced epoch p.sent, count_replied epoch v m r.reply q))
      g

  few_follows : (m : Message) → takes n.follower (epoch_of n) (leader_now n) j m ≡ true → Fewer m (follow_of n.config n.follower j time commit m)
  few_follows =
      by_request _
      (λ e r t. let p = taken_request n.follower (epoch_of n) (leader_now n) j e r t in few_requested e r p.current.same p.later)
      (λ m q t. few_stays m q)

module _ (epoch : ℕ) where
  few_turn : (w : Whole) (e : Event) (f : Effect) → Turn w e f → (k : ℕ) → Few epoch w.node.config.r_max f.whole_after.node k → Few epoch w.node.config.r_max w.node (count_observes epoch f.sent + k)
  unfolding pacing moving following leading
  few_turn w e f (paced p t s) k g = few_same epoch _ w.node _ _ k s refl (count_announced epoch p.sent) g
  few_turn w e f (moved p t s) k g =
      let l = begun w.node.config p.pace.epoch in
      few_moved epoch _ w.node _ _ k s
      (count_append epoch (announced p.sent) _ ∙ omega (arith, count_announced epoch p.sent, count_asked epoch w.node.config p.pace.epoch l.leader (no_signatures w.signatures) l.asking))
      g
  few_turn w e f (followed d m s t) k g =
      few_follows epoch w.node d.observation d.link d.time d.commit k m (finding_taken w.node.follower _ _ _ d.link d.bits m t).0 g
  few_turn w e f (led l g h) k q = few_same epoch _ w.node _ _ k refl refl (count_asked epoch w.node.config (epoch_of w.node) l.leader g l.asking) q

  few_run : (w : Whole) (es : List Event) → Few epoch w.node.config.r_max w.node (count_observes epoch (sent_in w es))
  unfolding sent_in count_observes
  few_run w [] = record { past = λ h. refl; now = λ h. zero-le; all = zero-le }
  few_run w (e ∷ es) =
      rw (count_append epoch (sent_by (step w e)) (sent_in (after w e) es))
      (step_turns (λ s. Few epoch w.node.config.r_max (settled_in w s).node (count_observes epoch (sent_in (settled_in w s) es)) → Few epoch w.node.config.r_max w.node (count_observes epoch (sent_by s) + count_observes epoch (sent_in (settled_in w s) es))) w e
      (λ a g. few_same epoch _ w.node w.node _ _ refl refl refl g)
      (λ f t g. few_turn w e f t _ g)
      (subst (λ (c : Config). Few epoch c.r_max (after w e).node (count_observes epoch (sent_in (after w e) es))) (config_after w e) (few_run (after w e) es)))

pub few_rounds_an_epoch : FewRoundsAnEpoch
few_rounds_an_epoch w es epoch = (few_run epoch w es).all

-- ---- before the first move

abbrev Announces : Message → Type 0
Announces m = kind_of m ≡ 1

leads_live : (n : Node) → leads n ≡ true → is_set n.follower.live ≡ true
leads_live n h =
    let started = is_started n.pace in
    let live = is_set n.follower.live in
    (and-true started live (and-true (started && live) (eqb n.config.own (leader_now n)) h).0).1

-- a halted instance takes nothing, and leads nothing
waits_turn : (w : Whole) (e : Event) (f : Effect) → Turn w e f → is_set w.node.follower.live ≡ false → (epoch_of w.node < epoch_of f.whole_after.node → ⊥) → Each Announces f.sent × (is_set f.whole_after.node.follower.live ≡ false) × (handed_by w e (done f) ≡ [])
unfolding pacing moving following leading
waits_turn w e f (paced p t s) h q = (announced_each Announces p.sent (λ x e. refl), h, none_handed (cond (is_set w.node.follower.kept) w.kept (arriving e)))
waits_turn w e f (moved p t s) h q = absurd (q s)
waits_turn w e f (followed d m s t) h q = absurd (false≢true (sym h ∙ taken_live w.node.follower _ _ d.link m (finding_taken w.node.follower _ _ _ d.link d.bits m t).0))
waits_turn w e f (led l g t) h q = absurd (false≢true (sym h ∙ leads_live w.node t))

waits_run : (w : Whole) (es : List Event) → is_set w.node.follower.live ≡ false → epoch_of (run w es).node ≡ epoch_of w.node → Waits w es
unfolding run sent_in handed_in
waits_run w [] h q = record { outside = h; sends = tt; hands = refl }
waits_run w (e ∷ es) h q =
    let r = step_turns (λ s. (is_set (settled_in w s).node.follower.live ≡ false → epoch_of (run (settled_in w s) es).node ≡ epoch_of (settled_in w s).node → Waits (settled_in w s) es) → epoch_of (run (settled_in w s) es).node ≡ epoch_of w.node → (is_set (run (settled_in w s) es).node.follower.live ≡ false) × Each Announces (sent_by s ++ sent_in (settled_in w s) es) × (handed_by w e s ++ handed_in (settled_in w s) es ≡ [])) w e
    (λ a g same. let r = g h same in (r.outside, r.sends, r.hands))
    (λ f t g same.
    let v = f.whole_after in
    let low = epoch_turn w e f t in
    let high = epoch_run v es in
    let (first, still, none) = waits_turn w e f t h (λ rises. omega arith) in
    let r = g still (omega arith) in
    (r.outside, each_append Announces f.sent (sent_in v es) first r.sends, rw none r.hands))
    (waits_run (after w e) es)
    q in
    record { outside = r.0; sends = r.1; hands = r.2 }

pub restored_waits_for_a_move : RestoredWaitsForAMove
restored_waits_for_a_move w es b q = waits_run w es (ap (λ (n : Node). is_set n.follower.live) b.node) q
