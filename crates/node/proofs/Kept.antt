-- What is kept, over a run: the buffer holds a report that one of the events delivered and that passed its checks, of the node's epoch and round.
use mathlib.Core.Path.{◌≡◌, refl, sym, ap, ◌∙◌}
use mathlib.Core.Bool.{true, false≢true}
use mathlib.Core.List.{List, [], ◌∷◌, map}
use mathlib.Core.Logic.{inl, inr}
use Prim.Native.Nat.{ℕ, ◌≤◌}
use native.Mathlib.Omega.{arith}
use lib.ListN.{length, replicate}
use Rattle.config.specs.Limits.{members, kept_size}
use Rattle.config.specs.declared.Config.{Config}
use Rattle.config.proofs.Facts.{good_facts}
use Rattle.wire.specs.Numbers.{Bytes}
use Rattle.wire.proofs.Overlay.{length_over}
use Rattle.quorum.specs.First.{OneOf}
use Rattle.quorum.proofs.Cases.{either}
use Rattle.price.specs.Median.{median_of}
use Rattle.frame.specs.Message.{Signed, Attested, Message, new_epoch, observe_req, observe, report_req, report, final, final_echo}
use Rattle.frame.specs.Encode.{attested_bytes}
use Rattle.frame.specs.Claims.{Each}
use Rattle.frame.proofs.Entries.{each_so}
use Rattle.frame.proofs.Fronts.{Stands, stands_says}
use Rattle.report.specs.Faults as fault
use Rattle.report.specs.Stands.{values_of, attested_fault}
use Rattle.report.specs.Kept.{kept_bytes, keeping}
use Rattle.report.proofs.Kept.{kept_stands}
use Rattle.follower.specs.declared.Follower.{Follower}
use Rattle.follower.specs.declared.Followed.{Followed}
use Rattle.follower.specs.State.{is_set}
use Rattle.follower.specs.Takes.{takes, fault_of}
use Rattle.follower.specs.Rules.{received, follow_of, kept_of}
use Rattle.follower.specs.Claims.{Carries}
use Rattle.follower.proofs.Rules.{requested_each, asked_each, echoed_each}
use Rattle.follower.proofs.Taken.{Report, taken_final, taken_echo}
use Rattle.follower.proofs.Findings.{finding_taken}
use Rattle.node.specs.declared.Node.{Node}
use Rattle.node.specs.State.{epoch_of, leader_now}
use Rattle.node.specs.Event.{Whole, Delivery, Event, delivers, Effect}
use Rattle.node.specs.Effects.{pacing, moving, following, leading}
use Rattle.node.specs.Runs.{settled_in, after, run, Begun}
use Rattle.node.specs.Typed.{TypedEvent, TypedEvents}
use Rattle.node.specs.Claims.{Checked, KeptWasChecked}
use Rattle.node.proofs.Ruled.{Says}
use Rattle.node.proofs.Turns.{Turn, paced, moved, followed, led, step_turns, raising_epoch}
use Rattle.node.proofs.Runs.{begun_config}
use Rattle.node.proofs.Bodies.{brought_good, brought_writable}

-- ---- what is kept stands there, and was checked

pub record Held (c : Config) (es : List Event) (epoch round : ℕ) (kept : List ℕ) : Type 0 where
  pub held_report : Attested
  pub stands : Stands c.n held_report kept
  pub checked : Checked c es held_report
  pub same_epoch : held_report.epoch ≡ epoch
  pub same_round : held_report.round ≡ round

pub record Keeps (c : Config) (es : List Event) (w : Whole) : Type 0 where
  pub config : w.node.config ≡ c
  pub room : kept_size ≤ length w.kept
  pub held : is_set w.node.follower.kept ≡ true → Held c es (epoch_of w.node) w.node.follower.round w.kept

-- ---- a message that brings a report which is taken

-- one of the events brought it
pub record Brings (c : Config) (es : List Event) (n : Node) (d : Delivery) (m : Message) (a : Attested) : Type 0 where
  pub config : n.config ≡ c
  pub one : OneOf (delivers d) es
  pub typed : Bytes d.frame
  pub says : Says n d m
  pub carries : Carries m a
  pub stands : attested_fault n.config.f d.bits a ≡ fault.Nothing

module _ (c : Config) (es : List Event) (n : Node) (d : Delivery) (m : Message) (a : Attested) (b : Brings c es n d m a) where
  pub brought_checked : Checked c es a
  brought_checked =
      rw (← b.config)
      (record { delivery = d; one = b.one; passes = b.says.passes; carries = rw b.says.says b.carries; stands = b.stands })

  brought_kept : c.n ≤ members → (buffer : List ℕ) → kept_size ≤ length buffer → Stands c.n a (keeping buffer (attested_bytes a))
  brought_kept few buffer room =
      let good = brought_good n d m a b.says b.carries b.typed in
      let writable = brought_writable n d m a b.says b.carries b.typed in
      kept_stands c.n a buffer few (rw b.config at good) writable room

-- ---- what a message makes of it

pub length_kept : (s : Follower) (kept : List ℕ) (m : Message) → length (kept_of s kept m) ≡ length kept
length_kept s kept (observe_req e r) = length_over kept 0 (replicate kept_size 0)
length_kept s kept (final a) = length_over kept 0 (kept_bytes (attested_bytes a))
length_kept s kept (final_echo a) =
    either (λ l. length l ≡ length kept) (is_set s.kept) _ _ (λ e. refl) (λ e. length_over kept 0 (kept_bytes (attested_bytes a)))
length_kept s kept (new_epoch e) = refl
length_kept s kept (observe e r v g) = refl
length_kept s kept (report_req e r xs) = refl
length_kept s kept (report e r xs g) = refl

-- a report that the follower takes was brought
pub keeps_brings : (c : Config) (es : List Event) (w : Whole) (d : Delivery) (m : Message) (a : Attested) → Keeps c es w → OneOf (delivers d) es → Bytes d.frame → Says w.node d m → Carries m a → attested_fault w.node.config.f d.bits a ≡ fault.Nothing → Brings c es w.node d m a
keeps_brings c es w d m a k one typed says carries stands = record { config = k.config; one = one; typed = typed; says = says; carries = carries; stands = stands }

module _ (c : Config) (es : List Event) (few : c.n ≤ members) (w : Whole) (k : Keeps c es w) (d : Delivery) (one : OneOf (delivers d) es) (typed : Bytes d.frame) where
  -- it is of its epoch and round
  held_new : (m : Message) (a : Attested) → Brings c es w.node d m a → Report w.node.follower (epoch_of w.node) (leader_now w.node) d.link a → Held c es (epoch_of w.node) w.node.follower.round (keeping w.kept (attested_bytes a))
  held_new m a b r =
      record {
        held_report = a;
        stands = brought_kept c es w.node d m a b few w.kept k.room;
        checked = brought_checked c es w.node d m a b;
        same_epoch = r.current.same;
        same_round = r.round;
      }

  abbrev Follows : Message → Followed → Type 0
  Follows m r = is_set r.follower.kept ≡ true → Held c es (epoch_of w.node) r.follower.round (kept_of w.node.follower w.kept m)

  held_follows : (m : Message) → Says w.node d m → takes w.node.follower (epoch_of w.node) (leader_now w.node) d.link m ≡ true → fault_of w.node.config.f d.bits m ≡ fault.Nothing → Follows m (follow_of w.node.config w.node.follower d.link d.time d.commit m)
  unfolding received
  held_follows (observe_req e r) says t stands = requested_each (Follows (observe_req e r)) w.node.config w.node.follower r (λ h. absurd (false≢true h)) (λ h. absurd (false≢true h))
  held_follows (report_req e r xs) says t stands =
      asked_each (Follows (report_req e r xs)) w.node.config w.node.follower d.time d.commit (median_of (values_of (map (λ (x : Signed). x.said) xs))) k.held k.held
  held_follows (final a) says t stands = λ h. held_new (final a) a (keeps_brings c es w d (final a) a k one typed says refl stands) (taken_final w.node.follower _ _ d.link a t).0
  held_follows (final_echo a) says t stands =
      let new = held_new (final_echo a) a (keeps_brings c es w d (final_echo a) a k one typed says refl stands) (taken_echo w.node.follower _ _ d.link a t).0 in
      let now = either (Held c es (epoch_of w.node) w.node.follower.round) (is_set w.node.follower.kept) _ _ k.held (λ e. new) in
      echoed_each (Follows (final_echo a)) w.node.config w.node.follower d.link (λ h. now) (λ h. now)
  held_follows (new_epoch e) says t stands = k.held
  held_follows (observe e r v g) says t stands = k.held
  held_follows (report e r xs g) says t stands = k.held

-- ---- what an event makes of it

module _ (c : Config) (es : List Event) (few : c.n ≤ members) where
  keeps_turn : (w : Whole) (e : Event) (f : Effect) → OneOf e es → TypedEvent e → Turn w e f → Keeps c es w → Keeps c es f.whole_after
  unfolding pacing moving following leading
  keeps_turn w e f one typed (paced p t s) k = record { config = k.config; room = k.room; held = λ h. rw s (k.held h) }
  keeps_turn w e f one typed (moved p t s) k =
      record { config = k.config; room = omega (arith, length_over w.kept 0 (replicate kept_size 0), k.room); held = λ h. absurd (false≢true h) }
  keeps_turn w e f one typed (followed d m s t) k =
      let n = w.node in
      let p = finding_taken n.follower _ _ _ d.link d.bits m t in
      let r = follow_of n.config n.follower d.link d.time d.commit m in
      record {
        config = k.config;
        room = omega (arith, length_kept n.follower w.kept m, k.room);
        held = λ h. rw (raising_epoch r.raised n.pace) (held_follows c es few w k d one typed.frame m s p.0 p.1 h);
      }
  keeps_turn w e f one typed (led l g h) k = record { config = k.config; room = k.room; held = k.held }

  pub keeps_after : (w : Whole) (e : Event) → OneOf e es → TypedEvent e → Keeps c es w → Keeps c es (after w e)
  keeps_after w e one typed k = step_turns (λ s. Keeps c es (settled_in w s)) w e (λ a. k) (λ f t. keeps_turn w e f one typed t k)

  keeps_run : (w : Whole) (fs : List Event) → Each (λ e. OneOf e es) fs → TypedEvents fs → Keeps c es w → Keeps c es (run w fs)
  unfolding run
  keeps_run w [] one typed k = k
  keeps_run w (e ∷ fs) (one, rest) (typed, more) k = keeps_run (after w e) fs rest more (keeps_after w e one typed k)

-- ---- from the beginning

pub begun_few : (w : Whole) → Begun w → w.node.config.n ≤ members
begun_few w b = (good_facts w.node.config (begun_config w b)).feed.members.most

-- nothing is kept at first
pub begun_keeps : (w : Whole) (es : List Event) → Begun w → Keeps w.node.config es w
begun_keeps w es b =
    record { config = refl; room = b.kept; held = λ h. absurd (false≢true (sym (ap (λ (n : Node). is_set n.follower.kept) b.node) ∙ h)) }

-- each event is one of them
pub all_one : (es : List Event) → Each (λ e. OneOf e es) es
all_one [] = tt
all_one (e ∷ es) = (inl refl, each_so (λ x. OneOf x es) (λ x. OneOf x (e ∷ es)) (λ x one. inr one) es (all_one es))

pub kept_was_checked : KeptWasChecked
kept_was_checked w es b typed h =
    let c = w.node.config in
    let k = keeps_run c es (begun_few w b) w es (all_one es) typed (begun_keeps w es b) in
    let v = run w es in
    let held = k.held h in
    let says = stands_says c.n held.held_report v.kept held.stands in
    record {
      checked = rw (k.config, says) held.checked;
      epoch = ap (λ (a : Attested). a.epoch) says ∙ held.same_epoch;
      round = ap (λ (a : Attested). a.round) says ∙ held.same_round;
    }
