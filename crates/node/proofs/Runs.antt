-- Runs: the configuration stays, the pacemaker's part of a state goes from rule to rule of its own, and a state in range stays so.
use mathlib.Core.Path.{◌≡◌, refl, sym, ap, ◌∙◌, subst}
use mathlib.Core.Bool.{true}
use mathlib.Core.List.{List, [], ◌∷◌}
use mathlib.Core.Logic.{◌⊎◌, inl, inr}
use Prim.Native.Nat.{ℕ}
use borrow.Author.Tests.{le-leb}
use Rattle.config.specs.Bounds.{good_config}
use Rattle.config.specs.Codes.{number_of, is_done}
use Rattle.config.specs.declared.Config.{Config}
use Rattle.pacemaker.specs.declared.Pace.{Pace}
use Rattle.pacemaker.specs.Runs.{Next, Lived, begun, then}
use Rattle.follower.specs.Rules.{follow_of}
use Rattle.node.specs.declared.Node.{Node}
use Rattle.node.specs.State.{good_state}
use Rattle.node.specs.Event.{Whole, Event, Effect}
use Rattle.node.specs.Effects.{pacing, moving, following, leading}
use Rattle.node.specs.Calls.{restore_answer}
use Rattle.node.specs.Runs.{settled_in, after, run, Begun, Reachable}
use Rattle.node.specs.Typed.{TypedEvents}
use Rattle.node.specs.Claims.{ConfigurationStays, AlwaysGood}
use Rattle.node.proofs.Steps.{made_is_good}
use Rattle.node.proofs.Ruled.{kept_by_steps, config_ruled}
use Rattle.node.proofs.Closed.{good_stays_good}
use Rattle.node.proofs.Turns.{Turn, paced, moved, followed, led, step_turns, raising_next}

-- ---- the configuration

pub config_after : (w : Whole) (e : Event) → (after w e).node.config ≡ w.node.config
config_after w e = kept_by_steps (λ (v : Whole). v.node.config ≡ w.node.config) w e refl (λ f good r. config_ruled r)

pub configuration_stays : ConfigurationStays
unfolding run
configuration_stays w [] = refl
configuration_stays w (e ∷ es) = configuration_stays (after w e) es ∙ config_after w e

-- ---- the pacemaker's part

abbrev LivedIn : Config → Node → Type 0
LivedIn c n = Lived c.n c.f n.pace

lived_next : (n f : ℕ) (p q : Pace) → Lived n f p → (q ≡ p) ⊎ Next n f p q → Lived n f q
lived_next n f p q l (inl e) = subst (Lived n f) (sym e) l
lived_next n f p q l (inr t) = then l t

lived_turn : (w : Whole) (e : Event) (f : Effect) → LivedIn w.node.config w.node → Turn w e f → LivedIn w.node.config f.whole_after.node
unfolding pacing moving following leading
lived_turn w e f l (paced p t s) = then l t
lived_turn w e f l (moved p t s) = then l t
lived_turn w e f l (followed d m s t) =
    let n = w.node in
    lived_next _ _ n.pace _ l (raising_next _ _ (follow_of n.config n.follower d.link d.time d.commit m).raised n.pace)
lived_turn w e f l (led k g h) = l

lived_after : (w : Whole) (e : Event) → LivedIn w.node.config w.node → LivedIn w.node.config (after w e).node
lived_after w e l = step_turns (λ s. LivedIn w.node.config (settled_in w s).node) w e (λ a. l) (λ f t. lived_turn w e f l t)

lived_run : (w : Whole) (es : List Event) → LivedIn w.node.config w.node → LivedIn w.node.config (run w es).node
unfolding run
lived_run w [] l = l
lived_run w (e ∷ es) l =
    let same = config_after w e in
    subst (λ (c : Config). LivedIn c (run (after w e) es).node) same (lived_run (after w e) es (subst (λ (c : Config). LivedIn c (after w e).node) (sym same) (lived_after w e l)))

-- ---- states that are reached

pub begun_config : (w : Whole) → Begun w → good_config w.node.config ≡ true
begun_config w b = ap (λ (n : Node). good_config n.config) b.node ∙ b.good

pub reachable_config : (w : Whole) → Reachable w → good_config w.node.config ≡ true
reachable_config w r =
    ap (λ (v : Whole). good_config v.node.config) (sym r.ends) ∙ ap good_config (configuration_stays r.first r.events) ∙ begun_config r.first r.begun

pub reachable_lived : (w : Whole) → Reachable w → LivedIn w.node.config w.node
reachable_lived w r =
    let b = r.begun in
    let v = r.first in
    let first : LivedIn v.node.config v.node = subst (λ (n : Node). LivedIn n.config n) (sym b.node) (begun b.saved b.saved_good) in
    let last = subst (λ (c : Config). LivedIn c (run v r.events).node) (sym (configuration_stays v r.events)) (lived_run v r.events first) in
    subst (λ (u : Whole). LivedIn u.node.config u.node) r.ends last

-- ---- states in range

good_run : (w : Whole) (es : List Event) → TypedEvents es → good_state w.node w.kept ≡ true → good_state (run w es).node (run w es).kept ≡ true
unfolding run
good_run w [] typed h = h
good_run w (e ∷ es) (typed, more) h = good_run (after w e) es more (good_stays_good w e typed h)

-- a fresh or a restored node was made
begun_made : (w : Whole) (b : Begun w) → is_done (restore_answer b.config b.saved) ≡ true
unfolding restore_answer number_of
begun_made w b = rw (b.good, le-leb b.saved.epoch b.saved.highest b.saved_good)

pub always_good : AlwaysGood
always_good w es b typed = good_run w es typed (rw b.node (made_is_good b.config b.saved w.kept (begun_made w b)))
