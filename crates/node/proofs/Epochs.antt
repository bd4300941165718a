-- A list of NEWEPOCH, none refused: the state after it is a function of the state before and of the last pace alone. Whatever moves came between, the last
-- began a fresh instance over the same buffers.
use mathlib.Core.Path.{◌≡◌, refl, ap, ◌∙◌, subst}
use mathlib.Core.Bool.{Bool, true, false, cond}
use mathlib.Core.List.{List, [], ◌∷◌, map}
use Prim.Native.Nat.{ℕ, ◌≤◌, max}
use native.Mathlib.Nat.{le_refl, le_trans}
use native.Mathlib.Omega.{arith}
use borrow.Author.Tests.{ltb-true, ltb-false, le-ltb}
use lib.Dec.{ltb, eqb}
use lib.ListN.{replicate}
use Rattle.config.specs.Limits.{kept_size, signatures_size}
use Rattle.config.specs.declared.Config.{Config}
use Rattle.wire.proofs.Overlay.{over_again}
use Rattle.quorum.proofs.Cases.{either}
use Rattle.frame.specs.Message.{Message}
use Rattle.frame.specs.Decode.{epoch_in, kind_in, body_in}
use Rattle.frame.proofs.Ranges.{OneTo}
use Rattle.report.specs.Kept.{cleared}
use Rattle.pacemaker.specs.declared.Pace.{Pace}
use Rattle.pacemaker.specs.declared.Paced.{Paced}
use Rattle.pacemaker.specs.Rules.{new_epoch_of}
use Rattle.pacemaker.specs.Runs as pacemaker
use Rattle.pacemaker.specs.Runs.{Heard, FromMembers, by_newepoch}
use Rattle.pacemaker.proofs.Claims.{nothing_falls, tells_what_rose}
use Rattle.follower.specs.State.{in_round}
use Rattle.leader.specs.Rules.{no_signatures}
use Rattle.node.specs.State.{with_pace, epoch_of}
use Rattle.node.specs.Event.{Whole, whole, Delivery, delivers}
use Rattle.node.specs.Effects.{pacing, begun, moving, hearing, delivering}
use Rattle.node.specs.Calls.{step}
use Rattle.node.specs.Runs.{settled_in, after, run, deliveries, Done, AllOf, highest_from}
use Rattle.node.proofs.Steps.{new_epoch_in}
use Rattle.node.proofs.Ruled.{said_link}
use Rattle.node.proofs.Turns.{done_step, done_says}
use Rattle.node.proofs.Runs.{config_after}

-- ---- the state with another pace: a fresh instance where that is in a higher epoch, else all as it was

abbrev fresh : Whole → Pace → Whole
fresh w p =
    let c = w.node.config in
    whole (record { config = c; pace = p; follower = in_round 1 0; leader = (begun c p.epoch).leader }) (cleared w.kept) (no_signatures w.signatures)

abbrev stayed : Whole → Pace → Whole
stayed w p = whole (with_pace w.node p) w.kept w.signatures

abbrev pub arrived : Whole → Pace → Whole
arrived w p = cond (ltb (epoch_of w.node) p.epoch) (fresh w p) (stayed w p)

pub arrived_pace : (w : Whole) (p : Pace) → (arrived w p).node.pace ≡ p
arrived_pace w p = either (λ v. v.node.pace ≡ p) (ltb (epoch_of w.node) p.epoch) (fresh w p) (stayed w p) (λ e. refl) (λ e. refl)

arrived_none : (w : Whole) → w ≡ arrived w w.node.pace
arrived_none w = rw (le-ltb (epoch_of w.node) (epoch_of w.node) (le_refl _))

-- what is cleared twice is cleared
fresh_twice : (w : Whole) (p q : Pace) → fresh (fresh w p) q ≡ fresh w q
fresh_twice w p q =
    let kept = over_again w.kept 0 (replicate kept_size 0) (replicate kept_size 0) refl in
    let signatures = over_again w.signatures 0 (replicate signatures_size 0) (replicate signatures_size 0) refl in
    λ i. whole (fresh w q).node (kept i) (signatures i)

fresh_same : (w : Whole) (p q : Pace) → p.epoch ≡ q.epoch → stayed (fresh w p) q ≡ fresh w q
fresh_same w p q e =
    let c = w.node.config in
    λ i. whole (record { config = c; pace = q; follower = in_round 1 0; leader = (begun c (e i)).leader }) (cleared w.kept) (no_signatures w.signatures)

arrived_twice : (w : Whole) (p q : Pace) → epoch_of w.node ≤ p.epoch → p.epoch ≤ q.epoch → arrived (arrived w p) q ≡ arrived w q
arrived_twice w p q low high = go _ _ _ refl refl refl
  where
    go : (a b c : Bool) → ltb (epoch_of w.node) p.epoch ≡ a → ltb p.epoch q.epoch ≡ b → ltb (epoch_of w.node) q.epoch ≡ c → arrived (cond a (fresh w p) (stayed w p)) q ≡ cond c (fresh w q) (stayed w q)
    go true true true f g h = rw g (fresh_twice w p q)
    go true false true f g h = rw g (fresh_same w p q (omega (arith, ltb-false p.epoch q.epoch g)))
    go true b false f g h = absurd (omega (arith, ltb-true (epoch_of w.node) p.epoch f, ltb-false (epoch_of w.node) q.epoch h))
    go false true true f g h = rw g
    go false false false f g h = rw g
    go false true false f g h = absurd (omega (arith, ltb-true p.epoch q.epoch g, ltb-false (epoch_of w.node) q.epoch h))
    go false false true f g h =
        absurd (omega (arith, ltb-false (epoch_of w.node) p.epoch f, ltb-false p.epoch q.epoch g, ltb-true (epoch_of w.node) q.epoch h))

-- ---- one NEWEPOCH

-- a delivery as the pacemaker hears it
abbrev heard_in : Delivery → Heard
heard_in d = record { from = d.link; number = epoch_in (body_in d.frame) }

abbrev pub heard_all : List Delivery → List Heard
heard_all ds = map heard_in ds

hearing_arrives : (w : Whole) (j x : ℕ) → (hearing w j x).whole_after ≡ arrived w (new_epoch_of w.node.config.n w.node.config.f w.node.pace j x).pace
unfolding hearing moving pacing
hearing_arrives w j x =
    let p = new_epoch_of w.node.config.n w.node.config.f w.node.pace j x in
    go p p.moved ∙ ap (λ b. cond b (fresh w p.pace) (stayed w p.pace)) (tells_what_rose _ _ w.node.pace j x).moved
  where
    go : (p : Paced) (b : Bool) → (cond b (moving w p) (pacing w p)).whole_after ≡ cond b (fresh w p.pace) (stayed w p.pace)
    go p true = refl
    go p false = refl

-- the pace after one
abbrev next : Whole → Delivery → Pace
next w d = (new_epoch_of w.node.config.n w.node.config.f w.node.pace d.link (epoch_in (body_in d.frame))).pace

module _ (w : Whole) (d : Delivery) (kind : kind_in d.frame ≡ 1) (h : Done (step w (delivers d))) where
  heard_arrives : after w (delivers d) ≡ arrived w (next w d)
  heard_arrives =
      ap (settled_in w) (done_step w (delivers d) h)
      ∙ ap (λ (m : Message). (delivering w d m).whole_after) (new_epoch_in d.frame kind)
      ∙ hearing_arrives w d.link (epoch_in (body_in d.frame))

  heard_from_lem : OneTo w.node.config.n d.link
  heard_from_lem = said_link w.node d (done_says w d h)

-- ---- a list

run_rises : (n f : ℕ) (p : Pace) (ms : List Heard) → FromMembers n ms → p.epoch ≤ (pacemaker.run n f p ms).epoch
unfolding pacemaker.run
run_rises n f p [] m = le_refl _
run_rises n f p (x ∷ ms) (low, high, m) =
    le_trans (nothing_falls n f p _ (by_newepoch x.from x.number low high)).epoch (run_rises n f (new_epoch_of n f p x.from x.number).pace ms m)

abbrev pub pace_after : Whole → List Heard → Pace
pace_after w ms = pacemaker.run w.node.config.n w.node.config.f w.node.pace ms

arrived_after : (w : Whole) (p : Pace) (ms : List Heard) → pace_after (arrived w p) ms ≡ pacemaker.run w.node.config.n w.node.config.f p ms
arrived_after w p ms = go (ltb (epoch_of w.node) p.epoch)
  where
    go : (b : Bool) → pace_after (cond b (fresh w p) (stayed w p)) ms ≡ pacemaker.run w.node.config.n w.node.config.f p ms
    go true = refl
    go false = refl

pub all_from : (w : Whole) (ds : List Delivery) → AllOf 1 w ds → FromMembers w.node.config.n (heard_all ds)
all_from w [] h = tt
all_from w (d ∷ ds) (kind, h, rest) =
    let p = heard_from_lem w d kind h in
    (p.least, p.most, subst (λ (c : Config). FromMembers c.n (heard_all ds)) (config_after w (delivers d)) (all_from (after w (delivers d)) ds rest))

pub all_arrive : (w : Whole) (ds : List Delivery) → AllOf 1 w ds → run w (deliveries ds) ≡ arrived w (pace_after w (heard_all ds))
unfolding run pacemaker.run
all_arrive w [] h = arrived_none w
all_arrive w (d ∷ ds) (kind, h, rest) =
    let n = w.node.config.n in
    let f = w.node.config.f in
    let p = next w d in
    let q = pacemaker.run n f p (heard_all ds) in
    let (low, high, m) = all_from w (d ∷ ds) (kind, h, rest) in
    all_arrive (after w (delivers d)) ds rest
    ∙ ap (λ (v : Whole). arrived v (pace_after v (heard_all ds))) (heard_arrives w d kind h)
    ∙ ap (arrived (arrived w p)) (arrived_after w p (heard_all ds))
    ∙ arrived_twice w p q (nothing_falls n f w.node.pace p (by_newepoch _ _ low high)).epoch (run_rises n f p (heard_all ds) m)

pub highest_heard : (j : ℕ) (ds : List Delivery) → pacemaker.highest_from j (heard_all ds) ≡ highest_from j ds
unfolding highest_from pacemaker.highest_from
highest_heard j [] = refl
highest_heard j (d ∷ ds) = ap (max (cond (eqb d.link j) (epoch_in (body_in d.frame)) 0)) (highest_heard j ds)
