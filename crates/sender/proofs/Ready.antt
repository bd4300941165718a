-- What the checks of a call tell, as plain facts: what of it they leave to the call's rule.
use mathlib.Core.Bool.{true, not, ◌&&◌, ◌||◌}
use mathlib.Core.List.{List}
use mathlib.Core.Path.{◌≡◌}
use Prim.Native.Nat.{ℕ, ◌≤◌}
use native.Mathlib.Nat.{le_refl}
use native.Mathlib.Omega.{arith}
use borrow.Author.Tests.{leb-true, eqb-true}
use lib.Dec.{eqb}
use lib.ListN.{length}
use Rattle.config.specs.Limits.{slots}
use Rattle.config.specs.Bounds.{good_config}
use Rattle.config.specs.Codes.{is_done}
use Rattle.config.specs.declared.Commit.{Commit}
use Rattle.config.specs.declared.Config.{Config}
use Rattle.config.proofs.Facts.{and-true, good_facts}
use Rattle.quorum.specs.First.{distinct}
use Rattle.frame.specs.Range.{all_members}
use Rattle.sender.specs.declared.Sender.{Sender}
use Rattle.sender.specs.State.{good_slots, good_fields, good_sender, roomy}
use Rattle.sender.specs.Stage.{permutes, place_in}
use Rattle.sender.specs.Calls.{transmit_answer, timeout_answer}
use Rattle.sender.specs.Ready.{Passed, Due}
use Rattle.sender.proofs.Slots.{free_within, earliest_most}
use Rattle.sender.proofs.Facts

-- ---- states

pub sender_config : (s : Sender) (waiting : List ℕ) → good_sender s waiting ≡ true → good_config s.config ≡ true
unfolding good_sender
sender_config s waiting h = (Facts.fields_facts s (and-true (good_fields s) (not (roomy waiting) || good_slots slots s waiting) h).0).0

-- ---- permutations

-- every member has a place in one of n entries
pub own_within : (c : Config) (permutation : List ℕ) → good_config c ≡ true → permutes c.n permutation ≡ true → (1 ≤ c.own) × (c.own ≤ length permutation)
unfolding permutes
own_within c permutation g h =
    let own = (good_facts c g).own in
    let p = and-true (eqb (length permutation) c.n && all_members c.n (λ (x : ℕ). x) permutation) (distinct permutation) h in
    let q = and-true (eqb (length permutation) c.n) (all_members c.n (λ (x : ℕ). x) permutation) p.0 in
    let long = eqb-true (length permutation) c.n q.0 in
    (own.some, omega arith)

-- ---- transmissions

pub transmit_passed : (s : Sender) (body : List ℕ) (time : ℕ) (commit : Commit) (permutation waiting : List ℕ) → length s.taken ≡ slots → is_done (transmit_answer s body time commit permutation waiting) ≡ true → (permutes s.config.n permutation ≡ true) × Passed s body time (place_in s.config permutation) waiting
transmit_passed s body time commit permutation waiting long h =
    let p = Facts.transmit_passed s body time commit permutation waiting h in (
      p.order,
      record {
        config = sender_config s waiting p.good;
        body_good = p.body_good;
        time_good = leb-true _ _ p.time_good;
        room = leb-true _ _ p.room;
        free = λ w. let some = p.free w in omega (arith, free_within s.taken);
      },
    )

-- ---- timeouts

pub timeout_passed : (s : Sender) (time : ℕ) (commit : Commit) (waiting : List ℕ) → is_done (timeout_answer s time commit waiting) ≡ true → Due s waiting
timeout_passed s time commit waiting h =
    let p = Facts.timeout_passed s time commit waiting h in
    let some = p.some in
    record { room = leb-true _ _ p.room; some = omega (arith, earliest_most slots s waiting (le_refl slots)) }
