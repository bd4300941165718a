-- Tables after observations: each goes to its member's own place, and counts for one, so that observations of different members may come in any order.
use mathlib.Core.List.{List, [], ◌∷◌}
use mathlib.Core.Path.{◌≡◌, refl, sym, ap, ◌∙◌}
use mathlib.Core.Bool.{true, false}
use Prim.Native.Nat.{ℕ, suc, ◌+◌, ◌-◌, ◌*◌, ◌≤◌, ◌<◌}
use native.Mathlib.Omega.{arith}
use borrow.Author.Tests.{eqb-false}
use lib.Dec.{eqb}
use lib.IntN.{ℤ}
use lib.ListN.{length, set, take, length-set}
use lib.Seq.{set_comm, get_or-set_other}
use Rattle.config.specs.Limits.{signature_size}
use Rattle.config.specs.declared.Config.{Config}
use Rattle.wire.specs.Overlay.{over}
use Rattle.wire.proofs.Overlay.{set_over}
use Rattle.quorum.specs.First.{among, distinct}
use Rattle.quorum.specs.Marks.{mark, count_marks}
use Rattle.quorum.specs.Sort.{Perm, done, keep, swap, then}
use Rattle.quorum.proofs.Cases.{cases, split}
use Rattle.quorum.proofs.First.{distinct_cons, distinct_apart}
use Rattle.quorum.proofs.Marks.{marks_more}
use Rattle.quorum.proofs.Sort.{perm_map, length_perm}
use Rattle.quorum.proofs.Perms.{distinct_perm}
use Rattle.frame.proofs.Framed.{or-false}
use Rattle.leader.specs.declared.Leader.{Leader}
use Rattle.leader.specs.State.{in_grace}
use Rattle.leader.specs.Takes.{observed_by}
use Rattle.leader.specs.Rules.{with_observation, with_grace, observing, observe_signed}
use Rattle.leader.specs.Runs.{Observed, FromMembers, NoneObserved, from_of, observe_all, sign_all}
use Rattle.leader.proofs.Cases.{observing_cases}

-- ---- two observations of different members

-- what is laid over disjoint places
over_comm : {A : Type 0} (l : List A) (i : ℕ) (a : List A) (j : ℕ) (b : List A) → j + length b ≤ i → over (over l i a) j b ≡ over (over l j b) i a
unfolding over
over_comm l i a j [] h = refl
over_comm {A} l i a j (y ∷ b) h =
    ap (λ (m : List A). over m (suc j) b) (set_over a l i j y (omega arith)) ∙ over_comm (set l j y) i a (suc j) b (omega arith)

-- an OBSERVE that has a place, and fills it with its signature
record Placed (o : Observed) : Type 0 where
  least : 1 ≤ o.from
  long : length o.signature ≡ signature_size

-- two of different members may change places
abbrev Swaps : {A : Type 0} → (A → Observed → A) → Type 0
Swaps {A} step = (t : A) (o p : Observed) → Placed o → Placed p → (o.from ≡ p.from → ⊥) → step (step t o) p ≡ step (step t p) o

set_swaps : {A : Type 0} (entry : Observed → A) → Swaps (λ (l : List A) (o : Observed). set l (o.from - 1) (entry o))
set_swaps entry l o p w x d = set_comm l (o.from - 1) (p.from - 1) (entry o) (entry p) (λ e. d (omega arith))

sign_swaps : Swaps (λ (g : List ℕ) (o : Observed). observe_signed g o.from o.signature)
sign_swaps g o p w x d =
    cases (split o.from p.from)
    (λ h. let k : o.from < p.from = omega (arith, d) in sym (over_comm g _ p.signature _ o.signature (omega arith)))
    (λ h. over_comm g _ o.signature _ p.signature (omega arith))

-- ---- any order

from_perm : (n : ℕ) {os os' : List Observed} → Perm os os' → FromMembers n os → FromMembers n os'
from_perm n done m = m
from_perm n (keep r) (a, b, g, m) = (a, b, g, from_perm n r m)
from_perm n swap (a, b, g, (a', b', g', m)) = (a', b', g', (a, b, g, m))
from_perm n (then r s) m = from_perm n s (from_perm n r m)

-- what observations one after another make of a table
module _ {A : Type 0} (step : A → Observed → A) where
  abbrev after : A → List Observed → A
  after t [] = t
  after t (o ∷ os) = after (step t o) os

  after_perm : Swaps step → (n : ℕ) {os os' : List Observed} → Perm os os' → FromMembers n os → distinct (from_of os) ≡ true → (t : A) → after t os ≡ after t os'
  after_perm swaps n done m d t = refl
  after_perm swaps n (keep {a = o} {l = os} r) (a, b, g, m) d t = after_perm swaps n r m (distinct_cons o.from (from_of os) d).1 (step t o)
  after_perm swaps n (swap {a = o} {b = p} {l = os}) (a, b, g, (a', b', g', m)) d t =
      let apart = distinct_apart (o.from ∷ p.from ∷ from_of os) d 0 1 (omega arith) (omega arith) in
      ap (λ (u : A). after u os) (swaps t o p (record { least = a; long = g }) (record { least = a'; long = g' }) apart)
  after_perm swaps n (then r s) m d t =
      after_perm swaps n r m d t ∙ after_perm swaps n s (from_perm n r m) (distinct_perm (perm_map (λ (o : Observed). o.from) r) d) t

  -- a part of the state that goes by such steps
  all_after : (c : Config) (get : Leader → A) → ((s : Leader) (o : Observed) → get (observing c s o.from o.value).leader ≡ step (get s) o) → (s : Leader) (os : List Observed) → get (observe_all c s os) ≡ after (get s) os
  unfolding observe_all
  all_after c get h s [] = refl
  all_after c get h s (o ∷ os) = all_after c get h (observing c s o.from o.value).leader os ∙ ap (λ (t : A). after t os) (h s o)

-- whether grace begins is all that observing adds to the tables
observing_else : {A : Type 0} (get : Leader → A) → ((s : Leader) → get (with_grace s) ≡ get s) → (c : Config) (s : Leader) (j : ℕ) (v : ℤ) → get (observing c s j v).leader ≡ get (with_observation s j v)
observing_else get h c s j v = observing_cases (λ l. get l.leader ≡ get (with_observation s j v)) c s j v (λ e. h (with_observation s j v)) (λ e. refl)

module _ (c : Config) (n : ℕ) (s : Leader) {os os' : List Observed} (r : Perm os os') (m : FromMembers n os) (d : distinct (from_of os) ≡ true) where
  part_perm : {A : Type 0} (get : Leader → A) (step : A → Observed → A) → Swaps step → ((s : Leader) → get (with_grace s) ≡ get s) → ((s : Leader) (o : Observed) → get (with_observation s o.from o.value) ≡ step (get s) o) → get (observe_all c s os) ≡ get (observe_all c s os')
  part_perm get step swaps same h =
      let one : (t : Leader) (o : Observed) → get (observing c t o.from o.value).leader ≡ step (get t) o = λ t o. observing_else get same c t o.from o.value ∙ h t o in
      all_after step c get one s os ∙ after_perm step swaps n r m d (get s) ∙ sym (all_after step c get one s os')

  pub values_perm : (observe_all c s os).values ≡ (observe_all c s os').values
  values_perm = part_perm (λ t. t.values) (λ l o. set l (o.from - 1) o.value) (set_swaps (λ o. o.value)) (λ t. refl) (λ t o. refl)

  pub observed_perm : (observe_all c s os).observed ≡ (observe_all c s os').observed
  observed_perm = part_perm (λ t. t.observed) (λ l o. mark l (o.from - 1)) (set_swaps (λ o. 1)) (λ t. refl) (λ t o. refl)

  -- what no OBSERVE changes
  pub unchanged_perm : {A : Type 0} (get : Leader → A) → ((s : Leader) → get (with_grace s) ≡ get s) → ((s : Leader) (o : Observed) → get (with_observation s o.from o.value) ≡ get s) → get (observe_all c s os) ≡ get (observe_all c s os')
  unchanged_perm get same h = part_perm get (λ l o. l) (λ t o p w x e. refl) same h

sign_all_lem : (g : List ℕ) (os : List Observed) → sign_all g os ≡ after (λ g o. observe_signed g o.from o.signature) g os
unfolding sign_all
sign_all_lem g [] = refl
sign_all_lem g (o ∷ os) = sign_all_lem (observe_signed g o.from o.signature) os

pub signatures_perm : (n : ℕ) (g : List ℕ) {os os' : List Observed} → Perm os os' → FromMembers n os → distinct (from_of os) ≡ true → sign_all g os ≡ sign_all g os'
signatures_perm n g {os} {os'} r m d = sign_all_lem g os ∙ after_perm _ sign_swaps n r m d g ∙ sym (sign_all_lem g os')

-- ---- whether T_grace's entry is among them: the numbers alone tell

-- none has observed before, each is one of n members, and no member twice: so each counts for one
record Fresh (n : ℕ) (s : Leader) (os : List Observed) : Type 0 where
  long : n ≤ length s.observed
  from : FromMembers n os
  none : NoneObserved s os
  apart : distinct (from_of os) ≡ true

none_next : (n j : ℕ) (s t : Leader) → t.observed ≡ mark s.observed (j - 1) → 1 ≤ j → (os : List Observed) → FromMembers n os → among j (from_of os) ≡ false → NoneObserved s os → NoneObserved t os
none_next n j s t e low [] m a none = tt
none_next n j s t e low (o ∷ os) (l, h, g, m) a (first, none) =
    let p = or-false (eqb j o.from) (among j (from_of os)) a in
    let other = eqb-false j o.from p.0 in
    (rw (e, get_or-set_other s.observed (j - 1) (o.from - 1) 1 0 (λ q. other (omega arith))) first, none_next n j s t e low os m p.1 none)

fresh_perm : (n : ℕ) (s : Leader) {os os' : List Observed} → Perm os os' → Fresh n s os → Fresh n s os'
fresh_perm n s r f =
    record { long = f.long; from = from_perm n r f.from; none = none_perm r f.none; apart = distinct_perm (perm_map (λ (o : Observed). o.from) r) f.apart }
  where
    none_perm : {os os' : List Observed} → Perm os os' → NoneObserved s os → NoneObserved s os'
    none_perm done h = h
    none_perm (keep r) (a, h) = (a, none_perm r h)
    none_perm swap (a, (b, h)) = (b, (a, h))
    none_perm (then r q) h = none_perm q (none_perm r h)

module _ (c : Config) where
  abbrev pub next : Leader → Observed → Leader
  next s o = (observing c s o.from o.value).leader

  pub next_observed : (s : Leader) (o : Observed) → (next s o).observed ≡ mark s.observed (o.from - 1)
  next_observed s o = observing_else (λ t. t.observed) (λ t. refl) c s o.from o.value

  fresh_next : (s : Leader) (o : Observed) (os : List Observed) → Fresh c.n s (o ∷ os) → Fresh c.n (next s o) os
  fresh_next s o os f =
      let (low, high, g, m) = f.from in
      let d = distinct_cons o.from (from_of os) f.apart in
      record {
        long = rw (next_observed s o, length-set) f.long;
        from = m;
        none = none_next c.n o.from s (next s o) (next_observed s o) low os m d.0 f.none.1;
        apart = d.1;
      }

  fresh_count : (s : Leader) (o : Observed) (os : List Observed) → Fresh c.n s (o ∷ os) → observed_by c.n (with_observation s o.from o.value) ≡ suc (observed_by c.n s)
  fresh_count s o os f = marks_more c.n o.from s.observed f.from.0 f.from.1 f.long f.none.0

  next_count : (s : Leader) (o : Observed) (os : List Observed) → Fresh c.n s (o ∷ os) → observed_by c.n (next s o) ≡ suc (observed_by c.n s)
  next_count s o os f = ap (λ (l : List ℕ). count_marks (take c.n l)) (next_observed s o) ∙ fresh_count s o os f

  -- a part of the state that goes to `up` at that entry, and stays at every other
  module _ {A : Type 0} (get : Leader → A) (up : A) (raised : (s : Leader) → get (with_grace s) ≡ up) (kept : (s : Leader) (o : Observed) → get (with_observation s o.from o.value) ≡ get s) where
    next_up : (s : Leader) (o : Observed) (os : List Observed) → Fresh c.n s (o ∷ os) → observed_by c.n s ≡ 2 * c.f → get (next s o) ≡ up
    next_up s o os f e =
        observing_cases (λ l. get l.leader ≡ up) c s o.from o.value (λ at. raised (with_observation s o.from o.value)) (λ off. absurd (off (omega (arith, fresh_count s o os f))))

    next_kept : (s : Leader) (o : Observed) (os : List Observed) → Fresh c.n s (o ∷ os) → (observed_by c.n s ≡ 2 * c.f → ⊥) → get (next s o) ≡ get s
    next_kept s o os f e =
        observing_cases (λ l. get l.leader ≡ get s) c s o.from o.value (λ at. absurd (e (omega (arith, fresh_count s o os f)))) (λ off. kept s o)

    all_kept : (s : Leader) (os : List Observed) → Fresh c.n s os → (observed_by c.n s ≤ 2 * c.f → 2 * c.f < observed_by c.n s + length os → ⊥) → get (observe_all c s os) ≡ get s
    unfolding observe_all
    all_kept s [] f h = refl
    all_kept s (o ∷ os) f h =
        let k = next_count s o os f in
        all_kept (next s o) os (fresh_next s o os f) (λ a b. h (omega arith) (omega arith)) ∙ next_kept s o os f (λ e. h (omega arith) (omega arith))

    all_up : (s : Leader) (os : List Observed) → Fresh c.n s os → observed_by c.n s ≤ 2 * c.f → 2 * c.f < observed_by c.n s + length os → get (observe_all c s os) ≡ up
    unfolding observe_all
    all_up s [] f low high = absurd (omega arith)
    all_up s (o ∷ os) f low high =
        let k = next_count s o os f in
        cases (split (2 * c.f) (observed_by c.n s))
        (λ h. all_kept (next s o) os (fresh_next s o os f) (λ a b. omega arith) ∙ next_up s o os f (omega arith))
        (λ h. all_up (next s o) os (fresh_next s o os f) (omega arith) (omega arith))

    raised_perm : (s : Leader) {os os' : List Observed} → Perm os os' → Fresh c.n s os → get (observe_all c s os) ≡ get (observe_all c s os')
    raised_perm s {os} {os'} r f =
        let f' = fresh_perm c.n s r f in
        let long = length_perm r in
        cases (split (observed_by c.n s) (2 * c.f))
        (λ low. cases (split (observed_by c.n s + length os) (2 * c.f))
        (λ few. all_kept s os f (λ a b. omega arith) ∙ sym (all_kept s os' f' (λ a b. omega arith)))
        (λ many. all_up s os f low many ∙ sym (all_up s os' f' low (omega arith))))
        (λ past. all_kept s os f (λ a b. omega arith) ∙ sym (all_kept s os' f' (λ a b. omega arith)))

-- ---- the whole state

pub leader_perm : (c : Config) (s : Leader) {os os' : List Observed} → Perm os os' → c.n ≤ length s.observed → FromMembers c.n os → NoneObserved s os → distinct (from_of os) ≡ true → observe_all c s os ≡ observe_all c s os'
leader_perm c s {os} {os'} r h m none d =
    let f : Fresh c.n s os = record { long = h; from = m; none = none; apart = d } in
    let values = values_perm c c.n s r m d in
    let observed = observed_perm c c.n s r m d in
    let reported = unchanged_perm c c.n s r m d (λ t. t.reported) (λ t. refl) (λ t o. refl) in
    let phase = raised_perm c (λ t. t.phase) in_grace (λ t. refl) (λ t o. refl) s r f in
    let round = unchanged_perm c c.n s r m d (λ t. t.round) (λ t. refl) (λ t o. refl) in
    let t_round = unchanged_perm c c.n s r m d (λ t. t.t_round) (λ t. refl) (λ t o. refl) in
    let t_grace = raised_perm c (λ t. t.t_grace) 1 (λ t. refl) (λ t o. refl) s r f in
    λ i. record { values = values i; observed = observed i; reported = reported i; phase = phase i; round = round i; t_round = t_round i; t_grace = t_grace i }
