-- A list of OBSERVE, none refused: the leader's part and the signatures after it are what the leader makes of the observations. None is from a member that
-- had observed before, and no two are from one.
use mathlib.Core.Path.{◌≡◌, refl, sym, ap, ◌∙◌, subst}
use mathlib.Core.Bool.{Bool, true, false, not, ◌&&◌, ◌||◌, false≢true}
use mathlib.Core.List.{List, [], ◌∷◌}
use Prim.Native.Nat.{ℕ, zero, suc, ◌-◌, ◌≤◌, ◌<◌}
use native.Mathlib.Omega.{arith}
use borrow.Author.Tests.{not-true}
use lib.Dec.{eqb}
use lib.IntN.{ℤ}
use lib.ListN.{length, get_or, length-set}
use Rattle.config.specs.Limits.{members, signature_size}
use Rattle.config.specs.Answers as answer
use Rattle.config.specs.declared.Config.{Config}
use Rattle.config.proofs.Facts.{and-true, good_facts}
use Rattle.quorum.specs.First.{first_at, distinct}
use Rattle.quorum.specs.Marks.{marked, mark}
use Rattle.quorum.proofs.Cases.{test_false}
use Rattle.quorum.proofs.First.{cons_distinct}
use Rattle.quorum.proofs.Marks.{mark_there, mark_stays}
use Rattle.frame.specs.Message.{Message, observe}
use Rattle.frame.specs.Decode.{epoch_in, round_in, value_in, observe_signature, kind_in, body_in, message_of, message_in}
use Rattle.frame.specs.Check.{body_answer}
use Rattle.frame.proofs.Entries.{length_part}
use Rattle.frame.proofs.Framed.{checked_frame}
use Rattle.frame.proofs.Checked.{checked_observe}
use Rattle.follower.proofs.Findings.{finding_taken}
use Rattle.leader.specs.declared.Leader.{Leader}
use Rattle.leader.specs.State.{collecting, in_grace}
use Rattle.leader.specs.Takes as leader
use Rattle.leader.specs.Rules.{observing, observe_signed}
use Rattle.leader.specs.Runs.{Observed, FromMembers, NoneObserved, from_of, observe_all, sign_all}
use Rattle.leader.proofs.Tables.{next_observed}
use Rattle.node.specs.State.{with_leader, epoch_of, leads}
use Rattle.node.specs.Event.{Whole, whole, Delivery, delivers, Effect}
use Rattle.node.specs.Effects.{leading, delivering}
use Rattle.node.specs.Calls.{step}
use Rattle.node.specs.Runs.{settled_in, after, run, deliveries, Done, AllOf, observed_in, observations}
use Rattle.node.proofs.Ruled.{Ruled, by_hearing, by_moving, by_following, by_observe, by_report, step_ruled, said_link}
use Rattle.node.proofs.Turns.{done_step, done_config, done_says}

-- ---- one OBSERVE

-- the state after one
abbrev seen : Whole → Observed → Whole
seen w o =
    whole (with_leader w.node (observing w.node.config w.node.leader o.from o.value).leader) w.kept (observe_signed w.signatures o.from o.signature)

-- and after many
abbrev pub all_seen : Whole → List Observed → Whole
all_seen w os = whole (with_leader w.node (observe_all w.node.config w.node.leader os)) w.kept (sign_all w.signatures os)

says_observe : (f : List ℕ) → kind_in f ≡ 3 → message_in f ≡ observe (epoch_in (body_in f)) (round_in (body_in f)) (value_in (body_in f)) (observe_signature (body_in f))
unfolding message_of
says_observe f e = ap (λ (k : ℕ). message_of k (body_in f)) e

-- "none from j"
takes_unmarked : (s : Leader) (leads : Bool) (epoch j e r : ℕ) (v : ℤ) (g : List ℕ) → leader.takes s leads epoch j (observe e r v g) ≡ true → marked s.observed (j - 1) ≡ false
takes_unmarked s leads epoch j e r v g h =
    not-true _ (and-true (leader.current leads epoch e && (eqb s.phase collecting || eqb s.phase in_grace) && eqb r s.round) (not (marked s.observed (j - 1))) h).1

-- of the rules only the leader's is run by an OBSERVE
ruled_unmarked : (w : Whole) (d : Delivery) (f : Effect) (e r : ℕ) (v : ℤ) (g : List ℕ) → message_in d.frame ≡ observe e r v g → Ruled w (delivers d) f → marked w.node.leader.observed (d.link - 1) ≡ false
ruled_unmarked w d f e r v g m (by_hearing k x s h) = let z : ◌≡◌ {A = ℕ} 0 1 = cc in absurd (omega arith)
ruled_unmarked w d f e r v g m (by_moving k x s h) = let z : ◌≡◌ {A = ℕ} 0 1 = cc in absurd (omega arith)
ruled_unmarked w d f e r v g m (by_following k x s t h) =
    let same : x ≡ observe e r v g = cc in
    absurd (false≢true (rw same at (finding_taken w.node.follower _ _ _ d.link d.bits x t).0))
ruled_unmarked w d f e r v g m (by_observe k x y u i s t) = takes_unmarked w.node.leader (leads w.node) (epoch_of w.node) d.link x y u i t
ruled_unmarked w d f e r v g m (by_report k x y xs i s t h) = let z : ◌≡◌ {A = ℕ} 0 1 = cc in absurd (omega arith)

-- an observation that is taken
record New (w : Whole) (o : Observed) : Type 0 where
  least : 1 ≤ o.from
  most : o.from ≤ w.node.config.n
  few : w.node.config.n ≤ members
  long : length o.signature ≡ signature_size
  unmarked : marked w.node.leader.observed (o.from - 1) ≡ false

module _ (w : Whole) (d : Delivery) (kind : kind_in d.frame ≡ 3) (h : Done (step w (delivers d))) where
  observed_seen : after w (delivers d) ≡ seen w (observed_in d)
  unfolding leading
  observed_seen =
      ap (settled_in w) (done_step w (delivers d) h) ∙ ap (λ (m : Message). (delivering w d m).whole_after) (says_observe d.frame kind)

  observed_new : New w (observed_in d)
  observed_new =
      let n = w.node in
      let b = body_in d.frame in
      let s = done_says w d h in
      let p = checked_frame d.frame n.config.n n.config.number d.link s.passes in
      let body = checked_observe n.config.n b (subst (λ (k : ℕ). body_answer n.config.n k b ≡ answer.Done) kind p.answer) in
      record {
        least = (said_link n d s).least;
        most = (said_link n d s).most;
        few = (good_facts n.config (done_config w (delivers d) h)).feed.members.most;
        long = length_part b 13 signature_size (omega arith);
        unmarked = ruled_unmarked w d _ _ _ _ _ (says_observe d.frame kind) (step_ruled w (delivers d) _ (done_step w (delivers d) h)).1;
      }

-- ---- a list

pub all_seen_lem : (w : Whole) (ds : List Delivery) → AllOf 3 w ds → run w (deliveries ds) ≡ all_seen w (observations ds)
unfolding run observe_all sign_all
all_seen_lem w [] h = refl
all_seen_lem w (d ∷ ds) (kind, h, rest) = all_seen_lem (after w (delivers d)) ds rest ∙ ap (λ (v : Whole). all_seen v (observations ds)) (observed_seen w d kind h)

-- what the leader's law of any order asks for
pub record Fresh (c : Config) (s : Leader) (os : List Observed) : Type 0 where
  pub from : FromMembers c.n os
  pub none : NoneObserved s os
  pub apart : distinct (from_of os) ≡ true

-- who has not observed after one observation had not before it, and is another member
module _ (n j : ℕ) (marks : List ℕ) (low : 1 ≤ j) (high : j ≤ length marks) where
  unmarked_before : (k : ℕ) → marked (mark marks (j - 1)) (k - 1) ≡ false → marked marks (k - 1) ≡ false
  unmarked_before k h = test_false _ (λ e. false≢true (sym h ∙ mark_stays marks (k - 1) (j - 1) e))

  unmarked_other : (k : ℕ) → marked (mark marks (j - 1)) (k - 1) ≡ false → j ≡ k → ⊥
  unmarked_other k h e =
      false≢true (sym h ∙ ap (λ (i : ℕ). marked (mark marks (j - 1)) (i - 1)) (sym e) ∙ mark_there marks (j - 1) (omega arith))

  module _ (s t : Leader) (same : s.observed ≡ marks) (next : t.observed ≡ mark marks (j - 1)) where
    none_before : (os : List Observed) → NoneObserved t os → NoneObserved s os
    none_before [] h = tt
    none_before (o ∷ os) (h, rest) = (rw same (unmarked_before o.from (rw next at h)), none_before os rest)

    none_other : (os : List Observed) → NoneObserved t os → (i : ℕ) → i < length (from_of os) → j ≡ get_or (from_of os) i 0 → ⊥
    none_other [] h i l e = omega arith
    none_other (o ∷ os) (h, rest) zero l e = unmarked_other o.from (rw next at h) e
    none_other (o ∷ os) (h, rest) (suc i) l e = none_other os rest i (omega arith) e

fresh_more : (w : Whole) (o : Observed) (os : List Observed) → length w.node.leader.observed ≡ members → New w o → Fresh w.node.config (seen w o).node.leader os → Fresh w.node.config w.node.leader (o ∷ os)
fresh_more w o os long new f =
    let s = w.node.leader in
    let next = next_observed w.node.config s o in
    let high : o.from ≤ length s.observed = omega arith in
    record {
      from = (new.least, new.most, new.long, f.from);
      none = (new.unmarked, none_before w.node.config.n o.from s.observed new.least high s (seen w o).node.leader refl next os f.none);
      apart = cons_distinct o.from (from_of os) (none_other w.node.config.n o.from s.observed new.least high s (seen w o).node.leader refl next os f.none) f.apart;
    }

pub all_fresh : (w : Whole) (ds : List Delivery) → length w.node.leader.observed ≡ members → AllOf 3 w ds → Fresh w.node.config w.node.leader (observations ds)
unfolding first_at
all_fresh w [] long h = record { from = tt; none = tt; apart = refl }
all_fresh w (d ∷ ds) long (kind, h, rest) =
    let o = observed_in d in
    let same = observed_seen w d kind h in
    let marks = next_observed w.node.config w.node.leader o in
    let long' : length (seen w o).node.leader.observed ≡ members = ap length marks ∙ length-set w.node.leader.observed _ _ ∙ long in
    let f = all_fresh (after w (delivers d)) ds (subst (λ (v : Whole). length v.node.leader.observed ≡ members) (sym same) long') rest in
    fresh_more w o (observations ds) long (observed_new w d kind h) (subst (λ (v : Whole). Fresh v.node.config v.node.leader (observations ds)) same f)
