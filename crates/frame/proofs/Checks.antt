-- Laws of the checks: what each stage of `specs/Check.antt` answers, given the facts of its test.
use mathlib.Core.Bool.{Bool, true, false, not, cond}
use mathlib.Core.List.{List}
use mathlib.Core.Path.{◌≡◌, refl, sym, ap, ap₂, ◌∙◌}
use Prim.Native.Nat.{ℕ, ◌+◌, ◌-◌, ◌≤◌, ◌<◌}
use native.Mathlib.Omega.{arith}
use borrow.Author.Tests.{eq-eqb, ne_eqb, lt-leb, le-leb}
use lib.ListN.{length, take, drop}
use Rattle.std.specs.Prelude.{Some, None}
use Rattle.config.specs.Answers.{Answer, Done, Short, Version, Kind, Sender, Length, Range}
use Rattle.frame.specs.Table.{good_kind, body_length, trailer_length}
use Rattle.frame.specs.Decode.{count_in, signer_count_in, trailer_place, kind_in, sender_in, length_in, message_of}
use Rattle.frame.specs.Range.{good_message}
use Rattle.frame.specs.Check.{body_answer, other_sender, other_feed, after_sender, after_kind, after_version, after_short, too_short, frame_answer, body_start}
use Rattle.frame.proofs.Framed.{long_enough}

-- ---- bodies

pub other_length : (n kind : ℕ) (b : List ℕ) → (length b ≡ body_length kind (count_in b) (signer_count_in b) → ⊥) → Length ≡ body_answer n kind b
unfolding body_answer
other_length n kind b h = rw (ne_eqb (length b) (body_length kind (count_in b) (signer_count_in b)) h)

pub own_length : (n kind : ℕ) (b : List ℕ) {good : Bool} {r : Answer} → length b ≡ body_length kind (count_in b) (signer_count_in b) → good ≡ good_message n (message_of kind b) → r ≡ cond (not good) Range Done → r ≡ body_answer n kind b
unfolding body_answer
own_length n kind b h g e =
    e
    ∙ rw (eq-eqb (length b) (body_length kind (count_in b) (signer_count_in b)) h)
    (ap (λ (t : Bool). cond (not t) Range Done) g)

-- ---- where a body starts

short_if : (t : Bool) (p : ℕ) → None ≡ cond t None (Some p) → t ≡ true
short_if true p e = refl
short_if false p e = cc

at_if : (t : Bool) (p k : ℕ) → Some k ≡ cond t None (Some p) → (t ≡ false) × (k ≡ p)
at_if true p k e = (cc, cc)
at_if false p k e = (refl, cc)

pub start_short : (f : List ℕ) → None ≡ body_start f → too_short f ≡ true
unfolding body_start
start_short f e = short_if (too_short f) (trailer_place f - length_in f) e

-- a frame whose body starts at k
pub record StartsAt (f : List ℕ) (k : ℕ) : Type 0 where
  pub long : too_short f ≡ false
  pub trailer : trailer_length ≤ length f
  pub body : length_in f + trailer_length ≤ length f
  pub place : k ≡ trailer_place f - length_in f

pub start_at : (f : List ℕ) (k : ℕ) → Some k ≡ body_start f → StartsAt f k
unfolding body_start
start_at f k e =
    let p = at_if (too_short f) (trailer_place f - length_in f) k e in
    let q = long_enough f p.0 in
    record { long = p.0; trailer = q.0; body = q.1; place = p.1 }

-- ---- stages: what a frame is answered that is too short, and past each stage

pub short_frame : (f : List ℕ) (n number link : ℕ) → None ≡ body_start f → Short ≡ frame_answer f n number link
unfolding frame_answer
short_frame f n number link e = rw (start_short f e)

long_if : (t : Bool) (p : ℕ) → (None ≡ cond t None (Some p) → ⊥) → t ≡ false
long_if true p h = absurd (h refl)
long_if false p h = refl

module _ (f : List ℕ) (n number link : ℕ) (s : None ≡ body_start f → ⊥) where
  not_short : too_short f ≡ false
  unfolding body_start
  not_short = long_if (too_short f) (trailer_place f - length_in f) s

  pub another_feed : true ≡ other_feed f n number → Version ≡ frame_answer f n number link
  unfolding frame_answer after_short
  another_feed e = rw (not_short, sym e)

  module _ (feed : false ≡ other_feed f n number) where
    past_version : frame_answer f n number link ≡ after_version f n link
    unfolding frame_answer after_short
    past_version = rw (not_short, sym feed)

    pub no_kind : good_kind (kind_in f) ≡ false → Kind ≡ frame_answer f n number link
    unfolding after_version
    no_kind h = rw (past_version, h)

    pub low_kind : kind_in f < 1 → Kind ≡ frame_answer f n number link
    low_kind h = no_kind (rw (lt-leb 1 (kind_in f) h))

    pub high_kind : 7 < kind_in f → Kind ≡ frame_answer f n number link
    high_kind h = no_kind (rw (le-leb 1 (kind_in f) (omega arith), lt-leb (kind_in f) 7 h))

    module _ (kind : good_kind (kind_in f) ≡ true) where
      past_kind : frame_answer f n number link ≡ after_kind f n link
      unfolding after_version
      past_kind = rw (past_version, kind)

      pub another_sender : true ≡ other_sender (sender_in f) n link → Sender ≡ frame_answer f n number link
      unfolding after_kind
      another_sender e = rw (past_kind, sym e)

      module _ (own : false ≡ other_sender (sender_in f) n link) where
        past_sender : frame_answer f n number link ≡ after_sender f n
        unfolding after_kind
        past_sender = rw (past_kind, sym own)

        pub bytes_before : (Some 0 ≡ body_start f → ⊥) → Length ≡ frame_answer f n number link
        unfolding after_sender body_start
        bytes_before h =
            let other : length_in f + trailer_length ≡ length f → ⊥ = λ e.
            let z : 0 ≡ trailer_place f - length_in f = omega arith in
            h (rw not_short (ap Some z)) in
            rw (past_sender, ne_eqb (length_in f + trailer_length) (length f) other)

        pub whole_frame : (k kind : ℕ) (r : Answer) → Some k ≡ body_start f → k ≡ 0 → kind ≡ kind_in f → r ≡ body_answer n kind (take (trailer_place f - k) (drop k f)) → r ≡ frame_answer f n number link
        unfolding after_sender
        whole_frame k kind r at z own e =
            let p = start_at f k at in
            let long : trailer_place f - k ≡ length_in f = omega arith in
            rw (past_sender, eq-eqb (length_in f + trailer_length) (length f) (omega arith))
            (e ∙ ap (λ (m : ℕ). body_answer n m (take (trailer_place f - k) (drop k f))) own ∙ ap₂ (λ (m j : ℕ). body_answer n (kind_in f) (take m (drop j f))) long p.place)
