-- A frame that no check refuses is its body and the trailer that its sender writes behind that body; and such a frame passes to its body's checks.
-- A field of the trailer is found at its place in the trailer.
use mathlib.Core.Path.{◌≡◌, refl, sym, ap, ap₂, ◌∙◌}
use mathlib.Core.Bool.{Bool, true, false, not, cond, ◌||◌, false≢true}
use mathlib.Core.List.{List, ◌++◌}
use Prim.Native.Nat.{ℕ, ◌+◌, ◌-◌, ◌^◌, ◌≤◌, ◌<◌}
use native.Mathlib.Nat.{add-zero}
use native.Mathlib.Omega.{arith}
use borrow.Author.Tests.{le-ltb, eq-eqb, ne_eqb, eqb-true, eqb-false, ltb-false, not-false}
use lib.Dec.{eqb, ltb}
use lib.ListN.{length, get_or, take, drop, length-append, length-drop, take-append-drop}
use lib.Seq.{drop-cons, drop-drop, get_or-drop, length-take-le, drop-append-add, get_or-append-add, take-append_seam}
use Rattle.config.specs.Answers.{Done, Short, Version, Kind, Sender, Length, Range}
use Rattle.config.specs.Codes.{number_of, is_done}
use Rattle.config.proofs.Facts.{done_only}
use Rattle.config.proofs.Passed.{itself, stage_passed}
use Rattle.wire.specs.Numbers.{Bytes, part, be_number, be_bytes}
use Rattle.wire.proofs.Numbers.{bytes_drop, be_number_be_bytes}
use Rattle.frame.specs.Table.{good_kind, version_of, trailer_length}
use Rattle.frame.specs.Encode.{trailer_bytes}
use Rattle.frame.specs.Decode.{trailer_place, kind_in, sender_in, version_in, length_in, number_in, body_in, message_of}
use Rattle.frame.specs.Range.{good_message}
use Rattle.frame.specs.Check.{good_length, body_answer, after_sender, other_sender, after_kind, after_version, other_feed, after_short, too_short, frame_answer}
use Rattle.frame.proofs.Entries.{part_last, part_number}

-- ---- what the checks tell

pub or-false : (a b : Bool) → a || b ≡ false → (a ≡ false) × (b ≡ false)
or-false true b e = absurd (false≢true (sym e))
or-false false b e = (refl, e)

-- a frame that is not too short holds its trailer, and the body that this points back to
pub long_enough : (f : List ℕ) → too_short f ≡ false → (trailer_length ≤ length f) × (length_in f + trailer_length ≤ length f)
long_enough f h =
    let p = or-false (ltb (length f) trailer_length) (ltb (length f) (length_in f + trailer_length)) h in
    (ltb-false _ _ p.0, ltb-false _ _ p.1)

pub passed_body : (n kind : ℕ) (b : List ℕ) → body_answer n kind b ≡ Done → (good_length kind b ≡ true) × (good_message n (message_of kind b) ≡ true)
unfolding body_answer number_of
passed_body n kind b e =
    let p = stage_passed itself (not (good_length kind b)) Length (cond (not (good_message n (message_of kind b))) Range Done) refl (ap is_done e) in
    let q = stage_passed itself (not (good_message n (message_of kind b))) Range Done refl p.1 in
    (not-false _ p.0, not-false _ q.0)

-- what a frame that passes has shown
pub record Passed (f : List ℕ) (n number link : ℕ) : Type 0 where
  pub short : too_short f ≡ false
  pub long : trailer_length ≤ length f
  pub version : version_in f ≡ version_of n
  pub configuration : number_in f ≡ number
  pub kind : good_kind (kind_in f) ≡ true
  pub least : 1 ≤ sender_in f
  pub most : sender_in f ≤ n
  pub sender : sender_in f ≡ link
  pub whole : length_in f + trailer_length ≡ length f
  pub answer : body_answer n (kind_in f) (body_in f) ≡ Done
  pub body : good_length (kind_in f) (body_in f) ≡ true
  pub range : good_message n (message_of (kind_in f) (body_in f)) ≡ true

pub checked_frame : (f : List ℕ) (n number link : ℕ) → frame_answer f n number link ≡ Done → Passed f n number link
unfolding frame_answer after_short after_version after_kind after_sender number_of
checked_frame f n number link e =
    let p = stage_passed itself (too_short f) Short (after_short f n number link) refl (ap is_done e) in
    let q = stage_passed itself (other_feed f n number) Version (after_version f n link) refl p.1 in
    let r = stage_passed itself (not (good_kind (kind_in f))) Kind (after_kind f n link) refl q.1 in
    let s = stage_passed itself (other_sender (sender_in f) n link) Sender (after_sender f n) refl r.1 in
    let t = stage_passed itself (not (eqb (length_in f + trailer_length) (length f))) Length (body_answer n (kind_in f) (body_in f)) refl s.1 in
    let answer = done_only _ t.1 in
    let body = passed_body n (kind_in f) (body_in f) answer in
    let numbers = or-false (not (eqb (version_in f) (version_of n))) (not (eqb (number_in f) number)) q.0 in
    let senders = or-false (eqb (sender_in f) 0 || ltb n (sender_in f)) (not (eqb (sender_in f) link)) s.0 in
    let range = or-false (eqb (sender_in f) 0) (ltb n (sender_in f)) senders.0 in
    record {
      short = p.0;
      long = (long_enough f p.0).0;
      version = eqb-true _ _ (not-false _ numbers.0);
      configuration = eqb-true _ _ (not-false _ numbers.1);
      kind = not-false _ r.0;
      least = let some = eqb-false (sender_in f) 0 range.0 in omega arith;
      most = ltb-false n (sender_in f) range.1;
      sender = eqb-true _ _ (not-false _ senders.1);
      whole = eqb-true _ _ (not-false _ t.0);
      answer = answer;
      body = body.0;
      range = body.1;
    }

-- ---- the trailer

-- a number's bytes, in front of what stands behind them
number_forth : (l : List ℕ) (at count : ℕ) → Bytes l → at + count ≤ length l → be_bytes count (be_number (part l at count)) ++ drop (at + count) l ≡ drop at l
number_forth l at count h k = rw (part_number l at count h k, ← drop-drop count at l) (take-append-drop count (drop at l))

trailer_forth : (l : List ℕ) → Bytes l → length l ≡ trailer_length → trailer_bytes (get_or l 0 0) (get_or l 1 0) (be_number (part l 2 2)) (be_number (part l 4 4)) (be_number (part l 8 8)) ≡ l
unfolding trailer_bytes
trailer_forth l h e =
    let last : part l 8 8 ≡ drop 8 l = part_last l 8 8 e in
    rw (part_number l 8 8 h (omega arith), last, number_forth l 4 4 h (omega arith), number_forth l 2 2 h (omega arith), ← drop-cons l 1 0 (omega arith), ← drop-cons l 0 0 (omega arith))

-- a frame that passes is its body and the trailer that says so
pub frame_forth : (f : List ℕ) (n number link : ℕ) → Bytes f → Passed f n number link → f ≡ body_in f ++ trailer_bytes (kind_in f) link (version_of n) (length (body_in f)) number
frame_forth f n number link h p =
    let t = trailer_place f in
    let l : length (drop t f) ≡ trailer_length = length-drop t f ∙ omega (arith, p.long) in
    let trailer : trailer_bytes (kind_in f) (sender_in f) (version_in f) (length_in f) (number_in f) ≡ drop t f = simp (get_or-drop, drop-drop, add-zero) at (trailer_forth (drop t f) (bytes_drop t f h) l) in
    let all : length_in f ≡ t = omega (arith, p.whole) in
    let from : t - length_in f ≡ 0 = omega arith in
    let body : body_in f ≡ take t f = ap₂ (λ (at count : ℕ). part f at count) from all in
    let long : length_in f ≡ length (body_in f) = all ∙ sym (ap length body ∙ length-take-le t f (omega arith)) in
    cc (take-append-drop t f)

-- ---- a frame that is written passes to its body's checks

module _ (body : List ℕ) (kind sender n number : ℕ) where
  abbrev trailer : List ℕ
  trailer = trailer_bytes kind sender (version_of n) (length body) number

  abbrev framed : List ℕ
  framed = body ++ trailer

  length_framed : length framed ≡ length body + trailer_length
  unfolding trailer_bytes be_bytes
  length_framed = length-append body trailer

  place : trailer_place framed ≡ length body
  place = omega (arith, length_framed)

  -- the fields of the trailer, by their places in it
  byte_at : (k : ℕ) → get_or framed (length body + k) 0 ≡ get_or trailer k 0
  byte_at k = get_or-append-add body trailer k 0

  from_at : (k : ℕ) → drop (length body + k) framed ≡ drop k trailer
  from_at k = drop-append-add body trailer k

  pub kind_framed : kind_in framed ≡ kind
  unfolding trailer_bytes
  kind_framed = rw place (rw add-zero at (byte_at 0))

  sender_framed : sender_in framed ≡ sender
  unfolding trailer_bytes
  sender_framed = rw place (byte_at 1)

  version_framed : version_in framed ≡ version_of n
  unfolding trailer_bytes be_bytes
  version_framed = rw (place, from_at 2) (be_number_be_bytes 2 (version_of n) (omega arith))

  number_framed : number < 2 ^ 64 → number_in framed ≡ number
  unfolding trailer_bytes be_bytes
  number_framed h = rw (place, from_at 8) (be_number_be_bytes 8 number h)

  module _ (fits : length body < 2 ^ 32) where
    length_in_framed : length_in framed ≡ length body
    unfolding trailer_bytes be_bytes
    length_in_framed = rw (place, from_at 4) (be_number_be_bytes 4 (length body) fits)

    pub body_framed : body_in framed ≡ body
    body_framed =
        let from : trailer_place framed - length_in framed ≡ 0 = omega (arith, place, length_in_framed) in
        ap₂ (λ (at count : ℕ). part framed at count) from length_in_framed ∙ take-append_seam body trailer

    pub frame_back : good_kind kind ≡ true → 1 ≤ sender → sender ≤ n → number < 2 ^ 64 → frame_answer framed n number sender ≡ body_answer n kind body
    unfolding frame_answer after_short after_version after_kind after_sender
    frame_back k s t h =
        simp (
          le-ltb (length framed) trailer_length (omega (arith, length_framed)),
          le-ltb (length framed) (length_in framed + trailer_length) (omega (arith, length_framed, length_in_framed)),
          eq-eqb (version_in framed) (version_of n) version_framed,
          eq-eqb (number_in framed) number (number_framed h),
          ap good_kind kind_framed ∙ k,
          ne_eqb (sender_in framed) 0 (λ e. omega (arith, sender_framed)),
          le-ltb n (sender_in framed) (omega (arith, sender_framed)),
          eq-eqb (sender_in framed) sender sender_framed,
          eq-eqb (length_in framed + trailer_length) (length framed) (omega (arith, length_framed, length_in_framed)),
        )
        (ap₂ (λ (k : ℕ) (b : List ℕ). body_answer n k b) kind_framed body_framed)
