-- Document 01, "Codes", 4 to 9: what is wrong with a frame, first match wins. A stage is a test, its refusal, and the stage after it.
use Rattle.std.specs.Prelude.{Bool, not, cond, ◌||◌, Option, Some, None, List, ℕ, ◌+◌, ◌-◌, ltb, eqb, length}
use Rattle.config.specs.Answers.{Answer, Done, Short, Version, Kind, Sender, Length, Range}
use Rattle.frame.specs.Table.{good_kind, body_length, version_of, trailer_length}
use Rattle.frame.specs.Decode.{count_in, signer_count_in, trailer_place, kind_in, sender_in, version_in, length_in, number_in, body_in, message_of}
use Rattle.frame.specs.Range.{good_message}

-- "body not its kind's length"; m and s count where the body holds them, and a body too short to hold them has another length in any case
abbrev pub good_length : ℕ → List ℕ → Bool
good_length kind b = eqb (length b) (body_length kind (count_in b) (signer_count_in b))

-- LENGTH, then RANGE, of a body of one of the seven kinds
unfoldable pub body_answer : ℕ → ℕ → List ℕ → Answer
body_answer n kind b = cond (not (good_length kind b)) Length (cond (not (good_message n (message_of kind b))) Range Done)

-- LENGTH: "or bytes before the body"
unfoldable pub after_sender : List ℕ → ℕ → Answer
after_sender f n = cond (not (eqb (length_in f + trailer_length) (length f))) Length (body_answer n (kind_in f) (body_in f))

-- "0, above n, or not the link's member"
abbrev pub other_sender : ℕ → ℕ → ℕ → Bool
other_sender sender n link = eqb sender 0 || ltb n sender || not (eqb sender link)

-- SENDER
unfoldable pub after_kind : List ℕ → ℕ → ℕ → Answer
after_kind f n link = cond (other_sender (sender_in f) n link) Sender (after_sender f n)

-- KIND: "not 1 to 7"
unfoldable pub after_version : List ℕ → ℕ → ℕ → Answer
after_version f n link = cond (not (good_kind (kind_in f))) Kind (after_kind f n link)

-- "version or configuration number differs"
abbrev pub other_feed : List ℕ → ℕ → ℕ → Bool
other_feed f n number = not (eqb (version_in f) (version_of n)) || not (eqb (number_in f) number)

-- VERSION
unfoldable pub after_short : List ℕ → ℕ → ℕ → ℕ → Answer
after_short f n number link = cond (other_feed f n number) Version (after_version f n link)

-- SHORT: "under 16 bytes, or body length + 16 above the slice"
abbrev pub too_short : List ℕ → Bool
too_short f = ltb (length f) trailer_length || ltb (length f) (length_in f + trailer_length)

-- checks 4 to 9 of a frame that came over the link of a member
unfoldable pub frame_answer : List ℕ → ℕ → ℕ → ℕ → Answer
frame_answer f n number link = cond (too_short f) Short (after_short f n number link)

-- where the body of the frame at the end of a list of bytes starts, unless that is too short
unfoldable pub body_start : List ℕ → Option ℕ
body_start f = cond (too_short f) None (Some (trailer_place f - length_in f))
