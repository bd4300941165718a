-- Document 01, "Frames": what bytes say. Every list of bytes says something; whether it may is `Check`'s.
use Rattle.std.specs.Prelude.{cond, List, [], ◌∷◌, ℕ, zero, suc, ◌+◌, ◌-◌, ◌*◌, ◌≤◌, ◌<◌, eqb, ℤ, length, get_or, take, drop}
use Rattle.std.specs.Int.{w64}
use Rattle.std.proofs.Common.{to_z}
use Rattle.config.specs.Limits.{signature_size}
use Rattle.wire.specs.Numbers.{part, be_number}
use Rattle.frame.specs.Message.{Observation, Signed, Signer, Attested, Message, new_epoch, observe_req, observe, report_req, report, final, final_echo}
use Rattle.frame.specs.Table.{shape_of, body_length, trailer_length}

-- ---- entries

-- `many` entries of `stride` bytes that lie one after another
unfoldable pub entries : {A : Type 0} → (List ℕ → A) → ℕ → ℕ → List ℕ → List A
entries says stride zero l = []
entries says stride (suc many) l = says (take stride l) ∷ entries says stride many (drop stride l)

-- what one entry's bytes say
abbrev pub observation_at : List ℕ → Observation
observation_at l = record { member = get_or l 0 0; value = to_z w64 (be_number (part l 1 8)) }

abbrev pub signed_at : List ℕ → Signed
signed_at l = record { said = observation_at l; signature = part l 9 signature_size }

abbrev pub signer_at : List ℕ → Signer
signer_at l = record { member = get_or l 0 0; signature = part l 1 signature_size }

-- ---- the parts of a body

abbrev pub epoch_in : List ℕ → ℕ
epoch_in b = be_number (part b 0 4)

abbrev pub round_in : List ℕ → ℕ
round_in b = get_or b 4 0

-- the value and the signature of an OBSERVE
abbrev pub value_in : List ℕ → ℤ
value_in b = to_z w64 (be_number (part b 5 8))

abbrev pub observe_signature : List ℕ → List ℕ
observe_signature b = part b 13 signature_size

-- m, and where the list behind it begins
abbrev pub count_in : List ℕ → ℕ
count_in b = get_or b 5 0

abbrev pub list_place : ℕ
list_place = 6

-- the observations of a list whose entries have this stride; signatures in the entries are passed over
abbrev pub observations_in : ℕ → List ℕ → List Observation
observations_in stride b = entries observation_at stride (count_in b) (drop list_place b)

-- the list of a REPORT-REQ, with its signatures
abbrev pub signed_in : List ℕ → List Signed
signed_in b = entries signed_at (shape_of 4).entry (count_in b) (drop list_place b)

-- where a list of bare observations ends: the signature of a REPORT, s of a FINAL
abbrev pub list_end : List ℕ → ℕ
list_end b = list_place + (shape_of 6).entry * count_in b

abbrev pub report_signature : List ℕ → List ℕ
report_signature b = part b (list_end b) signature_size

abbrev pub signer_count_in : List ℕ → ℕ
signer_count_in b = get_or b (list_end b) 0

abbrev pub signers_in : List ℕ → List Signer
signers_in b = entries signer_at (shape_of 6).signer (signer_count_in b) (drop (list_end b + 1) b)

-- what a FINAL body says. It is read from the front, so it may stand at the start of a longer list.
abbrev pub attested_in : List ℕ → Attested
attested_in b = record { epoch = epoch_in b; round = round_in b; list = observations_in (shape_of 6).entry b; signers = signers_in b }

-- ---- where the parts lie

-- entry i of a list lies within the body
pub record ListIn (stride i : ℕ) (b : List ℕ) : Type 0 where
  pub wide : (shape_of 6).entry ≤ stride
  pub known : i < count_in b
  pub within : list_place + count_in b * stride ≤ length b

-- signer i lies within the body
pub record SignersIn (i : ℕ) (b : List ℕ) : Type 0 where
  pub known : i < signer_count_in b
  pub within : body_length 6 (count_in b) (signer_count_in b) ≤ length b

-- as much of a FINAL body as is in range for n members lies within the list
pub record Readable (n : ℕ) (b : List ℕ) : Type 0 where
  pub head : list_place ≤ length b
  pub list : count_in b ≤ n → list_end b < length b
  pub signers : count_in b ≤ n → signer_count_in b ≤ n → body_length 6 (count_in b) (signer_count_in b) ≤ length b

-- what a body of one of the kinds 1 to 7 says; the last of them stands where the others do not
unfoldable pub message_of : ℕ → List ℕ → Message
message_of kind b =
    cond (eqb kind 1) (new_epoch (epoch_in b))
    (cond (eqb kind 2) (observe_req (epoch_in b) (round_in b))
    (cond (eqb kind 3) (observe (epoch_in b) (round_in b) (value_in b) (observe_signature b))
    (cond (eqb kind 4) (report_req (epoch_in b) (round_in b) (signed_in b))
    (cond (eqb kind 5) (report (epoch_in b) (round_in b) (observations_in (shape_of 5).entry b) (report_signature b))
    (cond (eqb kind 6) (final (attested_in b)) (final_echo (attested_in b)))))))

-- ---- the trailer of a frame, its last 16 bytes

-- where the trailer begins, which is where the body ends
abbrev pub trailer_place : List ℕ → ℕ
trailer_place f = length f - trailer_length

abbrev pub kind_in : List ℕ → ℕ
kind_in f = get_or f (trailer_place f) 0

abbrev pub sender_in : List ℕ → ℕ
sender_in f = get_or f (trailer_place f + 1) 0

abbrev pub version_in : List ℕ → ℕ
version_in f = be_number (part f (trailer_place f + 2) 2)

abbrev pub length_in : List ℕ → ℕ
length_in f = be_number (part f (trailer_place f + 4) 4)

abbrev pub number_in : List ℕ → ℕ
number_in f = be_number (part f (trailer_place f + 8) 8)

-- "a 16-byte trailer that points back": the body is the bytes before it
abbrev pub body_in : List ℕ → List ℕ
body_in f = part f (trailer_place f - length_in f) (length_in f)

-- what a frame says
abbrev pub message_in : List ℕ → Message
message_in f = message_of (kind_in f) (body_in f)
