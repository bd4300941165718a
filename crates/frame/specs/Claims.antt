-- What a reader may quote of frames: each claim is a type, proved in `proofs/Claims.antt`.
use Rattle.std.specs.Prelude.{◌≡◌, true, List, [], ◌∷◌, ◌++◌, ℕ, ◌^◌, ◌≤◌, ◌<◌, length, take}
use Rattle.std.specs.Int.{w64}
use Rattle.std.proofs.Common.{SFits}
use Rattle.config.specs.Limits.{signature_size}
use Rattle.config.specs.Answers.{Done}
use Rattle.wire.specs.Numbers.{Bytes}
use Rattle.frame.specs.Message.{Observation, Signed, Signer, Attested, Message, new_epoch, observe_req, observe, report_req, report, final, final_echo, bare}
use Rattle.frame.specs.Table.{good_kind, body_length}
use Rattle.frame.specs.Encode.{attested_bytes, body_bytes, frame_bytes}
use Rattle.frame.specs.Decode.{count_in, signer_count_in, attested_in, message_of, message_in}
use Rattle.frame.specs.Range.{good_attested, good_message}
use Rattle.frame.specs.Check.{body_answer, frame_answer}

-- ---- what can be written at all: values of 64 bits, signatures of 64 bytes

pub record WritableSignature (g : List ℕ) : Type 0 where
  pub long : length g ≡ signature_size
  pub bytes : Bytes g

-- each entry has a property
abbrev pub Each : {A : Type 0} → (A → Type 0) → List A → Type 0
Each P [] = Unit {0}
Each P (a ∷ l) = P a × Each P l

pub record WritableSigned (x : Signed) : Type 0 where
  pub value : SFits w64 x.said.value
  pub signature : WritableSignature x.signature

pub record WritableAttested (a : Attested) : Type 0 where
  pub values : Each (λ (o : Observation). SFits w64 o.value) a.list
  pub signatures : Each (λ (x : Signer). WritableSignature x.signature) a.signers

abbrev pub Writable : Message → Type 0
Writable (new_epoch e) = Unit {0}
Writable (observe_req e r) = Unit {0}
Writable (observe e r v g) = SFits w64 v × WritableSignature g
Writable (report_req e r xs) = Each WritableSigned xs
Writable (report e r xs g) = Each (λ (o : Observation). SFits w64 o.value) xs × WritableSignature g
Writable (final a) = WritableAttested a
Writable (final_echo a) = WritableAttested a

-- ---- the two theorems

-- A frame is read as the message: no check refuses it, and it says the message.
pub record ReadAs (f : List ℕ) (n number link : ℕ) (m : Message) : Type 0 where
  pub passes : frame_answer f n number link ≡ Done
  pub says : message_in f ≡ m

-- A message in range, written by a member as a frame, is read back from that member's link as the message written.
abbrev pub WrittenIsRead : Type 0
WrittenIsRead =
    (n number sender : ℕ) (m : Message) → n < 256 → number < 2 ^ 64 → 1 ≤ sender → sender ≤ n → good_message n m ≡ true → Writable m → ReadAs (frame_bytes n number sender m) n number sender m

-- A frame that is read as a message is the one frame that says so: it is what its sender would write for that message.
abbrev pub ReadIsWritten : Type 0
ReadIsWritten =
    (f : List ℕ) (n number link : ℕ) → Bytes f → frame_answer f n number link ≡ Done → f ≡ frame_bytes n number link (message_in f)

-- So two frames that are read alike are one.
abbrev pub ReadAlikeIsOne : Type 0
ReadAlikeIsOne =
    (f g : List ℕ) (n number link : ℕ) → Bytes f → Bytes g → frame_answer f n number link ≡ Done → frame_answer g n number link ≡ Done → message_in f ≡ message_in g → f ≡ g

-- A FINAL body says one thing wherever it stands: at the start of a longer list of bytes it says the same, and bytes that hold a whole one
-- begin with the one body that says so.
abbrev pub FinalAtTheStart : Type 0
FinalAtTheStart =
    (n : ℕ) (a : Attested) (rest : List ℕ) → n < 256 → good_attested n a ≡ true → WritableAttested a → attested_in (attested_bytes a ++ rest) ≡ a

abbrev pub FinalIsOne : Type 0
FinalIsOne =
    (b : List ℕ) → Bytes b → body_length 6 (count_in b) (signer_count_in b) ≤ length b → take (body_length 6 (count_in b) (signer_count_in b)) b ≡ attested_bytes (attested_in b)

-- A body that passes LENGTH and RANGE is the one body of its kind that says what it says.
abbrev pub BodyIsOne : Type 0
BodyIsOne =
    (n kind : ℕ) (b : List ℕ) → good_kind kind ≡ true → Bytes b → body_answer n kind b ≡ Done → b ≡ body_bytes (message_of kind b)

-- A message with its signatures left out can be written where the message can, is in range where it is, and has no signature left to leave out.
pub record Bared (n : ℕ) (m : Message) : Type 0 where
  pub range : good_message n (bare m) ≡ good_message n m
  pub writable : Writable m → Writable (bare m)
  pub once : bare (bare m) ≡ bare m
  pub long : Writable m → length (body_bytes (bare m)) ≡ length (body_bytes m)

abbrev pub BareIsBare : Type 0
BareIsBare = (n : ℕ) (m : Message) → Bared n m

-- And what is read is in range and can be written.
pub record ReadWell (n : ℕ) (m : Message) : Type 0 where
  pub range : good_message n m ≡ true
  pub writable : Writable m

abbrev pub ReadIsGood : Type 0
ReadIsGood =
    (f : List ℕ) (n number link : ℕ) → Bytes f → frame_answer f n number link ≡ Done → ReadWell n (message_in f)
