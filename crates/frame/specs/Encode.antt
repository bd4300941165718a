-- Document 01, "Frames": the bytes of a message. "Numbers are big-endian, observations two's complement."
use Rattle.std.specs.Prelude.{List, [], ◌∷◌, ◌++◌, ℕ, length}
use Rattle.std.specs.Int.{w64}
use Rattle.std.proofs.Common.{of_z}
use Rattle.wire.specs.Numbers.{be_bytes}
use Rattle.frame.specs.Message.{Observation, Signed, Signer, Attested, Message, new_epoch, observe_req, observe, report_req, report, final, final_echo, kind_of}
use Rattle.frame.specs.Table.{version_of}

-- "(member 1, value 8)"
unfoldable pub observation_bytes : Observation → List ℕ
observation_bytes o = o.member ∷ be_bytes 8 (of_z w64 o.value)

-- "(member 1, value 8, signature 64)"
unfoldable pub signed_bytes : Signed → List ℕ
signed_bytes x = observation_bytes x.said ++ x.signature

-- "(member, signature)"
unfoldable pub signer_bytes : Signer → List ℕ
signer_bytes x = x.member ∷ x.signature

-- entries one after another
unfoldable pub flat : {A : Type 0} → (A → List ℕ) → List A → List ℕ
flat bytes [] = []
flat bytes (a ∷ l) = bytes a ++ flat bytes l

-- "epoch 4, round 1"
unfoldable pub head_bytes : ℕ → ℕ → List ℕ
head_bytes epoch round = be_bytes 4 epoch ++ (round ∷ [])

-- "m 1, m of (..)", and "s 1, s of (..)"
unfoldable pub counted_bytes : {A : Type 0} → (A → List ℕ) → List A → List ℕ
counted_bytes bytes l = length l ∷ flat bytes l

-- "epoch, round, m, m of (member, value), s 1, s of (member, signature)"
unfoldable pub attested_bytes : Attested → List ℕ
attested_bytes a =
    head_bytes a.epoch a.round ++ (counted_bytes observation_bytes a.list ++ counted_bytes signer_bytes a.signers)

-- the body of each kind, as in the table's column "Body"
unfoldable pub body_bytes : Message → List ℕ
body_bytes (new_epoch e) = be_bytes 4 e
body_bytes (observe_req e r) = head_bytes e r
body_bytes (observe e r v g) = head_bytes e r ++ (be_bytes 8 (of_z w64 v) ++ g)
body_bytes (report_req e r xs) = head_bytes e r ++ counted_bytes signed_bytes xs
body_bytes (report e r xs g) = head_bytes e r ++ (counted_bytes observation_bytes xs ++ g)
body_bytes (final a) = attested_bytes a
body_bytes (final_echo a) = attested_bytes a

-- "a 16-byte trailer that points back: kind (1 byte), sender (1), version (2, value 1), body length (4), configuration number (8)"
unfoldable pub trailer_bytes : ℕ → ℕ → ℕ → ℕ → ℕ → List ℕ
trailer_bytes kind sender version len number = kind ∷ sender ∷ (be_bytes 2 version ++ (be_bytes 4 len ++ be_bytes 8 number))

-- "A frame is a body and then a 16-byte trailer": the one by which `sender`, one of n members, says m in configuration `number`
unfoldable pub frame_bytes : ℕ → ℕ → ℕ → Message → List ℕ
frame_bytes n number sender m =
    body_bytes m ++ trailer_bytes (kind_of m) sender (version_of n) (length (body_bytes m)) number
