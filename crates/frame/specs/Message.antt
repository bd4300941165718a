-- Document 01, "Frames": what the seven kinds of frames say.
use Rattle.std.specs.Prelude.{List, [], map, ℕ, ℤ, pos, replicate}
use Rattle.config.specs.Limits.{signature_size}

-- a member and the value it observed
pub record Observation : Type 0 where
  pub member : ℕ
  pub value : ℤ

-- an observation with its member's signature
pub record Signed : Type 0 where
  pub said : Observation
  pub signature : List ℕ

-- a member that has signed a whole list
pub record Signer : Type 0 where
  pub member : ℕ
  pub signature : List ℕ

-- a list of observations of one epoch and round, and who signed it: what FINAL and FINAL-ECHO carry, and what is kept, waits and is submitted
pub record Attested : Type 0 where
  pub epoch : ℕ
  pub round : ℕ
  pub list : List Observation
  pub signers : List Signer

-- what a list has past its end
abbrev pub no_observation : Observation
no_observation = record { member = 0; value = pos 0 }

abbrev pub no_signer : Signer
no_signer = record { member = 0; signature = [] }

-- the seven kinds, in the order of 01's table
pub data Message : Type 0 where
  -- epoch
  new_epoch : ℕ → Message
  -- epoch, round
  observe_req : ℕ → ℕ → Message
  -- epoch, round, value, signature
  observe : ℕ → ℕ → ℤ → List ℕ → Message
  -- epoch, round, the list with each member's signature
  report_req : ℕ → ℕ → List Signed → Message
  -- epoch, round, the list, signature
  report : ℕ → ℕ → List Observation → List ℕ → Message
  final : Attested → Message
  final_echo : Attested → Message

-- the number of a message's kind
abbrev pub kind_of : Message → ℕ
kind_of (new_epoch e) = 1
kind_of (observe_req e r) = 2
kind_of (observe e r v g) = 3
kind_of (report_req e r xs) = 4
kind_of (report e r xs g) = 5
kind_of (final a) = 6
kind_of (final_echo a) = 7

-- ---- leaving signatures out: each becomes the 64 zero bytes as which the node's own leave

abbrev pub blank : List ℕ
blank = replicate signature_size 0

abbrev pub bare_signed : Signed → Signed
bare_signed x = record { said = x.said; signature = blank }

abbrev pub bare_signer : Signer → Signer
bare_signer x = record { member = x.member; signature = blank }

abbrev pub bare_attested : Attested → Attested
bare_attested a = record { epoch = a.epoch; round = a.round; list = a.list; signers = map bare_signer a.signers }

-- the message with every signature left out
abbrev pub bare : Message → Message
bare (new_epoch e) = new_epoch e
bare (observe_req e r) = observe_req e r
bare (observe e r v g) = observe e r v blank
bare (report_req e r xs) = report_req e r (map bare_signed xs)
bare (report e r xs g) = report e r xs blank
bare (final a) = final (bare_attested a)
bare (final_echo a) = final_echo (bare_attested a)
