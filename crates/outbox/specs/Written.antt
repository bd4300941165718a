-- What the writers of frames put together: lists in the order of members that they are given, with values and signatures by member.
use Rattle.std.specs.Prelude.{◌≡◌, true, List, map, ℕ, ◌+◌, ◌-◌, ◌*◌, ◌≤◌, ℤ, pos, length, get_or, replicate}
use Rattle.config.specs.Limits.{signature_size}
use Rattle.config.specs.declared.Config.{Config}
use Rattle.wire.specs.Numbers.{part}
use Rattle.wire.specs.Overlay.{over}
use Rattle.frame.specs.Message.{Observation, Signed, Signer, Message}
use Rattle.frame.specs.Table.{body_length, trailer_length}
use Rattle.frame.specs.Encode.{frame_bytes}
use Rattle.frame.specs.Range.{all_members}

-- the frame by which this node says m
abbrev pub own_frame : Config → Message → List ℕ
own_frame c m = frame_bytes c.n c.number c.own m

-- "The writer fills the outbox from a given position onward and nothing before it", and nothing behind the frame; it tells the frame's length
pub record Wrote (c : Config) (m : Message) (outbox : List ℕ) (at : ℕ) (exit : List ℕ) (r : ℕ) : Type 0 where
  pub frame : exit ≡ over outbox at (own_frame c m)
  pub long : r ≡ length (own_frame c m)

-- a frame of this kind, with m observations and s signers, has room at the position
abbrev pub Fits : ℕ → ℕ → ℕ → List ℕ → ℕ → Type 0
Fits kind m s outbox at = at + (body_length kind m s + trailer_length) ≤ length outbox

-- "The node's own signatures leave as 64 zero bytes for the host to fill."
abbrev pub own_signature : List ℕ
own_signature = replicate signature_size 0

-- member j's value and signature, in tables by member
abbrev pub value_of : List ℤ → ℕ → ℤ
value_of values j = get_or values (j - 1) (pos 0)

abbrev pub signature_of : List ℕ → ℕ → List ℕ
signature_of signatures j = part signatures (signature_size * (j - 1)) signature_size

abbrev pub observed : List ℤ → ℕ → Observation
observed values j = record { member = j; value = value_of values j }

-- the observations of these members, in this order
abbrev pub observations : List ℕ → List ℤ → List Observation
observations order values = map (observed values) order

abbrev pub signed_observations : List ℕ → List ℤ → List ℕ → List Signed
signed_observations order values signatures = map (λ j. record { said = observed values j; signature = signature_of signatures j }) order

abbrev pub signers_of : List ℕ → List ℕ → List Signer
signers_of signers signatures = map (λ j. record { member = j; signature = signature_of signatures j }) signers

-- each of these is one of n members
abbrev pub Members : ℕ → List ℕ → Type 0
Members n order = all_members n (λ x. x) order ≡ true

-- the tables have a place for each of n members
abbrev pub HasValues : ℕ → List ℤ → Type 0
HasValues n values = n ≤ length values

abbrev pub HasSignatures : ℕ → List ℕ → Type 0
HasSignatures n signatures = signature_size * n ≤ length signatures
