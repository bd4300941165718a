-- Document 01, "Frames": "These lengths and addressees are one fixed table."
use Rattle.std.specs.Prelude.{Bool, true, false, cond, ◌&&◌, List, [], ◌∷◌, ℕ, ◌+◌, ◌-◌, ◌*◌, leb, get_or}
use Rattle.frame.specs.declared.Shape.{Shape}
use Rattle.frame.specs.declared.Destination.{Destination}
use Rattle.frame.specs.declared.Destination.TheVariants.{All, Member, Nobody}

abbrev pub shape : ℕ → ℕ → ℕ → Bool → Shape
shape base entry signer leader = record { base = base; entry = entry; signer = signer; leader = leader }

-- 01's table, a row a kind: what the body has in any case, what each observation adds, what each signer adds, and whether the frame
-- goes to the leader alone
unfoldable pub table : List Shape
table =
    shape 4 0 0 false
    ∷ shape 5 0 0 false
    ∷ shape 77 0 0 true
    ∷ shape 6 73 0 false
    ∷ shape 70 9 0 true
    ∷ shape 7 9 65 false
    ∷ shape 7 9 65 false
    ∷ []

unfoldable pub shape_of : ℕ → Shape
unfolding table
shape_of kind = get_or table (kind - 1) (shape 0 0 0 false)

-- "KIND: not 1 to 7"
abbrev pub good_kind : ℕ → Bool
good_kind kind = leb 1 kind && leb kind 7

-- how long a body of this kind with m observations and s signers is
unfoldable pub body_length : ℕ → ℕ → ℕ → ℕ
unfolding shape_of
body_length kind m s = (shape_of kind).base + (shape_of kind).entry * m + (shape_of kind).signer * s

-- "version (2, value 1)": the version that a feed of n members carries and needs
abbrev pub version_of : ℕ → ℕ
version_of n = 1

-- how long a trailer is: "kind (1 byte), sender (1), version (2, value 1), body length (4), configuration number (8)"
abbrev pub trailer_length : ℕ
trailer_length = 16

-- "Goes to": all, or the leader; a number that is no kind goes nowhere
unfoldable pub destination_of : ℕ → ℕ → Destination
unfolding shape_of
destination_of kind leader = cond (good_kind kind) (cond (shape_of kind).leader (Member leader) All) Nobody
