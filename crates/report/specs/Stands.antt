-- Document 01, "Codes", 14 to 17, in their order: whether a report stands. One account for follower and contract.
use Rattle.std.specs.Prelude.{Bool, true, not, cond, ◌&&◌, List, [], ◌∷◌, map, ℕ, ◌*◌, leb, ltb, ℤ, length}
use Rattle.std.specs.Int.Signed.{le_z}
use Rattle.quorum.specs.First.{first_clear, first_repeat, distinct}
use Rattle.frame.specs.Message.{Observation, Signer, Attested}
use Rattle.report.specs.Faults.{Standing, Nothing, Few, Falling, Twice, TooFewSigners, SignerTwice, ClearBit, first_fault}

abbrev pub members_of : List Observation → List ℕ
members_of l = map (λ (o : Observation). o.member) l

abbrev pub values_of : List Observation → List ℤ
values_of l = map (λ (o : Observation). o.value) l

-- the first value of l, if there is one, is not below v
abbrev pub not_below : ℤ → List ℤ → Bool
not_below v [] = true
not_below v (w ∷ l) = le_z v w

-- no value is "below the one before it"
unfoldable pub not_falling : List ℤ → Bool
not_falling [] = true
not_falling (v ∷ l) = not_below v l && not_falling l

-- FEW: "m at most 2f"; ORDER: "a value below the one before it"; TWICE: "a member observed twice"
unfoldable pub list_fault : ℕ → List Observation → Standing
list_fault f l =
    cond (leb (length l) (2 * f)) Few
    (cond (not (not_falling (values_of l))) Falling
    (cond (not (distinct (members_of l))) Twice Nothing))

-- a clear bit among the first `many`, and the place of the first
unfoldable pub bits_fault : ℕ → ℕ → Standing
bits_fault bits many = cond (ltb (first_clear bits many) many) (ClearBit (first_clear bits many)) Nothing

abbrev pub signer_members : List Signer → List ℕ
signer_members l = map (λ (x : Signer). x.member) l

-- a signer that signed before, and the place of the later one of the first two
unfoldable pub repeat_fault : List ℕ → Standing
repeat_fault l = cond (ltb (first_repeat l) (length l)) (SignerTwice (first_repeat l)) Nothing

-- SIGNERS: "s at most f, a signer twice, or a clear bit"
unfoldable pub signers_fault : ℕ → ℕ → List Signer → Standing
signers_fault f bits l =
    cond (leb (length l) f) TooFewSigners (first_fault (repeat_fault (signer_members l)) (bits_fault bits (length l)))

-- checks 14 to 17 of a report
unfoldable pub attested_fault : ℕ → ℕ → Attested → Standing
attested_fault f bits a = first_fault (list_fault f a.list) (signers_fault f bits a.signers)
