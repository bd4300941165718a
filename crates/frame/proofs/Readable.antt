-- Laws of the table: how long bodies can be, and when a FINAL body can be read. Other crates cite them.
use mathlib.Core.Bool.{Bool, true, false, ◌&&◌}
use mathlib.Core.List.{List, [], ◌∷◌}
use mathlib.Core.Path.{◌≡◌, refl}
use Prim.Native.Nat.{ℕ, zero, suc, ◌+◌, ◌-◌, ◌*◌, ◌≤◌}
use native.Mathlib.Nat.{le_trans, mul-le-mul_left}
use native.Mathlib.Omega.{arith}
use borrow.Author.Tests.{leb-true, le-leb}
use lib.Dec.{leb}
use lib.ListN.{length, get_or}
use Rattle.config.specs.Limits.{members, kept_size, outbox_size}
use Rattle.config.proofs.Facts.{and-true}
use Rattle.frame.specs.declared.Shape.{Shape}
use Rattle.frame.specs.Table.{shape, table, shape_of, body_length, trailer_length}
use Rattle.frame.specs.Decode.{count_in, signer_count_in, Readable}

-- ---- lengths

length_monotone : (kind m m' s s' : ℕ) → m ≤ m' → s ≤ s' → body_length kind m s ≤ body_length kind m' s'
unfolding body_length
length_monotone kind m m' s s' hm hs =
    let em = mul-le-mul_left (shape_of kind).entry hm in
    let es = mul-le-mul_left (shape_of kind).signer hs in
    omega arith

-- a body of this row's kind with so many observations and signers is at most so long
abbrev at_most : ℕ → ℕ → Shape → Bool
at_most many limit row = leb (row.base + row.entry * many + row.signer * many) limit

abbrev every : (Shape → Bool) → List Shape → Bool
every test [] = true
every test (row ∷ rows) = test row && every test rows

every_row : (test : Shape → Bool) (rows : List Shape) (none : Shape) → every test rows ≡ true → test none ≡ true → (k : ℕ) → test (get_or rows k none) ≡ true
every_row test [] none h g k = g
every_row test (row ∷ rows) none h g zero = (and-true (test row) (every test rows) h).0
every_row test (row ∷ rows) none h g (suc k) = every_row test rows none (and-true (test row) (every test rows) h).1 g k

-- A limit on the longest bodies of all kinds is one computed test.
pub length_most : (many limit : ℕ) → every (at_most many limit) table ≡ true → (kind m s : ℕ) → m ≤ many → s ≤ many → body_length kind m s ≤ limit
unfolding shape_of body_length
length_most many limit h kind m s hm hs =
    let none = shape 0 0 0 false in
    let e = every_row (at_most many limit) table none h (le-leb (0 + 0 * many + 0 * many) limit (omega arith)) (kind - 1) in
    le_trans (length_monotone kind m many s many hm hs) (leb-true (body_length kind many many) limit e)

-- In a feed of at most `members` members a FINAL body fits a kept buffer, and a frame fits the outbox.
pub final_fits : (m s : ℕ) → m ≤ members → s ≤ members → body_length 6 m s ≤ kept_size
unfolding table
final_fits m s hm hs = length_most members kept_size refl 6 m s hm hs

pub frame_fits : (kind m s : ℕ) → m ≤ members → s ≤ members → body_length kind m s + trailer_length ≤ outbox_size
unfolding table
frame_fits kind m s hm hs = omega (arith, length_most members (outbox_size - trailer_length) refl kind m s hm hs)

-- ---- FINAL bodies

-- a FINAL body of its own length
pub readable_exact : (n : ℕ) (b : List ℕ) → length b ≡ body_length 6 (count_in b) (signer_count_in b) → Readable n b
unfolding body_length
readable_exact n b e = record { head = omega arith; list = λ _. omega arith; signers = λ _ _. omega arith }

-- as many bytes as n members can make of it, as a kept buffer and a slot have
pub readable_long : (n : ℕ) (b : List ℕ) → body_length 6 n n ≤ length b → Readable n b
unfolding body_length
readable_long n b h =
    record {
      head = omega arith;
      list = λ hm. omega arith;
      signers = λ hm hs. omega (arith, length_monotone 6 (count_in b) n (signer_count_in b) n hm hs);
    }
