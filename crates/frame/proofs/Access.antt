-- Laws of entries that lie one after another: where each lies, which members they begin with, and the turn of a loop over them.
use mathlib.Core.Bool.{Bool, true, false, not, ◌&&◌, ◌||◌, and-false}
use mathlib.Core.List.{List, [], ◌∷◌}
use mathlib.Core.Path.{◌≡◌, refl, sym, ap, ap₂, ◌∙◌}
use Prim.Native.Nat.{ℕ, zero, suc, ◌+◌, ◌-◌, ◌*◌, ◌≤◌, ◌<◌}
use native.Mathlib.Nat.{add-zero, add_comm, zero-mul, suc-mul, suc-add, not-suc-le-zero, le_of_suc-le-suc, mul-le-mul_right}
use native.Mathlib.Omega.{arith}
use borrow.Author.Tests.{lt-leb, le-leb, ltb-true, ltb-false, ne_eqb}
use lib.Dec.{leb, ltb, eqb}
use lib.ListN.{length, get_or, take, drop}
use lib.Seq.{get_or-take, get_or-drop, drop-drop, take-take}
use lib.IntN.{ℤ}
use mir.Syntax.{w64}
use mir.Val.{to_z}
use Rattle.wire.specs.Numbers.{part, be_number}
use Rattle.frame.specs.Message.{Observation, Signer, no_observation, no_signer}
use Rattle.frame.specs.Table.{shape_of}
use Rattle.frame.specs.Decode.{entries, observation_at, signer_at, count_in, list_place, list_end, observations_in, signer_count_in, signers_in, ListIn, SignersIn}
use Rattle.frame.specs.Range.{one_to_n, all_members, good_entries}
use Rattle.frame.proofs.Ranges.{members_map}
use Rattle.frame.proofs.Entries.{length_entries, map_entries}

-- ---- places

-- an entry ends within the body
pub entry_in : {stride i : ℕ} {b : List ℕ} → ListIn stride i b → list_place + i * stride + stride ≤ length b
entry_in {stride} h = omega (arith, rw suc-mul at (mul-le-mul_right stride h.known))

entries_at : {A : Type 0} (says : List ℕ → A) (stride many : ℕ) (l : List ℕ) (i : ℕ) (none : A) → i < many → get_or (entries says stride many l) i none ≡ says (part l (i * stride) stride)
unfolding entries
entries_at says stride zero l i none h = absurd (not-suc-le-zero h)
entries_at says stride (suc many) l zero none h = rw zero-mul
entries_at says stride (suc many) l (suc i) none h =
    let e : stride + i * stride ≡ suc i * stride = add_comm stride (i * stride) ∙ sym (suc-mul i stride) in
    entries_at says stride many (drop stride l) i none (le_of_suc-le-suc h)
    ∙ ap (λ (x : List ℕ). says (take stride x)) (drop-drop (i * stride) stride l ∙ ap (λ (k : ℕ). drop k l) e)

-- what entry i of those that begin at a place says is said by the bytes at its own place
pub entry_at : {A : Type 0} (says : List ℕ → A) (stride many at : ℕ) (b : List ℕ) (i : ℕ) (none : A) → i < many → get_or (entries says stride many (drop at b)) i none ≡ says (part b (at + i * stride) stride)
entry_at says stride many at b i none h =
    entries_at says stride many (drop at b) i none h ∙ ap (λ (x : List ℕ). says (take stride x)) (drop-drop (i * stride) at b)

-- a part of the front
pub part_of_take : (m a n : ℕ) (l : List ℕ) → a + m ≤ n → part (take n l) a m ≡ part l a m
part_of_take m zero n l h = take-take m n l (omega arith)
part_of_take m (suc a) zero l h = absurd (not-suc-le-zero (rw suc-add at h))
part_of_take m (suc a) (suc n) [] h = refl
part_of_take m (suc a) (suc n) (x ∷ l) h = part_of_take m a n l (omega arith)

-- a part of an entry is a part of the list that the entries begin in
pub part_of_part : (l : List ℕ) (at n a m : ℕ) → a + m ≤ n → part (part l at n) a m ≡ part l (at + a) m
part_of_part l at n a m h = part_of_take m a n (drop at l) h ∙ ap (take m) (drop-drop a at l)

pub first_of_part : (l : List ℕ) (at n : ℕ) → 0 < n → get_or (part l at n) 0 0 ≡ get_or l at 0
first_of_part l at n h = get_or-take n (drop at l) 0 0 h ∙ get_or-drop at l 0 0 ∙ ap (λ (k : ℕ). get_or l k 0) (add-zero at)

-- what is read of entry i, in its bytes, is what the list says of it
read_entry : {A B : Type 0} (of : A → B) (says : List ℕ → A) (stride many at : ℕ) (b : List ℕ) (i : ℕ) (none : A) (read : B) → i < many → read ≡ of (says (part b (at + i * stride) stride)) → read ≡ of (get_or (entries says stride many (drop at b)) i none)
read_entry of says stride many at b i none read h e = e ∙ sym (ap of (entry_at says stride many at b i none h))

pub member_read : {stride i : ℕ} {b : List ℕ} → ListIn stride i b → get_or b (list_place + i * stride) 0 ≡ (get_or (observations_in stride b) i no_observation).member
unfolding shape_of
member_read {stride} {i} {b} h =
    let at = list_place + i * stride in
    read_entry (λ (o : Observation). o.member) observation_at stride (count_in b) list_place b i no_observation (get_or b at 0) h.known (sym (first_of_part b at stride (omega arith)))

pub value_read : {stride i : ℕ} {b : List ℕ} → ListIn stride i b → to_z w64 (be_number (part b (list_place + i * stride + 1) 8)) ≡ (get_or (observations_in stride b) i no_observation).value
unfolding shape_of
value_read {stride} {i} {b} h =
    let at = list_place + i * stride in
    let value : List ℕ → ℤ = λ l. to_z w64 (be_number l) in
    read_entry (λ (o : Observation). o.value) observation_at stride (count_in b) list_place b i no_observation (value (part b (at + 1) 8)) h.known (ap value (sym (part_of_part b at stride 1 8 (omega arith))))

pub signer_read : {i : ℕ} {b : List ℕ} → SignersIn i b → get_or b (list_end b + 1 + i * (shape_of 6).signer) 0 ≡ (get_or (signers_in b) i no_signer).member
unfolding shape_of
signer_read {i} {b} h =
    let stride = (shape_of 6).signer in
    let at = list_end b + 1 + i * stride in
    read_entry (λ (x : Signer). x.member) signer_at stride (signer_count_in b) (list_end b + 1) b i no_signer (get_or b at 0) h.known (sym (first_of_part b at stride (omega arith)))

-- a slice from `start` to `start + size`, which may be written otherwise
pub part_from : (b : List ℕ) (start to size : ℕ) → start ≡ to → take (start + size - start) (drop start b) ≡ part b to size
part_from b start to size e =
    let k : start + size - start ≡ size = omega arith in
    ap₂ (λ (k p : ℕ). take k (drop p b)) k e

-- ---- members

above_n : (n x : ℕ) (t : Bool) → ltb n x ≡ t → leb x n ≡ not t
above_n n x true e = lt-leb x n (ltb-true n x e)
above_n n x false e = le-leb x n (ltb-false n x e)

-- the test of a member's number, as the code refuses it
one_to_n_lem : (n x : ℕ) → one_to_n n x ≡ not (eqb x 0 || ltb n x)
one_to_n_lem n zero = refl
one_to_n_lem n (suc x) = rw (le-leb 1 (suc x) (omega arith), ne_eqb (suc x) 0 (λ z. omega arith)) (above_n n (suc x) (ltb n (suc x)) refl)

-- each of `many` entries begins with a member's number
abbrev pub members_in : ℕ → ℕ → ℕ → List ℕ → Bool
members_in n stride many l = all_members n (λ x. x) (entries (λ e. get_or e 0 0) stride many l)

-- the first entry, and the others
pub members_first : (n stride left p : ℕ) (b : List ℕ) → 0 < left → 0 < stride → members_in n stride left (drop p b) ≡ not (eqb (get_or b p 0) 0 || ltb n (get_or b p 0)) && members_in n stride (left - 1) (drop (p + stride) b)
unfolding all_members entries
members_first n stride zero p b h g = absurd (not-suc-le-zero h)
members_first n stride (suc left) p b h g =
    let e : suc left - 1 ≡ left = omega arith in
    simp (e, first_of_part b p stride g, drop-drop, one_to_n_lem)

pub times_first : (left stride : ℕ) → 0 < left → left * stride ≡ stride + (left - 1) * stride
times_first zero stride h = absurd (not-suc-le-zero h)
times_first (suc left) stride h =
    let e : suc left - 1 ≡ left = omega arith in
    rw (e, suc-mul) (add_comm (left * stride) stride)

-- Whatever entries say: if their first byte is their member's number, it alone is tested.
module _ {A : Type 0} (n : ℕ) (member : A → ℕ) (says : List ℕ → A) (stride : ℕ) where
  members_entries : ((e : List ℕ) → member (says e) ≡ get_or e 0 0) → (many : ℕ) (l : List ℕ) → all_members n member (entries says stride many l) ≡ members_in n stride many l
  members_entries first many l =
      sym (members_map n (λ x. x) member (entries says stride many l))
      ∙ ap (all_members n (λ x. x)) (map_entries member says (λ e. get_or e 0 0) first stride many l)

  pub good_entries_lem : ((e : List ℕ) → member (says e) ≡ get_or e 0 0) → (many : ℕ) (l : List ℕ) → good_entries n member (entries says stride many l) ≡ one_to_n n many && members_in n stride many l
  good_entries_lem first many l = ap₂ ◌&&◌ (ap (one_to_n n) (length_entries says stride many l)) (members_entries first many l)

  -- more entries than members
  pub many_refused : (many : ℕ) (l : List ℕ) → n < many → good_entries n member (entries says stride many l) ≡ false
  many_refused many l h = rw (length_entries says stride many l, lt-leb many n h, and-false)
