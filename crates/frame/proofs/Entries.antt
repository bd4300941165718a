-- Entries of one stride, one after another: two laws serve every list, and a kind of entry needs only its own length and its own two ways.
use mathlib.Core.Path.{◌≡◌, refl, sym, ap, ap₂, ◌∙◌}
use mathlib.Core.List.{List, [], ◌∷◌, ◌++◌, map, append_assoc}
use Prim.Native.Nat.{ℕ, zero, suc, ◌+◌, ◌*◌, ◌^◌, ◌≤◌, ◌<◌, suc-le-suc}
use native.Mathlib.Nat.{mul-zero, mul-suc, add_comm}
use native.Mathlib.Omega.{arith}
use lib.IntN.{ℤ}
use lib.ListN.{length, get_or, take, drop, length-append, length-drop, take-append-drop}
use lib.Seq.{take_at, drop_at, take-add, take_all, drop-cons, length-take-le}
use mir.Syntax.{w64}
use mir.Val.{SFits, to_z}
use mir.ValLaws.{to_z-Fits}
use Rattle.config.specs.Limits.{signature_size}
use Rattle.wire.specs.Numbers.{Bytes, part, be_number, be_bytes}
use Rattle.wire.proofs.Numbers.{bytes_take, bytes_drop, be_number_below, be_bytes_be_number}
use Rattle.wire.proofs.Claims.{signed_is_read, signed_is_written}
use Rattle.frame.specs.Message.{Observation, Signer}
use Rattle.frame.specs.Table.{table, shape_of}
use Rattle.frame.specs.Encode.{observation_bytes, signed_bytes, signer_bytes, flat}
use Rattle.frame.specs.Decode.{entries, observation_at, signed_at, signer_at}
use Rattle.frame.specs.Claims.{WritableSignature, WritableSigned, Each}

-- ---- lists of entries

-- what a kind of entry keeps, for entries that are good and for bytes of its stride
pub record Entry {A : Type 0} (bytes : A → List ℕ) (says : List ℕ → A) (stride : ℕ) (Good : A → Type 0) : Type 0 where
  pub long : (a : A) → Good a → length (bytes a) ≡ stride
  pub back : (a : A) → Good a → says (bytes a) ≡ a
  pub forth : (l : List ℕ) → length l ≡ stride → Bytes l → bytes (says l) ≡ l
  pub good : (l : List ℕ) → length l ≡ stride → Bytes l → Good (says l)

-- what holds of each entry of two lists
pub each_append : {A : Type 0} (P : A → Type 0) (l m : List A) → Each P l → Each P m → Each P (l ++ m)
each_append P [] m p q = q
each_append P (a ∷ l) m (p, r) q = (p, each_append P l m r q)

-- and what follows from it, of each entry, or of what is made of each
pub each_so : {A : Type 0} (P Q : A → Type 0) → ((a : A) → P a → Q a) → (l : List A) → Each P l → Each Q l
each_so P Q h [] p = tt
each_so P Q h (a ∷ l) (p, r) = (h a p, each_so P Q h l r)

pub each_map : {A B : Type 0} (P : A → Type 0) (Q : B → Type 0) (f : A → B) → ((a : A) → P a → Q (f a)) → (l : List A) → Each P l → Each Q (map f l)
each_map P Q f h [] p = tt
each_map P Q f h (a ∷ l) (p, r) = (h a p, each_map P Q f h l r)

-- what holds of each place holds of each entry
pub each_place : {A : Type 0} (P : A → Type 0) (none : A) (l : List A) → ((i : ℕ) → i < length l → P (get_or l i none)) → Each P l
each_place P none [] p = tt
each_place P none (a ∷ l) p = (p 0 (omega arith), each_place P none l (λ i h. p (suc i) (suc-le-suc h)))

pub length_entries : {A : Type 0} (says : List ℕ → A) (stride many : ℕ) (l : List ℕ) → length (entries says stride many l) ≡ many
unfolding entries
length_entries says stride zero l = refl
length_entries says stride (suc many) l = ap suc (length_entries says stride many (drop stride l))

-- a part of what each entry says
pub map_entries : {A B : Type 0} (f : A → B) (says : List ℕ → A) (tells : List ℕ → B) → ((e : List ℕ) → f (says e) ≡ tells e) → (stride many : ℕ) (l : List ℕ) → map f (entries says stride many l) ≡ entries tells stride many l
unfolding entries
map_entries f says tells h stride zero l = refl
map_entries f says tells h stride (suc many) l = ap₂ ◌∷◌ (h (take stride l)) (map_entries f says tells h stride many (drop stride l))

module _ {A : Type 0} {bytes : A → List ℕ} {says : List ℕ → A} {stride : ℕ} {Good : A → Type 0} (law : Entry bytes says stride Good) where
  pub length_flat : (xs : List A) → Each Good xs → length (flat bytes xs) ≡ stride * length xs
  unfolding flat
  length_flat [] h = sym (mul-zero stride)
  length_flat (a ∷ xs) h = rw (length-append, law.long a h.0, length_flat xs h.1, mul-suc) (add_comm stride (stride * length xs))

  pub entries_flat : (xs : List A) (rest : List ℕ) → Each Good xs → entries says stride (length xs) (flat bytes xs ++ rest) ≡ xs
  unfolding flat entries
  entries_flat [] rest h = refl
  entries_flat (a ∷ xs) rest h =
      let t = flat bytes xs ++ rest in
      let e = law.long a h.0 in
      rw (append_assoc, take_at (bytes a) t stride e, drop_at (bytes a) t stride e, law.back a h.0, entries_flat xs rest h.1)

  -- the first entry of several lies within the bytes, and the others lie behind it
  first_within : (many : ℕ) (l : List ℕ) → stride * suc many ≤ length l → (stride ≤ length l) × (stride * many ≤ length (drop stride l))
  first_within many l h =
      let e : stride * suc many ≡ stride * many + stride = mul-suc stride many in
      (omega arith, simp length-drop (omega arith))

  pub flat_entries : (many : ℕ) (l : List ℕ) → Bytes l → stride * many ≤ length l → flat bytes (entries says stride many l) ≡ take (stride * many) l
  unfolding flat entries
  flat_entries zero l b h = rw mul-zero
  flat_entries (suc many) l b h =
      let e : stride * suc many ≡ stride + stride * many = mul-suc stride many ∙ add_comm (stride * many) stride in
      let w = first_within many l h in
      rw (e, take-add, law.forth (take stride l) (length-take-le stride l w.0) (bytes_take stride l b), flat_entries many (drop stride l) (bytes_drop stride l b) w.1)

  -- what is read is good
  pub entries_good : (many : ℕ) (l : List ℕ) → Bytes l → stride * many ≤ length l → Each Good (entries says stride many l)
  unfolding entries
  entries_good zero l b h = tt
  entries_good (suc many) l b h =
      let w = first_within many l h in
      (law.good (take stride l) (length-take-le stride l w.0) (bytes_take stride l b), entries_good many (drop stride l) (bytes_drop stride l b) w.1)

-- ---- numbers, values and signatures at their places

pub bytes_part : (l : List ℕ) (at count : ℕ) → Bytes l → Bytes (part l at count)
bytes_part l at count b = bytes_take count (drop at l) (bytes_drop at l b)

pub length_part : (l : List ℕ) (at count : ℕ) → at + count ≤ length l → length (part l at count) ≡ count
length_part l at count h = length-take-le count (drop at l) (simp length-drop (omega arith))

-- the part at the end of a list is all that is left of it
pub part_last : (l : List ℕ) (at count : ℕ) → length l ≡ at + count → part l at count ≡ drop at l
part_last l at count h = take_all count (drop at l) (simp length-drop (omega arith))

-- the bytes at a place are those of the number that they say
pub part_number : (l : List ℕ) (at count : ℕ) → Bytes l → at + count ≤ length l → be_bytes count (be_number (part l at count)) ≡ part l at count
part_number l at count b h = rw (length_part l at count h) at (be_bytes_be_number (part l at count) (bytes_part l at count b))

pub part_value : (l : List ℕ) (at : ℕ) → Bytes l → at + 8 ≤ length l → SFits w64 (to_z w64 (be_number (part l at 8)))
part_value l at b h =
    let x = part l at 8 in
    let low : be_number x < 256 ^ length x = be_number_below x (bytes_part l at 8 b) in
    to_z-Fits w64 (be_number x) (record { fits = rw (length_part l at 8 h) at low })

pub part_signature : (l : List ℕ) (at : ℕ) → Bytes l → at + signature_size ≤ length l → WritableSignature (part l at signature_size)
part_signature l at b h =
    record { long = length_part l at signature_size h; bytes = bytes_part l at signature_size b }

pub take_signature : (g : List ℕ) → WritableSignature g → take signature_size g ≡ g
take_signature g w = take_all signature_size g (omega (arith, w.long))

-- ---- the three kinds of entries

-- an observation, in front of whatever else its entry holds
observation_back : (o : Observation) (rest : List ℕ) → SFits w64 o.value → observation_at (observation_bytes o ++ rest) ≡ o
unfolding observation_bytes be_bytes
observation_back o rest f = ap (λ (v : ℤ). record { member = o.member; value = v }) (signed_is_read o.value f)

observation_forth : (l : List ℕ) → Bytes l → (shape_of 6).entry ≤ length l → observation_bytes (observation_at l) ≡ take (shape_of 6).entry l
unfolding observation_bytes shape_of table
observation_forth [] b h = absurd (omega arith)
observation_forth (x ∷ l) b h =
    let t : Bytes l = λ k. b (suc k) in
    ap (λ (r : List ℕ). x ∷ r) (signed_is_written (take 8 l) (bytes_take 8 l t) (length-take-le 8 l (omega arith)))

pub observation_entry : Entry observation_bytes observation_at (shape_of 6).entry (λ (o : Observation). SFits w64 o.value)
unfolding observation_bytes shape_of table be_bytes
observation_entry =
    record {
      long = λ o f. refl;
      back = λ o f. observation_back o [] f;
      forth = λ l e b. observation_forth l b (omega arith) ∙ take_all 9 l (omega arith);
      good = λ l e b. part_value l 1 b (omega arith);
    }

pub signed_entry : Entry signed_bytes signed_at (shape_of 4).entry WritableSigned
unfolding signed_bytes observation_bytes shape_of table be_bytes
signed_entry =
    record {
      long = λ x w. omega (arith, w.signature.long);
      back = λ x w. ap₂ (λ (o : Observation) (g : List ℕ). record { said = o; signature = g }) (observation_back x.said x.signature w.value) (take_signature x.signature w.signature);
      forth = λ l e b. ap₂ (λ (x y : List ℕ). x ++ y) (observation_forth l b (omega arith)) (part_last l 9 signature_size e) ∙ take-append-drop 9 l;
      good = λ l e b. record { value = part_value l 1 b (omega arith); signature = part_signature l 9 b (omega arith) };
    }

pub signer_entry : Entry signer_bytes signer_at (shape_of 6).signer (λ (x : Signer). WritableSignature x.signature)
unfolding signer_bytes shape_of table
signer_entry =
    record {
      long = λ x w. ap suc w.long;
      back = λ x w. ap (λ (g : List ℕ). record { member = x.member; signature = g }) (take_signature x.signature w);
      forth = λ l e b. ap (λ (g : List ℕ). get_or l 0 0 ∷ g) (part_last l 1 signature_size e) ∙ sym (drop-cons l 0 0 (omega arith));
      good = λ l e b. part_signature l 1 b (omega arith);
    }
