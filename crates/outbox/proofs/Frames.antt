-- What the entries and the bodies of frames are made of, how long they are, and a body with its trailer lent one after the other.
use mathlib.Core.Path.{◌≡◌, refl, sym, ap, ◌∙◌}
use mathlib.Core.List.{List, [], ◌∷◌, ◌++◌}
use Prim.Native.Nat.{ℕ, ◌+◌, ◌-◌, ◌*◌, ◌≤◌, ◌<◌}
use native.Mathlib.Nat.{le_refl}
use native.Mathlib.Omega.{arith}
use borrow.Rule.Slice.PartMut.{mid_of, put_mid}
use lib.IntN.{ℤ}
use lib.ListN.{length, get_or, take, drop, length-append}
use lib.Seq.{take-take, drop-cons, length-take-le}
use mir.Syntax.{w64}
use mir.Val.{to_z}
use Rattle.config.specs.Limits.{signature_size}
use Rattle.config.specs.declared.Config.{Config}
use Rattle.wire.specs.Numbers.{Bytes, part, be_number, be_bytes}
use Rattle.wire.specs.Overlay.{over}
use Rattle.wire.proofs.Numbers.{bytes_take}
use Rattle.wire.proofs.Overlay.{length_over, over_then, lent, lent_start}
use Rattle.frame.specs.Message.{Observation, Signed, Signer, Message, kind_of, no_observation}
use Rattle.frame.specs.Table.{table, shape_of, body_length, version_of, trailer_length}
use Rattle.frame.specs.Encode.{observation_bytes, signed_bytes, signer_bytes, flat, head_bytes, body_bytes, trailer_bytes, frame_bytes}
use Rattle.frame.specs.Decode.{observation_at, epoch_in, round_in, count_in, list_place, observations_in}
use Rattle.frame.proofs.Access.{entry_at}
use Rattle.frame.proofs.Entries.{bytes_part, length_part, observation_entry}
use Rattle.frame.proofs.RoundTrip.{head_forth}
use Rattle.outbox.specs.Written.{Wrote, own_frame, observed, signature_of, signed_observations, signers_of, Members, HasSignatures}
use Rattle.outbox.proofs.Runs.{Even, length_flat, even_map}

-- ---- frames

-- what a lender of `&mut o[at..]` has back
abbrev pub back : List ℕ → ℕ → List ℕ → List ℕ
back o at ys = put_mid at (length o - at) o ys

-- the part that is lent
abbrev pub rest : List ℕ → ℕ → List ℕ
rest o at = mid_of at (length o - at) o

length_trailer : (kind sender version len number : ℕ) → length (trailer_bytes kind sender version len number) ≡ trailer_length
unfolding trailer_bytes be_bytes
length_trailer kind sender version len number = refl

-- a body from the start of the part that is lent, and then its trailer behind it
pub wrote : {c : Config} {m : Message} {o : List ℕ} {at n r : ℕ} {ys zs : List ℕ} → n ≡ length (body_bytes m) → at + (n + trailer_length) ≤ length o → ys ≡ over (rest o at) 0 (body_bytes m) → zs ≡ over (rest (back o at ys) at) n (trailer_bytes (kind_of m) c.own (version_of c.n) n c.number) → r ≡ n + trailer_length → Wrote c m o at (back (back o at ys) at zs) r
unfolding frame_bytes
wrote {c} {m} {o} {at} {n} {r} {ys} {zs} en room ey ez er =
    let body = body_bytes m in
    let t = trailer_bytes (kind_of m) c.own (version_of c.n) n c.number in
    let lt = length_trailer (kind_of m) c.own (version_of c.n) n c.number in
    let o1 = back o at ys in
    let e1 : o1 ≡ over o at body = lent_start o ys at (length o - at) body ey (omega arith) (omega arith) in
    let l1 : length o1 ≡ length o = ap length e1 ∙ length_over o at body in
    let whole : body ++ t ≡ own_frame c m = ap (λ (k : ℕ). body ++ trailer_bytes (kind_of m) c.own (version_of c.n) k c.number) en in
    record {
      frame =
          lent o1 zs at (length o1 - at) n t ez (omega arith) (omega arith)
          ∙ ap (λ (l : List ℕ). over l (at + n) t) e1
          ∙ over_then o at body (at + n) t (omega arith)
          ∙ ap (over o at) whole;
      long = sym (ap length (sym whole) ∙ length-append body t ∙ omega arith);
    }

-- ---- entries

pub observed_even : (none : Observation) (xs : List Observation) → Even observation_bytes (shape_of 6).entry none xs
unfolding observation_bytes be_bytes shape_of table
observed_even none xs k h = refl

pub length_observed : (xs : List Observation) → length (flat observation_bytes xs) ≡ length xs * (shape_of 6).entry
length_observed xs = length_flat observation_bytes (shape_of 6).entry no_observation xs (observed_even no_observation xs)

-- the entries of member j
abbrev pub signed : List ℤ → List ℕ → ℕ → Signed
signed values signatures j = record { said = observed values j; signature = signature_of signatures j }

abbrev pub signer : List ℕ → ℕ → Signer
signer signatures j = record { member = j; signature = signature_of signatures j }

module _ (n : ℕ) (order signatures : List ℕ) (members : Members n order) (has : HasSignatures n signatures) where
  signature_long : (j : ℕ) → 1 ≤ j → j ≤ n → length (signature_of signatures j) ≡ signature_size
  signature_long j a b = length_part signatures (signature_size * (j - 1)) signature_size (omega arith)

  pub signed_even : (values : List ℤ) → Even signed_bytes (shape_of 4).entry (signed values signatures 0) (signed_observations order values signatures)
  unfolding signed_bytes observation_bytes be_bytes shape_of table
  signed_even values = even_map signed_bytes (shape_of 4).entry (signed values signatures) n order members (λ j a b. omega (arith, signature_long j a b))

  pub signers_even : Even signer_bytes (shape_of 6).signer (signer signatures 0) (signers_of order signatures)
  unfolding signer_bytes shape_of table
  signers_even = even_map signer_bytes (shape_of 6).signer (signer signatures) n order members (λ j a b. omega (arith, signature_long j a b))

-- ---- what is copied of a REPORT-REQ

-- what an entry says of an observation is said by its first bytes
observation_front : (l : List ℕ) → observation_at (take (shape_of 6).entry l) ≡ observation_at l
unfolding shape_of table
observation_front [] = refl
observation_front (x ∷ l) = ap (λ (v : List ℕ). record { member = x; value = to_z w64 (be_number v) }) (take-take 8 8 l (le_refl 8))

observation_copied : (b : List ℕ) (at stride : ℕ) → Bytes b → (shape_of 6).entry ≤ stride → at + stride ≤ length b → part b at (shape_of 6).entry ≡ observation_bytes (observation_at (part b at stride))
observation_copied b at stride h w l =
    let e = part b at stride in
    let size = (shape_of 6).entry in
    let long : length e ≡ stride = length_part b at stride l in
    sym (take-take size stride (drop at b) w)
    ∙ sym (observation_entry.forth (take size e) (length-take-le size e (omega arith)) (bytes_take size e (bytes_part b at stride h)))
    ∙ ap observation_bytes (observation_front e)

-- the first bytes of entry i are those of the observation that it holds
pub said_copied : (b : List ℕ) (i : ℕ) → Bytes b → length b ≡ body_length 4 (count_in b) 0 → i < count_in b → part b (list_place + i * (shape_of 4).entry) (shape_of 6).entry ≡ observation_bytes (get_or (observations_in (shape_of 4).entry b) i no_observation)
unfolding body_length shape_of table
said_copied b i h l k =
    let stride = (shape_of 4).entry in
    observation_copied b (list_place + i * stride) stride h (omega arith) (omega arith)
    ∙ ap observation_bytes (sym (entry_at observation_at stride (count_in b) list_place b i no_observation k))

-- epoch, round and m
pub head_copied : (b : List ℕ) → Bytes b → list_place ≤ length b → part b 0 list_place ≡ head_bytes (epoch_in b) (round_in b) ++ (count_in b ∷ [])
unfolding head_bytes be_bytes
head_copied b h l =
    sym (ap (take list_place) (head_forth b h (omega arith)))
    ∙ ap (λ (t : List ℕ). head_bytes (epoch_in b) (round_in b) ++ take 1 t) (drop-cons b 5 0 (omega arith))
