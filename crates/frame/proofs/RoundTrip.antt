-- A body that is written for a message says that message, and a body of its kind's length is the one that is written for what it says.
-- A body is a head and then counted lists or signatures: each part is cut off at its place, by one law for every list.
use mathlib.Core.Path.{◌≡◌, refl, sym, ap, ap₂, ◌∙◌}
use mathlib.Core.Bool.{true, ◌&&◌}
use mathlib.Core.List.{List, [], ◌∷◌, ◌++◌, append_assoc, append-nil}
use Prim.Native.Nat.{ℕ, suc, ◌+◌, ◌*◌, ◌^◌, ◌≤◌, ◌<◌}
use native.Mathlib.Omega.{arith}
use lib.IntN.{ℤ}
use lib.ListN.{length, get_or, take, drop, length-append, length-drop, take-append-drop, drop_of_length-le}
use lib.Seq.{take_all, drop-cons, drop-drop, drop_at, get_or_at, split_at}
use Rattle.config.specs.Limits.{signature_size, last_epoch}
use Rattle.config.proofs.Facts.{and-true}
use Rattle.wire.specs.Numbers.{Bytes, part, be_bytes}
use Rattle.wire.proofs.Numbers.{bytes_drop, be_number_be_bytes}
use Rattle.wire.proofs.Claims.{signed_is_read, signed_is_written}
use Rattle.frame.specs.Message.{Observation, Signed, Signer, Attested, Message, new_epoch, observe_req, observe, report_req, report, final, final_echo, kind_of}
use Rattle.frame.specs.Table.{shape_of, body_length, good_kind}
use Rattle.frame.specs.Encode.{observation_bytes, signed_bytes, signer_bytes, flat, head_bytes, counted_bytes, attested_bytes, body_bytes}
use Rattle.frame.specs.Decode.{entries, observation_at, signer_at, epoch_in, round_in, value_in, observe_signature, report_signature, count_in, list_place, list_end, signer_count_in, observations_in, signers_in, signed_in, attested_in, message_of}
use Rattle.frame.specs.Range.{good_epoch, good_round, good_entries, good_observations, good_attested, good_message}
use Rattle.frame.specs.Claims.{WritableAttested, Writable, Each}
use Rattle.frame.proofs.Ranges.{one_to, kind_cases, good_head_facts, good_entries_facts, good_attested_facts}
use Rattle.frame.proofs.Entries.{Entry, length_entries, length_flat, entries_flat, flat_entries, entries_good, bytes_part, length_part, part_last, part_number, part_value, part_signature, take_signature, observation_entry, signed_entry, signer_entry}

-- ---- the head: an epoch, and mostly a round behind it

pub epoch_back : (e : ℕ) (rest : List ℕ) → e ≤ last_epoch → epoch_in (be_bytes 4 e ++ rest) ≡ e
unfolding be_bytes
epoch_back e rest h = be_number_be_bytes 4 e (omega arith)

pub head_forth : (b : List ℕ) → Bytes b → 5 ≤ length b → head_bytes (epoch_in b) (round_in b) ++ drop 5 b ≡ b
unfolding head_bytes
head_forth b h l = rw (part_number b 0 4 h (omega arith), append_assoc) (sym (split_at b 4 0 (omega arith)))

-- ---- a counted list at a place

-- at the place stands the count of xs, then come its entries, and then the rest
pub record CountedAt {A : Type 0} (says : List ℕ → A) (stride : ℕ) (b : List ℕ) (at : ℕ) (xs : List A) (rest : List ℕ) : Type 0 where
  pub count : get_or b at 0 ≡ length xs
  pub list : entries says stride (get_or b at 0) (drop (at + 1) b) ≡ xs
  pub behind : drop (at + 1 + stride * get_or b at 0) b ≡ rest

module _ {A : Type 0} {bytes : A → List ℕ} {says : List ℕ → A} {stride : ℕ} {Good : A → Type 0} (law : Entry bytes says stride Good) where
  pub length_counted : (xs : List A) → Each Good xs → length (counted_bytes bytes xs) ≡ 1 + stride * length xs
  unfolding counted_bytes
  length_counted xs h = omega (arith, length_flat law xs h)

  pub counted_back : (b front : List ℕ) (xs : List A) (rest : List ℕ) (at : ℕ) → b ≡ front ++ (counted_bytes bytes xs ++ rest) → length front ≡ at → Each Good xs → CountedAt says stride b at xs rest
  unfolding counted_bytes
  counted_back b front xs rest at e l h =
      let t = flat bytes xs ++ rest in
      let count : get_or b at 0 ≡ length xs = rw e (get_or_at front (length xs) t 0 at l) in
      let after : drop (at + 1) b ≡ t = sym (drop-drop 1 at b) ∙ rw e (ap (drop 1) (drop_at front (length xs ∷ t) at l)) in
      record {
        count = count;
        list = rw (count, after) (entries_flat law xs rest h);
        behind = rw (count, ← drop-drop (stride * length xs) (at + 1) b, after) (drop_at (flat bytes xs) rest (stride * length xs) (length_flat law xs h));
      }

  pub counted_forth : (b : List ℕ) (at : ℕ) → Bytes b → at + 1 + stride * get_or b at 0 ≤ length b → counted_bytes bytes (entries says stride (get_or b at 0) (drop (at + 1) b)) ++ drop (at + 1 + stride * get_or b at 0) b ≡ drop at b
  unfolding counted_bytes
  counted_forth b at h l =
      let m = get_or b at 0 in
      let t = drop (at + 1) b in
      let k : suc at ≡ at + 1 = omega arith in
      let within : stride * m ≤ length t = simp length-drop (omega arith) in
      rw (length_entries says stride m t, flat_entries law m t (bytes_drop (at + 1) b h) within, ← drop-drop (stride * m) (at + 1) b)
      (ap (λ (r : List ℕ). m ∷ r) (take-append-drop (stride * m) t) ∙ sym (drop-cons b at 0 (omega arith) ∙ ap (λ (n : ℕ). m ∷ drop n b) k))

-- ---- what FINAL and FINAL-ECHO carry

length_head : (e r : ℕ) → length (head_bytes e r) ≡ 5
unfolding head_bytes be_bytes
length_head e r = refl

-- an attested list at the start of a list of bytes
module _ (a : Attested) (w : WritableAttested a) where
  pub length_attested : length (attested_bytes a) ≡ body_length 6 (length a.list) (length a.signers)
  unfolding attested_bytes body_length
  length_attested =
      simp (length-append, length_head, length_counted observation_entry a.list w.values, length_counted signer_entry a.signers w.signatures)
      (omega arith)

  module _ (rest : List ℕ) where
    pub list_at : CountedAt observation_at (shape_of 6).entry (attested_bytes a ++ rest) 5 a.list (counted_bytes signer_bytes a.signers ++ rest)
    unfolding attested_bytes
    list_at =
        let head = head_bytes a.epoch a.round in
        counted_back observation_entry (attested_bytes a ++ rest) head a.list (counted_bytes signer_bytes a.signers ++ rest) 5 (simp append_assoc) (length_head a.epoch a.round) w.values

    pub signers_at : CountedAt signer_at (shape_of 6).signer (attested_bytes a ++ rest) (list_end (attested_bytes a ++ rest)) a.signers rest
    unfolding attested_bytes
    signers_at =
        let b = attested_bytes a ++ rest in
        let front = head_bytes a.epoch a.round ++ counted_bytes observation_bytes a.list in
        let place : length front ≡ list_end b = simp (length-append, length_head, length_counted observation_entry a.list w.values, list_at.count) (omega arith) in
        counted_back signer_entry b front a.signers rest (list_end b) (simp append_assoc) place w.signatures

    -- it is read from the front, whatever stands behind it
    pub attested_front : a.epoch ≤ last_epoch → attested_in (attested_bytes a ++ rest) ≡ a
    unfolding attested_bytes head_bytes be_bytes
    attested_front h =
        let b = attested_bytes a ++ rest in
        ap (λ (e : ℕ). record { epoch = e; round = round_in b; list = observations_in (shape_of 6).entry b; signers = signers_in b }) (epoch_back a.epoch (drop 4 b) h)
        ∙ ap₂ (λ (xs : List Observation) (ss : List Signer). record { epoch = a.epoch; round = a.round; list = xs; signers = ss }) list_at.list signers_at.list

pub attested_forth : (b : List ℕ) → Bytes b → body_length 6 (count_in b) (signer_count_in b) ≤ length b → attested_bytes (attested_in b) ++ drop (body_length 6 (count_in b) (signer_count_in b)) b ≡ b
unfolding attested_bytes body_length
attested_forth b h l =
    let place : body_length 6 (count_in b) (signer_count_in b) ≡ list_end b + 1 + (shape_of 6).signer * signer_count_in b = omega arith in
    rw (append_assoc, append_assoc, place, counted_forth signer_entry b (list_end b) h (omega arith), counted_forth observation_entry b 5 h (omega arith))
    (head_forth b h (omega arith))

-- nothing stands behind the end of a list
ends : (x y b : List ℕ) (k : ℕ) → x ++ drop k b ≡ y → length b ≤ k → x ≡ y
ends x y b k e h = sym (append-nil x) ∙ ap (λ (r : List ℕ). x ++ r) (sym (drop_of_length-le b h)) ∙ e

pub final_forth : (b : List ℕ) → Bytes b → length b ≡ body_length 6 (count_in b) (signer_count_in b) → attested_bytes (attested_in b) ≡ b
final_forth b h l =
    let k = body_length 6 (count_in b) (signer_count_in b) in
    ends (attested_bytes (attested_in b)) b b k (attested_forth b h (omega arith)) (omega arith)

pub attested_good : (b : List ℕ) → Bytes b → body_length 6 (count_in b) (signer_count_in b) ≤ length b → WritableAttested (attested_in b)
unfolding body_length
attested_good b h l =
    record {
      values = entries_good observation_entry (count_in b) (drop list_place b) (bytes_drop list_place b h) (simp length-drop (omega arith));
      signatures = entries_good signer_entry (signer_count_in b) (drop (list_end b + 1) b) (bytes_drop (list_end b + 1) b h) (simp length-drop (omega arith));
    }

-- ---- bodies

-- what holds of the body that is written for a message
pub record Body (m : Message) : Type 0 where
  pub long : length (body_bytes m) ≡ body_length (kind_of m) (count_in (body_bytes m)) (signer_count_in (body_bytes m))
  pub fits : length (body_bytes m) < 2 ^ 32
  pub says : message_of (kind_of m) (body_bytes m) ≡ m

final_body : (n : ℕ) (a : Attested) → n < 256 → good_attested n a ≡ true → WritableAttested a → Body (final a)
unfolding body_bytes body_length message_of
final_body n a k h w =
    let g = good_attested_facts n a h in
    let m : count_in (attested_bytes a) ≡ length a.list = rw append-nil at (list_at a w []).count in
    let s : signer_count_in (attested_bytes a) ≡ length a.signers = rw append-nil at (signers_at a w []).count in
    let long = length_attested a w in
    record {
      long = omega arith;
      fits = omega arith;
      says = ap final (rw append-nil at (attested_front a w [] g.head.epoch.most));
    }

pub body_back : (n : ℕ) (m : Message) → n < 256 → good_message n m ≡ true → Writable m → Body m
unfolding body_bytes body_length message_of head_bytes be_bytes
body_back n (new_epoch e) k h w =
    record { long = omega arith; fits = omega arith; says = ap new_epoch (epoch_back e [] (one_to last_epoch e h).most) }
body_back n (observe_req e r) k h w =
    record { long = omega arith; fits = omega arith; says = ap (λ (x : ℕ). observe_req x r) (epoch_back e (r ∷ []) (good_head_facts e r h).epoch.most) }
body_back n (observe e r v g) k h w =
    let b = body_bytes (observe e r v g) in
    record {
      long = omega (arith, w.1.long);
      fits = omega (arith, w.1.long);
      says =
          ap (λ (x : ℕ). observe x r (value_in b) (observe_signature b)) (epoch_back e (drop 4 b) (good_head_facts e r h).epoch.most)
          ∙ ap₂ (λ (x : ℤ) (s : List ℕ). observe e r x s) (signed_is_read v w.0) (take_signature g w.1);
    }
body_back n (report_req e r xs) k h w =
    let p = and-true (good_epoch e && good_round r) (good_entries n (λ (x : Signed). x.said.member) xs) h in
    let b = body_bytes (report_req e r xs) in
    let at = counted_back signed_entry b (head_bytes e r) xs [] 5 (simp append-nil) refl w in
    let long = length_counted signed_entry xs w in
    let most = good_entries_facts n (λ (x : Signed). x.said.member) xs p.1 in
    record {
      long = omega (arith, at.count);
      fits = omega arith;
      says = ap₂ (λ (x : ℕ) (l : List Signed). report_req x r l) (epoch_back e (drop 4 b) (good_head_facts e r p.0).epoch.most) at.list;
    }
body_back n (report e r xs g) k h w =
    let p = and-true (good_epoch e && good_round r) (good_observations n xs) h in
    let b = body_bytes (report e r xs g) in
    let at = counted_back observation_entry b (head_bytes e r) xs g 5 refl refl w.0 in
    let long = length-append (counted_bytes observation_bytes xs) g in
    let counted = length_counted observation_entry xs w.0 in
    let most = good_entries_facts n (λ (o : Observation). o.member) xs p.1 in
    record {
      long = omega (arith, at.count, w.1.long);
      fits = omega (arith, w.1.long);
      says =
          ap (λ (x : ℕ). report x r (observations_in (shape_of 5).entry b) (report_signature b)) (epoch_back e (drop 4 b) (good_head_facts e r p.0).epoch.most)
          ∙ ap₂ (λ (l : List Observation) (s : List ℕ). report e r l s) at.list (ap (take signature_size) at.behind ∙ take_signature g w.1);
    }
body_back n (final a) k h w = final_body n a k h w
body_back n (final_echo a) k h w =
    let f = final_body n a k h w in
    let same : attested_in (attested_bytes a) ≡ a = cc f.says in
    record { long = f.long; fits = f.fits; says = ap final_echo same }

-- what holds of a body of its kind's length
pub record Said (kind : ℕ) (b : List ℕ) : Type 0 where
  pub bytes : body_bytes (message_of kind b) ≡ b
  pub same : kind_of (message_of kind b) ≡ kind
  pub writable : Writable (message_of kind b)

abbrev Forth : ℕ → Type 0
Forth kind = (b : List ℕ) → Bytes b → length b ≡ body_length kind (count_in b) (signer_count_in b) → Said kind b

new_epoch_forth : Forth 1
unfolding body_bytes body_length message_of
new_epoch_forth b h l = record { bytes = part_number b 0 4 h (omega arith) ∙ take_all 4 b (omega arith); same = refl; writable = tt }

observe_req_forth : Forth 2
unfolding body_bytes body_length message_of
observe_req_forth b h l =
    record {
      bytes = ends (head_bytes (epoch_in b) (round_in b)) b b 5 (head_forth b h (omega arith)) (omega arith);
      same = refl;
      writable = tt;
    }

observe_forth : Forth 3
unfolding body_bytes body_length message_of
observe_forth b h l =
    let value = signed_is_written (part b 5 8) (bytes_part b 5 8 h) (length_part b 5 8 (omega arith)) in
    let rest : observe_signature b ≡ drop 8 (drop 5 b) = part_last b 13 signature_size (omega arith) ∙ sym (drop-drop 8 5 b) in
    record {
      bytes = rw (value, rest, take-append-drop) (head_forth b h (omega arith));
      same = refl;
      writable = (part_value b 5 h (omega arith), part_signature b 13 h (omega arith));
    }

report_req_forth : Forth 4
unfolding body_bytes body_length message_of
report_req_forth b h l =
    let list = ends (counted_bytes signed_bytes (signed_in b)) (drop 5 b) b (list_place + (shape_of 4).entry * count_in b) (counted_forth signed_entry b 5 h (omega arith)) (omega arith) in
    record {
      bytes = rw list (head_forth b h (omega arith));
      same = refl;
      writable = entries_good signed_entry (count_in b) (drop list_place b) (bytes_drop list_place b h) (simp length-drop (omega arith));
    }

report_forth : Forth 5
unfolding body_bytes body_length message_of
report_forth b h l =
    let rest : report_signature b ≡ drop (list_end b) b = part_last b (list_end b) signature_size (omega arith) in
    record {
      bytes = rw (rest, counted_forth observation_entry b 5 h (omega arith)) (head_forth b h (omega arith));
      same = refl;
      writable = (entries_good observation_entry (count_in b) (drop list_place b) (bytes_drop list_place b h) (simp length-drop (omega arith)), part_signature b (list_end b) h (omega arith));
    }

-- FINAL and FINAL-ECHO differ in their kind alone
attested_said : (b : List ℕ) → Bytes b → length b ≡ body_length 6 (count_in b) (signer_count_in b) → Said 6 b × Said 7 b
unfolding body_bytes message_of
attested_said b h l =
    let good = attested_good b h (omega arith) in
    let bytes = final_forth b h l in
    (record { bytes = bytes; same = refl; writable = good }, record { bytes = bytes; same = refl; writable = good })

pub body_forth : (kind : ℕ) → good_kind kind ≡ true → Forth kind
unfolding body_length
body_forth =
    kind_cases Forth new_epoch_forth observe_req_forth observe_forth report_req_forth report_forth (λ b h l. (attested_said b h l).0) (λ b h l. (attested_said b h l).1)
