-- A FINAL body is read from the front: bytes that agree as far as it goes say the same report, and the part that holds it says that report. Other crates cite it.
use mathlib.Core.Path.{◌≡◌, refl, sym, ap, ap₂, ◌∙◌}
use mathlib.Core.Bool.{Bool, true, not, cond}
use mathlib.Core.List.{List, [], ◌∷◌, ◌++◌, append-nil}
use Prim.Native.Nat.{ℕ, ◌+◌, ◌*◌, ◌≤◌, ◌<◌}
use native.Mathlib.Nat.{le_refl}
use native.Mathlib.Omega.{arith}
use borrow.Author.Tests.{eq-eqb}
use lib.ListN.{length, get_or, take, drop, length-append}
use lib.Seq.{length-take-le, take-length, take-take, take_at}
use Rattle.config.specs.Limits.{members, kept_size}
use Rattle.config.specs.Answers.{Done, Length, Range}
use Rattle.wire.specs.Numbers.{part, be_number}
use Rattle.frame.specs.Message.{Attested}
use Rattle.frame.specs.Table.{shape_of, body_length}
use Rattle.frame.specs.Encode.{attested_bytes}
use Rattle.frame.specs.Decode.{entries, observation_at, signer_at, count_in, list_place, list_end, signer_count_in, attested_in, message_of}
use Rattle.frame.specs.Range.{good_attested}
use Rattle.frame.specs.Check.{body_answer}
use Rattle.frame.proofs.Ranges.{good_attested_facts}
use Rattle.frame.proofs.Entries.{length_entries}
use Rattle.frame.proofs.Readable.{final_fits}
use Rattle.frame.proofs.RoundTrip.{length_attested, list_at, signers_at, attested_front}
use Rattle.frame.proofs.Fronts.{byte_same, part_same, entries_same, Stands}
use Rattle.report.specs.Whole.{final_length, part_of, report_of}
use Rattle.report.proofs.Whole.{part_within, part_none}

-- ---- bytes that agree so far

-- two lists whose first n bytes are the same, and hold a body
module _ (b c : List ℕ) (n : ℕ) (same : take n b ≡ take n c) (h : final_length b ≤ n) where
  count_same : count_in b ≡ count_in c
  unfolding body_length
  count_same = byte_same b c n same 5 (omega arith)

  end_same : list_end b ≡ list_end c
  end_same = ap (λ (m : ℕ). list_place + (shape_of 6).entry * m) count_same

  signer_count_same : signer_count_in b ≡ signer_count_in c
  unfolding body_length
  signer_count_same = byte_same b c n same (list_end b) (omega arith) ∙ ap (λ (at : ℕ). get_or c at 0) end_same

  final_length_same : final_length b ≡ final_length c
  final_length_same = ap₂ (body_length 6) count_same signer_count_same

  attested_same : attested_in b ≡ attested_in c
  unfolding body_length
  attested_same =
      let list = entries_same b c n same observation_at (shape_of 6).entry (count_in b) list_place (omega arith) ∙ ap (λ (m : ℕ). entries observation_at (shape_of 6).entry m (drop list_place c)) count_same in
      let signers = entries_same b c n same signer_at (shape_of 6).signer (signer_count_in b) (list_end b + 1) (omega arith) ∙ ap₂ (λ (m at : ℕ). entries signer_at (shape_of 6).signer m (drop (at + 1) c)) signer_count_same end_same in
      λ i. record { epoch = be_number (part_same b c n same 0 4 (omega arith) i); round = byte_same b c n same 4 (omega arith) i; list = list i; signers = signers i }

-- what stands behind a body, and what is cut off behind it, does not matter
pub attested_append : (b rest : List ℕ) → final_length b ≤ length b → attested_in (b ++ rest) ≡ attested_in b
attested_append b rest h = sym (attested_same b (b ++ rest) (length b) (take-length b ∙ sym (take_at b rest (length b) refl)) h)

module _ (b : List ℕ) where
  front_same : take (final_length b) b ≡ take (final_length b) (take (final_length b) b)
  front_same = sym (take-take (final_length b) (final_length b) b (le_refl _))

  pub attested_take : attested_in (take (final_length b) b) ≡ attested_in b
  attested_take = sym (attested_same b (take (final_length b) b) (final_length b) front_same (le_refl _))

  -- so the front of bytes that say a report in range is a body in range
  pub body_take : (n : ℕ) → final_length b ≤ length b → good_attested n (attested_in b) ≡ true → body_answer n 6 (take (final_length b) b) ≡ Done
  unfolding body_answer message_of
  body_take n long good =
      let whole = length-take-le (final_length b) b long ∙ final_length_same b (take (final_length b) b) (final_length b) front_same (le_refl _) in
      ap₂ (λ (p q : Bool). cond (not p) Length (cond (not q) Range Done)) (eq-eqb _ _ whole) (ap (good_attested n) attested_take ∙ good)

-- a report in range is short enough to be kept
pub good_short : (n : ℕ) (b : List ℕ) → n ≤ members → good_attested n (attested_in b) ≡ true → final_length b ≤ kept_size
good_short n b h good =
    let f = good_attested_facts n (attested_in b) good in
    let list = length_entries observation_at (shape_of 6).entry (count_in b) (drop list_place b) in
    let signers = length_entries signer_at (shape_of 6).signer (signer_count_in b) (drop (list_end b + 1) b) in
    final_fits (count_in b) (signer_count_in b) (omega (arith, f.list.count.most)) (omega (arith, f.signers.count.most))

-- ---- what a part says

-- one that is not empty says a report
pub report_some : (l : List ℕ) → 0 < length l → report_of l ≡ attested_in l ∷ []
report_some [] h = absurd (omega arith)
report_some (b ∷ l) h = refl

-- an empty one says nothing
pub none_handed : (b : List ℕ) → report_of (part_of b 0 0) ≡ []
none_handed b = ap report_of (part_none b)

-- a report whose body stands at the start of some bytes
module _ (n : ℕ) (a : Attested) (b : List ℕ) (s : Stands n a b) where
  pub stands_long : final_length b ≡ length (attested_bytes a)
  stands_long =
      ap final_length s.bytes
      ∙ ap₂ (body_length 6) (list_at a s.writable s.rest).count (signers_at a s.writable s.rest).count
      ∙ sym (length_attested a s.writable)

  -- the part that holds it, and what that says
  stands_part : part_of b 0 (length (attested_bytes a)) ≡ attested_bytes a
  stands_part =
      let long : length b ≡ length (attested_bytes a) + length s.rest = ap length s.bytes ∙ length-append (attested_bytes a) s.rest in
      part_within b 0 (length (attested_bytes a)) (omega arith)
      ∙ ap (λ (l : List ℕ). part l 0 (length (attested_bytes a))) s.bytes
      ∙ take_at (attested_bytes a) s.rest (length (attested_bytes a)) refl

  pub stands_handed : report_of (part_of b 0 (length (attested_bytes a))) ≡ a ∷ []
  unfolding body_length
  stands_handed =
      let w = s.writable in
      let says = rw append-nil at (attested_front a w [] (good_attested_facts n a s.good).head.epoch.most) in
      ap report_of stands_part ∙ report_some (attested_bytes a) (omega (arith, length_attested a w)) ∙ ap (λ (x : Attested). x ∷ []) says
