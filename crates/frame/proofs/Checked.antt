-- What a body that passed LENGTH and RANGE tells whoever reads on, kind by kind, as plain facts that `omega` reads.
use mathlib.Core.Bool.{true, ◌&&◌}
use mathlib.Core.List.{List, map}
use mathlib.Core.Path.{◌≡◌, refl, sym, ap, ◌∙◌}
use Prim.Native.Nat.{ℕ, ◌+◌, ◌*◌, ◌≤◌, ◌<◌}
use native.Mathlib.Nat.{le_trans}
use native.Mathlib.Omega.{arith}
use borrow.Author.Tests.{eqb-true, le-leb}
use lib.ListN.{length, get_or, drop}
use Rattle.config.specs.Limits.{members, kept_size, signature_size, last_epoch}
use Rattle.config.specs.Answers.{Done}
use Rattle.config.proofs.Facts.{and-true}
use Rattle.frame.specs.Message.{Observation, Signed, no_observation, no_signer}
use Rattle.frame.specs.Table.{shape_of, body_length}
use Rattle.frame.specs.Decode.{epoch_in, round_in, count_in, list_place, list_end, signer_count_in, observation_at, signed_at, signer_at, observations_in, signed_in, signers_in, attested_in, message_of, ListIn, SignersIn, Readable}
use Rattle.frame.specs.Range.{good_epoch, good_round, good_entries, good_observations, good_attested, good_message}
use Rattle.frame.specs.Check.{body_answer}
use Rattle.frame.proofs.Ranges.{OneTo, one_to, kind_cases, GoodHead, good_head_facts, GoodEntries, good_entries_facts, good_entries_map, good_attested_facts}
use Rattle.frame.proofs.Entries.{length_entries, map_entries}
use Rattle.frame.proofs.Readable.{final_fits, readable_exact}
use Rattle.frame.proofs.Framed.{passed_body}

-- ---- any body

module _ (n kind : ℕ) (b : List ℕ) (e : body_answer n kind b ≡ Done) where
  pub checked_length : length b ≡ body_length kind (count_in b) (signer_count_in b)
  checked_length = eqb-true _ _ (passed_body n kind b e).0

  pub checked_range : good_message n (message_of kind b) ≡ true
  checked_range = (passed_body n kind b e).1

-- ---- heads

pub record CheckedEpoch (b : List ℕ) : Type 0 where
  pub long : 4 ≤ length b
  pub epoch : OneTo last_epoch (epoch_in b)

pub checked_newepoch : (n : ℕ) (b : List ℕ) → body_answer n 1 b ≡ Done → CheckedEpoch b
unfolding body_length message_of
checked_newepoch n b e =
    let long = checked_length n 1 b e in
    record { long = omega arith; epoch = one_to last_epoch (epoch_in b) (checked_range n 1 b e) }

pub record CheckedHead (b : List ℕ) : Type 0 where
  pub long : 5 ≤ length b
  pub range : GoodHead (epoch_in b) (round_in b)

headed : (b : List ℕ) → 5 ≤ length b → good_epoch (epoch_in b) && good_round (round_in b) ≡ true → CheckedHead b
headed b long h = record { long = long; range = good_head_facts (epoch_in b) (round_in b) h }

-- every kind but NEWEPOCH begins with an epoch and a round
pub checked_head : (n kind : ℕ) (b : List ℕ) → 2 ≤ kind → kind ≤ 7 → body_answer n kind b ≡ Done → CheckedHead b
unfolding body_length message_of
checked_head n kind b low high e =
    let tests = good_epoch (epoch_in b) && good_round (round_in b) in
    kind_cases
    (λ (k : ℕ). 2 ≤ k → length b ≡ body_length k (count_in b) (signer_count_in b) → good_message n (message_of k b) ≡ true → CheckedHead b)
    (λ l e h. absurd (omega arith))
    (λ l e h. headed b (omega arith) h)
    (λ l e h. headed b (omega arith) h)
    (λ l e h. headed b (omega arith) (and-true tests (good_entries n (λ (x : Signed). x.said.member) (signed_in b)) h).0)
    (λ l e h. headed b (omega arith) (and-true tests (good_observations n (observations_in (shape_of 5).entry b)) h).0)
    (λ l e h. record { long = omega arith; range = (good_attested_facts n (attested_in b) h).head })
    (λ l e h. record { long = omega arith; range = (good_attested_facts n (attested_in b) h).head })
    kind
    (rw (le-leb 1 kind (omega arith), le-leb kind 7 high))
    low
    (checked_length n kind b e)
    (checked_range n kind b e)

-- ---- OBSERVE

pub record CheckedObserve (b : List ℕ) : Type 0 where
  pub head : CheckedHead b
  pub long : length b ≡ 13 + signature_size
  pub whole : length b ≡ body_length 3 0 0

pub checked_observe : (n : ℕ) (b : List ℕ) → body_answer n 3 b ≡ Done → CheckedObserve b
unfolding body_length
checked_observe n b e =
    let long = checked_length n 3 b e in
    record { head = checked_head n 3 b (omega arith) (omega arith) e; long = omega arith; whole = omega arith }

-- ---- lists

-- the observations of a REPORT-REQ, without their signatures
pub said_in : (b : List ℕ) → map (λ (x : Signed). x.said) (signed_in b) ≡ observations_in (shape_of 4).entry b
said_in b = map_entries (λ (x : Signed). x.said) signed_at observation_at (λ e. refl) (shape_of 4).entry (count_in b) (drop list_place b)

-- of a signed observation no more is tested than of a bare one
pub good_said : (n : ℕ) (b : List ℕ) → good_observations n (observations_in (shape_of 4).entry b) ≡ good_entries n (λ (x : Signed). x.said.member) (signed_in b)
good_said n b = ap (good_observations n) (sym (said_in b)) ∙ good_entries_map n (λ (o : Observation). o.member) (λ (x : Signed). x.said) (signed_in b)

pub record CheckedList (n stride : ℕ) (b : List ℕ) : Type 0 where
  pub count : OneTo n (count_in b)
  pub within : list_place + count_in b * stride ≤ length b
  pub each : (i : ℕ) → i < count_in b → OneTo n (get_or (observations_in stride b) i no_observation).member
  -- what reading entry i asks for
  pub entry : (i : ℕ) → i < count_in b → ListIn stride i b

listed : (n stride : ℕ) (b : List ℕ) → (shape_of 6).entry ≤ stride → list_place + count_in b * stride ≤ length b → GoodEntries n (λ (o : Observation). o.member) (observations_in stride b) → CheckedList n stride b
listed n stride b w l f =
    let long = length_entries observation_at stride (count_in b) (drop list_place b) in
    record {
      count = rw long at f.count;
      within = l;
      each = λ i k. f.each i no_observation (omega arith);
      entry = λ i k. record { wide = w; known = k; within = l };
    }

pub record CheckedReportReq (n : ℕ) (b : List ℕ) : Type 0 where
  pub head : CheckedHead b
  pub list : CheckedList n (shape_of 4).entry b

pub checked_report_req : (n : ℕ) (b : List ℕ) → body_answer n 4 b ≡ Done → CheckedReportReq n b
unfolding body_length message_of
checked_report_req n b e =
    let long = checked_length n 4 b e in
    let good = (and-true (good_epoch (epoch_in b) && good_round (round_in b)) (good_entries n (λ (x : Signed). x.said.member) (signed_in b)) (checked_range n 4 b e)).1 in
    record {
      head = checked_head n 4 b (omega arith) (omega arith) e;
      list = listed n (shape_of 4).entry b (omega arith) (omega arith) (good_entries_facts n (λ (o : Observation). o.member) (observations_in (shape_of 4).entry b) (good_said n b ∙ good));
    }

pub record CheckedReport (n : ℕ) (b : List ℕ) : Type 0 where
  pub head : CheckedHead b
  pub list : CheckedList n (shape_of 5).entry b
  pub whole : length b ≡ body_length 5 (count_in b) 0

pub checked_report : (n : ℕ) (b : List ℕ) → body_answer n 5 b ≡ Done → CheckedReport n b
unfolding body_length message_of
checked_report n b e =
    let long = checked_length n 5 b e in
    let good = (and-true (good_epoch (epoch_in b) && good_round (round_in b)) (good_observations n (observations_in (shape_of 5).entry b)) (checked_range n 5 b e)).1 in
    record {
      head = checked_head n 5 b (omega arith) (omega arith) e;
      list = listed n (shape_of 5).entry b (omega arith) (omega arith) (good_entries_facts n (λ (o : Observation). o.member) (observations_in (shape_of 5).entry b) good);
      whole = omega arith;
    }

-- ---- FINAL and FINAL-ECHO

pub record CheckedFinal (n : ℕ) (b : List ℕ) : Type 0 where
  pub head : CheckedHead b
  pub list : CheckedList n (shape_of 6).entry b
  pub signers : OneTo n (signer_count_in b)
  pub each : (i : ℕ) → i < signer_count_in b → OneTo n (get_or (signers_in b) i no_signer).member
  -- what reading signer i asks for
  pub signer : (i : ℕ) → i < signer_count_in b → SignersIn i b
  pub behind : list_end b < length b
  pub whole : body_length 6 (count_in b) (signer_count_in b) ≡ length b
  pub readable : Readable n b
  pub good : good_attested n (attested_in b) ≡ true

pub checked_final : (n : ℕ) (b : List ℕ) → body_answer n 6 b ≡ Done → CheckedFinal n b
unfolding body_length message_of
checked_final n b e =
    let long = checked_length n 6 b e in
    let good = checked_range n 6 b e in
    let f = good_attested_facts n (attested_in b) good in
    let many = length_entries signer_at (shape_of 6).signer (signer_count_in b) (drop (list_end b + 1) b) in
    record {
      head = checked_head n 6 b (omega arith) (omega arith) e;
      list = listed n (shape_of 6).entry b (omega arith) (omega arith) f.list;
      signers = rw many at f.signers.count;
      each = λ i k. f.signers.each i no_signer (omega arith);
      signer = λ i k. record { known = k; within = omega arith };
      behind = omega arith;
      whole = sym long;
      readable = readable_exact n b long;
      good = good;
    }

-- a FINAL-ECHO differs in its kind alone
pub checked_final_echo : (n : ℕ) (b : List ℕ) → body_answer n 7 b ≡ Done → CheckedFinal n b
unfolding body_answer body_length message_of
checked_final_echo n b e = checked_final n b e

-- it fits a kept buffer
pub checked_fits : (n : ℕ) (b : List ℕ) → n ≤ members → CheckedFinal n b → length b ≤ kept_size
checked_fits n b h f =
    omega (arith, f.whole, final_fits (count_in b) (signer_count_in b) (le_trans f.list.count.most h) (le_trans f.signers.most h))
