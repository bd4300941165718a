-- What it tells that a number, a list or an attested list is in range, as plain facts that `omega` reads.
use mathlib.Core.Bool.{true, ◌&&◌, false≢true}
use mathlib.Core.List.{List, [], ◌∷◌, map}
use mathlib.Core.Path.{◌≡◌, refl, ap, ap₂}
use Prim.Native.Nat.{ℕ, zero, suc, ◌≤◌, ◌<◌}
use native.Mathlib.Nat.{not-suc-le-zero, le_of_suc-le-suc}
use native.Mathlib.Omega.{arith}
use borrow.Author.Tests.{leb-true}
use lib.Dec.{leb}
use lib.ListN.{length, get_or, length-map}
use Rattle.config.specs.Limits.{last_epoch, last_round}
use Rattle.config.proofs.Facts.{and-true}
use Rattle.frame.specs.Message.{Observation, Signer, Attested}
use Rattle.frame.specs.Table.{good_kind}
use Rattle.frame.specs.Range.{one_to_n, all_members, good_entries, good_epoch, good_round, good_observations, good_signers, good_attested}

pub record OneTo (n x : ℕ) : Type 0 where
  pub least : 1 ≤ x
  pub most : x ≤ n

-- epochs and rounds are tested by it too, with their own last number for n
pub one_to : (n x : ℕ) → one_to_n n x ≡ true → OneTo n x
one_to n x h =
    let p = and-true (leb 1 x) (leb x n) h in
    record { least = leb-true 1 x p.0; most = leb-true x n p.1 }

-- ---- kinds

-- What holds of the seven kinds holds of every number that is a kind.
pub kind_cases : (P : ℕ → Type 0) → P 1 → P 2 → P 3 → P 4 → P 5 → P 6 → P 7 → (kind : ℕ) → good_kind kind ≡ true → P kind
kind_cases P p q r s t u v zero k = absurd (false≢true k)
kind_cases P p q r s t u v (suc zero) k = p
kind_cases P p q r s t u v (suc (suc zero)) k = q
kind_cases P p q r s t u v (suc (suc (suc zero))) k = r
kind_cases P p q r s t u v (suc (suc (suc (suc zero)))) k = s
kind_cases P p q r s t u v (suc (suc (suc (suc (suc zero))))) k = t
kind_cases P p q r s t u v (suc (suc (suc (suc (suc (suc zero)))))) k = u
kind_cases P p q r s t u v (suc (suc (suc (suc (suc (suc (suc zero))))))) k = v
kind_cases P p q r s t u v (suc (suc (suc (suc (suc (suc (suc (suc kind)))))))) k = absurd (omega (arith, (one_to 7 (suc (suc (suc (suc (suc (suc (suc (suc kind)))))))) k).most))

-- ---- heads

pub record GoodHead (e r : ℕ) : Type 0 where
  pub epoch : OneTo last_epoch e
  pub round : OneTo last_round r

pub good_head_facts : (e r : ℕ) → good_epoch e && good_round r ≡ true → GoodHead e r
good_head_facts e r h =
    let p = and-true (good_epoch e) (good_round r) h in
    record { epoch = one_to last_epoch e p.0; round = one_to last_round r p.1 }

-- ---- lists

module _ {A : Type 0} (n : ℕ) (member : A → ℕ) where
  pub members_each : (l : List A) → all_members n member l ≡ true → (i : ℕ) (none : A) → i < length l → OneTo n (member (get_or l i none))
  unfolding all_members
  members_each [] h i none k = absurd (not-suc-le-zero k)
  members_each (a ∷ l) h zero none k = one_to n (member a) (and-true (one_to_n n (member a)) (all_members n member l) h).0
  members_each (a ∷ l) h (suc i) none k = members_each l (and-true (one_to_n n (member a)) (all_members n member l) h).1 i none (le_of_suc-le-suc k)

  pub entries_members : (l : List A) → good_entries n member l ≡ true → all_members n member l ≡ true
  entries_members l h = (and-true (one_to_n n (length l)) (all_members n member l) h).1

  pub record GoodEntries (l : List A) : Type 0 where
    pub count : OneTo n (length l)
    pub each : (i : ℕ) (none : A) → i < length l → OneTo n (member (get_or l i none))

  pub good_entries_facts : (l : List A) → good_entries n member l ≡ true → GoodEntries l
  good_entries_facts l h =
      let p = and-true (one_to_n n (length l)) (all_members n member l) h in
      record { count = one_to n (length l) p.0; each = members_each l p.1 }

  -- only an entry's member is tested
  pub members_map : {B : Type 0} (f : B → A) (l : List B) → all_members n member (map f l) ≡ all_members n (λ (b : B). member (f b)) l
  unfolding all_members
  members_map f [] = refl
  members_map f (b ∷ l) = ap (λ rest. one_to_n n (member (f b)) && rest) (members_map f l)

  pub good_entries_map : {B : Type 0} (f : B → A) (l : List B) → good_entries n member (map f l) ≡ good_entries n (λ (b : B). member (f b)) l
  good_entries_map f l = ap₂ ◌&&◌ (ap (one_to_n n) (length-map l f)) (members_map f l)

-- ---- what FINAL and FINAL-ECHO carry

pub record GoodAttested (n : ℕ) (a : Attested) : Type 0 where
  pub head : GoodHead a.epoch a.round
  pub list : GoodEntries n (λ (o : Observation). o.member) a.list
  pub signers : GoodEntries n (λ (x : Signer). x.member) a.signers

-- its three parts, as they are tested
pub attested_parts : (n : ℕ) (a : Attested) → good_attested n a ≡ true → (good_epoch a.epoch && good_round a.round ≡ true) × (good_observations n a.list ≡ true) × (good_signers n a.signers ≡ true)
attested_parts n a h =
    let p = and-true (good_epoch a.epoch && good_round a.round && good_observations n a.list) (good_signers n a.signers) h in
    let q = and-true (good_epoch a.epoch && good_round a.round) (good_observations n a.list) p.0 in
    (q.0, q.1, p.1)

pub good_attested_facts : (n : ℕ) (a : Attested) → good_attested n a ≡ true → GoodAttested n a
good_attested_facts n a h =
    let (head, list, signers) = attested_parts n a h in
    record {
      head = good_head_facts a.epoch a.round head;
      list = good_entries_facts n (λ (o : Observation). o.member) a.list list;
      signers = good_entries_facts n (λ (x : Signer). x.member) a.signers signers;
    }
