-- Document 01, "Numbers" and code 9: which messages are in range for a feed of n members.
use Rattle.std.specs.Prelude.{Bool, true, ◌&&◌, List, [], ◌∷◌, ℕ, leb, length}
use Rattle.config.specs.Limits.{last_epoch, last_round}
use Rattle.frame.specs.Message.{Observation, Signed, Signer, Attested, Message, new_epoch, observe_req, observe, report_req, report, final, final_echo}

-- "Epoch 1 to 4,294,967,295; 0 means none, in a state or commit only."
abbrev pub good_epoch : ℕ → Bool
good_epoch e = leb 1 e && leb e last_epoch

-- "Round 1 to 255; 0 likewise"
abbrev pub good_round : ℕ → Bool
good_round r = leb 1 r && leb r last_round

-- "numbered from 1" to n, and "m and s: 1 to n."
abbrev pub one_to_n : ℕ → ℕ → Bool
one_to_n n x = leb 1 x && leb x n

-- each entry's member is one of the n
unfoldable pub all_members : {A : Type 0} → ℕ → (A → ℕ) → List A → Bool
all_members n member [] = true
all_members n member (a ∷ l) = one_to_n n (member a) && all_members n member l

-- as many entries as a list may have, each of a member
abbrev pub good_entries : {A : Type 0} → ℕ → (A → ℕ) → List A → Bool
good_entries n member l = one_to_n n (length l) && all_members n member l

abbrev pub good_observations : ℕ → List Observation → Bool
good_observations n l = good_entries n (λ (o : Observation). o.member) l

abbrev pub good_signers : ℕ → List Signer → Bool
good_signers n l = good_entries n (λ (x : Signer). x.member) l

abbrev pub good_attested : ℕ → Attested → Bool
good_attested n a =
    good_epoch a.epoch && good_round a.round && good_observations n a.list && good_signers n a.signers

-- RANGE: "epoch, round, m, s, a member number .. outside its range"
abbrev pub good_message : ℕ → Message → Bool
good_message n (new_epoch e) = good_epoch e
good_message n (observe_req e r) = good_epoch e && good_round r
good_message n (observe e r v g) = good_epoch e && good_round r
good_message n (report_req e r xs) = good_epoch e && good_round r && good_entries n (λ (x : Signed). x.said.member) xs
good_message n (report e r xs g) = good_epoch e && good_round r && good_observations n xs
good_message n (final a) = good_attested n a
good_message n (final_echo a) = good_attested n a
