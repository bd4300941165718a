-- A message of each kind, by the number of the kind.
use mathlib.Core.Path.{◌≡◌, refl}
use mathlib.Core.List.{List}
use Prim.Native.Nat.{ℕ, ◌≤◌}
use borrow.Author.Tests.{le-leb}
use Rattle.frame.specs.Message.{Message, new_epoch, observe_req, observe, report_req, report, final, final_echo}
use Rattle.frame.specs.Table.{shape_of}
use Rattle.frame.specs.Decode.{epoch_in, round_in, value_in, observe_signature, observations_in, signed_in, report_signature, attested_in, message_of}
use Rattle.frame.proofs.Ranges.{kind_cases}

-- to show something of a body's message it is enough to show it of each kind that the body can have
pub by_kind : (P : Message → Type 0) (b : List ℕ) (kind : ℕ) → 1 ≤ kind → kind ≤ 7 → (kind ≡ 1 → P (new_epoch (epoch_in b))) → (kind ≡ 2 → P (observe_req (epoch_in b) (round_in b))) → (kind ≡ 3 → P (observe (epoch_in b) (round_in b) (value_in b) (observe_signature b))) → (kind ≡ 4 → P (report_req (epoch_in b) (round_in b) (signed_in b))) → (kind ≡ 5 → P (report (epoch_in b) (round_in b) (observations_in (shape_of 5).entry b) (report_signature b))) → (kind ≡ 6 → P (final (attested_in b))) → (kind ≡ 7 → P (final_echo (attested_in b))) → P (message_of kind b)
unfolding message_of
by_kind P b kind low high p₁ p₂ p₃ p₄ p₅ p₆ p₇ =
    kind_cases (λ (k : ℕ). kind ≡ k → P (message_of k b)) p₁ p₂ p₃ p₄ p₅ p₆ p₇ kind (rw (le-leb 1 kind low, le-leb kind 7 high)) refl
