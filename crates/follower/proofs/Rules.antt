-- What holds of each outcome of a rule holds of what it does; and a FINAL-ECHO marks its member, whichever outcome it has.
use mathlib.Core.Path.{◌≡◌, refl, sym}
use mathlib.Core.Bool.{true, false, cond, false≢true}
use mathlib.Core.List.{map}
use Prim.Native.Nat.{ℕ, ◌-◌}
use lib.Dec.{ltb}
use lib.IntN.{ℤ}
use Rattle.config.specs.declared.Config.{Config}
use Rattle.config.specs.declared.Commit.{Commit}
use Rattle.price.specs.Median.{median_of}
use Rattle.price.specs.Due.{should_report}
use Rattle.quorum.specs.Marks.{mark}
use Rattle.quorum.proofs.Cases.{either}
use Rattle.frame.specs.Message.{Signed, Message, new_epoch, observe_req, observe, report_req, report, final, final_echo}
use Rattle.report.specs.Stands.{values_of}
use Rattle.follower.specs.declared.Follower.{Follower}
use Rattle.follower.specs.declared.Followed.{Followed}
use Rattle.follower.specs.declared.Reply.TheVariants as reply
use Rattle.follower.specs.declared.Raised.TheVariants as raised
use Rattle.follower.specs.State.{is_set, in_round}
use Rattle.follower.specs.Rules.{followed, stays, requested, requests, now_signed, now_completed, asked, now_kept, now_marked, received, marked_by, echoed, follow_of}

-- ---- each rule

module _ (P : Followed → Type 0) (c : Config) (s : Follower) where
  pub requested_when : (r : ℕ) → P (followed (in_round 0 r) reply.Nothing raised.ChangeLeader false) → (ltb c.r_max r ≡ false → P (followed (in_round s.live r) reply.Observe raised.Nothing false)) → P (requested c s r)
  unfolding requested
  requested_when r p q = either P (ltb c.r_max r) _ _ (λ e. p) q

  pub requested_each : (r : ℕ) → P (followed (in_round 0 r) reply.Nothing raised.ChangeLeader false) → P (followed (in_round s.live r) reply.Observe raised.Nothing false) → P (requested c s r)
  requested_each r p q = requested_when r p (λ e. q)

  pub asked_when : (time : ℕ) (commit : Commit) (median : ℤ) → (should_report c time commit median ≡ true → P (followed (now_signed s) reply.Report raised.Nothing false)) → P (followed (now_completed s) reply.Nothing raised.Progress false) → P (asked c s time commit median)
  unfolding asked
  asked_when time commit median p q = either P (should_report c time commit median) _ _ p (λ e. q)

  pub asked_each : (time : ℕ) (commit : Commit) (median : ℤ) → P (followed (now_signed s) reply.Report raised.Nothing false) → P (followed (now_completed s) reply.Nothing raised.Progress false) → P (asked c s time commit median)
  asked_each time commit median p q = asked_when time commit median (λ e. p) q

  pub echoed_each : (j : ℕ) → let t = now_kept (now_marked s j) in let send = cond (is_set s.kept) reply.Nothing reply.Echo in P (followed (now_completed t) send raised.Progress true) → P (followed t send raised.Nothing false) → P (echoed c s j)
  unfolding echoed
  echoed_each j p q = either P (ltb c.f (marked_by c.n (now_kept (now_marked s j)))) _ _ (λ e. p) (λ e. q)

-- ---- FINAL-ECHO

pub echoed_marks : (c : Config) (s : Follower) (j : ℕ) → (echoed c s j).follower.marks ≡ mark s.marks (j - 1)
echoed_marks c s j = echoed_each (λ (d : Followed). d.follower.marks ≡ mark s.marks (j - 1)) c s j refl refl

pub echoed_reply : (c : Config) (s : Follower) (j : ℕ) → (echoed c s j).reply ≡ cond (is_set s.kept) reply.Nothing reply.Echo
echoed_reply c s j = echoed_each (λ (d : Followed). d.reply ≡ cond (is_set s.kept) reply.Nothing reply.Echo) c s j refl refl

-- ---- any message

-- it is a request, or it is none
pub by_request : (P : Message → Type 0) → ((e r : ℕ) → P (observe_req e r)) → ((m : Message) → requests m ≡ false → P m) → (m : Message) → P m
by_request P p q (observe_req e r) = p e r
by_request P p q (report_req e r xs) = q (report_req e r xs) refl
by_request P p q (final a) = q (final a) refl
by_request P p q (final_echo a) = q (final_echo a) refl
by_request P p q (new_epoch e) = q (new_epoch e) refl
by_request P p q (observe e r v g) = q (observe e r v g) refl
by_request P p q (report e r xs g) = q (report e r xs g) refl

module _ (c : Config) (s : Follower) (j time : ℕ) (commit : Commit) where
  -- one that is none signs, completes the round, keeps, hands out, marks or does nothing
  pub in_round_each : (P : Followed → Type 0) → let t = now_kept (now_marked s j) in let send = cond (is_set s.kept) reply.Nothing reply.Echo in P (followed (now_signed s) reply.Report raised.Nothing false) → P (followed (now_completed s) reply.Nothing raised.Progress false) → P (followed (now_kept s) reply.Echo raised.Nothing false) → P (followed (now_completed t) send raised.Progress true) → P (followed t send raised.Nothing false) → P (stays s) → (m : Message) → requests m ≡ false → P (follow_of c s j time commit m)
  unfolding received
  in_round_each P signs completes keeps hands marks none (observe_req e r) q = absurd (false≢true (sym q))
  in_round_each P signs completes keeps hands marks none (report_req e r xs) q = asked_each P c s time commit (median_of (values_of (map (λ (x : Signed). x.said) xs))) signs completes
  in_round_each P signs completes keeps hands marks none (final a) q = keeps
  in_round_each P signs completes keeps hands marks none (final_echo a) q = echoed_each P c s j hands marks
  in_round_each P signs completes keeps hands marks none (new_epoch e) q = none
  in_round_each P signs completes keeps hands marks none (observe e r v g) q = none
  in_round_each P signs completes keeps hands marks none (report e r xs g) q = none

  -- so the round stays, and what is completed
  pub round_stays : (m : Message) → requests m ≡ false → (follow_of c s j time commit m).follower.round ≡ s.round
  round_stays = in_round_each (λ d. d.follower.round ≡ s.round) refl refl refl refl refl refl

  pub completed_stays : (m : Message) → requests m ≡ false → is_set s.completed ≡ true → is_set (follow_of c s j time commit m).follower.completed ≡ true
  completed_stays m q h = in_round_each (λ d. is_set d.follower.completed ≡ true) h refl h refl h h m q
