-- What a follower's rule came to: the reply answers the message's kind, only a request that halts raises changeleader, nothing is replied where
-- something is announced, and a report that is handed out lies whole in its buffer, which is as it was.
use mathlib.Core.Bool.{Bool, true, false, cond, false≢true}
use mathlib.Core.List.{List, [], ◌++◌, map}
use mathlib.Core.Logic.{◌⊎◌, inl, inr}
use mathlib.Core.Path.{◌≡◌, refl, sym, ap, ◌∙◌}
use Prim.Native.Nat.{ℕ, ◌+◌, ◌≤◌, ◌<◌}
use native.Mathlib.Nat.{le_trans}
use native.Mathlib.Omega.{arith}
use borrow.Author.Tests.{ltb-false, le-ltb}
use lib.Dec.{ltb}
use lib.IntN.{ℤ}
use lib.ListN.{length}
use mir.Syntax.{w64}
use mir.Val.{Fits}
use Rattle.config.specs.Limits.{members, kept_size, last_epoch}
use Rattle.config.specs.Answers.{Done}
use Rattle.config.specs.declared.Commit.{Commit}
use Rattle.config.specs.declared.Config.{Config}
use Rattle.price.specs.Median.{median_of}
use Rattle.frame.specs.Message.{Signed, Attested, Message, new_epoch, observe_req, observe, report_req, report, final, final_echo}
use Rattle.frame.specs.Encode.{attested_bytes}
use Rattle.frame.specs.declared.kind.Kind.{Kind}
use Rattle.frame.specs.declared.kind.Kind.TheVariants as kind
use Rattle.frame.specs.Kinds.{number_of}
use Rattle.frame.specs.Decode.{round_in, signed_in, attested_in, message_of, body_in, message_in}
use Rattle.frame.specs.Range.{good_attested}
use Rattle.frame.specs.Check.{body_answer}
use Rattle.report.specs.Stands.{values_of}
use Rattle.report.specs.Whole.{WholeReport}
use Rattle.report.specs.Kept.{keeping}
use Rattle.report.proofs.Bodies.{good_short}
use Rattle.pacemaker.specs.declared.Pace.{Pace}
use Rattle.pacemaker.specs.declared.Paced.{Paced}
use Rattle.pacemaker.specs.Rules.{progress_of, past_end}
use Rattle.follower.specs.declared.Follower.{Follower}
use Rattle.follower.specs.declared.Followed.{Followed}
use Rattle.follower.specs.declared.Handed.{Handed}
use Rattle.follower.specs.declared.Raised.{Raised}
use Rattle.follower.specs.declared.Raised.TheVariants as raised
use Rattle.follower.specs.declared.Reply.TheVariants as reply
use Rattle.follower.specs.State.{is_set, in_round}
use Rattle.follower.specs.Rules.{followed, requested, received, echoed, halts, follow_of, kept_of}
use Rattle.follower.specs.Handed.{handed_of}
use Rattle.follower.proofs.Rules.{requested_each, asked_each, echoed_each, by_request, in_round_each}
use Rattle.follower.proofs.Bodies.{whole_report}
use Rattle.node.specs.declared.Node.{Node}
use Rattle.node.specs.State.{with_round}
use Rattle.node.specs.Event.{Whole, Delivery}
use Rattle.node.specs.Answers.{past_last}
use Rattle.node.specs.Effects.{announced, replying, paced_timers, raising, following, delivering}
use Rattle.node.specs.Calls.{frames_of, out, settled}
use Rattle.node.specs.Ready.{WroteAll, Answers}
use Rattle.node.proofs.Frames.{settles}

-- ---- what is replied

echo_answers : (held : Bool) → Answers (cond held reply.Nothing reply.Echo) (number_of kind.FinalEcho)
echo_answers true = tt
echo_answers false = inr refl

pub reply_answers : (c : Config) (s : Follower) (j time : ℕ) (commit : Commit) (k : Kind) (b : List ℕ) → Answers (follow_of c s j time commit (message_of (number_of k) b)).reply (number_of k)
unfolding message_of received
reply_answers c s j time commit kind.NewEpoch b = tt
reply_answers c s j time commit kind.ObserveReq b = requested_each (λ (d : Followed). Answers d.reply (number_of kind.ObserveReq)) c s (round_in b) tt refl
reply_answers c s j time commit kind.Observe b = tt
reply_answers c s j time commit kind.ReportReq b =
    asked_each (λ (d : Followed). Answers d.reply (number_of kind.ReportReq)) c s time commit (median_of (values_of (map (λ (x : Signed). x.said) (signed_in b)))) refl tt
reply_answers c s j time commit kind.Report b = tt
reply_answers c s j time commit kind.Final b = inl refl
reply_answers c s j time commit kind.FinalEcho b =
    let p = echo_answers (is_set s.kept) in
    echoed_each (λ (d : Followed). Answers d.reply (number_of kind.FinalEcho)) c s j p p

-- ---- what is raised

abbrev changes : Raised → Bool
changes raised.Nothing = false
changes raised.Progress = false
changes raised.ChangeLeader = true

changes_halts : (c : Config) (s : Follower) (j time : ℕ) (commit : Commit) (m : Message) → changes (follow_of c s j time commit m).raised ≡ halts c m
unfolding requested received
changes_halts c s j time commit (observe_req e r) = go (ltb c.r_max r)
  where
    go : (t : Bool) → changes (cond t (followed (in_round 0 r) reply.Nothing raised.ChangeLeader false) (followed (in_round s.live r) reply.Observe raised.Nothing false)).raised ≡ t
    go true = refl
    go false = refl
changes_halts c s j time commit (report_req e r xs) =
    asked_each (λ (d : Followed). changes d.raised ≡ false) c s time commit (median_of (values_of (map (λ (x : Signed). x.said) xs))) refl refl
changes_halts c s j time commit (final a) = refl
changes_halts c s j time commit (final_echo a) = echoed_each (λ (d : Followed). changes d.raised ≡ false) c s j refl refl
changes_halts c s j time commit (new_epoch e) = refl
changes_halts c s j time commit (observe e r v g) = refl
changes_halts c s j time commit (report e r xs g) = refl

-- there is an epoch to change to
pub leader_changes : (n : Node) (j time : ℕ) (commit : Commit) (m : Message) → past_last n m ≡ false → (follow_of n.config n.follower j time commit m).raised ≡ raised.ChangeLeader → n.pace.epoch < last_epoch
leader_changes n j time commit m past e =
    let halted : halts n.config m ≡ true = sym (changes_halts n.config n.follower j time commit m) ∙ ap changes e in
    omega (arith, ltb-false last_epoch (n.pace.epoch + 1) (rw halted at past))

pub raised_past : (n : Node) (j time : ℕ) (commit : Commit) (m : Message) → past_last n m ≡ false → (follow_of n.config n.follower j time commit m).raised ≡ raised.ChangeLeader → past_end n.pace ≡ false
raised_past n j time commit m past q = le-ltb last_epoch (n.pace.epoch + 1) (omega (arith, leader_changes n j time commit m past q))

-- what is raised announces an epoch, or there is a reply, and not both
abbrev One : Pace → Followed → Type 0
One p d = (announced (raising d.raised p).sent ≡ []) ⊎ (d.reply ≡ reply.Nothing)

one_sent : (c : Config) (s : Follower) (j time : ℕ) (commit : Commit) (m : Message) (p : Pace) → One p (follow_of c s j time commit m)
unfolding progress_of
one_sent c s j time commit m p =
    by_request (λ m. One p (follow_of c s j time commit m))
    (λ e r. requested_each (One p) c s r (inr refl) (inl refl))
    (in_round_each c s j time commit (One p) (inl refl) (inl refl) (inl refl) (inl refl) (inl refl) (inl refl))
    m

-- so the length of all that is written is the length of one of the two
pub sum_fits : (c : Config) (s : Follower) (j time : ℕ) (commit : Commit) (m : Message) (p : Pace) (v : ℤ) {q r : ℕ} → let d = follow_of c s j time commit m in q ≡ length (frames_of c (announced (raising d.raised p).sent)) → r ≡ length (frames_of c (replying v m d.reply)) → Fits w64 q → Fits w64 r → Fits w64 (q + r)
unfolding frames_of
sum_fits c s j time commit m p v {q} {r} first second f g = go (one_sent c s j time commit m p)
  where
    go : One p (follow_of c s j time commit m) → Fits w64 (q + r)
    go (inl e) = let z : q ≡ 0 = rw e at first in omega arith
    go (inr e) = let z : r ≡ 0 = rw e at second in omega arith

-- ---- what is handed out

-- a report held as the call begins is handed out as it was
pub handed_before : (c : Config) (s : Follower) (j time : ℕ) (commit : Commit) (kept body : List ℕ) (m : Message) → let out = (follow_of c s j time commit m).handed in handed_of out (is_set s.kept) (kept_of s kept m) body ≡ handed_of out (is_set s.kept) kept body
unfolding received
handed_before c s j time commit kept body (observe_req e r) =
    requested_each (λ (d : Followed). handed_of d.handed (is_set s.kept) (kept_of s kept (observe_req e r)) body ≡ handed_of d.handed (is_set s.kept) kept body) c s r refl refl
handed_before c s j time commit kept body (final_echo a) = go (echoed c s j).handed (is_set s.kept)
  where
    go : (out held : Bool) → handed_of out held (cond held kept (keeping kept (attested_bytes a))) body ≡ handed_of out held kept body
    go out true = refl
    go out false = refl
handed_before c s j time commit kept body (report_req e r xs) = refl
handed_before c s j time commit kept body (final a) = refl
handed_before c s j time commit kept body (new_epoch e) = refl
handed_before c s j time commit kept body (observe e r v g) = refl
handed_before c s j time commit kept body (report e r xs g) = refl

kept_whole : (n : ℕ) (kept : List ℕ) → n ≤ members → kept_size ≤ length kept → good_attested n (attested_in kept) ≡ true → WholeReport kept
kept_whole n kept g l h = record { within = le_trans (good_short n kept g h) l }

-- what is not handed out need not be whole
quiet : {W : Type 0} {out : Bool} → out ≡ false → out ≡ true → W
quiet e h = absurd (false≢true (sym e ∙ h))

-- and it lies whole in its buffer
module _
    (c : Config)
    (s : Follower)
    (b kept : List ℕ)
    (most : c.n ≤ members)
    (long : kept_size ≤ length kept)
    (held : is_set s.kept ≡ true → good_attested c.n (attested_in kept) ≡ true)
  where
    echo_whole : body_answer c.n (number_of kind.FinalEcho) b ≡ Done → (a : Attested) (t : Bool) → is_set s.kept ≡ t → WholeReport (cond t (cond t kept (keeping kept (attested_bytes a))) b)
    echo_whole good a true h = kept_whole c.n kept most long (held h)
    echo_whole good a false h = whole_report c.n (number_of kind.FinalEcho) b (omega arith) (omega arith) good

    pub handed_whole : (k : Kind) → body_answer c.n (number_of k) b ≡ Done → (j time : ℕ) (commit : Commit) → (follow_of c s j time commit (message_of (number_of k) b)).handed ≡ true → WholeReport (cond (is_set s.kept) (kept_of s kept (message_of (number_of k) b)) b)
    unfolding message_of received
    handed_whole kind.NewEpoch good j time commit = quiet refl
    handed_whole kind.ObserveReq good j time commit = quiet (requested_each (λ (d : Followed). d.handed ≡ false) c s (round_in b) refl refl)
    handed_whole kind.Observe good j time commit = quiet refl
    handed_whole kind.ReportReq good j time commit =
        quiet (asked_each (λ (d : Followed). d.handed ≡ false) c s time commit (median_of (values_of (map (λ (x : Signed). x.said) (signed_in b)))) refl refl)
    handed_whole kind.Report good j time commit = quiet refl
    handed_whole kind.Final good j time commit = quiet refl
    handed_whole kind.FinalEcho good j time commit = λ _. echo_whole good (attested_in b) (is_set s.kept) refl

-- ---- all of it

-- what a delivery comes to whose rule was run, with what it raises, and whose frames were written
module _
    (w : Whole)
    (x : Delivery)
    (o : List ℕ)
    (at : ℕ)
    {exit after : List ℕ}
    {r : ℕ}
    {d : Followed}
    {p : Paced}
    {h : Handed}
    (rule : d ≡ follow_of w.node.config w.node.follower x.link x.time x.commit (message_in x.frame))
    (paced : p ≡ raising d.raised w.node.pace)
    (kept : after ≡ kept_of w.node.follower w.kept (message_in x.frame))
    (handed : h ≡ handed_of d.handed (is_set w.node.follower.kept) after (body_in x.frame))
    (wrote : WroteAll w.node.config (announced p.sent ++ replying x.observation (message_in x.frame) d.reply) o at exit r)
  where
    pub following_settles : out (record { answer = Done; node = with_round w.node p.pace d.follower; written = r; timers = paced_timers p; handed = h }) exit after w.signatures ≡ settled (following w x (message_in x.frame)) o at
    unfolding following
    following_settles =
        let same = handed_before w.node.config w.node.follower x.link x.time x.commit w.kept (body_in x.frame) (message_in x.frame) in
        rw (handed ∙ (rw (← rule, ← kept) at same), ← rule, ← kept, ← paced) (settles _ _ _ _ wrote)

-- NEWEPOCH, OBSERVE and REPORT are not the follower's
pub delivering_follows : (w : Whole) (x : Delivery) (k : Kind) (b : List ℕ) → (k ≡ kind.NewEpoch → ⊥) → (k ≡ kind.Observe → ⊥) → (k ≡ kind.Report → ⊥) → delivering w x (message_of (number_of k) b) ≡ following w x (message_of (number_of k) b)
unfolding message_of
delivering_follows w x kind.NewEpoch b p q r = absurd (p refl)
delivering_follows w x kind.ObserveReq b p q r = refl
delivering_follows w x kind.Observe b p q r = absurd (q refl)
delivering_follows w x kind.ReportReq b p q r = refl
delivering_follows w x kind.Report b p q r = absurd (r refl)
delivering_follows w x kind.Final b p q r = refl
delivering_follows w x kind.FinalEcho b p q r = refl
