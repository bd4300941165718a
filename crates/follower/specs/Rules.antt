-- Document 01, "A round", Follower: what a message does that is taken and with which nothing is wrong.
use Rattle.std.specs.Prelude.{Bool, true, false, cond, List, map, ℕ, ◌-◌, ltb, ℤ, take}
use Rattle.config.specs.declared.Config.{Config}
use Rattle.config.specs.declared.Commit.{Commit}
use Rattle.price.specs.Due.{should_report}
use Rattle.price.specs.Median.{median_of}
use Rattle.quorum.specs.Marks.{mark, count_marks}
use Rattle.frame.specs.Message.{Signed, Message, new_epoch, observe_req, observe, report_req, report, final, final_echo}
use Rattle.frame.specs.Encode.{attested_bytes}
use Rattle.report.specs.Stands.{values_of}
use Rattle.report.specs.Kept.{keeping, cleared}
use Rattle.follower.specs.declared.Follower.{Follower}
use Rattle.follower.specs.declared.Followed.{Followed}
use Rattle.follower.specs.declared.Reply.{Reply}
use Rattle.follower.specs.declared.Reply.TheVariants as reply
use Rattle.follower.specs.declared.Raised.{Raised}
use Rattle.follower.specs.declared.Raised.TheVariants as raised
use Rattle.follower.specs.State.{is_set, in_round}

abbrev pub followed : Follower → Reply → Raised → Bool → Followed
followed s reply raised handed = record { follower = s; reply = reply; raised = raised; handed = handed }

-- nothing happens
abbrev pub stays : Follower → Followed
stays s = followed s reply.Nothing raised.Nothing false

-- ---- OBSERVE-REQ

-- "take it, clear the round's marks and kept report; above r_max, halt and raise changeleader; else send OBSERVE."
unfoldable pub requested : Config → Follower → ℕ → Followed
requested c s r =
    cond (ltb c.r_max r)
    (followed (in_round 0 r) reply.Nothing raised.ChangeLeader false)
    (followed (in_round s.live r) reply.Observe raised.Nothing false)

-- whether a message is the leader's request for observations
abbrev pub requests : Message → Bool
requests (observe_req e r) = true
requests (new_epoch e) = false
requests (observe e r v g) = false
requests (report_req e r xs) = false
requests (report e r xs g) = false
requests (final a) = false
requests (final_echo a) = false

-- whether a request halts the instance
abbrev pub halts : Config → Message → Bool
halts c (observe_req e r) = ltb c.r_max r
halts c (new_epoch e) = false
halts c (observe e r v g) = false
halts c (report_req e r xs) = false
halts c (report e r xs g) = false
halts c (final a) = false
halts c (final_echo a) = false

-- ---- REPORT-REQ

abbrev pub now_signed : Follower → Follower
now_signed s =
    record { live = s.live; round = s.round; signed = 1; completed = s.completed; kept = s.kept; marks = s.marks }

abbrev pub now_completed : Follower → Follower
now_completed s =
    record { live = s.live; round = s.round; signed = s.signed; completed = 1; kept = s.kept; marks = s.marks }

-- "If it should be reported, send REPORT; else complete the round, which raises progress."
unfoldable pub asked : Config → Follower → ℕ → Commit → ℤ → Followed
asked c s time commit median =
    cond (should_report c time commit median)
    (followed (now_signed s) reply.Report raised.Nothing false)
    (followed (now_completed s) reply.Nothing raised.Progress false)

-- ---- FINAL and FINAL-ECHO

abbrev pub now_kept : Follower → Follower
now_kept s =
    record { live = s.live; round = s.round; signed = s.signed; completed = s.completed; kept = 1; marks = s.marks }

abbrev pub now_marked : Follower → ℕ → Follower
now_marked s j =
    record { live = s.live; round = s.round; signed = s.signed; completed = s.completed; kept = s.kept; marks = mark s.marks (j - 1) }

-- "keep and echo it"
unfoldable pub received : Follower → Followed
received s = followed (now_kept s) reply.Echo raised.Nothing false

-- how many of the n members are marked
abbrev pub marked_by : ℕ → Follower → ℕ
marked_by n s = count_marks (take n s.marks)

-- "mark j; if nothing is kept, keep and echo it. With more than f marked: hand out the kept report, complete the round."
unfoldable pub echoed : Config → Follower → ℕ → Followed
echoed c s j =
    let t = now_kept (now_marked s j) in
    let send = cond (is_set s.kept) reply.Nothing reply.Echo in
    cond (ltb c.f (marked_by c.n t))
    (followed (now_completed t) send raised.Progress true)
    (followed t send raised.Nothing false)

-- ---- all of them

abbrev pub follow_of : Config → Follower → ℕ → ℕ → Commit → Message → Followed
follow_of c s j time commit (observe_req e r) = requested c s r
follow_of c s j time commit (report_req e r xs) = asked c s time commit (median_of (values_of (map (λ (x : Signed). x.said) xs)))
follow_of c s j time commit (final a) = received s
follow_of c s j time commit (final_echo a) = echoed c s j
follow_of c s j time commit (new_epoch e) = stays s
follow_of c s j time commit (observe e r v g) = stays s
follow_of c s j time commit (report e r xs g) = stays s

-- the kept buffer after a message: cleared by a request, holding the report that is kept, else as it was
abbrev pub kept_of : Follower → List ℕ → Message → List ℕ
kept_of s kept (observe_req e r) = cleared kept
kept_of s kept (final a) = keeping kept (attested_bytes a)
kept_of s kept (final_echo a) = cond (is_set s.kept) kept (keeping kept (attested_bytes a))
kept_of s kept (new_epoch e) = kept
kept_of s kept (observe e r v g) = kept
kept_of s kept (report_req e r xs) = kept
kept_of s kept (report e r xs g) = kept
