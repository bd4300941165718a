-- What a reader may quote of the sender: each claim is a type, proved in `proofs/Claims.antt` or `proofs/Listed.antt`.
use Rattle.std.specs.Prelude.{◌≡◌, true, false, cond, ◌&&◌, ◌⊎◌, List, [], ◌∷◌, ◌++◌, ℕ, ◌-◌, ◌≤◌, ◌<◌, length, take}
use Rattle.config.specs.Limits.{slots, most_stages}
use Rattle.config.specs.Bounds.{good_config, good_time, good_commit, sum}
use Rattle.config.specs.Codes.{number_of, is_done}
use Rattle.config.specs.Answers.{Answer}
use Rattle.config.specs.Answers as answer
use Rattle.config.specs.declared.Config.{Config}
use Rattle.config.specs.declared.Commit.{Commit}
use Rattle.quorum.specs.First.{among, OneOf}
use Rattle.quorum.specs.Sort.{Perm}
use Rattle.frame.specs.Message.{Attested}
use Rattle.frame.specs.Decode.{attested_in}
use Rattle.frame.specs.Check.{body_answer}
use Rattle.frame.specs.Claims.{Each}
use Rattle.report.specs.Newer.{newer}
use Rattle.sender.specs.declared.Sender.{Sender}
use Rattle.sender.specs.declared.Accepted.{Accepted}
use Rattle.sender.specs.declared.Made.{Made}
use Rattle.sender.specs.declared.Queued.{Queued}
use Rattle.sender.specs.declared.Released.{Released}
use Rattle.sender.specs.declared.Transmit.TheVariants.{Leave}
use Rattle.sender.specs.State.{fresh_sender, good_sender, roomy, taken, time_of, slot_in}
use Rattle.sender.specs.Stage.{permutes, stage_for, waits, stages_of}
use Rattle.sender.specs.Waiting.{Waiting, waiting, sooner, earliest}
use Rattle.sender.specs.Calls.{made_of, sent, accepted_of, transmit_of, timeout_of, nothing, handed_part}
use Rattle.sender.specs.History.{Whole, Call, transmits, expires, after, run, removed_by, queued_in, removed_in, handed_by}

-- the tables of a sender have a place for each slot, as its arrays do
pub record Sized (s : Sender) : Type 0 where
  pub taken : length s.taken ≡ slots
  pub times : length s.times ≡ slots

-- a sender in range, with all of its slots' bytes
pub record Good (w : Whole) : Type 0 where
  pub sized : Sized w.sender
  pub room : roomy w.slots ≡ true
  pub range : good_sender w.sender w.slots ≡ true

-- A refusal changes nothing, leaves T_transmit alone and hands out nothing.
pub record Unchanged (w : Whole) : Type 0 where
  pub transmit : (body : List ℕ) (time : ℕ) (commit : Commit) (permutation : List ℕ) → is_done (transmit_of w.sender body time commit permutation w.slots).result.answer ≡ false → ((transmit_of w.sender body time commit permutation w.slots).result.sender ≡ w.sender) × ((transmit_of w.sender body time commit permutation w.slots).slots ≡ w.slots) × ((transmit_of w.sender body time commit permutation w.slots).result.transmit ≡ Leave)
  pub timeout : (time : ℕ) (commit : Commit) → is_done (timeout_of w.sender time commit w.slots).answer ≡ false → ((timeout_of w.sender time commit w.slots).sender ≡ w.sender) × ((timeout_of w.sender time commit w.slots).transmit ≡ Leave) × ((timeout_of w.sender time commit w.slots).handed ≡ nothing)

abbrev pub RefusalChangesNothing : Type 0
RefusalChangesNothing = (w : Whole) → Unchanged w

-- A sender made under a good configuration is in range whatever bytes its slots hold, and a call leaves a sender in range in range.
abbrev pub FreshIsGood : Type 0
FreshIsGood = (c : Config) (bytes : List ℕ) → good_config c ≡ true → roomy bytes ≡ true → Good (record { sender = fresh_sender c; slots = bytes })

abbrev pub GoodStaysGood : Type 0
GoodStaysGood = (w : Whole) (call : Call) → Good w → Good (after w call)

-- A sender that could not be made is of no use: every call of it is answered STATE.
pub record NoSender (c : Config) (bytes : List ℕ) : Type 0 where
  pub transmit : (body : List ℕ) (time : ℕ) (commit : Commit) (permutation : List ℕ) → (transmit_of (fresh_sender c) body time commit permutation bytes).result.answer ≡ answer.State
  pub timeout : (time : ℕ) (commit : Commit) → (timeout_of (fresh_sender c) time commit bytes).answer ≡ answer.State

abbrev pub RefusedIsNoSender : Type 0
RefusedIsNoSender = (c : Config) (bytes : List ℕ) → good_config c ≡ false → NoSender c bytes

-- Each call ends with an answer that document 01 lists for it: a transmission 0, 2, 3, 8, 9, 12, 13, 19 and 20, its timeout 0, 2, 3, 9 and 1; making a sender 0 and 12.
abbrev pub answered : Whole → Call → Answer
answered w (transmits body time commit permutation) = (transmit_of w.sender body time commit permutation w.slots).result.answer
answered w (expires time commit) = (timeout_of w.sender time commit w.slots).answer

abbrev pub listed : Call → List ℕ
listed (transmits body time commit permutation) = 0 ∷ 2 ∷ 3 ∷ 8 ∷ 9 ∷ 12 ∷ 13 ∷ 19 ∷ 20 ∷ []
listed (expires time commit) = 0 ∷ 2 ∷ 3 ∷ 9 ∷ 1 ∷ []

pub record Listed (w : Whole) (call : Call) (c : Config) : Type 0 where
  pub call_listed : among (number_of (answered w call)) (listed call) ≡ true
  pub fresh : among (number_of (made_of c).answer) (0 ∷ 12 ∷ []) ≡ true

abbrev pub AnswersAreListed : Type 0
AnswersAreListed = (w : Whole) (call : Call) (c : Config) → Listed w call c

-- What one promise allows is one result, and one content of the slots.
pub record OneEach (s : Sender) (time : ℕ) (commit : Commit) (bytes : List ℕ) : Type 0 where
  pub made : (c : Config) (r r' : Made) → r ≡ made_of c → r' ≡ made_of c → r ≡ r'
  pub transmit : (body permutation : List ℕ) (r r' : Queued) (b b' : List ℕ) → sent r b ≡ transmit_of s body time commit permutation bytes → sent r' b' ≡ transmit_of s body time commit permutation bytes → (r ≡ r') × (b ≡ b')
  pub timeout : (r r' : Released) → r ≡ timeout_of s time commit bytes → r' ≡ timeout_of s time commit bytes → r ≡ r'

abbrev pub OneResult : Type 0
OneResult = (s : Sender) (time : ℕ) (commit : Commit) (bytes : List ℕ) → OneEach s time commit bytes

-- The configuration never changes.
abbrev pub ConfigurationStays : Type 0
ConfigurationStays = (w : Whole) (calls : List Call) → (run w calls).sender.config ≡ w.sender.config

-- b is the accepted report a, or a newer one
abbrev pub NotOlder : Accepted → Accepted → Type 0
NotOlder a b = (b ≡ a) ⊎ (newer b.epoch b.round a.epoch a.round ≡ true)

-- "Otherwise it becomes the accepted one": a transmission that is DONE makes the body's report the accepted one, and it is newer than the commit.
pub record Accepts (body : List ℕ) (commit : Commit) (after_call : Sender) : Type 0 where
  pub accepted : after_call.accepted ≡ accepted_of (attested_in body)
  pub above : newer (attested_in body).epoch (attested_in body).round commit.epoch commit.round ≡ true

abbrev pub DoneIsAccepted : Type 0
DoneIsAccepted =
    (s : Sender) (body : List ℕ) (time : ℕ) (commit : Commit) (permutation bytes : List ℕ) → is_done (transmit_of s body time commit permutation bytes).result.answer ≡ true → Accepts body commit (transmit_of s body time commit permutation bytes).result.sender

-- A transmission that is DONE accepts a report newer than the accepted one, so over any calls (epoch, round) of the accepted report only rises.
abbrev pub AcceptsOnlyNewer : Type 0
AcceptsOnlyNewer =
    (s : Sender) (body : List ℕ) (time : ℕ) (commit : Commit) (permutation bytes : List ℕ) → is_done (transmit_of s body time commit permutation bytes).result.answer ≡ true → let b = (transmit_of s body time commit permutation bytes).result.sender.accepted in newer b.epoch b.round s.accepted.epoch s.accepted.round ≡ true

abbrev pub AcceptedOnlyRises : Type 0
AcceptedOnlyRises = (w : Whole) (calls : List Call) → NotOlder w.sender.accepted (run w calls).sender.accepted

-- What waits and what was removed is what waited and what was accepted to wait: of each report as many as there were. So nothing leaves the queue that was not
-- accepted for transmission, none leaves it twice, and none is lost in it; a transmission removes nothing (`removed_by`).
abbrev pub NothingIsLost : Type 0
NothingIsLost =
    (w : Whole) (calls : List Call) → Good w → Perm (waiting w.sender w.slots ++ queued_in w calls) (waiting (run w calls).sender (run w calls).slots ++ removed_in w calls)

-- A fresh sender has nothing waiting, so what leaves it was accepted since.
abbrev pub NothingWaitsAtFirst : Type 0
NothingWaitsAtFirst = (c : Config) (bytes : List ℕ) → waiting (fresh_sender c) bytes ≡ []

-- each is newer than the one before
abbrev pub Rising : List Waiting → Type 0
Rising [] = Unit {0}
Rising (x ∷ []) = Unit {0}
Rising (x ∷ y ∷ l) = (newer y.report.epoch y.report.round x.report.epoch x.report.round ≡ true) × Rising (y ∷ l)

-- No report is accepted to wait twice: each is newer than the one before. With `NothingIsLost` none is handed out twice.
abbrev pub QueuedOnlyRises : Type 0
QueuedOnlyRises = (w : Whole) (calls : List Call) → Rising (queued_in w calls)

-- What a call hands out is the report that it removes, if that is newer than the commit given with the call.
abbrev pub if_newer : Commit → List Waiting → List Attested
if_newer commit [] = []
if_newer commit (x ∷ l) = cond (newer x.report.epoch x.report.round commit.epoch commit.round) (x.report ∷ if_newer commit l) (if_newer commit l)

abbrev pub HandsOutWhatItRemoves : Type 0
HandsOutWhatItRemoves =
    (w : Whole) (time : ℕ) (commit : Commit) → Good w → handed_by w (expires time commit) ≡ if_newer commit (removed_by w (expires time commit))

-- A waiting report leaves its slot only by a timeout that removes it: any other taken slot is as it was, with its time and its bytes.
pub record Stays (w v : Whole) (slot : ℕ) : Type 0 where
  pub is_taken : taken v.sender slot ≡ true
  pub time : time_of v.sender slot ≡ time_of w.sender slot
  pub bytes : slot_in v.slots slot ≡ slot_in w.slots slot

abbrev pub SlotsStay : Type 0
SlotsStay =
    (w : Whole) (call : Call) (slot : ℕ) → Good w → taken w.sender slot ≡ true → (removed_by w call ≡ [] → Stays w (after w call) slot) × ((slot ≡ earliest w.sender w.slots → ⊥) → Stays w (after w call) slot)

-- "earliest time (ties: lower epoch, round ..)": x does not come after y
abbrev pub NotAfter : Waiting → Waiting → Type 0
NotAfter x y = (x.time < y.time) ⊎ ((x.time ≡ y.time) × (newer x.report.epoch x.report.round y.report.epoch y.report.round ≡ false))

-- "(ties: .. slot)": a report in any slot below this one comes later, so of reports equal in time, epoch and round this one is in the lowest slot
abbrev pub LaterBelow : Sender → List ℕ → ℕ → Type 0
LaterBelow s bytes slot = (below : ℕ) → below < slot → taken s below ≡ true → sooner s bytes slot below ≡ true

-- A timeout that is DONE removes the earliest of the reports that wait, at or after its time, frees its slot, and hands out exactly that report if it is
-- newer than the commit, and nothing if it is not.
pub record Removes (w : Whole) (time : ℕ) (commit : Commit) (x : Waiting) : Type 0 where
  pub one : removed_by w (expires time commit) ≡ x ∷ []
  pub waited : OneOf x (waiting w.sender w.slots)
  pub due : x.time ≤ time
  pub freed : taken (after w (expires time commit)).sender (earliest w.sender w.slots) ≡ false
  pub lowest : LaterBelow w.sender w.slots (earliest w.sender w.slots)
  pub earliest : Each (NotAfter x) (waiting w.sender w.slots)
  pub handed : newer x.report.epoch x.report.round commit.epoch commit.round ≡ true → attested_in (handed_part (timeout_of w.sender time commit w.slots).handed w.slots) ≡ x.report
  pub whole_body : newer x.report.epoch x.report.round commit.epoch commit.round ≡ true → body_answer w.sender.config.n 6 (handed_part (timeout_of w.sender time commit w.slots).handed w.slots) ≡ answer.Done
  pub held_back : newer x.report.epoch x.report.round commit.epoch commit.round ≡ false → handed_part (timeout_of w.sender time commit w.slots).handed w.slots ≡ []

pub record RemovesOne (w : Whole) (time : ℕ) (commit : Commit) : Type 0 where
  pub removed : Waiting
  pub so : Removes w time commit removed

abbrev pub TimeoutTakesTheEarliest : Type 0
TimeoutTakesTheEarliest =
    (w : Whole) (time : ℕ) (commit : Commit) → Good w → is_done (timeout_of w.sender time commit w.slots).answer ≡ true → RemovesOne w time commit

-- a timeout's time and commit
pub record Timeout : Type 0 where
  pub time : ℕ
  pub commit : Commit

-- timeouts in range, none before any of these reports' times
abbrev pub AllDue : List Timeout → List Waiting → Type 0
AllDue [] l = Unit {0}
AllDue (t ∷ ts) l = (good_time t.time && good_commit t.commit ≡ true) × Each (λ (x : Waiting). x.time ≤ t.time) l × AllDue ts l

abbrev pub calling : List Timeout → List Call
calling [] = []
calling (t ∷ ts) = expires t.time t.commit ∷ calling ts

-- With k reports waiting, k timeouts at or after the last time empty the queue. (A report whose time lies past 2^53 is out of every timeout's reach, since such a clock is RANGE.)
abbrev pub TimeoutsEmptyTheQueue : Type 0
TimeoutsEmptyTheQueue =
    (w : Whole) (ts : List Timeout) → Good w → AllDue ts (waiting w.sender w.slots) → length ts ≡ length (waiting w.sender w.slots) → waiting (run w (calling ts)).sender (run w (calling ts)).slots ≡ []

-- The stage of a place holds it: the stages before it have fewer places, and with it there are enough.
pub record Holds (stages : List ℕ) (k p : ℕ) : Type 0 where
  pub first : 1 ≤ k
  pub before : sum (take (k - 1) stages) < p
  pub within : p ≤ sum (take k stages)

-- "Beyond the last stage": a place that no stage holds lies behind all of them.
abbrev pub BeyondTheLastStage : Type 0
BeyondTheLastStage = (c : Config) (p : ℕ) → good_config c ≡ true → length c.schedule ≡ most_stages → waits c p ≡ false → sum (stages_of c) < p

abbrev pub StageHoldsThePlace : Type 0
StageHoldsThePlace = (c : Config) (p : ℕ) → good_config c ≡ true → length c.schedule ≡ most_stages → 1 ≤ p → waits c p ≡ true → Holds (stages_of c) (stage_for c p) p

-- Every place from 1 to n is some member's in a permutation.
abbrev pub EveryPlaceIsTaken : Type 0
EveryPlaceIsTaken = (n j : ℕ) (l : List ℕ) → permutes n l ≡ true → 1 ≤ j → j ≤ n → among j l ≡ true
