-- What a reader may quote of the node: each claim is a type. The proof of `AClaim` is `a_claim`, in a file of `proofs/` named for its subject; `proofs/Instances.antt` and
-- `proofs/Rounded.antt` have runs that compute and meet the claims' hypotheses.
use Rattle.std.specs.Prelude.{◌≡◌, Bool, true, false, cond, ◌&&◌, List, [], ◌∷◌, map, ℕ, ◌+◌, ◌-◌, ◌*◌, ◌≤◌, max, eqb, ℤ, length, get_or, take, drop}
use Rattle.config.specs.Limits.{kept_size, signatures_size}
use Rattle.config.specs.Bounds.{good_time, good_commit}
use Rattle.config.specs.Codes.{number_of, is_done}
use Rattle.config.specs.Answers.{Answer}
use Rattle.config.specs.Answers as answer
use Rattle.config.specs.declared.Config.{Config}
use Rattle.config.specs.declared.Saved.{Saved}
use Rattle.config.specs.declared.Timer.{Timer}
use Rattle.config.specs.declared.Timer.TheVariants as timer
use Rattle.wire.specs.Numbers.{part}
use Rattle.quorum.specs.Counts.{reached}
use Rattle.quorum.specs.First.{among, all_set, OneOf}
use Rattle.quorum.specs.Sort.{Perm}
use Rattle.frame.specs.Message.{Observation, Signed, Attested, Message, new_epoch, observe_req, observe, report_req, report, final, final_echo, kind_of}
use Rattle.frame.specs.Decode.{attested_in, kind_in, message_in}
use Rattle.frame.specs.Check.{frame_answer}
use Rattle.frame.specs.Claims.{Each, ReadAs}
use Rattle.outbox.specs.Written.{own_frame, own_signature}
use Rattle.report.specs.Faults as fault
use Rattle.report.specs.Newer.{newer}
use Rattle.report.specs.Stands.{attested_fault}
use Rattle.pacemaker.specs.State.{is_started}
use Rattle.pacemaker.specs.Rules.{heard_by}
use Rattle.follower.specs.State.{is_set}
use Rattle.follower.specs.Claims.{Carries}
use Rattle.node.specs.declared.Fired.{Fired}
use Rattle.node.specs.declared.Fired.TheVariants as fired
use Rattle.node.specs.declared.Made.{Made}
use Rattle.node.specs.declared.Outcome.{Outcome}
use Rattle.node.specs.State.{restored_node, epoch_of, good_state}
use Rattle.node.specs.Event.{Whole, whole, Delivery, Event, starts, delivers, fires, Effect, refused, done}
use Rattle.node.specs.Answers.{firing}
use Rattle.node.specs.Calls.{restore_answer, restore_of, fresh_of, step, Out, out, frames_of, no_timers, refusing, settled, in_room, called, unarmed_of}
use Rattle.node.specs.Typed.{TypedWhole, TypedEvent, TypedEvents}
use Rattle.node.specs.Runs.{after, run, Begun, Reachable, sent_in, handed_in, deliveries, AllOf, highest_from, observations, Call, given_by, left, call_all, AllDone}

-- ---- demand 1: refusals and ranges

-- "Only code 0 changes anything": a refusal leaves state and every byte, says nothing of any timer, writes and hands out nothing.
pub record Unchanged (w : Whole) (outbox : List ℕ) (r : Out) : Type 0 where
  pub node : r.result.node ≡ w.node
  pub written : r.result.written ≡ 0
  pub timers : r.result.timers ≡ no_timers
  pub handed : r.result.handed.len ≡ 0
  pub outbox_same : r.outbox ≡ outbox
  pub kept : r.kept ≡ w.kept
  pub signatures : r.signatures ≡ w.signatures

abbrev pub RefusalChangesNothing : Type 0
RefusalChangesNothing =
    (w : Whole) (e : Event) (outbox : List ℕ) (at : ℕ) → is_done (called w e outbox at).result.answer ≡ false → Unchanged w outbox (called w e outbox at)

-- A node that could not be made or restored is of no use: every call of it is answered STATE.
abbrev pub RefusedIsNoNode : Type 0
RefusedIsNoNode =
    (c : Config) (s : Saved) (e : Event) (outbox kept signatures : List ℕ) (at : ℕ) → is_done (restore_answer c s) ≡ false → (called (whole (restored_node c s) kept signatures) e outbox at).result.answer ≡ answer.State

-- buffers of full size
pub record Sized (w : Whole) : Type 0 where
  pub kept : kept_size ≤ length w.kept
  pub signatures : signatures_size ≤ length w.signatures

-- A state in range stays in range, the body that is kept included, and a node that was made or restored is in range.
abbrev pub GoodStaysGood : Type 0
GoodStaysGood =
    (w : Whole) (e : Event) → TypedEvent e → good_state w.node w.kept ≡ true → good_state (after w e).node (after w e).kept ≡ true

abbrev pub MadeIsGood : Type 0
MadeIsGood = (c : Config) (s : Saved) (kept : List ℕ) → is_done (restore_answer c s) ≡ true → good_state (restored_node c s) kept ≡ true

-- And numbers stay what their types can hold.
abbrev pub TypedStaysTyped : Type 0
TypedStaysTyped = (w : Whole) (e : Event) → TypedWhole w → TypedEvent e → TypedWhole (after w e)

-- So every state that a node can reach is in range.
abbrev pub AlwaysGood : Type 0
AlwaysGood = (w : Whole) (es : List Event) → Begun w → TypedEvents es → good_state (run w es).node (run w es).kept ≡ true

-- Each call ends with an answer that document 01 lists for it: Start 0, 2, 3, 9, 1; a timer those and 11; a delivery 0 and 1 to 11; making a node 0 and 12; restoring one 0, 12 and 2.
abbrev pub listed : Event → List ℕ
listed (starts time) = 0 ∷ 2 ∷ 3 ∷ 9 ∷ 1 ∷ []
listed (fires t time) = 0 ∷ 2 ∷ 3 ∷ 9 ∷ 1 ∷ 11 ∷ []
listed (delivers d) = 0 ∷ 2 ∷ 3 ∷ 4 ∷ 5 ∷ 6 ∷ 7 ∷ 8 ∷ 9 ∷ 1 ∷ 10 ∷ 11 ∷ []

pub record Listed (w : Whole) (e : Event) (outbox : List ℕ) (at : ℕ) (c : Config) (s : Saved) : Type 0 where
  pub call : among (number_of (called w e outbox at).result.answer) (listed e) ≡ true
  pub fresh : among (number_of (fresh_of c).answer) (0 ∷ 12 ∷ []) ≡ true
  pub restore : among (number_of (restore_of c s).answer) (0 ∷ 12 ∷ 2 ∷ []) ≡ true

abbrev pub AnswersAreListed : Type 0
AnswersAreListed = (w : Whole) (e : Event) (outbox : List ℕ) (at : ℕ) (c : Config) (s : Saved) → Listed w e outbox at c s

-- A timer that is none of the four is answered as one of the four that is not armed: 2, 3, 9 or 1, and nothing changes.
pub record Unarmed (w : Whole) (time : ℕ) (outbox : List ℕ) (at : ℕ) (r : Out) : Type 0 where
  pub same : (t : Fired) → firing w.node t ≡ false → called w (fires t time) outbox at ≡ r
  pub answer_listed : among (number_of r.result.answer) (2 ∷ 3 ∷ 9 ∷ 1 ∷ []) ≡ true
  pub nothing : Unchanged w outbox r

abbrev pub UnarmedChangesNothing : Type 0
UnarmedChangesNothing = (w : Whole) (time : ℕ) (outbox : List ℕ) (at : ℕ) → Unarmed w time outbox at (unarmed_of w.node time outbox at w.kept w.signatures)

-- What one promise allows is one result, and one content of each lent buffer.
abbrev pub OneOut : Out → Type 0
OneOut x =
    (r r' : Outcome) (o o' k k' g g' : List ℕ) → out r o k g ≡ x → out r' o' k' g' ≡ x → (r ≡ r') × (o ≡ o') × (k ≡ k') × (g ≡ g')

pub record OneEach (w : Whole) (e : Event) (time : ℕ) (outbox : List ℕ) (at : ℕ) (c : Config) (s : Saved) : Type 0 where
  pub call : OneOut (called w e outbox at)
  pub unarmed : OneOut (unarmed_of w.node time outbox at w.kept w.signatures)
  pub fresh : (r r' : Made) → r ≡ fresh_of c → r' ≡ fresh_of c → r ≡ r'
  pub restore : (r r' : Made) → r ≡ restore_of c s → r' ≡ restore_of c s → r ≡ r'

abbrev pub OneResult : Type 0
OneResult = (w : Whole) (e : Event) (time : ℕ) (outbox : List ℕ) (at : ℕ) (c : Config) (s : Saved) → OneEach w e time outbox at c s

-- The configuration never changes.
abbrev pub ConfigurationStays : Type 0
ConfigurationStays = (w : Whole) (es : List Event) → (run w es).node.config ≡ w.node.config

-- A started node in range, with room, takes every well-formed NEWEPOCH, whatever it says, at any time and with any commit in range.
abbrev pub NewEpochIsTaken : Type 0
NewEpochIsTaken =
    (w : Whole) (d : Delivery) (outbox : List ℕ) (at : ℕ) → good_state w.node w.kept ≡ true → is_started w.node.pace ≡ true → in_room w outbox at ≡ true → frame_answer d.frame w.node.config.n w.node.config.number d.link ≡ answer.Done → kind_in d.frame ≡ 1 → good_time d.time && good_commit d.commit ≡ true → (called w (delivers d) outbox at).result.answer ≡ answer.Done

-- ---- demand 2: what is sent

-- Every frame that a call writes is read back, at whichever member, as the message meant: it bears this node's number and its configuration's.
abbrev pub SentIsRead : Type 0
SentIsRead =
    (w : Whole) (e : Event) (f : Effect) → TypedWhole w → Sized w → TypedEvent e → step w e ≡ done f → Each (λ m. ReadAs (own_frame w.node.config m) w.node.config.n w.node.config.number w.node.config.own m) f.sent

-- And the frames of what is sent have room in the outbox: so they stand there from the position on, whole, and every byte before the position and behind them is as it was.
pub record StandIn (c : Config) (sent : List Message) (outbox : List ℕ) (at : ℕ) (r : Out) : Type 0 where
  pub frames : part r.outbox at r.result.written ≡ frames_of c sent
  pub before : take at r.outbox ≡ take at outbox
  pub behind : drop (at + r.result.written) r.outbox ≡ drop (at + r.result.written) outbox

abbrev pub FramesStand : Type 0
FramesStand =
    (w : Whole) (e : Event) (f : Effect) (outbox : List ℕ) (at : ℕ) → TypedWhole w → TypedEvent e → in_room w outbox at ≡ true → step w e ≡ done f → StandIn w.node.config f.sent outbox at (called w e outbox at)

-- At most two frames are sent, and of two the first is a NEWEPOCH, the second a request for observations.
abbrev pub FewSent : List Message → Type 0
FewSent [] = Unit {0}
FewSent (m ∷ []) = Unit {0}
FewSent (m ∷ k ∷ []) = (kind_of m ≡ 1) × (kind_of k ≡ 2)
FewSent (m ∷ k ∷ l ∷ rest) = ⊥

abbrev pub NewEpochGoesFirst : Type 0
NewEpochGoesFirst = (w : Whole) (e : Event) (f : Effect) → step w e ≡ done f → FewSent f.sent

-- What a node signs. An OBSERVE that is sent answers the request of that epoch and round, and carries the host's observation.
pub record AnswersRequest (d : Delivery) (epoch round : ℕ) (v : ℤ) (g : List ℕ) : Type 0 where
  pub request : message_in d.frame ≡ observe_req epoch round
  pub value : v ≡ d.observation
  pub signature : g ≡ own_signature

-- A REPORT that is sent answers a REPORT-REQ of that epoch, round and list with every bit set.
pub record AnswersList (d : Delivery) (epoch round : ℕ) (xs : List Observation) (g : List ℕ) : Type 0 where
  pub list : List Signed
  pub request : message_in d.frame ≡ report_req epoch round list
  pub same : xs ≡ map (λ (x : Signed). x.said) list
  pub bits : all_set d.bits (length list) ≡ true
  pub signature : g ≡ own_signature

abbrev pub SignedFor : Delivery → Message → Type 0
SignedFor d (observe e r v g) = AnswersRequest d e r v g
SignedFor d (report e r xs g) = AnswersList d e r xs g
SignedFor d (new_epoch e) = Unit {0}
SignedFor d (observe_req e r) = Unit {0}
SignedFor d (report_req e r xs) = Unit {0}
SignedFor d (final a) = Unit {0}
SignedFor d (final_echo a) = Unit {0}

-- Start and timers send nothing that is for the node's own signature.
abbrev pub Unsigned : Message → Type 0
Unsigned (observe e r v g) = ⊥
Unsigned (report e r xs g) = ⊥
Unsigned (new_epoch e) = Unit {0}
Unsigned (observe_req e r) = Unit {0}
Unsigned (report_req e r xs) = Unit {0}
Unsigned (final a) = Unit {0}
Unsigned (final_echo a) = Unit {0}

abbrev pub Signs : Event → Message → Type 0
Signs (starts time) m = Unsigned m
Signs (delivers d) m = SignedFor d m
Signs (fires t time) m = Unsigned m

abbrev pub SignsOnlyWhatItAnswers : Type 0
SignsOnlyWhatItAnswers = (w : Whole) (e : Event) (f : Effect) → step w e ≡ done f → Each (Signs e) f.sent

-- A call whose buffers have their sizes is the step: refused with its code, or done with its effect and the frames sent over the outbox. In other buffers it is refused.
pub record IsTheStep (w : Whole) (e : Event) (outbox : List ℕ) (at : ℕ) : Type 0 where
  pub refusal : (a : Answer) → in_room w outbox at ≡ true → step w e ≡ refused a → called w e outbox at ≡ out (refusing a w.node) outbox w.kept w.signatures
  pub rule : (f : Effect) → in_room w outbox at ≡ true → step w e ≡ done f → called w e outbox at ≡ settled f outbox at
  pub no_room : in_room w outbox at ≡ false → (called w e outbox at).result.answer ≡ cond (good_state w.node w.kept) answer.Room answer.State

abbrev pub CallIsTheStep : Type 0
CallIsTheStep = (w : Whole) (e : Event) (outbox : List ℕ) (at : ℕ) → IsTheStep w e outbox at

-- A call leaves what the step leaves or, without room, what it found: so what is claimed over runs holds over calls.
pub record Leaves (w : Whole) (e : Event) (outbox : List ℕ) (at : ℕ) : Type 0 where
  pub with_room : in_room w outbox at ≡ true → left (called w e outbox at) ≡ after w e
  pub no_room : in_room w outbox at ≡ false → left (called w e outbox at) ≡ w

abbrev pub CallLeavesTheStep : Type 0
CallLeavesTheStep = (w : Whole) (e : Event) (outbox : List ℕ) (at : ℕ) → Leaves w e outbox at

-- "Each call says which timers to start or stop; the state keeps only whether each is armed, and one that fires with DONE no longer is unless its rule restarts it."
abbrev pub armed : Timer → ℕ → ℕ
armed timer.Leave flag = flag
armed timer.Start flag = 1
armed timer.Stop flag = 0

abbrev pub same_timer : Fired → Fired → Bool
same_timer fired.Resend fired.Resend = true
same_timer fired.Resend fired.Progress = false
same_timer fired.Resend fired.Round = false
same_timer fired.Resend fired.Grace = false
same_timer fired.Progress fired.Resend = false
same_timer fired.Progress fired.Progress = true
same_timer fired.Progress fired.Round = false
same_timer fired.Progress fired.Grace = false
same_timer fired.Round fired.Resend = false
same_timer fired.Round fired.Progress = false
same_timer fired.Round fired.Round = true
same_timer fired.Round fired.Grace = false
same_timer fired.Grace fired.Resend = false
same_timer fired.Grace fired.Progress = false
same_timer fired.Grace fired.Round = false
same_timer fired.Grace fired.Grace = true

-- a timer's flag as its rule finds it: the one that fires is no longer armed
abbrev pub found : Event → Fired → ℕ → ℕ
found (starts time) t flag = flag
found (delivers d) t flag = flag
found (fires u time) t flag = cond (same_timer t u) 0 flag

pub record Armed (w : Whole) (e : Event) (f : Effect) : Type 0 where
  pub resend : f.whole_after.node.pace.resend ≡ armed f.timers.resend (found e fired.Resend w.node.pace.resend)
  pub progress : f.whole_after.node.pace.progress ≡ armed f.timers.progress (found e fired.Progress w.node.pace.progress)
  pub round : f.whole_after.node.leader.t_round ≡ armed f.timers.round (found e fired.Round w.node.leader.t_round)
  pub grace : f.whole_after.node.leader.t_grace ≡ armed f.timers.grace (found e fired.Grace w.node.leader.t_grace)

abbrev pub FlagsAreTheTimers : Type 0
FlagsAreTheTimers = (w : Whole) (e : Event) (f : Effect) → step w e ≡ done f → Armed w e f

-- ---- over runs, from a fresh or a restored node

-- one of the events delivered this report in a frame that passed, and with its bits it passed checks 14 to 17
pub record Checked (c : Config) (es : List Event) (a : Attested) : Type 0 where
  pub delivery : Delivery
  pub one : OneOf (delivers delivery) es
  pub passes : frame_answer delivery.frame c.n c.number delivery.link ≡ answer.Done
  pub carries : Carries (message_in delivery.frame) a
  pub stands : attested_fault c.f delivery.bits a ≡ fault.Nothing

-- What is kept was checked, and is of the node's epoch and round.
pub record KeptChecked (w : Whole) (es : List Event) : Type 0 where
  pub checked : Checked w.node.config es (attested_in w.kept)
  pub epoch : (attested_in w.kept).epoch ≡ epoch_of w.node
  pub round : (attested_in w.kept).round ≡ w.node.follower.round

abbrev pub KeptWasChecked : Type 0
KeptWasChecked =
    (w : Whole) (es : List Event) → Begun w → TypedEvents es → is_set (run w es).node.follower.kept ≡ true → KeptChecked (run w es) es

-- Only reports that passed the checks are handed out.
abbrev pub HandedWasChecked : Type 0
HandedWasChecked =
    (w : Whole) (es : List Event) → Begun w → TypedEvents es → Each (Checked w.node.config es) (handed_in w es)

-- each is of a later round, or of a later epoch, than the one before
abbrev pub Rising : List Attested → Type 0
Rising [] = Unit {0}
Rising (a ∷ []) = Unit {0}
Rising (a ∷ b ∷ l) = (newer b.epoch b.round a.epoch a.round ≡ true) × Rising (b ∷ l)

-- So a report is handed out at most once a round.
abbrev pub HandedOnceARound : Type 0
HandedOnceARound = (w : Whole) (es : List Event) → Begun w → TypedEvents es → Rising (handed_in w es)

-- how many OBSERVE of an epoch are among messages
abbrev pub observes : ℕ → Message → Bool
observes epoch (observe e r v g) = eqb e epoch
observes epoch (new_epoch e) = false
observes epoch (observe_req e r) = false
observes epoch (report_req e r xs) = false
observes epoch (report e r xs g) = false
observes epoch (final a) = false
observes epoch (final_echo a) = false

unfoldable pub count_observes : ℕ → List Message → ℕ
count_observes epoch [] = 0
count_observes epoch (m ∷ ms) = cond (observes epoch m) 1 0 + count_observes epoch ms

-- At most r_max rounds are followed in an epoch: from any state, no more than r_max OBSERVE of it are sent.
abbrev pub FewRoundsAnEpoch : Type 0
FewRoundsAnEpoch =
    (w : Whole) (es : List Event) (epoch : ℕ) → count_observes epoch (sent_in w es) ≤ w.node.config.r_max

-- A restored node "doesn't rejoin a report instance until it moves to a higher epoch": before it moves it is in none, sends NEWEPOCH alone and hands out nothing.
pub record Waits (w : Whole) (es : List Event) : Type 0 where
  pub outside : is_set (run w es).node.follower.live ≡ false
  pub sends : Each (λ m. kind_of m ≡ 1) (sent_in w es)
  pub hands : handed_in w es ≡ []

abbrev pub RestoredWaitsForAMove : Type 0
RestoredWaitsForAMove = (w : Whole) (es : List Event) → Begun w → epoch_of (run w es).node ≡ epoch_of w.node → Waits w es

-- ---- demand 3

-- "So, from a reachable state, after any list of NEWEPOCH, none refused: heard[j] is the largest of what it was and what j sent; highest sent is the larger of what it was and
-- the largest number that more than f entries of heard reach; the epoch likewise with 2f." Over whole deliveries, each with its own clock, commit, observation and bits.
pub record ClosedForm (w : Whole) (ds : List Delivery) (v : Whole) : Type 0 where
  pub heard : (j : ℕ) → 1 ≤ j → j ≤ w.node.config.n → get_or v.node.pace.heard (j - 1) 0 ≡ max (get_or w.node.pace.heard (j - 1) 0) (highest_from j ds)
  pub highest : v.node.pace.highest ≡ max w.node.pace.highest (reached w.node.config.f (heard_by w.node.config.n v.node.pace))
  pub epoch : v.node.pace.epoch ≡ max w.node.pace.epoch (reached (2 * w.node.config.f) (heard_by w.node.config.n v.node.pace))

abbrev pub AfterAnyList : Type 0
AfterAnyList =
    (w : Whole) (ds : List Delivery) → Reachable w → is_started w.node.pace ≡ true → AllOf 1 w ds → ClosedForm w ds (run w (deliveries ds))

-- Of two such lists with the same highest number from each member, the node ends in the same state after either, with the same kept and signature buffers.
abbrev pub EpochOrderDecidesNothing : Type 0
EpochOrderDecidesNothing =
    (w : Whole) (ds ds' : List Delivery) → Reachable w → is_started w.node.pace ≡ true → AllOf 1 w ds → AllOf 1 w ds' → ((j : ℕ) → 1 ≤ j → j ≤ w.node.config.n → highest_from j ds ≡ highest_from j ds') → run w (deliveries ds) ≡ run w (deliveries ds')

-- A leader in any state, handed the same observations in another order, none refused, ends in the same state with the same signatures; and T_grace, where it is not refused, then
-- writes the same frames: the same report request.
pub record SameRequest (w : Whole) (ds ds' : List Delivery) : Type 0 where
  pub whole_after : run w (deliveries ds) ≡ run w (deliveries ds')
  pub request : (time time' : ℕ) (f f' : Effect) → step (run w (deliveries ds)) (fires fired.Grace time) ≡ done f → step (run w (deliveries ds')) (fires fired.Grace time') ≡ done f' → frames_of w.node.config f.sent ≡ frames_of w.node.config f'.sent

abbrev pub ObservationOrderDecidesNothing : Type 0
ObservationOrderDecidesNothing =
    (w : Whole) (ds ds' : List Delivery) → TypedWhole w → AllOf 3 w ds → AllOf 3 w ds' → Perm (observations ds) (observations ds') → SameRequest w ds ds'

-- Both over whole calls, each with its own outbox and position beside its clock, commit, observation and bits.
abbrev pub EpochCallsDecideNothing : Type 0
EpochCallsDecideNothing =
    (w : Whole) (ks ks' : List Call) → Reachable w → is_started w.node.pace ≡ true → AllDone 1 w ks → AllDone 1 w ks' → ((j : ℕ) → 1 ≤ j → j ≤ w.node.config.n → highest_from j (given_by ks) ≡ highest_from j (given_by ks')) → (call_all w ks ≡ call_all w ks') × ClosedForm w (given_by ks) (call_all w ks)

abbrev pub grace_at : Whole → ℕ → List ℕ → ℕ → Out
grace_at w time outbox at = called w (fires fired.Grace time) outbox at

pub record SameWritten (w : Whole) (ks ks' : List Call) : Type 0 where
  pub whole_after : call_all w ks ≡ call_all w ks'
  pub request : (time time' : ℕ) (outbox outbox' : List ℕ) (at at' : ℕ) → is_done (grace_at (call_all w ks) time outbox at).result.answer ≡ true → is_done (grace_at (call_all w ks') time' outbox' at').result.answer ≡ true → part (grace_at (call_all w ks) time outbox at).outbox at (grace_at (call_all w ks) time outbox at).result.written ≡ part (grace_at (call_all w ks') time' outbox' at').outbox at' (grace_at (call_all w ks') time' outbox' at').result.written

abbrev pub ObservationCallsDecideNothing : Type 0
ObservationCallsDecideNothing =
    (w : Whole) (ks ks' : List Call) → TypedWhole w → AllDone 3 w ks → AllDone 3 w ks' → Perm (observations (given_by ks)) (observations (given_by ks')) → SameWritten w ks ks'
