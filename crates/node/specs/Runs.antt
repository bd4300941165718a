-- Runs of a node: lists of events, the states that they lead to, and what is sent and handed out on the way.
use Rattle.std.specs.Prelude.{◌≡◌, true, cond, List, [], ◌∷◌, ◌++◌, map, ℕ, ◌≤◌, max, eqb, length}
use Rattle.config.specs.Limits.{last_epoch, kept_size, signatures_size}
use Rattle.config.specs.Bounds.{good_config}
use Rattle.config.specs.Codes.{is_done}
use Rattle.config.specs.declared.Config.{Config}
use Rattle.config.specs.declared.Saved.{Saved}
use Rattle.frame.specs.Message.{Attested, Message}
use Rattle.frame.specs.Decode.{epoch_in, value_in, observe_signature, kind_in, body_in}
use Rattle.report.specs.Whole.{report_of}
use Rattle.follower.specs.Handed.{handed_part}
use Rattle.leader.specs.Runs.{Observed}
use Rattle.node.specs.State.{restored_node}
use Rattle.node.specs.Event.{Whole, whole, Delivery, Event, starts, delivers, fires, Step, refused, done}
use Rattle.node.specs.Calls.{step, Out, called}

-- ---- runs

-- the state after an event, which is as before where it is refused
abbrev pub settled_in : Whole → Step → Whole
settled_in w (refused a) = w
settled_in w (done f) = f.whole_after

abbrev pub after : Whole → Event → Whole
after w e = settled_in w (step w e)

unfoldable pub run : Whole → List Event → Whole
run w [] = w
run w (e ∷ es) = run (after w e) es

-- a fresh or a restored node, with any buffers of their sizes
pub record Begun (w : Whole) : Type 0 where
  pub config : Config
  pub saved : Saved
  pub good : good_config config ≡ true
  pub saved_good : saved.epoch ≤ saved.highest
  pub in_range : saved.highest ≤ last_epoch
  pub node : w.node ≡ restored_node config saved
  pub kept : kept_size ≤ length w.kept
  pub signatures : signatures_size ≤ length w.signatures

-- the states a node can reach: from such a beginning, by any events, refused ones among them. The buffers that an event leaves are those of the next: a host that writes into
-- them is outside these runs
pub record Reachable (w : Whole) : Type 0 where
  pub first : Whole
  pub begun : Begun first
  pub events : List Event
  pub ends : run first events ≡ w

-- ---- what a run sends and hands out

abbrev pub sent_by : Step → List Message
sent_by (refused a) = []
sent_by (done f) = f.sent

unfoldable pub sent_in : Whole → List Event → List Message
sent_in w [] = []
sent_in w (e ∷ es) = sent_by (step w e) ++ sent_in (after w e) es

-- the bytes that an event brings; a timer and Start bring none
abbrev pub arriving : Event → List ℕ
arriving (starts time) = []
arriving (delivers d) = d.frame
arriving (fires t time) = []

-- the report that a step hands out, if it does
abbrev pub handed_by : Whole → Event → Step → List Attested
handed_by w e (refused a) = []
handed_by w e (done f) = report_of (handed_part f.handed w.kept (arriving e))

unfoldable pub handed_in : Whole → List Event → List Attested
handed_in w [] = []
handed_in w (e ∷ es) = handed_by w e (step w e) ++ handed_in (after w e) es

-- ---- lists of epoch messages

-- the events of a list of deliveries
abbrev pub deliveries : List Delivery → List Event
deliveries ds = map delivers ds

abbrev pub Done : Step → Type 0
Done (refused a) = ⊥
Done (done f) = Unit {0}

-- each is of this kind, and none is refused
abbrev pub AllOf : ℕ → Whole → List Delivery → Type 0
AllOf kind w [] = Unit {0}
AllOf kind w (d ∷ ds) = (kind_in d.frame ≡ kind) × Done (step w (delivers d)) × AllOf kind (after w (delivers d)) ds

-- the highest number from member j in a list of epoch messages; 0 where it sent none
unfoldable pub highest_from : ℕ → List Delivery → ℕ
highest_from j [] = 0
highest_from j (d ∷ ds) = max (cond (eqb d.link j) (epoch_in (body_in d.frame)) 0) (highest_from j ds)

-- ---- lists of observations

abbrev pub observed_in : Delivery → Observed
observed_in d = record { from = d.link; value = value_in (body_in d.frame); signature = observe_signature (body_in d.frame) }

abbrev pub observations : List Delivery → List Observed
observations ds = map observed_in ds

-- ---- lists of whole calls

-- a delivery, with the outbox and the position that the host lends to it
pub record Call : Type 0 where
  pub given : Delivery
  pub outbox : List ℕ
  pub at : ℕ

abbrev pub given_by : List Call → List Delivery
given_by ks = map (λ (k : Call). k.given) ks

-- the state and the buffers that a call leaves
abbrev pub left : Out → Whole
left o = whole o.result.node o.kept o.signatures

abbrev pub answered : Whole → Call → Out
answered w k = called w (delivers k.given) k.outbox k.at

unfoldable pub call_all : Whole → List Call → Whole
call_all w [] = w
call_all w (k ∷ ks) = call_all (left (answered w k)) ks

-- each call brings a message of this kind, and none is refused
abbrev pub AllDone : ℕ → Whole → List Call → Type 0
AllDone kind w [] = Unit {0}
AllDone kind w (k ∷ ks) = (kind_in k.given.frame ≡ kind) × (is_done (answered w k).result.answer ≡ true) × AllDone kind (left (answered w k)) ks
