-- What the types of a state, of its buffers and of a call's arguments allow, said of the lists and numbers that the definitions speak of. Whatever bytes a host lends and
-- whatever numbers it gives, these hold; a claim that asks for them asks for nothing.
use Rattle.std.specs.Prelude.{List, [], ◌∷◌, ◌≡◌, ℕ, ◌^◌, ◌≤◌, ◌<◌, pos, length, get_or}
use Rattle.std.specs.Int.{w64}
use Rattle.std.proofs.Common.{SFits}
use Rattle.config.specs.Limits.{members, last_round}
use Rattle.wire.specs.Numbers.{Bytes}
use Rattle.pacemaker.specs.Claims.{InRange}
use Rattle.node.specs.declared.Node.{Node}
use Rattle.node.specs.Event.{Whole, Delivery, Event, starts, delivers, fires}

pub record TypedNode (n : Node) : Type 0 where
  pub number : n.config.number < 2 ^ 64
  -- epoch, highest sent and heard numbers have 32 bits
  pub pace : InRange n.pace
  pub heard : length n.pace.heard ≡ members
  pub round : n.follower.round ≤ last_round
  pub marks : length n.follower.marks ≡ members
  pub leader_round : n.leader.round ≤ last_round
  pub values : length n.leader.values ≡ members
  pub value : (k : ℕ) → SFits w64 (get_or n.leader.values k (pos 0))
  pub observed : length n.leader.observed ≡ members
  pub reported : length n.leader.reported ≡ members

pub record TypedWhole (w : Whole) : Type 0 where
  pub node : TypedNode w.node
  pub kept : Bytes w.kept
  pub signatures : Bytes w.signatures

pub record TypedDelivery (d : Delivery) : Type 0 where
  pub observation : SFits w64 d.observation
  pub frame : Bytes d.frame

abbrev pub TypedEvent : Event → Type 0
TypedEvent (starts time) = Unit {0}
TypedEvent (delivers d) = TypedDelivery d
TypedEvent (fires t time) = Unit {0}

abbrev pub TypedEvents : List Event → Type 0
TypedEvents [] = Unit {0}
TypedEvents (e ∷ es) = TypedEvent e × TypedEvents es
