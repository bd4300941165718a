-- `Node::delivering` meets its contract: the frame's kind picks the part, whose own function promises the rest.
use Rattle.std.proofs.Common.{◌≡◌, ap, inl, inr, ◌∙◌}
use Rattle.frame.specs.Kinds.{number_of}
use Rattle.frame.specs.Decode.{message_of, message_in}
use Rattle.node.specs.Event.{whole, delivery_of}
use Rattle.node.proofs.Followed.{delivering_follows}
use Rattle.node.proofs.Node.delivering.Goals as goal

-- the other kinds are the follower's
pub returns-in_default : goal.returns-in_default
returns-in_default c =
    let a = c.args in
    let kind = number_of c.known_kind-kind.result in
    let body = c.body_of-body.result.now in
    let w = whole a.self a.kept.now a.signatures.now in
    let d = delivery_of a.arrival in
    let message : message_in a.arrival.frame.now ≡ message_of kind body = rw (c.known_kind-kind.ensures, c.body_of-body.ensures) in
    let number = c.number-number.ensures in
    let other = c.in_default.in_default-own.rest in
    let e = delivering_follows w d c.known_kind-kind.result body (λ e. other.0.1 (number ∙ ap number_of e)) (λ e. other.1 (inl (number ∙ ap number_of e))) (λ e. other.1 (inr (number ∙ ap number_of e))) in
    rw (rw (← message) at e) (c.following.ensures a.signatures.now)
