-- `Node::following` meets its contract: the follower's rule says what is raised, replied and handed out, and each is what its part is then asked to do.
use Rattle.std.proofs.Common.{◌≡◌, ◌≤◌, arith, w64, rules}
use Rattle.std.proofs.lemmas.Int.{to_z-of_z}
use Rattle.frame.specs.Kinds.{number_of}
use Rattle.frame.specs.Decode.{message_of, message_in}
use Rattle.follower.specs.Rules.{follow_of}
use Rattle.node.specs.Event.{whole, delivery_of}
use Rattle.node.specs.Ready.{Sound}
use Rattle.node.proofs.Ready.{members_most, sound_frame}
use Rattle.node.proofs.Frames.{announcement_size, announced_long, reply_fits, wrote_then}
use Rattle.node.proofs.Followed.{reply_answers, sum_fits, handed_whole, following_settles}
use Rattle.node.proofs.Node.following.Goals as goal

pub handed_of-handed-requires : goal.handed_of-handed-requires
handed_of-handed-requires c =
    let a = c.args in
    let h : Sound a.self.config a.arrival.link (number_of c.known_kind-kind.result) c.body_of-body.result.now = rw (c.known_kind-kind.ensures, c.body_of-body.ensures) (sound_frame a.self.config a.arrival.link a.arrival.frame.now c.requires.0.config c.requires.0.frame_good) in
    rw (c.follow-followed.ensures.0, c.follow-followed.ensures.1)
    (handed_whole a.self.config a.self.follower _ a.kept.now (members_most a.self.config h.config) c.requires.2 c.requires.0.held c.known_kind-kind.result h.body_good a.arrival.link a.arrival.time a.arrival.commit)

pub write_reply-replied-requires : goal.write_reply-replied-requires
write_reply-replied-requires c =
    let a = c.args in
    let kind = number_of c.known_kind-kind.result in
    let body = c.body_of-body.result.now in
    let h : Sound a.self.config a.arrival.link kind body = rw (c.known_kind-kind.ensures, c.body_of-body.ensures) (sound_frame a.self.config a.arrival.link a.arrival.frame.now c.requires.0.config c.requires.0.frame_good) in
    let first : c.write_announced-announced.result ≤ announcement_size = rw c.write_announced-announced.ensures.long (announced_long a.self.config c.raising-paced.result.sent) in
    let answers = rw (← c.follow-followed.ensures.0) at (reply_answers a.self.config a.self.follower a.arrival.link a.arrival.time a.arrival.commit c.known_kind-kind.result body) in
    (h.body_good, answers, reply_fits a.self.config.n kind body c.follow-followed.result.reply _ _ (members_most a.self.config h.config) h.body_good answers (omega arith))

-- only one of the two is written
pub overflow_add-announced : goal.overflow_add-announced
overflow_add-announced c =
    let a = c.args in
    sum_fits a.self.config a.self.follower a.arrival.link a.arrival.time a.arrival.commit (message_of (number_of c.known_kind-kind.result) c.body_of-body.result.now) a.self.pace a.arrival.observation
    (rw (← c.follow-followed.ensures.0, ← c.raising-paced.ensures) c.write_announced-announced.ensures.long)
    (rw (c.follow-followed.ensures.0, to_z-of_z w64 a.arrival.observation (search rules)) at c.write_reply-replied.ensures.long)
    (record { fits = c.write_announced-announced.type_inv })
    (record { fits = c.write_reply-replied.type_inv })

pub returns : goal.returns
returns c signatures =
    let a = c.args in
    let message : message_of (number_of c.known_kind-kind.result) c.body_of-body.result.now ≡ message_in a.arrival.frame.now = rw (c.known_kind-kind.ensures, c.body_of-body.ensures) in
    let f = c.follow-followed in
    let followed : f.result ≡ follow_of a.self.config a.self.follower a.arrival.link a.arrival.time a.arrival.commit (message_in a.arrival.frame.now) = rw (← message) f.ensures.0 in
    rw (c.doing.ensures, c.paced_timers.ensures)
    (following_settles (whole a.self a.kept.now signatures) (delivery_of a.arrival) a.outbox.now a.at
    followed
    c.raising-paced.ensures
    (rw (← message) f.ensures.1)
    (rw (← c.body_of-body.ensures) c.handed_of-handed.ensures)
    (wrote_then c.write_announced-announced.ensures (rw (to_z-of_z w64 a.arrival.observation (search rules), message) at c.write_reply-replied.ensures)))
