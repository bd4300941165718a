-- `Follower::takes` meets its contract: each kind with a rule has an arm that promises its conditions, and the others are not a follower's.
use Rattle.std.proofs.Common.{◌≡◌, sym, ◌∙◌}
use Rattle.frame.specs.Kinds.{number_of}
use Rattle.frame.specs.Decode.{message_of}
use Rattle.follower.proofs.Follower.takes.Goals as goal

pub returns-in-7 : goal.returns-in-7
unfolding message_of
returns-in-7 c =
    let seventh : number_of c.args.kind ≡ 7 = sym c.number-kind.ensures ∙ c.in-7.is in
    rw seventh (c.takes_echo.ensures c.args.leader)
