-- `Sender::good` meets its contract: each return has the tests before it.
use Rattle.std.proofs.Common.{sym}
use Rattle.config.proofs.Facts.{good_facts}
use Rattle.sender.proofs.Facts.{fields_facts}
use Rattle.sender.proofs.Sender.good.Goals as goal

pub good_slots-requires : goal.good_slots-requires
good_slots-requires c =
    ((good_facts _ (fields_facts _ (sym c.if-good_fields.ensures)).0).feed.members.most, c.if-waiting-lt-WAITING.false)
