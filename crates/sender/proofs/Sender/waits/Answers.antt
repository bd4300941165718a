-- `Sender::waits` meets its contract: it is what `stage_for` ensures, of a configuration in range.
use Rattle.config.proofs.Facts.{good_facts}
use Rattle.sender.proofs.Sender.waits.Goals as goal

pub stage_for-requires : goal.stage_for-requires
stage_for-requires c = (good_facts _ c.requires).feed.schedule.most
