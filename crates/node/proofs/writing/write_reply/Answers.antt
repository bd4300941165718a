-- `write_reply` meets its contract: a REPORT lists what the request's list says, without its signatures.
use Rattle.frame.specs.Decode.{message_of}
use Rattle.frame.proofs.Checked.{said_in}
use Rattle.node.proofs.Frames.{wrote_one}
use Rattle.node.proofs.writing.write_reply.Goals as goal

pub returns-in-Report : goal.returns-in-Report
unfolding message_of
returns-in-Report c =
    let kind = rw c.in-Report.is at c.requires.1 in
    rw (c.in-Report.is, kind, said_in c.args.body.now) (wrote_one c.write_report.ensures)
