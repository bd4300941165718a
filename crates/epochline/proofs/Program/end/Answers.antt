-- `Program::end` meets its contract: its test is the spec's (`end_silent`).
use Rattle.std.proofs.Common.{refl}
use Rattle.epochline.proofs.Turns.{leaves_silent, end_silent}
use Rattle.epochline.proofs.Program.end.Goals as goal

pub returns-then-self : goal.returns-then-self
returns-then-self c = leaves_silent refl (end_silent _ c.if-self.true)
