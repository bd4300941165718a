-- `Program::line_turn` meets its contract: the phase says which turn it is, and a run that has ended passes over its lines (`line_ended`).
use Rattle.std.proofs.Common.{◌≢◌, refl, arith}
use Rattle.epochline.proofs.Turns.{leaves_silent, line_ended}
use Rattle.epochline.proofs.Program.line_turn.Goals as goal

pub returns-in_default : goal.returns-in_default
returns-in_default c =
    let h : c.args.self.phase ≢ 0 = omega arith in
    let g : c.args.self.phase ≢ 1 = omega arith in
    leaves_silent refl (line_ended _ h g)
