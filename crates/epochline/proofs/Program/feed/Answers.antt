-- `Program::feed` meets its contract: a newline ends a line, and any other byte lengthens it (`byte_more`).
use Rattle.std.proofs.Common.{◌≢◌, arith}
use Rattle.epochline.proofs.Turns.{leaves_silent, byte_more}
use Rattle.epochline.proofs.Program.feed.Goals as goal

pub returns : goal.returns
returns c = let h : c.args.byte ≢ 10 = omega arith in leaves_silent c.longer.ensures (byte_more _ _ h)
