-- Each row computes; the epoch program's run is computed a line at a time, in its own crate.
use Rattle.std.proofs.Common.{refl}
use Rattle.config.specs.Codes.{number_of}
use Rattle.price.specs.Deviation.{deviates}
use Rattle.quorum.specs.First.{first_at}
use Rattle.frame.specs.Table.{destination_of}
use Rattle.report.specs.Stands.{not_falling, list_fault}
use Rattle.epochline.proofs.Claims.{worked_run}
use Rattle.worked.specs.Claims.{Worked}

pub worked : Worked
unfolding deviates number_of list_fault not_falling first_at destination_of
worked = rw worked_run refl
