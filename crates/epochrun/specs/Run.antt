-- A run that prints, as the machine of the epoch program's library.
use Rattle.epochline.specs.Machine.{Machine, machine}
use Rattle.epochrun.specs.declared.Run.{Run}

-- the program of a run, with the buffers that the run lends to it
abbrev pub machine_of : Run → Machine
machine_of r = machine r.program r.outbox r.kept r.signatures
