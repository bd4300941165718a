-- `Program::later_turn` meets its contract: the line has another shape and ends the run (`later_ends`), or its command's call is printed (`later_goes`).
use Rattle.std.proofs.Common.{ap, ◌∙◌}
use Rattle.epochline.specs.Lines.{command_of}
use Rattle.epochline.proofs.Turns.{leaves, leaves_silent, later_ends, later_goes}
use Rattle.epochline.proofs.Program.later_turn.Goals as goal

pub returns-in_default : goal.returns-in_default
returns-in_default c =
    leaves_silent c.on_line.ensures (later_ends _ (c.in_default.ensures ∙ ap command_of c.line_so_far.ensures))

pub returns : goal.returns
returns c =
    let said = c.in-Some.ensures ∙ ap command_of c.line_so_far.ensures in
    leaves _ c.on_line-2.ensures
    (later_goes _ _ c.calling-outcome.result _ _ _ said c.calling-outcome.ensures)
    c.print_node.ensures.0
    c.print_node.ensures.1
