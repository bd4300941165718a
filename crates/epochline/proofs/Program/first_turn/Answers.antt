-- `Program::first_turn` meets its contract: a node is made and the run goes on (`first_goes`), or no configuration is printed, as the search finds.
use Rattle.std.proofs.Common.{sym, ap, ◌∙◌}
use Rattle.node.specs.Calls.{fresh_of}
use Rattle.epochline.specs.Lines.{config_in}
use Rattle.epochline.specs.Machine.{machine}
use Rattle.epochline.proofs.Turns.{leaves_silent, first_goes}
use Rattle.epochline.proofs.Program.first_turn.Goals as goal

pub returns-then-is_ok : goal.returns-then-is_ok
returns-then-is_ok c outbox kept signatures =
    let p = c.args.self in
    let made = c.fresh-made.ensures ∙ ap fresh_of (c.config_in.ensures ∙ ap config_in c.line_so_far.ensures) in
    leaves_silent c.on_line.ensures
    (first_goes (machine p outbox kept signatures) c.fresh-made.result made (sym c.is_ok.ensures.value ∙ c.if-is_ok.true))
