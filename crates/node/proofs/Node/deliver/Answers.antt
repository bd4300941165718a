-- `Node::deliver` meets its contract: where the answer is DONE its checks leave what the message's rule asks for.
use Rattle.std.proofs.Common.{sym, ap, ◌∙◌}
use Rattle.std.specs.Result.{is_ok}
use Rattle.node.specs.Calls.{called}
use Rattle.node.proofs.Node.deliver.Goals as goal

pub returns-then-is_ok : goal.returns-then-is_ok
unfolding called
returns-then-is_ok c =
    let a = c.args in
    let said = rw c.roomy-room.ensures at c.delivery_answer-answer.ensures in
    rw (sym (c.is_ok.ensures.value ∙ ap is_ok said) ∙ c.if-is_ok.true) c.delivering.ensures
