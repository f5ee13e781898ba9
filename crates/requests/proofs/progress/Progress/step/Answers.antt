use Rattle.std.proofs.Common.{◌∙◌, sym}
use Rattle.requests.specs.Commands.{running}
use Rattle.requests.specs.Connected.{board_in, line_in}
use Rattle.requests.proofs.RunLemmas.{succeeds, there}
use Rattle.requests.proofs.progress.Progress.step.Goals as goal

pub finish-requires : goal.finish-requires
finish-requires c = there _ _ _ _ _ _ c.item_at-item.ensures c.in-Ok.ensures.executed

pub returns-in_ok-finish-in-Ok : goal.returns-in_ok-finish-in-Ok
returns-in_ok-finish-in-Ok c =
    succeeds (running c.args.self.now) _ _ _ (board_in c.exec.new.self) (line_in c.exec.new.self) c.in-Ok.done c.args.place _ c.args.number
    (rw c.as_slice.ensures.value at c.item_at-item.ensures) (sym c.chosen_at.ensures ∙ c.in_default.is) c.in-Ok.ensures.executed c.exec.ensures.lines c.in_ok-finish-in-Ok.ensures
