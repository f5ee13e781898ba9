-- A hook event that could happen shows that the call holds the line.
use Rattle.mg_model.specs.declared.line_events.Hook.TheVariants.{Off}
use Rattle.mg_model.specs.declared.line_events.LineEvent.TheVariants as happens
use Rattle.taken_steps.proofs.HeldLines.{holds_so, tells_so}
use Rattle.taken_steps.proofs.causes.is_holder.Goals as goal

pub returns-then-branch : goal.returns-then-branch
returns-then-branch c =
    holds_so c.args.shard.now c.args.call.0 c.args.line (happens.Hook Off) c.hook_goes.result c.can_occur.result c.in_ok-can_occur.field-0
    c.hook_goes.ensures c.can_occur.ensures c.in_ok-can_occur.was c.if-branch.true

pub returns : goal.returns
returns c =
    tells_so c.args.shard.now c.args.call.0 c.args.line c.hook_goes.result c.hook_goes-2.result c.can_occur.result c.in_ok-can_occur.field-0
    c.can_occur-2.result c.hook_goes.ensures c.can_occur.ensures c.in_ok-can_occur.was c.if-branch.false c.hook_goes-2.ensures c.can_occur-2.ensures
