-- What compares alike is one command.
use Rattle.std.proofs.Common.{◌≡◌, ◌∙◌, Some, sym, ap}
use Rattle.std.proofs.lemmas.Option.{same_Some}
use Rattle.mg_model.specs.declared.commands.Command.{Command}
use Rattle.call_ways.proofs.SameCommands.{alike_itself, same_command}
use Rattle.call_ways.proofs.fates.is_next.Goals as goal

pub returns-in-Some : goal.returns-in-Some
returns-in-Some c =
    let kept : Command = c.in-Some.kept in
    let command : Command = c.args.command.now in
    let is : c.args.next.now ≡ Some kept = c.in-Some.is in (
      (λ yes. is ∙ ap Some (same_command kept command (sym c.eq.ensures ∙ yes))),
      (λ same. c.eq.ensures ∙ alike_itself kept command (same_Some kept command (sym is ∙ same))),
    )
