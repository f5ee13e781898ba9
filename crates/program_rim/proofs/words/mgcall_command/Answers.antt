-- The command with its two subcommands.
use Rattle.std.proofs.Common.{◌∙◌, ap, ap₂}
use Rattle.std.proofs.lemmas.Result.{IfOk-weaker}
use Rattle.clap.specs.Words.{App, with_subcommand}
use Rattle.program_rim.proofs.words.mgcall_command.Goals as goal

pub returns : goal.returns
returns c = IfOk-weaker c.subcommand-2.result _ _
    (λ m h. h.shape c.in_ok-run.ensures.local
    ∙ ap₂ with_subcommand (c.in_ok-subcommand.ensures.shape c.in_ok-check.ensures.local
    ∙ ap₂ with_subcommand c.new.ensures.app (ap (λ (a : App). a.top) c.in_ok-check.ensures.app))
    (ap (λ (a : App). a.top) c.in_ok-run.ensures.app))
    c.subcommand-2.ensures
