-- Both tests say together that the names are live.
use Rattle.std.proofs.Common.{sym, ◌∙◌}
use Rattle.configuration.specs.Config.{configuration_of}
use Rattle.closure.proofs.LiveLemmas.{tests_live, live_remotes}
use Rattle.closure.proofs.obligations.is_live.Goals as goal

pub returns-then-contexts : goal.returns-then-contexts
returns-then-contexts c =
    let config = configuration_of c.args.config.now in (
      λ stand. tests_live config c.contexts_stand-contexts.ensures.slots c.remotes_stand-remotes.ensures.slots
          (sym c.contexts_stand-contexts.ensures.value ∙ c.if-contexts.true) (sym c.remotes_stand-remotes.ensures.value ∙ stand),
      λ live. c.remotes_stand-remotes.ensures.value ∙ live_remotes config live,
    )
