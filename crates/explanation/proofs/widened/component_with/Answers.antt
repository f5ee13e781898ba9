-- The value was added, or was there.
use Rattle.std.proofs.Common.{subst}
use Rattle.mg_model.specs.Entries.{Allows}
use Rattle.configuration.specs.Config.{configuration_of}
use Rattle.entry_table.specs.declared.component.Component.{Component}
use Rattle.entry_table.specs.Shown.{shown}
use Rattle.explanation.proofs.Added.{among_all}
use Rattle.explanation.proofs.widened.component_with.Goals as goal

pub returns-in_ok-all-in-Links-clause-has : goal.returns-in_ok-all-in-Links-clause-has
returns-in_ok-all-in-Links-clause-has c =
    among_all c.in_ok-all-in-Links.all c.as_slice.result.now c.in-Links.values c.args.wanted c.link.result ((configuration_of c.args.config.now).link)
    c.in_ok-all-in-Links.ensures c.as_slice.ensures c.link.ensures
    (λ no. subst (λ (component : Component). Allows (configuration_of c.args.config.now) (shown component)) c.in-Links.is (c.requires no))

pub returns-in_ok-all-in-Spots-clause-has : goal.returns-in_ok-all-in-Spots-clause-has
returns-in_ok-all-in-Spots-clause-has c =
    among_all c.in_ok-all-in-Spots.all c.as_slice-in-Spots.result.now c.in-Spots.values c.args.wanted c.spot.result ((configuration_of c.args.config.now).spot c.in-Spots.t)
    c.in_ok-all-in-Spots.ensures c.as_slice-in-Spots.ensures c.spot.ensures
    (λ no. subst (λ (component : Component). Allows (configuration_of c.args.config.now) (shown component)) c.in-Spots.is (c.requires no))

pub returns-in_ok-all-in-Modes-clause-has : goal.returns-in_ok-all-in-Modes-clause-has
returns-in_ok-all-in-Modes-clause-has c =
    among_all c.in_ok-all-in-Modes.all c.as_slice-in-Modes.result.now c.in-Modes.values c.args.wanted c.mode.result ((configuration_of c.args.config.now).mode c.in-Modes.t)
    c.in_ok-all-in-Modes.ensures c.as_slice-in-Modes.ensures c.mode.ensures.value
    (λ no. subst (λ (component : Component). Allows (configuration_of c.args.config.now) (shown component)) c.in-Modes.is (c.requires no))

pub returns-in_ok-all-in-Events-clause-has : goal.returns-in_ok-all-in-Events-clause-has
returns-in_ok-all-in-Events-clause-has c =
    among_all c.in_ok-all-in-Events.all c.as_slice-in-Events.result.now c.in-Events.values c.args.wanted c.events.result ((configuration_of c.args.config.now).events c.in-Events.i)
    c.in_ok-all-in-Events.ensures c.as_slice-in-Events.ensures c.events.ensures
    (λ no. subst (λ (component : Component). Allows (configuration_of c.args.config.now) (shown component)) c.in-Events.is (c.requires no))

pub returns-in_ok-all-in-Plays-clause-has : goal.returns-in_ok-all-in-Plays-clause-has
returns-in_ok-all-in-Plays-clause-has c =
    among_all c.in_ok-all-in-Plays.all c.as_slice-in-Plays.result.now c.in-Plays.values c.args.wanted c.plays.result ((configuration_of c.args.config.now).plays c.in-Plays.i)
    c.in_ok-all-in-Plays.ensures c.as_slice-in-Plays.ensures c.plays.ensures
    (λ no. subst (λ (component : Component). Allows (configuration_of c.args.config.now) (shown component)) c.in-Plays.is (c.requires no))

pub returns-in_ok-all-in-Contexts-clause-has : goal.returns-in_ok-all-in-Contexts-clause-has
returns-in_ok-all-in-Contexts-clause-has c =
    among_all c.in_ok-all-in-Contexts.all c.as_slice-in-Contexts.result.now c.in-Contexts.values c.args.wanted c.context.result ((configuration_of c.args.config.now).context c.in-Contexts.j)
    c.in_ok-all-in-Contexts.ensures c.as_slice-in-Contexts.ensures c.context.ensures.value
    (λ no. subst (λ (component : Component). Allows (configuration_of c.args.config.now) (shown component)) c.in-Contexts.is (c.requires no))

pub returns-in_ok-all-in-Remotes-clause-has : goal.returns-in_ok-all-in-Remotes-clause-has
returns-in_ok-all-in-Remotes-clause-has c =
    among_all c.in_ok-all-in-Remotes.all c.as_slice-in-Remotes.result.now c.in-Remotes.values c.args.wanted c.remote.result ((configuration_of c.args.config.now).remote c.in-Remotes.k)
    c.in_ok-all-in-Remotes.ensures c.as_slice-in-Remotes.ensures c.remote.ensures.value
    (λ no. subst (λ (component : Component). Allows (configuration_of c.args.config.now) (shown component)) c.in-Remotes.is (c.requires no))

pub returns-in_ok-all-in-Cuts-clause-has : goal.returns-in_ok-all-in-Cuts-clause-has
returns-in_ok-all-in-Cuts-clause-has c =
    among_all c.in_ok-all-in-Cuts.all c.as_slice-in-Cuts.result.now c.in-Cuts.values c.args.wanted c.cut.result ((configuration_of c.args.config.now).cut c.in-Cuts.t c.in-Cuts.u)
    c.in_ok-all-in-Cuts.ensures c.as_slice-in-Cuts.ensures c.cut.ensures
    (λ no. subst (λ (component : Component). Allows (configuration_of c.args.config.now) (shown component)) c.in-Cuts.is (c.requires no))
