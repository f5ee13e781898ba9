-- It is there, or was added.
use Rattle.std.proofs.Common.{◌∙◌, ap, rules}
use Rattle.mg_model.specs.Configuration.{Configuration}
use Rattle.mg_model.proofs.Cases.{at_one}
use Rattle.configuration.specs.Config.{configuration_of}
use Rattle.closure.proofs.HullLemmas.{added_there, contains_map, still_there}
use Rattle.closure.proofs.hull_contexts.add_context.Goals as goal

pub returns-in-Some-clause-there : goal.returns-in-Some-clause-there
returns-in-Some-clause-there c = (
  configuration_of c.in-Some._there,
  (contains_map configuration_of c.args.hull.now c.in-Some._there c.in-Some.ensures.some.0, search rules),
)

pub returns-clause-kept : goal.returns-clause-kept
returns-clause-kept c = still_there configuration_of c.args.hull.now c.push.new.self c.set_context.new.self c.in_ok-push.ensures

pub returns-clause-there : goal.returns-clause-there
returns-clause-there c = (
  configuration_of c.set_context.new.self,
  (
    added_there configuration_of c.args.hull.now c.push.new.self c.set_context.new.self c.in_ok-push.ensures,
    ap (λ (d : Configuration). d.context c.args.context) c.set_context.ensures ∙ at_one c.args.context c.args.value _,
  ),
)
