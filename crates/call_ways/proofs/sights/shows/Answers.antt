-- What is said of two lines is said of any script.
use Rattle.std.proofs.Common.{◌↔◌, IsTrue, sym, subst}
use Rattle.configuration.specs.Config.{configuration_of}
use Rattle.call_ways.specs.declared.sights.Sight.{Sight}
use Rattle.call_ways.specs.Warnings.{Shows}
use Rattle.call_ways.proofs.sights.shows.Goals as goal

pub returns-in-Joins : goal.returns-in-Joins
returns-in-Joins c =
    subst (λ (sight : Sight). IsTrue c.joins.result ↔ Shows c.args.script.now (configuration_of c.args.config.now) sight) (sym c.in-Joins.is)
    (c.joins.ensures c.args.script.now)

pub returns-in-Hears : goal.returns-in-Hears
returns-in-Hears c =
    subst (λ (sight : Sight). IsTrue c.hears.result ↔ Shows c.args.script.now (configuration_of c.args.config.now) sight) (sym c.in-Hears.is)
    (c.hears.ensures c.args.script.now)

pub returns-in-Misses : goal.returns-in-Misses
returns-in-Misses c =
    subst (λ (sight : Sight). IsTrue c.misses.result ↔ Shows c.args.script.now (configuration_of c.args.config.now) sight) (sym c.in-Misses.is)
    (c.misses.ensures c.args.script.now)

pub returns-in-JoinsAt : goal.returns-in-JoinsAt
returns-in-JoinsAt c =
    subst (λ (sight : Sight). IsTrue c.joins_at.result ↔ Shows c.args.script.now (configuration_of c.args.config.now) sight) (sym c.in-JoinsAt.is)
    (c.joins_at.ensures c.args.script.now)
