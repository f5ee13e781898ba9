-- No signals list is given.
use Rattle.configuration.specs.Config.{configuration_of}
use Rattle.closure.proofs.OptionLemmas.{plays_stay}
use Rattle.closure.proofs.effects.options.set_signals_option.Goals as goal

pub returns-in-None : goal.returns-in-None
returns-in-None c = rw c.in-None.is (plays_stay (configuration_of c.args.config.now) c.args.line)
