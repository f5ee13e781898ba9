-- No mode is given.
use Rattle.configuration.specs.Config.{configuration_of}
use Rattle.closure.proofs.OptionLemmas.{mode_stays}
use Rattle.closure.proofs.effects.options.set_mode_option.Goals as goal

pub returns-in-None : goal.returns-in-None
returns-in-None c = rw c.in-None.is (mode_stays (configuration_of c.args.config.now) c.args.termination.now)
