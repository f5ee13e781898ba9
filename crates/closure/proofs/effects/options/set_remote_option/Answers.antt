-- No Remote is given.
use Rattle.configuration.specs.Config.{configuration_of}
use Rattle.closure.proofs.OptionLemmas.{remote_stays}
use Rattle.closure.proofs.effects.options.set_remote_option.Goals as goal

pub returns-in-None : goal.returns-in-None
returns-in-None c = rw c.in-None.is (remote_stays (configuration_of c.args.config.now) c.args.ephemeral)
