-- The configurations that packed ones stand for. No public clause speaks of these words.
use Rattle.std.specs.Prelude.{List, map}
use Rattle.mg_model.specs.Configuration.{Configuration}
use Rattle.configuration.specs.Packed.{Words}
use Rattle.configuration.specs.Config.{configuration_of}

abbrev pub values_of : List Words → List Configuration
values_of configs = map configuration_of configs
