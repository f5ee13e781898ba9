-- A call at rest. No public clause speaks of these words.
use Rattle.mg_model.specs.Script.{Script}
use Rattle.configuration.specs.Packed.{Words}

-- the script, and the words of the configuration that the call is in
pub record Resting : Type 0 where
  pub script : Script
  pub words : Words
