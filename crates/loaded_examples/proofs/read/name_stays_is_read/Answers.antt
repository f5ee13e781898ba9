-- It is computed.
use Rattle.loaded_examples.proofs.ScriptsRead.{name_stays_read}
use Rattle.loaded_examples.proofs.read.name_stays_is_read.Goals as goal

pub returns : goal.returns
returns c = name_stays_read
