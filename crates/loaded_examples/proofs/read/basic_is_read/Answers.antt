-- It is computed.
use Rattle.loaded_examples.proofs.ScriptsRead.{basic_read}
use Rattle.loaded_examples.proofs.read.basic_is_read.Goals as goal

pub returns : goal.returns
returns c = basic_read
