use Rattle.std.proofs.Common.{rules}
use Rattle.gateway.specs.Calls.{call_entry}
use Rattle.gateway.proofs.CreatedLemmas.{created_nowhere}
use Rattle.gateway.proofs.calls.note_created.Goals as goal

pub returns-in-None : goal.returns-in-None
unfolding call_entry
returns-in-None c = record { noted = created_nowhere _ _ _ _ _ (search rules) (search rules) }
