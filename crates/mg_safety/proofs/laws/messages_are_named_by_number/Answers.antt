-- The law.
use Rattle.mg_safety.proofs.Messages.NamedMessages.{named_by_number}
use Rattle.mg_safety.proofs.laws.messages_are_named_by_number.Goals as goal

pub returns : goal.returns
returns c = named_by_number
