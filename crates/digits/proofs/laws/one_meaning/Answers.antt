-- The law: what a text writes is what is read of it.
use Rattle.std.proofs.Common.{sym, ◌∙◌}
use Rattle.digits.proofs.Grammar.Given.{same_answer}
use Rattle.digits.proofs.Grammar.Maps.{map_taken}
use Rattle.digits.proofs.laws.one_meaning.Goals as goal

pub returns : goal.returns
returns c text one other is_one is_other = same_answer one other (sym (map_taken text one is_one) ∙ map_taken text other is_other)
