use Rattle.std.proofs.lemmas.List.Elements.{same_from_all_zip}
use Rattle.identifiers.specs.Stock.{at}
use Rattle.contexts.proofs.CopyLemmas.{by_found}
use Rattle.contexts.proofs.members.copy.Goals as goal

pub returns-clause-members : goal.returns-clause-members
returns-clause-members c d = by_found _ (λ v w h. same_from_all_zip _ _ _ h.0 (λ x y e. e)) (at c.args.members.now d) (at c.in_ok-copied.copied d) (c.in_ok-copied.ensures.values d)
