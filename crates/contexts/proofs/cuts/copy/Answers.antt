use Rattle.std.proofs.lemmas.List.Elements.{same_from_all_zip}
use Rattle.contexts.proofs.CopyLemmas.{groups_copied}
use Rattle.contexts.proofs.cuts.copy.Goals as goal

pub returns : goal.returns
returns c = groups_copied _ _ (λ x y e. e) (λ v w h. same_from_all_zip _ _ _ h.0 (λ x y e. e)) _ _ c.in_ok-copied.ensures.cases
