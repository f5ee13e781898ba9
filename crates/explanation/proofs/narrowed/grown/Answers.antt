-- What is widened keeps what it had.
use Rattle.std.proofs.Common.{Option, subst}
use Rattle.mg_model.specs.Entries.{Entry}
use Rattle.explanation.specs.Parts.{IsHeld}
use Rattle.explanation.proofs.narrowed.grown.Goals as goal

pub returns-in-Some-2-clause-keeps : goal.returns-in-Some-2-clause-keeps
returns-in-Some-2-clause-keeps c = λ d included held.
    let keeps = rw c.in-Some-2.is at c.in_ok-wide.ensures.keeps in
    keeps d (subst (λ (found : Option Entry). IsHeld found d) c.in-Some.is held)
