-- The four slots are all.
use Rattle.std.proofs.Common.{List, [], ◌∷◌, subst}
use Rattle.mg_model.specs.declared.commands.Command.{Command}
use Rattle.closure.specs.Surviving.{DoSurvive}
use Rattle.closure.proofs.HullSurviving.{four_survive}
use Rattle.closure.proofs.hull_surviving.surviving_contexts.Goals as goal

pub returns : goal.returns
returns c d inside formed =
    subst (λ (commands : List Command). DoSurvive d commands (c.does_survive.result ∷ c.does_survive-2.result ∷ c.does_survive-3.result ∷ c.does_survive-4.result ∷ [])) c.commands_of-commands.ensures
    (four_survive d c.commands_of-commands.result.now c.does_survive.result c.does_survive-2.result c.does_survive-3.result c.does_survive-4.result
    (λ is. rw c.all.ensures at (c.does_survive.ensures is d inside formed))
    (λ is. rw c.all.ensures at (c.does_survive-2.ensures is d inside formed))
    (λ is. rw c.all.ensures at (c.does_survive-3.ensures is d inside formed))
    (λ is. rw c.all.ensures at (c.does_survive-4.ensures is d inside formed)))
