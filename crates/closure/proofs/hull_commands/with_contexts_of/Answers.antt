-- The four slots are all.
use Rattle.std.proofs.Common.{◌∙◌, ap}
use Rattle.mg_model.specs.Configuration.{Configuration}
use Rattle.configuration.specs.Config.{configuration_of}
use Rattle.configuration.proofs.SlotLemmas.{free_past_four}
use Rattle.closure.proofs.HullPlaces.{four_contexts, named_from}
use Rattle.closure.proofs.hull_commands.with_contexts_of.Goals as goal

pub returns : goal.returns
returns c =
    let one = configuration_of c.args.other.now in
    (rw c.all.ensures at c.with_context_of.ensures)
    ∙ ap (named_from one 3) (rw c.all.ensures at c.with_context_of-three.ensures)
    ∙ ap (λ (x : Configuration). named_from one 3 (named_from one 2 x)) (rw c.all.ensures at c.with_context_of-two.ensures)
    ∙ ap (λ (x : Configuration). named_from one 3 (named_from one 2 (named_from one 1 x))) (rw c.all.ensures at c.with_context_of-one.ensures)
    ∙ four_contexts one (configuration_of c.args.config.now) (free_past_four c.args.config.now) (free_past_four c.args.other.now)
