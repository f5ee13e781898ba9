-- The four slots are all.
use Rattle.std.proofs.Common.{◌∙◌, ap, arith}
use Rattle.mg_model.specs.Configuration.{Configuration}
use Rattle.mg_model.specs.declared.commands.Termination.TheVariants.{Ephemeral}
use Rattle.configuration.specs.Config.{configuration_of}
use Rattle.configuration.proofs.SlotLemmas.{absent_past_eight, free_past_four}
use Rattle.closure.specs.Naming.{named_at}
use Rattle.closure.proofs.NamedHulls.{four_named}
use Rattle.closure.proofs.named_hull.named_as.Goals as goal

pub returns : goal.returns
returns c =
    let one = configuration_of c.args.one.now in
    let d = configuration_of c.args.config.now in
    (rw c.all.ensures at c.name_slot-4.ensures)
    ∙ ap (named_at one d 3) (rw c.all.ensures at c.name_slot-3.ensures)
    ∙ ap (λ (x : Configuration). named_at one d 3 (named_at one d 2 x)) (rw c.all.ensures at c.name_slot-2.ensures)
    ∙ ap (λ (x : Configuration). named_at one d 3 (named_at one d 2 (named_at one d 1 x))) (rw c.all.ensures at c.name_slot.ensures)
    ∙ four_named one d (free_past_four c.args.config.now) (free_past_four c.args.one.now)
    (λ k past. absent_past_eight c.args.config.now (Ephemeral k) (omega (arith, past)))
    (λ k past. absent_past_eight c.args.one.now (Ephemeral k) (omega (arith, past)))
