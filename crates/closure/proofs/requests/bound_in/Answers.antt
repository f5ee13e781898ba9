-- The two tables of four have the values of the configuration, which binds nothing past the fourth.
use Rattle.std.proofs.Common.{ℕ, not, refl, ap, ◌∙◌, arith}
use Rattle.mg_names.specs.declared.context_values.ContextValue.{ContextValue}
use Rattle.mg_model.specs.declared.commands.Termination.TheVariants.{Ephemeral}
use Rattle.mg_model.specs.Configuration.{is_free, is_present}
use Rattle.mg_model.proofs.Built.{same_names}
use Rattle.configuration.specs.Config.{configuration_of}
use Rattle.configuration.proofs.SlotLemmas.{absent_past_eight}
use Rattle.closure.proofs.RequestLemmas.{four_of}
use Rattle.closure.proofs.requests.bound_in.Goals as goal

pub returns : goal.returns
returns c =
    let config = configuration_of c.args.config.now in
    let bound = λ (j : ℕ). not (is_free (config.context j)) in
    let exists = λ (k : ℕ). is_present (config.spot (Ephemeral k)) in
    same_names _ _
    (c.new.ensures.contexts ∙ four_of bound _ _ _ _
    (c.is_bound.ensures.value ∙ rw c.all-slots.ensures refl)
    (c.is_bound-2.ensures.value ∙ rw c.all-slots.ensures refl)
    (c.is_bound-3.ensures.value ∙ rw c.all-slots.ensures refl)
    (c.is_bound-4.ensures.value ∙ rw c.all-slots.ensures refl)
    (λ j l. ap (λ (v : ContextValue). not (is_free v)) (c.is_bound.ensures.slots j l)))
    (c.new.ensures.ephemerals ∙ four_of exists _ _ _ _
    (c.exists.ensures ∙ rw c.all-slots.ensures refl)
    (c.exists-2.ensures ∙ rw c.all-slots.ensures refl)
    (c.exists-3.ensures ∙ rw c.all-slots.ensures refl)
    (c.exists-4.ensures ∙ rw c.all-slots.ensures refl)
    (λ k l. ap is_present (absent_past_eight c.args.config.now (Ephemeral k) (omega arith))))
