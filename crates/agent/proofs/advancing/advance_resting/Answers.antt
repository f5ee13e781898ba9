-- Each kind of call hears.
use Rattle.std.proofs.Common.{refl, sym, subst}
use Rattle.agent.specs.declared.call.Next.TheVariants as next
use Rattle.agent.specs.declared.delivered.Delivery.{Delivery}
use Rattle.agent.specs.declared.delivered.Delivery.TheVariants.{Hear}
use Rattle.agent.specs.Advancing.{IsAdvanced}
use Rattle.agent.proofs.AdvancingLemmas.{advanced}
use Rattle.agent.proofs.advancing.advance_resting.Goals as goal

pub returns-in-Hear : goal.returns-in-Hear
returns-in-Hear c =
    subst (λ (delivery : Delivery). IsAdvanced (next.Resting c.args.call) delivery c.from_resting-in-Hear.result.0 c.from_resting-in-Hear.result.1) (sym c.in-Hear.is)
    (advanced next.Resting c.args.call (Hear c.in-Hear.association) refl refl c.hear.result c.from_resting-in-Hear.result.0 c.from_resting-in-Hear.result.1 c.hear.ensures c.from_resting-in-Hear.ensures)
