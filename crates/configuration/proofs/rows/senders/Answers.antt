-- Of the eight bits, the one of the termination that is asked for.
use Rattle.std.proofs.Common.{◌≡◌, ℕ, ◌+◌, ◌*◌, ◌==◌, ◌||◌, ◌&&◌, ap₂, ◌∙◌}
use Rattle.std.specs.Int.RustNames.{bit_or}
use Rattle.mg_model.specs.Paths.{passes_out}
use Rattle.configuration.specs.Bits.{has}
use Rattle.configuration.specs.Config.{configuration_of}
use Rattle.configuration.specs.Words.{termination_at}
use Rattle.configuration.specs.Tests.{context_number}
use Rattle.configuration.proofs.BitLemmas.{has_or}
use Rattle.configuration.proofs.RowLemmas.{pick_eight}
use Rattle.configuration.proofs.rows.senders.Goals as goal

joined : (a b d e p : ℕ) → has (bit_or (bit_or a b) (bit_or d e)) p ≡ ((has a p || has b p) || (has d p || has e p))
joined a b d e p = has_or _ _ p ∙ ap₂ (λ x y. x || y) (has_or a b p) (has_or d e p)

pub returns : goal.returns
returns c n u hn hu =
    let config = configuration_of c.args.config.now in
    has_or _ _ (8 * n + u)
    ∙ ap₂ (λ x y. x || y)
    (joined _ _ _ _ (8 * n + u) ∙ ap₂ (λ x y. x || y)
    (ap₂ (λ x y. x || y) (c.sender.ensures n u hn hu) (c.sender-2.ensures n u hn hu))
    (ap₂ (λ x y. x || y) (c.sender-3.ensures n u hn hu) (c.sender-4.ensures n u hn hu)))
    (joined _ _ _ _ (8 * n + u) ∙ ap₂ (λ x y. x || y)
    (ap₂ (λ x y. x || y) (c.sender-5.ensures n u hn hu) (c.sender-6.ensures n u hn hu))
    (ap₂ (λ x y. x || y) (c.sender-7.ensures n u hn hu) (c.sender-8.ensures n u hn hu)))
    ∙ pick_eight (λ k. context_number (config.spot (termination_at k)) == n && passes_out (config.mode (termination_at k))) u hu
