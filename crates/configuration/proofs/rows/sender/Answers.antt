-- One bit, or none.
use Rattle.std.proofs.Common.{◌≡◌, ℕ, ◌+◌, ◌*◌, ◌==◌, ◌%◌, ◌&&◌, Bool, ap, ◌∙◌, true, false, arith}
use Rattle.std.proofs.lemmas.Grind.{common_steps}
use Rattle.mg_model.specs.Paths.{passes_out}
use Rattle.configuration.specs.Config.{configuration_of}
use Rattle.configuration.specs.Words.{termination_at}
use Rattle.configuration.specs.Tests.{context_number}
use Rattle.configuration.proofs.BitLemmas.{has_none}
use Rattle.configuration.proofs.RowLemmas.{sender_bit, no_sender}
use Rattle.configuration.proofs.rows.sender.Goals as goal

set : (m : ℕ) (b : Bool) → (m % 2 == 1) ≡ b → m % 2 ≡ 1 → b ≡ true
set m b e h = grind (arith, common_steps)

not_set : (m : ℕ) (b : Bool) → (m % 2 == 1) ≡ b → (m % 2 ≡ 1 → ⊥) → b ≡ false
not_set m b e h = grind (arith, common_steps)

pub returns-then-mode_number-eq1 : goal.returns-then-mode_number-eq1
returns-then-mode_number-eq1 c n u hn hu =
    let out : passes_out ((configuration_of c.args.config.now).mode (termination_at c.args.place)) ≡ true = set _ _ c.mode_number.ensures.outward c.if-mode_number-eq1.true in
    rw out (sender_bit c.context_number-number.result c.args.place n u c.context_number-number.ensures.small c.requires hu
    ∙ ap (λ m. u == c.args.place && (m == n && true)) c.context_number-number.ensures.value)

pub returns-else-mode_number-eq1 : goal.returns-else-mode_number-eq1
returns-else-mode_number-eq1 c n u hn hu =
    let out : passes_out ((configuration_of c.args.config.now).mode (termination_at c.args.place)) ≡ false = not_set _ _ c.mode_number.ensures.outward c.if-mode_number-eq1.false in
    rw out (has_none (8 * n + u) ∙ no_sender u c.args.place (context_number ((configuration_of c.args.config.now).spot (termination_at c.args.place))) n)
