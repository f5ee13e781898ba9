-- Both tests say together that the configuration is cleared.
use Rattle.std.proofs.Common.{◌≡◌, ◌≤◌, length, true, sym, ◌∙◌, arith, subst, ℕ}
use Rattle.std.specs.Prelude.{◌∷◌, []}
use Rattle.std.specs.List.{list_all}
use Rattle.configuration.specs.Config.{configuration_of}
use Rattle.configuration.proofs.SlotLemmas.{absent_past_eight}
use Rattle.closure.specs.Tests.{line_is_cleared}
use Rattle.closure.proofs.ClearedLemmas.{tests_cleared, cleared_ephemerals}
use Rattle.closure.proofs.obligations.is_cleared.Goals as goal

pub returns-then-lines : goal.returns-then-lines
returns-then-lines c =
    let script = c.args.script.now in
    let config = configuration_of c.args.config.now in
    let few : length script.lines ≤ 4 = omega (arith, c.lines.ensures.value, c.lines.ensures.few) in
    let lines : list_all (line_is_cleared script config (length script.lines)) (0 ∷ 1 ∷ 2 ∷ 3 ∷ []) ≡ true =
    subst (λ (n : ℕ). list_all (line_is_cleared script config n) (0 ∷ 1 ∷ 2 ∷ 3 ∷ []) ≡ true) c.lines.ensures.value
    (sym c.lines_are_cleared-lines.ensures ∙ c.if-lines.true) in (
      λ absent. tests_cleared script config few (absent_past_eight c.args.config.now) lines (sym c.ephemerals_are_absent-ephemerals.ensures ∙ absent),
      λ cleared. c.ephemerals_are_absent-ephemerals.ensures ∙ cleared_ephemerals script config cleared,
    )
