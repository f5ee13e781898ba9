-- A number is what `parse` reads, within its bounds.
use Rattle.std.proofs.Common.{◌∙◌, sym}
use Rattle.plans.proofs.NumberLemmas.{no_numeral, not_parsed, parsed_below, parsed_above, parsed_within}
use Rattle.plans.proofs.steps.number.Goals as goal
use Rattle.plans.proofs.steps.number.Goals.{then-number-least-via-then-number-least, then-number-least-via-else-number-least+then-most-number}

pub returns-then-not-is_numeral-clause-number : goal.returns-then-not-is_numeral-clause-number
returns-then-not-is_numeral-clause-number c = no_numeral c.args.least c.args.most c.args.text.now (sym c.is_numeral.ensures ∙ c.if-not-is_numeral.true)

pub returns-in_default-clause-number : goal.returns-in_default-clause-number
returns-in_default-clause-number c = not_parsed c.args.least c.args.most c.args.text.now (sym c.is_numeral.ensures ∙ c.if-not-is_numeral.false) c.ranges.most.fits c.in_default.ensures.value.0

pub returns-then-number-least-clause-number : goal.returns-then-number-least-clause-number
returns-then-number-least-clause-number c = elim c.then-number-least.branch [
  | then-number-least-via-then-number-least w ↦ parsed_below c.args.least c.args.most c.args.text.now (sym c.is_numeral.ensures ∙ c.if-not-is_numeral.false) c.in-Ok.number
      c.in-Ok.ensures.value.0.1 w.if-number-least.true
  | then-number-least-via-else-number-least+then-most-number w ↦ parsed_above c.args.least c.args.most c.args.text.now (sym c.is_numeral.ensures ∙ c.if-not-is_numeral.false) c.in-Ok.number
      c.in-Ok.ensures.value.0.1 w.if-most-number.true
]

pub returns-clause-number : goal.returns-clause-number
returns-clause-number c = parsed_within c.args.least c.args.most c.args.text.now (sym c.is_numeral.ensures ∙ c.if-not-is_numeral.false) c.in-Ok.number c.in-Ok.ensures.value.0.1
    c.if-number-least.false c.if-most-number.false
