-- The number of a call is what `parse` reads, where it has 32 bits.
use Rattle.std.proofs.Common.{◌∙◌, sym, arith}
use Rattle.plans.proofs.NumberLemmas.{no_numeral, not_parsed, parsed_within}
use Rattle.mgexplain.proofs.call_number.call_number.Goals as goal

pub returns-then-not-is_numeral : goal.returns-then-not-is_numeral
returns-then-not-is_numeral c = no_numeral 0 4294967295 c.args.word.now (sym c.is_numeral.ensures ∙ c.if-not-is_numeral.true)

pub returns-in_default : goal.returns-in_default
returns-in_default c = not_parsed 0 4294967295 c.args.word.now (sym c.is_numeral.ensures ∙ c.if-not-is_numeral.false) (omega arith) c.in_default.ensures.value.0

pub returns : goal.returns
returns c = parsed_within 0 4294967295 c.args.word.now (sym c.is_numeral.ensures ∙ c.if-not-is_numeral.false) c.in-Ok.number c.in-Ok.ensures.value.0.1 (omega arith) (omega arith)
