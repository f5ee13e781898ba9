use Rattle.std.proofs.Common.{false, rules, ap, List, Bool}
use Rattle.std.proofs.lemmas.List.FromFn.{fill_by_all}
use Rattle.digits.specs.Symbols.{reached, position_of}
use Rattle.mg_model.specs.declared.positions.Position.{Position}
use Rattle.digits.proofs.span.accepting.Goals as goal

abbrev made : List Bool → Position
made accepts = record { accepts = accepts }

pub returns : goal.returns
unfolding position_of
returns c = ap made (fill_by_all (reached c.args.spans.now) c.loop-symbol.accepts 12 false c.loop-symbol.invariant.0 (search rules))
