use Rattle.std.proofs.Common.{◌∙◌, ap}
use Rattle.terminations.specs.Table.{row_of}
use Rattle.mg_model.specs.Board.{row_with}
use Rattle.contexts.proofs.RowLemmas.{set_in_place}
use Rattle.contexts.proofs.rows.apply.Goals as goal

pub returns-clause-rows : goal.returns-clause-rows
returns-clause-rows c = c.set.ensures.rows ∙ ap (row_with (row_of c.args.terms.now) c.args.t) (set_in_place c.args.settings.now _ c.requires.exists)
