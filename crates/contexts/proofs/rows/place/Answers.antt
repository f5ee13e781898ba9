use Rattle.std.proofs.Common.{◌∙◌, ap}
use Rattle.terminations.specs.Table.{row_of}
use Rattle.mg_model.specs.Board.{row_with}
use Rattle.contexts.proofs.RowLemmas.{set_elsewhere}
use Rattle.contexts.proofs.rows.place.Goals as goal

pub returns-clause-rows : goal.returns-clause-rows
returns-clause-rows c = c.set.ensures.rows ∙ ap (row_with (row_of c.args.terms.now) c.args.t) (set_elsewhere c.args.context c.args.settings.now _ c.requires.exists)
