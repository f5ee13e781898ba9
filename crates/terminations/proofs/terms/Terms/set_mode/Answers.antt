use Rattle.std.proofs.Common.{◌≡◌, Some, rules, sym, ◌∙◌, ap}
use Rattle.terminations.specs.Table.{row_of, with_mode, overwritten}
use Rattle.mg_model.specs.Board.{row_with}
use Rattle.terminations.proofs.terms.Terms.set_mode.Goals as goal

pub returns-clause-rows : goal.returns-clause-rows
returns-clause-rows c =
    let there : row_of c.args.self.now c.args.t ≡ Some c.in-Some.row = sym c.get.ensures.row ∙ c.in-Some.is in
    let same : overwritten (record c.in-Some.row { mode = c.args.mode }) (row_of c.args.self.now c.args.t) ≡ with_mode c.args.mode (row_of c.args.self.now c.args.t) = rw there (search rules) in
    c.overwrite.ensures.rows ∙ ap (row_with (row_of c.args.self.now) c.args.t) same
