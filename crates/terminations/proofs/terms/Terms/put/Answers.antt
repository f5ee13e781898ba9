use Rattle.std.proofs.Common.{◌≡◌, Some, sym, ◌∙◌, ap, arith}
use Rattle.std.proofs.lemmas.Grind.{common_steps}
use Rattle.terminations.specs.Table.{row_of, put, overwritten}
use Rattle.mg_model.specs.Board.{row_with}
use Rattle.terminations.proofs.terms.Terms.put.Goals as goal

pub returns-clause-rows : goal.returns-clause-rows
returns-clause-rows c =
    let there : row_of c.args.self.now c.args.t ≡ Some c.in-Some.row = sym c.get.ensures.row ∙ c.in-Some.is in
    let same : overwritten (record c.in-Some.row { place = c.args.context }) (row_of c.args.self.now c.args.t) ≡ put c.args.context (row_of c.args.self.now c.args.t) = rw there (grind (arith, common_steps, c.if-row.false)) in
    c.overwrite.ensures.rows ∙ ap (row_with (row_of c.args.self.now) c.args.t) same
