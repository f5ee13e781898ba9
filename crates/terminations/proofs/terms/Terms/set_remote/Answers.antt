use Rattle.std.proofs.Common.{◌≡◌, Some, sym, ◌∙◌, ap}
use Rattle.terminations.specs.Table.{row_of}
use Rattle.mg_model.specs.Board.{row_with}
use Rattle.terminations.proofs.TermRowLemmas.{remote_overwritten}
use Rattle.terminations.proofs.terms.Terms.set_remote.Goals as goal

pub returns-clause-rows : goal.returns-clause-rows
returns-clause-rows c =
    let there : row_of c.args.self.now c.args.t ≡ Some c.in-Some.row = sym c.get.ensures.row ∙ c.in-Some.is in
    c.overwrite.ensures.rows ∙ ap (row_with (row_of c.args.self.now) c.args.t)
    (remote_overwritten c.args.t c.in-Eph.field-0 c.in-Eph.is (row_of c.args.self.now c.args.t) c.in-Some.row c.args.remote there)
