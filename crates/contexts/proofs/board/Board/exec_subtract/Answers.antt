use Rattle.std.proofs.Common.{◌≡◌, refl, true}
use Rattle.mg_names.specs.declared.codes.Code.TheVariants.{UnknownTermination, NotInContext}
use Rattle.mg_names.specs.declared.identifiers.TermId.TheVariants.{Line, Eph}
use Rattle.mg_model.specs.Board.{exists}
use Rattle.mg_model.proofs.Cases.{not_refused}
use Rattle.contexts.specs.BoardValue.{board_of}
use Rattle.contexts.proofs.ExecLemmas.{executed_out, is_place}
use Rattle.contexts.proofs.ListsLemmas.{lists_same, one_leaves}
use Rattle.contexts.proofs.board.Board.exec_subtract.Goals as goal

pub subtract-requires-clause-exists : goal.subtract-requires-clause-exists
subtract-requires-clause-exists c = not_refused _ (c.requires UnknownTermination)

pub subtract-requires-clause-stands : goal.subtract-requires-clause-stands
subtract-requires-clause-stands c = is_place _ _ (c.requires NotInContext)

pub returns-clause-ok : goal.returns-clause-ok
returns-clause-ok c =
    let there : exists (board_of c.args.self.now) c.args.t ≡ true = not_refused _ (c.requires UnknownTermination) in
    executed_out (board_of c.args.self.now) _ _ c.in-Ok.done refl refl c.requires c.subtract.ensures c.in-Ok.ensures.context c.in-Ok.ensures.ephemeral
    (lists_same _ _ _ (λ n. one_leaves (board_of c.args.self.now) c.args.t (Line (record { 0 = n })) there) c.in-Ok.ensures.lines)
    (lists_same _ _ _ (λ n. one_leaves (board_of c.args.self.now) c.args.t (Eph n) there) c.in-Ok.ensures.ephemerals)
