use Rattle.std.proofs.Common.{refl}
use Rattle.mg_names.specs.declared.codes.Code.TheVariants.{UnknownContext}
use Rattle.mg_names.specs.declared.identifiers.TermId.TheVariants.{Line, Eph}
use Rattle.contexts.specs.BoardValue.{board_of}
use Rattle.contexts.proofs.ExecLemmas.{executed_out, not_null}
use Rattle.contexts.proofs.ListsLemmas.{lists_same, all_leave}
use Rattle.contexts.proofs.board.Board.exec_subtract_all.Goals as goal

pub subtract_all-requires : goal.subtract_all-requires
subtract_all-requires c = not_null (board_of c.args.self.now) c.args.context.0 (c.requires UnknownContext)

pub returns-clause-ok : goal.returns-clause-ok
returns-clause-ok c =
    let there = not_null (board_of c.args.self.now) c.args.context.0 (c.requires UnknownContext) in
    executed_out (board_of c.args.self.now) _ _ c.in-Ok.done refl refl c.requires c.subtract_all.ensures c.in-Ok.ensures.context c.in-Ok.ensures.ephemeral
    (lists_same _ _ _ (λ n. all_leave (board_of c.args.self.now) c.args.context.0 (Line (record { 0 = n })) there) c.in-Ok.ensures.lines)
    (lists_same _ _ _ (λ n. all_leave (board_of c.args.self.now) c.args.context.0 (Eph n) there) c.in-Ok.ensures.ephemerals)
