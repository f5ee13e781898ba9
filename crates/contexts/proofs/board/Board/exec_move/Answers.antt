use Rattle.std.proofs.Common.{refl}
use Rattle.mg_names.specs.declared.codes.Code.TheVariants.{UnknownContext, UnknownTermination, NotInContext}
use Rattle.contexts.specs.BoardValue.{board_of}
use Rattle.contexts.proofs.ExecLemmas.{executed_plain, both_known, fits_from, either_known, number_not, not_null}
use Rattle.contexts.proofs.StockLemmas.{not_missing}
use Rattle.contexts.proofs.board.Board.exec_move.Goals as goal

pub move_to-requires-clause-exists : goal.move_to-requires-clause-exists
move_to-requires-clause-exists c = (both_known _ _ (c.requires UnknownTermination)).0

pub move_to-requires-clause-other : goal.move_to-requires-clause-other
move_to-requires-clause-other c = rw c.place_of-from.ensures (number_not _ _ (either_known _ _ (c.requires NotInContext)).1)

pub move_to-requires-clause-not_null : goal.move_to-requires-clause-not_null
move_to-requires-clause-not_null c = rw c.place_of-from.ensures (number_not _ _ (either_known _ _ (c.requires NotInContext)).0)

pub move_to-requires-clause-to_context : goal.move_to-requires-clause-to_context
move_to-requires-clause-to_context c = not_null (board_of c.args.self.now) c.args.context.0 (c.requires UnknownContext)

pub move_to-requires-clause-fits : goal.move_to-requires-clause-fits
move_to-requires-clause-fits c = fits_from (board_of c.args.self.now) c.args.t _ (both_known _ _ (c.requires UnknownTermination)).1

pub returns-clause-ok : goal.returns-clause-ok
returns-clause-ok c = rw c.created.ensures (executed_plain (board_of c.args.self.now) _ _ refl refl (λ u. refl) c.requires (rw c.in-Ok.is at c.move_to.ensures.ok))

pub move_to-requires-clause-can_enter : goal.move_to-requires-clause-can_enter
unfolding board_of
move_to-requires-clause-can_enter c =
    rw (← c.self.view_is) (not_missing _ c.self.inside.members _ c.self.invariant.0 c.args.context.0 (λ no. c.requires UnknownContext (λ there. no (rw (← c.self.view_is) at there))))
