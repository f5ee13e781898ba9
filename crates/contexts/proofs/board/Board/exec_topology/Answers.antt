use Rattle.std.proofs.Common.{refl}
use Rattle.std.proofs.lemmas.Bool.{or_parts}
use Rattle.mg_names.specs.declared.codes.Code.TheVariants.{UnknownContext, NotInContext}
use Rattle.contexts.specs.BoardValue.{board_of}
use Rattle.contexts.proofs.ExecLemmas.{executed_plain, not_equal_false, either_known, not_null}
use Rattle.contexts.proofs.board.Board.exec_topology.Goals as goal

pub set_topology-requires-clause-not_null : goal.set_topology-requires-clause-not_null
set_topology-requires-clause-not_null c = not_null (board_of c.args.self.now) c.args.context.0 (c.requires UnknownContext)

pub set_topology-requires-clause-first : goal.set_topology-requires-clause-first
set_topology-requires-clause-first c = not_equal_false _ _ (either_known _ _ (c.requires NotInContext)).0

pub set_topology-requires-clause-second : goal.set_topology-requires-clause-second
set_topology-requires-clause-second c = not_equal_false _ _ (or_parts _ _ (either_known _ _ (c.requires NotInContext)).1).0

pub set_topology-requires-clause-differ : goal.set_topology-requires-clause-differ
set_topology-requires-clause-differ c = (or_parts _ _ (either_known _ _ (c.requires NotInContext)).1).1

pub returns-clause-ok : goal.returns-clause-ok
returns-clause-ok c = rw c.created.ensures (executed_plain (board_of c.args.self.now) _ _ refl refl (λ u. refl) c.requires (rw c.in-Ok.is at c.set_topology.ensures.ok))
