use Rattle.std.proofs.Common.{◌∙◌, ap}
use Rattle.std.specs.List.{list_any}
use Rattle.std.proofs.lemmas.Result.{IfOk-weaker}
use Rattle.mg_names.specs.declared.identifiers.TermId.TheVariants.{Line, Eph}
use Rattle.mg_model.specs.Board.{same_term}
use Rattle.contexts.specs.Steps.{IsTakenOut}
use Rattle.contexts.specs.BoardValue.{board_of}
use Rattle.contexts.proofs.ListsLemmas.{lists_same}
use Rattle.contexts.proofs.board.Board.taken_out_of.Goals as goal

pub returns : goal.returns
unfolding board_of
returns c = rw (← c.self.view_is) (IfOk-weaker c.taken_out.result (IsTakenOut c.of_context.result.now) _ (λ done out. record {
  context = out.context;
  ephemeral = out.ephemeral;
  lines = lists_same _ _ _ (λ n. ap (λ group. list_any (same_term (Line (record { 0 = n }))) group) c.of_context.ensures ∙ c.self.invariant.0.stands c.args.context.0 (Line (record { 0 = n }))) out.lines;
  ephemerals = lists_same _ _ _ (λ n. ap (λ group. list_any (same_term (Eph n)) group) c.of_context.ensures ∙ c.self.invariant.0.stands c.args.context.0 (Eph n)) out.ephemerals;
}) c.taken_out.ensures)
