use Rattle.std.proofs.Common.{◌∙◌, ap, refl, ℕ}
use Rattle.mg_names.specs.declared.codes.Code.TheVariants.{UnknownTermination, NotInContext}
use Rattle.mg_model.specs.Items.{placed}
use Rattle.contexts.specs.BoardValue.{board_of}
use Rattle.contexts.proofs.ExecLemmas.{executed_plain, both_known, fits_from, is_place}
use Rattle.contexts.proofs.board.Board.exec_modify.Goals as goal

pub modify-requires-clause-exists : goal.modify-requires-clause-exists
modify-requires-clause-exists c = (both_known _ _ (c.requires UnknownTermination)).0

pub modify-requires-clause-fits : goal.modify-requires-clause-fits
modify-requires-clause-fits c = fits_from (board_of c.args.self.now) c.args.t _ (both_known _ _ (c.requires UnknownTermination)).1

pub returns : goal.returns
returns c = rw c.created.ensures (executed_plain (board_of c.args.self.now) _ _ refl refl (λ u. refl) c.requires
    (c.modify.ensures ∙ ap (λ (n : ℕ). placed (board_of c.args.self.now) c.args.t n c.args.settings.now) (is_place _ _ (c.requires NotInContext))))
