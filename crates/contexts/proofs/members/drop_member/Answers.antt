use Rattle.std.proofs.Common.{rules, not}
use Rattle.std.proofs.lemmas.Fn.{filter_same}
use Rattle.mg_model.specs.Board.{same_term}
use Rattle.contexts.proofs.members.drop_member.Goals as goal

pub returns : goal.returns
returns c = filter_same _ (λ u. not (same_term u c.args.t)) _ (λ x b f' k. search rules) _ _ c.retain.ensures.filtered
