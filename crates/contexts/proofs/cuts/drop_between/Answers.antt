use Rattle.std.proofs.Common.{rules, not}
use Rattle.std.proofs.lemmas.Fn.{filter_same}
use Rattle.contexts.specs.Groups.{is_between}
use Rattle.contexts.proofs.cuts.drop_between.Goals as goal

pub returns-clause-items : goal.returns-clause-items
returns-clause-items c = filter_same _ (λ cut. not (is_between c.args.t c.args.u cut)) _ (λ x b f' k. search rules) _ _ c.retain.ensures.filtered
