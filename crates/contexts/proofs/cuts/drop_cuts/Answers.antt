use Rattle.std.proofs.Common.{rules, not}
use Rattle.std.proofs.lemmas.Fn.{filter_same}
use Rattle.contexts.specs.Groups.{touches}
use Rattle.contexts.proofs.cuts.drop_cuts.Goals as goal

pub returns : goal.returns
returns c = filter_same _ (λ cut. not (touches c.args.t cut)) _ (λ x b f' k. search rules) _ _ c.retain.ensures.filtered
