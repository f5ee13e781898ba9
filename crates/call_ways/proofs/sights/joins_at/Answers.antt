-- What is said of the link, and of the two lines.
use denote.Enum.Bare.{same_true}
use Rattle.std.proofs.Common.{◌≡◌, ◌∙◌, sym, rules}
use Rattle.std.proofs.lemmas.Bool.{not-false}
use Rattle.mg_names.specs.contracts.phases.LinkPhase.{the_type}
use Rattle.call_ways.proofs.sights.joins_at.Goals as goal

pub returns : goal.returns
returns c = λ script.
    let told = c.joins.ensures script in
    let same : c.link.result ≡ c.args.link = same_true the_type (search rules) _ _ (not-false _ (sym c.ne.ensures ∙ c.if-ne.false)) in
    ((λ joined. let is = told.0 joined in (is.0, (sym c.link.ensures ∙ same), is.1)), (λ is. told.1 (is.0, is.2)))
