-- The product isn't 0, and is within the limit.
use Rattle.std.proofs.Common.{◌∙◌, ap, length, nat_lt}
use Rattle.std.specs.Prelude.{◌==◌}
use Rattle.std.specs.List.{list_any}
use Rattle.entry_table.specs.Listed.{choices_of, size_of}
use Rattle.entry_table.specs.Shown.{shown_all}
use Rattle.certificate.proofs.Limits.{fitting, some_product}
use Rattle.certificate.proofs.draft.sized.Goals as goal

pub new-requires-clause-some : goal.new-requires-clause-some
new-requires-clause-some c =
    some_product (shown_all c.draft.inside.components.items)
    (ap (λ d. list_any (λ component. length (choices_of component) == 0) d.components) c.draft.view_is ∙ c.requires.some)

pub new-requires-clause-within : goal.new-requires-clause-within
new-requires-clause-within c =
    fitting (size_of (shown_all c.draft.inside.components.items))
    (ap (λ d. nat_lt 65536 (size_of d.components)) c.draft.view_is ∙ c.requires.within)
