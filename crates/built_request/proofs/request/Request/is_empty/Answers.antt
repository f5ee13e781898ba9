-- A request is empty exactly where none of the commands that are left uses known names alone.
use Rattle.std.proofs.Common.{◌∙◌, ap, sym, not, drop}
use Rattle.std.specs.List.{list_any}
use Rattle.std.proofs.lemmas.List.{take_rest}
use Rattle.mg_model.specs.Request.{uses_known}
use Rattle.mg_model.specs.Tables.{is_empty}
use Rattle.built_request.specs.Known.{names_of}
use Rattle.built_request.proofs.RequestLemmas.{is_empty-built}
use Rattle.built_request.proofs.request.Request.is_empty.Goals as goal

pub returns : goal.returns
returns c =
    ap not c.keep_any.ensures
    ∙ ap (λ commands. not (list_any (uses_known (names_of c.self.inside.names)) commands)) (take_rest c.self.inside.commands.now c.self.inside.place)
    ∙ sym (is_empty-built (names_of c.self.inside.names) (drop c.self.inside.place c.self.inside.commands.now))
    ∙ ap is_empty c.self.view_is
