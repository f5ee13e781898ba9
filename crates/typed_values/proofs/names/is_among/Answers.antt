use Rattle.std.proofs.Common.{List, ℕ, Bor, sym, ◌∙◌}
use Rattle.std.specs.Str.{bytes_eq}
use Rattle.typed_values.proofs.MappedLists.{list_any-mapped}
use Rattle.typed_values.proofs.names.is_among.Goals as goal

pub returns : goal.returns
returns c = c.is_one_of.ensures ∙ sym (list_any-mapped (λ other. bytes_eq c.args.text.now other) (λ (t : Bor (List ℕ)). t.now) c.args.texts.now)
