use Rattle.std.proofs.Common.{map, sym, ◌∙◌, ap}
use Rattle.toml.specs.View.{members_view}
use Rattle.typed_values.specs.Keys.{has_only}
use Rattle.typed_values.proofs.Reading.{only-entries}
use Rattle.typed_values.proofs.reads.has_only.Goals as goal

pub returns : goal.returns
returns c = rw c.as_slice.ensures.value at c.are_among.ensures ∙ (sym (only-entries (map (λ k. k.now) c.args.keys.now) c.in_ok-entries.entries.items) ∙ ap (λ es. has_only (map (λ k. k.now) c.args.keys.now) (members_view es)) c.in_ok-entries.ensures)
