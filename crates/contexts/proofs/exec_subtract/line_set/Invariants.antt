use Rattle.std.proofs.Common.{◌≡◌, ℕ, ◌||◌, drop, nat_cmp}
use Rattle.std.specs.BTreeSet.{contains}
use Rattle.std.specs.List.{list_any}
use Rattle.mg_names.specs.declared.identifiers.TermId.TheVariants.{Line}
use Rattle.mg_model.specs.Board.{same_term}
use Rattle.contexts.proofs.exec_subtract.line_set.Given as goal

-- what is held, and what is left to go through, make the whole
abbrev pub invariant-loop-t : goal.invariant-loop-t
invariant-loop-t l = (n : ℕ) → (contains nat_cmp l.set n || list_any (same_term (Line (record { 0 = n }))) (drop l.t-index l.group)) ≡ list_any (same_term (Line (record { 0 = n }))) l.group
