-- The entries so far with the drafts that are left are all the drafts, and those that are left are within the limits.
use Rattle.std.proofs.Common.{◌≡◌, ◌++◌, false}
use Rattle.std.specs.List.{list_any}
use Rattle.std.specs.Vec.Iter.{into_iter_items}
use Rattle.certificate.specs.Certificate.{has_empty, is_large}
use Rattle.certificate.proofs.draft.entries.Given as goal

abbrev pub invariant-loop-draft : goal.invariant-loop-draft
invariant-loop-draft l = record {
  all : l.found.items ++ into_iter_items l.draft-iterator ≡ l.fn.drafts.items;
  some : list_any has_empty (into_iter_items l.draft-iterator) ≡ false;
  within : list_any is_large (into_iter_items l.draft-iterator) ≡ false;
}
