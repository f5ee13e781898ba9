-- What was added so far, followed by what is left, is the whole.
use Rattle.std.proofs.Common.{◌≡◌, ◌++◌, drop}
use Rattle.std.specs.List.{flat_map}
use Rattle.certificate.specs.Components.{cut_keys}
use Rattle.certificate.proofs.key.add_cuts.Given as goal

abbrev pub invariant-loop-source : goal.invariant-loop-source
invariant-loop-source l = l.keys.items ++ flat_map (cut_keys l.all) (drop l.source-index l.all) ≡ l.initial.keys.items ++ flat_map (cut_keys l.all) l.all
