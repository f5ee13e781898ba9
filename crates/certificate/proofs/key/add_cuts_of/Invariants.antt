-- What was added so far, followed by what is left, is the whole.
use Rattle.std.proofs.Common.{◌≡◌, ◌++◌, drop}
use Rattle.certificate.specs.Components.{cut_keys}
use Rattle.certificate.proofs.key.add_cuts_of.Given as goal

abbrev pub invariant-loop-sink : goal.invariant-loop-sink
invariant-loop-sink l = l.keys.items ++ cut_keys (drop l.sink-index l.all) l.source ≡ l.initial.keys.items ++ cut_keys l.all l.source
