-- What was added so far, followed by what is left, is the whole.
use Rattle.std.proofs.Common.{◌≡◌, ◌++◌, map, drop}
use Rattle.std.specs.List.{flat_map}
use Rattle.certificate.specs.Components.{ephemeral_keys}
use Rattle.certificate.specs.declared.key.Key.TheVariants.{Context}
use Rattle.certificate.proofs.key.add_names.Given as goal

abbrev pub invariant-loop-context : goal.invariant-loop-context
invariant-loop-context l =
    l.keys.items ++ map (λ j. Context j) (drop l.context-index l.contexts) ≡ l.initial.keys.items ++ map (λ j. Context j) l.contexts

abbrev pub invariant-loop-ephemeral : goal.invariant-loop-ephemeral
invariant-loop-ephemeral l =
    l.keys.items ++ flat_map ephemeral_keys (drop l.ephemeral-index l.ephemerals)
    ≡ l.initial.keys.items ++ flat_map ephemeral_keys l.ephemerals
