-- What is left decides, since all before it has its value.
use Rattle.std.proofs.Common.{◌≡◌, drop}
use Rattle.std.specs.List.{list_all}
use Rattle.configuration.specs.Regions.{is_in}
use Rattle.configuration.proofs.value_set.are_in.Given as goal

abbrev pub invariant-loop-set : goal.invariant-loop-set
invariant-loop-set l =
    list_all (λ set. is_in set l.config) (drop l.set-index l.sets) ≡ list_all (λ set. is_in set l.config) l.sets
