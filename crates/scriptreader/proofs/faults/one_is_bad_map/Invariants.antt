use Rattle.std.proofs.Common.{◌≡◌, drop}
use Rattle.std.specs.List.{list_any}
use Rattle.scriptreader.specs.Faults.{is_bad_map}
use Rattle.scriptreader.proofs.faults.one_is_bad_map.Given as goal

abbrev pub invariant-loop-map : goal.invariant-loop-map
invariant-loop-map l = list_any (λ m. is_bad_map m) (drop l.map-index l.maps) ≡ list_any (λ m. is_bad_map m) l.maps
