-- Nothing is counted of any call, and no place is anything but 0.
use Rattle.std.proofs.Common.{◌∙◌, ℕ, List, length, refl, sym, ap}
use Rattle.std.specs.Prelude.{slice_index_or}
use Rattle.run_shards.proofs.CountedLogs.{new_counted}
use Rattle.run_shards.proofs.CountedPlaces.{none_yet, zeros}
use Rattle.run_shards.proofs.shard_count.ShardCount.new.Goals as goal

pub returns-clause-counted : goal.returns-clause-counted
returns-clause-counted c = λ script calls count number all of_run.
    let places = c.in_ok-from_elem.ensures.items_if_clones_equal (λ y same. same) in
    new_counted c.args.shard.now _ c.keeps_its_run.ensures c.requires c.in_ok-none_counted.ensures.none
    (λ first. ap (λ (ps : List ℕ). slice_index_or ps first 0) places ∙ none_yet c.args.calls first) refl refl c.new.ensures.items script calls count number
    (c.in_ok-none_counted.ensures.all ∙ sym all)
    (ap (λ (ps : List ℕ). length ps) places ∙ zeros c.args.calls ∙ sym all) of_run
