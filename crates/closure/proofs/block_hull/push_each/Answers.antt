-- One value more is there.
use Rattle.std.proofs.Common.{ℕ, map, subst, Contains, below_more}
use Rattle.std.specs.List.{slice_index_or}
use Rattle.mg_model.specs.Configuration.{Configuration}
use Rattle.mg_model.specs.Entries.{choices_of, same_choice}
use Rattle.configuration.specs.Config.{configuration_of}
use Rattle.entry_table.specs.Shown.{shown}
use Rattle.closure.proofs.HullLemmas.{added_there, still_there}
use Rattle.closure.proofs.block_hull.push_each.Goals as goal

pub loop-place-preserved : goal.loop-place-preserved
loop-place-preserved c =
    let there : (d : Configuration) → Contains (map configuration_of c.loop-place.hull) d → Contains (map configuration_of c.push.new.self) d =
    still_there configuration_of c.loop-place.hull c.push.new.self c.choose.new.config c.in_ok-push.ensures in
    record {
      kept = λ d has. there d (c.loop-place.invariant.kept d has);
      each = below_more (λ (p : ℕ). Contains (map configuration_of c.push.new.self)
          ((slice_index_or (choices_of (shown c.args.component.now)) p same_choice) (configuration_of c.args.first.now)))
          c.loop-place.place (λ p lt. there _ (c.loop-place.invariant.each p lt))
          (subst (λ (d : Configuration). Contains (map configuration_of c.push.new.self) d) c.choose.ensures
          (added_there configuration_of c.loop-place.hull c.push.new.self c.choose.new.config c.in_ok-push.ensures));
    }
