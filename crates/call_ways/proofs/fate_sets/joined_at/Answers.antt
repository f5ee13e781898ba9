-- With the fate that is there, or without one.
use Rattle.std.proofs.Common.{◌≡◌, ◌∙◌, ◌||◌, List, Option, Some, length, refl, sym, ap}
use Rattle.std.specs.List.{slice_get}
use Rattle.std.proofs.lemmas.Option.{slice_get_read}
use Rattle.call_ways.specs.declared.fate_sets.FateSet.{FateSet}
use Rattle.call_ways.specs.declared.fates.Fate.{Fate}
use Rattle.call_ways.specs.Crossed.{is_of, same_fate}
use Rattle.call_ways.specs.Fates.{has, set_at}
use Rattle.call_ways.proofs.fate_sets.joined_at.Goals as goal

pub returns-in-Some : goal.returns-in-Some
returns-in-Some c = λ it.
    let fates : List Fate = c.args.fates.now in
    let there : slice_get fates c.args.place ≡ Some c.in-Some.it.now =
    slice_get_read fates (length fates) c.args.place c.in-Some.it.now refl c.in-Some.ensures.lookup.3.0 c.in-Some.ensures.lookup.1 in
    c.with.ensures it ∙ ap (λ (s : FateSet). has s it || same_fate it c.in-Some.it.now) c.set_at-set.ensures
    ∙ ap (λ (o : Option Fate). has (set_at c.args.sets.now c.args.place) it || is_of it o) (sym there)
