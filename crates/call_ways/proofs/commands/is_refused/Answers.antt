-- As the arrow tells; or there is no such arrow.
use Rattle.std.proofs.Common.{◌≡◌, ◌∙◌, List, Some, length, refl, ap, rules}
use Rattle.std.specs.List.{slice_get}
use Rattle.std.proofs.lemmas.Option.{slice_get_read}
use Rattle.call_ways.specs.declared.crossings.Crossing.{Crossing}
use Rattle.call_ways.specs.declared.fate_sets.FateSet.{FateSet}
use Rattle.call_ways.specs.declared.fates.Fate.TheVariants as fate
use Rattle.call_ways.specs.Fates.{has}
use Rattle.call_ways.proofs.Telling.{none_past, refused_is}
use Rattle.call_ways.proofs.commands.is_refused.Goals as goal

pub returns-in_default : goal.returns-in_default
returns-in_default c = λ script entries are. (
  λ bad. absurd (search rules),
  λ never. absurd (none_past script entries c.args.crossings.now are c.args.arrow never.arrow c.in_default.ensures.lookup.3 never.at_place),
)

pub returns : goal.returns
returns c = λ script entries are.
    let list : List Crossing = c.args.crossings.now in
    let told : Crossing = c.in-Some.crossing.now in
    let there : slice_get list c.args.arrow ≡ Some told =
    slice_get_read list (length list) c.args.arrow told refl c.in-Some.ensures.lookup.3.0 c.in-Some.ensures.lookup.1 in
    refused_is script entries list are c.args.arrow told there c.args.place c.has-refused.result c.has-done.result c.is_first_alone.result
    (c.has-refused.ensures ∙ ap (λ (set : FateSet). has set fate.Refused) c.fates_of-fates.ensures)
    (c.has-done.ensures ∙ ap (λ (set : FateSet). has set fate.Done) c.fates_of-fates.ensures) c.is_first_alone.ensures
