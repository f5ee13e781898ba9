-- One entry has all, since it allows all that it allows of each, or entries have all of either part.
use Rattle.std.proofs.Common.{◌≡◌, List, Contains, map, subst}
use Rattle.std.specs.List.{All}
use Rattle.mg_model.specs.Configuration.{Configuration}
use Rattle.mg_model.specs.Entries.{Allows, Entry}
use Rattle.configuration.specs.Config.{configuration_of}
use Rattle.configuration.specs.Packed.{Words}
use Rattle.entry_table.specs.Shown.{shown}
use Rattle.closure.proofs.HullLemmas.{each_of_words, hull_includes}
use Rattle.closure.proofs.HullParts.{hull_in_parts}
use Rattle.closure.proofs.hull_parts.+are_in_parts.Goals as goal

pub returns-in-Some : goal.returns-in-Some
returns-in-Some t c holds d inside formed =
    let entry : Entry = c.in-Some._entry.now in
    let P : Configuration → Type 0 = λ e. (e.state ≡ entry.state) × All (Allows e) entry.components in (
      entry,
      (
        c.in-Some.ensures.has,
        hull_includes (map configuration_of c.args.hull.now) entry
            (subst (λ (words : List Words). (e : Configuration) → Contains (map configuration_of words) e → P e) c.as_slice-2.ensures
            (each_of_words c.as_slice-2.result.now P c.in-Some.ensures.allows)) d inside formed,
      ),
    )

pub returns : goal.returns
returns t c holds =
    let parting = c.in-Some-parting_of.parting in
    hull_in_parts (shown parting.component.now) (configuration_of parting.within) (configuration_of parting.without) c.args.cert.now
    (map configuration_of c.args.hull.now) (map configuration_of c.in-Ok.within) (map configuration_of c.in-Ok-part_each.without)
    c.in-Ok.ensures c.in-Ok-part_each.ensures (c.are_in_parts.ensures c.if-not-are_in_parts.false) (c.are_in_parts-2.ensures holds)
