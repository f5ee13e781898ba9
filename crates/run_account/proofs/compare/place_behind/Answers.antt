-- The next event of a trail is one more that is taken.
use Rattle.std.proofs.Common.{◌≡◌, ◌∙◌, ◌+◌, ◌++◌, Bool, true, false, true≢false, [], ◌∷◌, Option, None, Some, arith, refl, sym, ap, take}
use Rattle.std.specs.Prelude.{not, slice_get}
use Rattle.std.specs.Option.{option_eq}
use Rattle.std.proofs.lemmas.Grind.{common_steps}
use Rattle.mg_model.specs.contracts.events.EventPartialEq.TheImpl.{eq-value as events}
use Rattle.mg_model.specs.declared.events.Event.{Event}
use Rattle.run_shards.specs.Taking.{trail_of}
use Rattle.run_account.proofs.CountLemmas.{one_more}
use Rattle.run_account.proofs.SameEvents.{same_event}
use Rattle.run_account.proofs.compare.place_behind.Goals as goal

found_there : (found : Option Event) (event : Event) → false ≡ not (option_eq events.it found (Some event)) → found ≡ Some event
found_there None event alike = absurd (true≢false (sym alike))
found_there (Some other) event alike = by_test (events.it other event) refl alike
  where
    by_test : (same : Bool) → events.it other event ≡ same → false ≡ not same → Some other ≡ Some event
    by_test true same alike = ap Some (same_event other event same)
    by_test false same alike = absurd (true≢false (sym alike))

pub returns : goal.returns
returns c =
    let trail = trail_of c.args.planned.now in
    let there : slice_get trail c.args.place ≡ Some c.args.event.now =
    sym c.event_at.ensures ∙ found_there c.event_at.result c.args.event.now (sym c.if-ne.false ∙ c.ne.ensures) in
    let behind : take (c.args.place + 1) trail ≡ take c.args.place trail ++ c.args.event.now ∷ [] = one_more trail c.args.place c.args.event.now there in
    grind (arith, common_steps)
