-- Each history is moved on by the part of it that is pushed; behind the last, all are.
use Rattle.std.proofs.Common.{◌≡◌, ◌∙◌, ◌<◌, ◌≤◌, [], length, map, sym, ap}
use Rattle.std.proofs.lemmas.List.{get_or-map, length-map}
use Rattle.run_account.specs.Merging.{left_from}
use Rattle.run_account.proofs.MergedPlaces.{place_moved_on, places_moved_on}
use Rattle.run_account.proofs.merge.push_association.Goals as goal

pub loop-index-preserved : goal.loop-index-preserved
loop-index-preserved c =
    let histories = map (λ history. history.items) c.args.histories.now in
    let sized : length histories ≡ length c.args.histories.now = length-map c.args.histories.now (λ history. history.items) in
    let within : c.loop-index.index < length histories = rw sized c.loop-index-test.true in
    place_moved_on c.args.events.now.items (left_from c.args.places.now histories) c.loop-index.events.items c.push_part.new.events.items c.loop-index.places
    histories c.loop-index.index c.in_ok-places.field-0 _ (c.loop-index.auto.places ∙ c.requires ∙ sym sized) within
    (get_or-map (λ history. history.items) c.args.histories.now c.loop-index.index _ [] c.loop-index-test.true
    ∙ ap (λ history. history.items) (sym c.index-histories-index.is) ∙ sym c.as_slice.ensures.value)
    c.in_ok-places.ensures c.loop-index.invariant

pub returns : goal.returns
returns c =
    let histories = map (λ history. history.items) c.args.histories.now in
    let sized : length histories ≡ length c.args.histories.now = length-map c.args.histories.now (λ history. history.items) in
    let past : length histories ≤ c.loop-index.index = rw sized c.loop-index-test.false in
    places_moved_on c.args.events.now.items (left_from c.args.places.now histories) c.loop-index.events.items c.loop-index.places histories c.loop-index.index
    (c.loop-index.auto.places ∙ c.requires ∙ sym sized) past c.loop-index.invariant
