-- Nothing was gone along at the beginning. Where an event strays, or a trail goes on at the end, the shard differs.
use Rattle.std.proofs.Common.{◌≡◌, ◌∙◌, ◌++◌, ℕ, List, drop, length, rules, sym, ap, subst, take, take_at}
use Rattle.mg_model.specs.declared.events.Event.{Event}
use Rattle.run_account.specs.Comparing.{DiffersIn, Follows, IsCompared, place_at, trails_of}
use Rattle.run_account.proofs.DifferingTrails.{end_compared, none_yet, stray_differs}
use Rattle.run_account.proofs.compare.shard_agrees.Goals as goal

pub returns-then-not-follow : goal.returns-then-not-follow
returns-then-not-follow c =
    let trails = trails_of c.args.planned_calls.now in
    let begin : (number : ℕ) → place_at c.as_mut_slice.result.now number ≡ 0 =
    λ number. ap (λ (places : List ℕ). place_at places number)
    (c.as_mut_slice.ensures.value ∙ c.in_ok-places.ensures.items_if_clones_equal (λ y same. same))
    ∙ none_yet (length c.args.planned_calls.now) number in
    subst (λ (history : List Event). DiffersIn c.args.count c.args.place history trails) c.history_at-history.ensures
    (stray_differs c.args.count c.args.place trails c.as_mut_slice.result.now begin c.history_at-history.result.now
    (c.if-not-follow.ensures.strays (search rules)))

pub returns : goal.returns
returns c =
    let trails = trails_of c.args.planned_calls.now in
    let begin : (number : ℕ) → place_at c.as_mut_slice.result.now number ≡ 0 =
    λ number. ap (λ (places : List ℕ). place_at places number)
    (c.as_mut_slice.ensures.value ∙ c.in_ok-places.ensures.items_if_clones_equal (λ y same. same))
    ∙ none_yet (length c.args.planned_calls.now) number in
    let new = c.follow.new.places in
    let back : take c.in_ok-places.places.len (new ++ drop (length new) c.in_ok-places.places.items) ≡ new =
    take_at new (drop (length new) c.in_ok-places.places.items) c.in_ok-places.places.len (c.follow.auto.places ∙ c.as_mut_slice.ensures.len) in
    subst (λ (history : List Event). IsCompared c.args.count c.args.place history trails c.are_at_end.result) c.history_at-history.ensures
    (end_compared c.args.count c.args.place trails c.as_mut_slice.result.now begin c.history_at-history.result.now c.as_slice.result.now
    (subst (λ (places : List ℕ). Follows c.args.count c.args.place c.history_at-history.result.now trails c.as_mut_slice.result.now places)
    (sym (c.as_slice.ensures.value ∙ back)) (c.if-not-follow.ensures.follows (search rules)))
    c.are_at_end.result c.are_at_end.ensures.yes c.are_at_end.ensures.no)
