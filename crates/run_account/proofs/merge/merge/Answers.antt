-- At first all is left; each association, with a restart behind it, leaves what comes after it; and behind the last there is nothing.
use Rattle.std.proofs.Common.{◌≡◌, ◌∙◌, ◌++◌, ◌+◌, ◌-◌, ℕ, List, [], ◌∷◌, drop, take, length, map, sym, ap, subst}
use Rattle.std.specs.Prelude.{replicate}
use Rattle.std.proofs.lemmas.List.{length-map, length-replicate}
use Rattle.mg_model.specs.declared.events.Event.TheVariants.{Restart}
use Rattle.mg_model.specs.Shards.{cut_at_restarts, merged}
use Rattle.run_account.specs.Merging.{ArePartsPushed, left_from}
use Rattle.run_account.proofs.MergedAssociations.{IsMerging, association_merged, last_merged, none_merged, written}
use Rattle.run_account.proofs.merge.merge.Goals as goal

pub loop-init : goal.loop-init
loop-init c =
    let histories = map (λ history. history.items) c.args.histories.now in
    let sized : length histories ≡ length c.args.histories.now = length-map c.args.histories.now (λ history. history.items) in
    let first : c.in_ok-places.places.items ≡ replicate (length c.args.histories.now) 0 = c.in_ok-places.ensures.items_if_clones_equal (λ y same. same) in
    record {
      sized = ap (λ (places : List ℕ). length places) first ∙ length-replicate (length c.args.histories.now) 0;
      so_far = none_merged c.in_ok-events.events.items c.in_ok-places.places.items histories c.args.restarts c.in_ok-events.ensures.items
          (first ∙ ap (λ (count : ℕ). replicate count 0) (sym sized));
    }

pub loop-preserved : goal.loop-preserved
loop-preserved c =
    let histories = map (λ history. history.items) c.args.histories.now in
    let all = merged (map cut_at_restarts histories) c.args.restarts in
    let events = c.push_association.new.events.items in
    let new = c.push_association.new.places in
    let back : take c.loop.places.len (new ++ drop (length new) c.loop.places.items) ≡ new =
    written c.loop.places.items new c.loop.places.len (c.push_association.auto.places ∙ c.as_mut_slice.ensures.len) in
    let pushed : ArePartsPushed c.loop.events.items (left_from c.loop.places.items histories) events (left_from new histories) =
    subst (λ (places : List ℕ). ArePartsPushed c.loop.events.items (left_from places histories) events (left_from new histories)) c.as_mut_slice.ensures.value
    c.in_ok-push_association.ensures in
    let merging : IsMerging all (events ++ Restart ∷ []) (left_from new histories) (c.args.restarts - (c.loop.counter + 1)) =
    association_merged all c.loop.events.items events (left_from c.loop.places.items histories) (left_from new histories) c.loop.counter c.args.restarts
    c.loop-test.true pushed c.loop.invariant.so_far in
    record {
      sized = ap (λ (places : List ℕ). length places) back ∙ c.push_association.auto.places
          ∙ ap (λ (places : List ℕ). length places) c.as_mut_slice.ensures.value ∙ c.loop.invariant.sized;
      so_far = rw (back, c.in_ok-push.ensures.items) merging;
    }

pub returns : goal.returns
returns c =
    let histories = map (λ history. history.items) c.args.histories.now in
    let all = merged (map cut_at_restarts histories) c.args.restarts in
    let events = c.push_association-2.new.events.items in
    let new = c.push_association-2.new.places in
    let pushed : ArePartsPushed c.loop.events.items (left_from c.loop.places.items histories) events (left_from new histories) =
    subst (λ (places : List ℕ). ArePartsPushed c.loop.events.items (left_from places histories) events (left_from new histories)) c.as_mut_slice-2.ensures.value
    c.in_ok-push_association-2.ensures in
    last_merged all c.loop.events.items events (left_from c.loop.places.items histories) (left_from new histories) c.loop.counter c.args.restarts
    c.loop-test.false pushed c.loop.invariant.so_far
