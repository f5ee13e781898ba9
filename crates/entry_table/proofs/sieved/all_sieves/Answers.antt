-- The sieves of one state more.
use Rattle.std.proofs.Common.{◌≡◌, ◌∙◌, ◌+◌, ◌<◌, ℕ, List, [], length, ap, sym, subst, arith}
use Rattle.std.specs.List.{All}
use Rattle.std.proofs.lemmas.List.{length-map, length_push}
use Rattle.entry_table.specs.Index.{places_of}
use Rattle.entry_table.specs.Sieved.{AreSieved}
use Rattle.entry_table.proofs.PlaceLemmas.{places_within}
use Rattle.entry_table.proofs.Products.{choice_at}
use Rattle.entry_table.proofs.SievedLemmas.{one_state_more}
use Rattle.entry_table.proofs.sieved.all_sieves.Goals as goal

pub sieves_for-requires : goal.sieves_for-requires
sieves_for-requires c =
    let lists = c.args.places.now in
    let i = c.loop-list.list-index in
    let many = sym (length-map lists (λ v. v.items)) ∙ c.requires.0 in
    let small : i < 256 = omega (arith, many, c.loop-list-test.true) in
    let is : c.as_slice.result.now ≡ places_of i c.args.entries.now =
    c.as_slice.ensures.value ∙ sym (choice_at (λ v. v.items) lists i c.list-item.result [] c.loop-list-test.true c.list-item.is) ∙ c.requires.1 i [] small in
    subst (All (λ place. place < length c.args.entries.now)) (sym is) (places_within i c.args.entries.now)

pub loop-list-preserved : goal.loop-list-preserved
loop-list-preserved c =
    let lists = c.args.places.now in
    let i = c.loop-list.list-index in
    let many = sym (length-map lists (λ v. v.items)) ∙ c.requires.0 in
    let small : i < 256 = omega (arith, many, c.loop-list-test.true) in
    let is : c.as_slice.result.now ≡ places_of i c.args.entries.now =
    c.as_slice.ensures.value ∙ sym (choice_at (λ v. v.items) lists i c.list-item.result [] c.loop-list-test.true c.list-item.is) ∙ c.requires.1 i [] small in
    let sieves = c.in_ok-sieves_for.field-0 in
    record {
      count = ap length c.in_ok-push.ensures.items ∙ length_push c.loop-list.found.items sieves ∙ ap (λ n. n + 1) c.loop-list.invariant.count;
      sieved = one_state_more c.args.entries.now c.loop-list.found.items c.push.new.self.items i sieves c.loop-list.invariant.count c.in_ok-push.ensures.items
          (subst (λ (places : List ℕ). AreSieved c.args.entries.now places sieves) is c.in_ok-sieves_for.ensures) c.loop-list.invariant.sieved;
    }
