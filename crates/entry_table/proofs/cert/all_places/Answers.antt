-- One place more.
use Rattle.std.proofs.Common.{◌≡◌, ◌∙◌, ◌++◌, ◌∷◌, [], ℕ, List, Vec, Global, map, sym, subst}
use Rattle.std.specs.List.{slice_index_or}
use Rattle.entry_table.proofs.ListsAt.{one_place_more}
use Rattle.entry_table.proofs.cert.all_places.Goals as goal

pub loop-place-preserved : goal.loop-place-preserved
loop-place-preserved c = record {
  count = c.add_place.ensures.count;
  places = λ state none small.
      let lists : List (Vec ℕ Global) → List (List ℕ) = map (λ (list : Vec ℕ Global). list.items) in
      let old : List ℕ = slice_index_or (lists c.loop-place.found.items) state none in
      let new : List ℕ = slice_index_or (lists c.add_place.new.places.items) state none in
      one_place_more c.args.entries.now c.loop-place.place state c.index-entries-place.result old new c.loop-place-test.true c.index-entries-place.is
      (λ mine. subst (λ (s : ℕ). slice_index_or (lists c.add_place.new.places.items) s none ≡ slice_index_or (lists c.loop-place.found.items) s none ++ c.loop-place.place ∷ [])
      (c.state.ensures ∙ sym mine) (c.in_ok-add_place.ensures.here none))
      (λ apart. c.add_place.ensures.others state none (λ same. apart (same ∙ c.state.ensures)))
      ∙ c.loop-place.invariant.places state none small;
}
