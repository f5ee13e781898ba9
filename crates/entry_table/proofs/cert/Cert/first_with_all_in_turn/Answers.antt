-- One entry more was asked; at the end, all of the state.
use Rattle.std.proofs.Common.{◌≡◌, ◌∙◌, ◌≤◌, ℕ, List, length, ap, sym, subst}
use Rattle.std.specs.List.{slice_get, slice_index_or}
use Rattle.std.proofs.lemmas.Bool.{true≢false}
use Rattle.std.proofs.lemmas.Option.{slice_get-get_or}
use Rattle.entry_table.specs.Index.{places_of}
use Rattle.entry_table.specs.WithAll.{PlaceAllowsEach}
use Rattle.entry_table.proofs.PlaceLemmas.{allowing_is_listed, none_at_all, none_before_next, none_below}
use Rattle.entry_table.proofs.cert.Cert.first_with_all_in_turn.Goals as goal

pub loop-place-preserved : goal.loop-place-preserved
loop-place-preserved c =
    let entries = c.args.self.now in
    let state = c.args.state in
    let configs = c.args.configs.now in
    let items = c.of_state-place-items.result.now in
    let i = c.loop-place.place-index in
    let is : items ≡ places_of state entries = c.of_state-place-items.ensures in
    none_before_next entries state (PlaceAllowsEach entries state configs) (allowing_is_listed entries state configs) i (slice_index_or items i 0)
    (ap (λ (xs : List ℕ). slice_get xs i) (sym is) ∙ slice_get-get_or items i 0 c.loop-place-test.true)
    (λ has. true≢false (sym (c.allows_each_at.ensures.1 has) ∙ c.if-allows_each_at.false)) c.loop-place.invariant

pub returns-then-allows_each_at-clause-has : goal.returns-then-allows_each_at-clause-has
returns-then-allows_each_at-clause-has c = c.allows_each_at.ensures.0 c.if-allows_each_at.true

pub returns-then-allows_each_at-clause-first : goal.returns-then-allows_each_at-clause-first
returns-then-allows_each_at-clause-first c =
    let entries = c.args.self.now in
    let state = c.args.state in
    let configs = c.args.configs.now in
    let items = c.of_state-place-items.result.now in
    let i = c.loop-place.place-index in
    let is : items ≡ places_of state entries = c.of_state-place-items.ensures in
    none_below entries state (PlaceAllowsEach entries state configs) (allowing_is_listed entries state configs) i (slice_index_or items i 0)
    (ap (λ (xs : List ℕ). slice_get xs i) (sym is) ∙ slice_get-get_or items i 0 c.loop-place-test.true) c.loop-place.invariant

pub returns-clause-none : goal.returns-clause-none
returns-clause-none c =
    let entries = c.args.self.now in
    let state = c.args.state in
    let configs = c.args.configs.now in
    let items = c.of_state-place-items.result.now in
    let is : items ≡ places_of state entries = c.of_state-place-items.ensures in
    none_at_all entries state (PlaceAllowsEach entries state configs) (allowing_is_listed entries state configs) c.loop-place.place-index
    (subst (λ (xs : List ℕ). length xs ≤ c.loop-place.place-index) is c.loop-place-test.false) c.loop-place.invariant
