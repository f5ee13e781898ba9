-- One entry more was asked; at the end, all of the state.
use Rattle.std.proofs.Common.{◌≡◌, ◌∙◌, ◌≤◌, ℕ, List, length, ap, sym, subst}
use Rattle.std.specs.List.{slice_get, slice_index_or}
use Rattle.std.proofs.lemmas.Bool.{true≢false}
use Rattle.std.proofs.lemmas.Option.{slice_get-get_or}
use Rattle.configuration.specs.Config.{configuration_of}
use Rattle.entry_table.specs.Index.{places_of}
use Rattle.entry_table.proofs.PlaceLemmas.{one_more_asked, first_listed, none_listed}
use Rattle.entry_table.proofs.cert.Cert.first_in_turn.Goals as goal

pub loop-place-preserved : goal.loop-place-preserved
loop-place-preserved c =
    let entries = c.args.self.now in
    let config = configuration_of c.args.config.now in
    let items = c.of_state-place-items.result.now in
    let i = c.loop-place.place-index in
    let is : items ≡ places_of config.state entries = c.of_state-place-items.ensures ∙ ap (λ (state : ℕ). places_of state entries) c.requires.state in
    one_more_asked entries config i (slice_index_or items i 0)
    (ap (λ (xs : List ℕ). slice_get xs i) (sym is) ∙ slice_get-get_or items i 0 c.loop-place-test.true)
    (λ includes. true≢false (sym (c.has_at.ensures.1 includes) ∙ c.if-has_at.false)) c.loop-place.invariant

pub returns-then-has_at-clause-has : goal.returns-then-has_at-clause-has
returns-then-has_at-clause-has c = c.has_at.ensures.0 c.if-has_at.true

pub returns-then-has_at-clause-first : goal.returns-then-has_at-clause-first
returns-then-has_at-clause-first c =
    let entries = c.args.self.now in
    let config = configuration_of c.args.config.now in
    let items = c.of_state-place-items.result.now in
    let i = c.loop-place.place-index in
    let is : items ≡ places_of config.state entries = c.of_state-place-items.ensures ∙ ap (λ (state : ℕ). places_of state entries) c.requires.state in
    first_listed entries config i (slice_index_or items i 0)
    (ap (λ (xs : List ℕ). slice_get xs i) (sym is) ∙ slice_get-get_or items i 0 c.loop-place-test.true) c.loop-place.invariant

pub returns-clause-none : goal.returns-clause-none
returns-clause-none c =
    let entries = c.args.self.now in
    let config = configuration_of c.args.config.now in
    let items = c.of_state-place-items.result.now in
    let is : items ≡ places_of config.state entries = c.of_state-place-items.ensures ∙ ap (λ (state : ℕ). places_of state entries) c.requires.state in
    none_listed entries config c.loop-place.place-index (subst (λ (xs : List ℕ). length xs ≤ c.loop-place.place-index) is c.loop-place-test.false) c.loop-place.invariant
