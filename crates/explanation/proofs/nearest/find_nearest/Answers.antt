-- One entry more was passed; at the end, all.
use Rattle.std.proofs.Common.{◌≡◌, ◌∙◌, ◌+◌, ◌≤◌, ℕ, List, Some, length, sym, ap, subst, refl}
use Rattle.std.specs.List.{slice_get}
use Rattle.std.proofs.lemmas.Option.{slice_get_read}
use Rattle.mg_model.specs.Entries.{Entry}
use Rattle.configuration.specs.Config.{configuration_of}
use Rattle.explanation.proofs.NearestSoFar.{IsSoFar, else_at_end, one_more, passed_over, some_at_end}
use Rattle.explanation.proofs.nearest.find_nearest.Goals as goal
use Rattle.explanation.proofs.nearest.find_nearest.Goals.{then-state, else-state}

pub loop-place-preserved : goal.loop-place-preserved
loop-place-preserved c =
    let C = configuration_of c.args.config.now in
    let entries : List Entry = c.args.cert.now in
    let items : List Entry = c.entries-entry-items.result.now in
    let place : ℕ = c.loop-place.place in
    let entry : Entry = c.entry-item.result in
    let at : slice_get entries place ≡ Some entry =
    subst (λ (es : List Entry). slice_get es place ≡ Some entry) c.entries-entry-items.ensures
    (slice_get_read items (length items) place entry refl c.loop-place-test.true c.entry-item.is) in
    elim c.if-state.branch [
      | then-state w ↦ (
          let found = one_more entries C place entry at w.lacking-missing.result (sym c.state.ensures ∙ w.if-state.true ∙ c.state-in-loop-place.ensures)
          w.lacking-missing.ensures c.loop-place.found c.loop-place.invariant in
          subst (IsSoFar entries C (place + 1)) (ap Some (sym w.nearer.ensures) ∙ sym w.found-is) found)
      | else-state w ↦ (
          let same = passed_over entries C place entry at c.loop-place.found c.loop-place.invariant
          (λ is. w.if-state.false (c.state.ensures ∙ is ∙ sym c.state-in-loop-place.ensures)) in
          subst (IsSoFar entries C (place + 1)) (sym w.found-is) same)
    ]

pub returns-clause-some : goal.returns-clause-some
returns-clause-some c =
    some_at_end c.args.cert.now (configuration_of c.args.config.now) c.loop-place.place c.loop-place.found
    (subst (λ (es : List Entry). length es ≤ c.loop-place.place) c.entries-entry-items.ensures c.loop-place-test.false) c.loop-place.invariant

pub returns-clause-none : goal.returns-clause-none
returns-clause-none c =
    else_at_end c.args.cert.now (configuration_of c.args.config.now) c.loop-place.place c.loop-place.found
    (subst (λ (es : List Entry). length es ≤ c.loop-place.place) c.entries-entry-items.ensures c.loop-place-test.false) c.loop-place.invariant
