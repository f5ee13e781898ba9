-- One configuration more was passed; at the end, all.
use Rattle.std.proofs.Common.{◌≡◌, ◌∙◌, ◌+◌, ◌≤◌, ℕ, true≢false, List, Some, length, sym, ap, subst, refl}
use Rattle.std.specs.Prelude.{option_map}
use Rattle.std.specs.List.{slice_get}
use Rattle.std.proofs.lemmas.List.{length-map}
use Rattle.std.proofs.lemmas.Option.{slice_get-map, slice_get_read}
use Rattle.mg_model.specs.Configuration.{Configuration}
use Rattle.configuration.specs.Config.{configuration_of}
use Rattle.explanation.specs.Shown.{values_of}
use Rattle.explanation.proofs.LastSoFar.{IsSoFar, found_here, last_at_end, none_at_end, none_yet, shown_too}
use Rattle.explanation.proofs.last.last_without.Goals as goal
use Rattle.explanation.proofs.last.last_without.Goals.{then-not-shows, else-not-shows}

pub loop-place-init : goal.loop-place-init
loop-place-init c = none_yet c.args.script.now (values_of c.args.configs.now) c.args.breach.now

pub loop-place-preserved : goal.loop-place-preserved
loop-place-preserved c =
    let script = c.args.script.now in
    let breach = c.args.breach.now in
    let configs = c.args.configs.now in
    let all : List Configuration = values_of configs in
    let place : ℕ = c.loop-place.place in
    let config = c.index-configs-place.result in
    let here : Configuration = configuration_of config in
    let at : slice_get all place ≡ Some here =
    slice_get-map configuration_of configs place
    ∙ ap (option_map configuration_of) (slice_get_read configs (length configs) place config refl c.loop-place-test.true c.index-configs-place.is) in
    elim c.if-not-shows.branch [
      | then-not-shows w ↦ (
          subst (IsSoFar script all breach (place + 1)) (sym w.found-is)
          (found_here script all breach place here at (λ shows. true≢false (sym (c.shows.ensures.1 shows) ∙ w.if-not-shows.true))))
      | else-not-shows w ↦ (
          subst (IsSoFar script all breach (place + 1)) (sym w.found-is)
          (shown_too script all breach place here at (c.shows.ensures.0 w.if-not-shows.false) c.loop-place.found c.loop-place.invariant))
    ]

pub returns-clause-last : goal.returns-clause-last
returns-clause-last c =
    let configs = c.args.configs.now in
    last_at_end c.args.script.now (values_of configs) c.args.breach.now c.loop-place.place c.loop-place.found
    (subst (λ (n : ℕ). n ≤ c.loop-place.place) (sym (length-map configs configuration_of)) c.loop-place-test.false) c.loop-place.invariant

pub returns-clause-none : goal.returns-clause-none
returns-clause-none c =
    let configs = c.args.configs.now in
    none_at_end c.args.script.now (values_of configs) c.args.breach.now c.loop-place.place c.loop-place.found
    (subst (λ (n : ℕ). n ≤ c.loop-place.place) (sym (length-map configs configuration_of)) c.loop-place-test.false) c.loop-place.invariant
