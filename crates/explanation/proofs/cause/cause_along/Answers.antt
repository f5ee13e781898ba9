-- The move from the last configuration that doesn't show it, and the command within it. Where there is none, no command brought it about.
use Rattle.std.proofs.Common.{ℕ, List, subst, arith}
use Rattle.std.proofs.lemmas.List.{length-map}
use Rattle.std.proofs.lemmas.Option.{slice_get_within}
use Rattle.mg_model.specs.Configuration.{Configuration}
use Rattle.mg_model.specs.Steps.{opening}
use Rattle.configuration.specs.Config.{configuration_of}
use Rattle.call_ways.specs.Ways.{shown}
use Rattle.call_ways.specs.declared.way.Move.{Move}
use Rattle.call_ways.specs.declared.way.WayStep.{WayStep}
use Rattle.explanation.specs.Causes.{IsLastWithout, along}
use Rattle.explanation.specs.Shown.{values_of}
use Rattle.explanation.proofs.Causes.{moved_at, none, none_along, none_at_end, stands_at, within}
use Rattle.explanation.proofs.cause.cause_along.Goals as goal

pub returns-in_default-clause-none : goal.returns-in_default-clause-none
returns-in_default-clause-none c =
    none_along c.args.script.now (opening c.args.script.now) (shown c.args.way.now) c.args.breach.now (values_of c.args.configs.now) c.requires
    c.in_default.ensures.none

pub returns-in_default-get-clause-none : goal.returns-in_default-get-clause-none
returns-in_default-get-clause-none c =
    let script = c.args.script.now in
    let way : List WayStep = c.args.way.now in
    let place : ℕ = c.in-Some.place in
    let last : IsLastWithout script (along (opening script) (shown way)) c.args.breach.now place =
    subst (λ (all : List Configuration). IsLastWithout script all c.args.breach.now place) c.requires c.in-Some.ensures.last in
    let past = c.in_default-get.ensures.lookup in
    let step : WayStep → Move × Configuration = λ s. (s.by, configuration_of s.to) in
    let as_long = length-map way step in
    none_at_end script (opening script) (shown way) c.args.breach.now place last (omega (arith, past, as_long))

pub returns-in_default-get-2-clause-none : goal.returns-in_default-get-2-clause-none
returns-in_default-get-2-clause-none c =
    let configs = c.args.configs.now in
    let last = c.in-Some.ensures.last in
    let within = slice_get_within (values_of configs) c.in-Some.place last.last last.at in
    let past = c.in_default-get-2.ensures.lookup in
    let as_long = length-map configs configuration_of in
    absurd (omega (arith, within, past, as_long))

pub returns-clause-cause : goal.returns-clause-cause
returns-clause-cause c =
    let script = c.args.script.now in
    let way : List WayStep = c.args.way.now in
    let configs = c.args.configs.now in
    let breach = c.args.breach.now in
    let place : ℕ = c.in-Some.place in
    let step : WayStep = c.in-Some-get.step.now in
    let config = c.in-Some-get-2.config.now in
    let told = c.cause_within.ensures in
    within script (opening script) (shown way) breach place (configuration_of config) (configuration_of step.to) step.by
    (stands_at configs place config (along (opening script) (shown way)) c.requires c.in-Some-get-2.ensures.lookup.3.0 c.in-Some-get-2.ensures.lookup.1)
    (moved_at way place step c.in-Some-get.ensures.lookup.3.0 c.in-Some-get.ensures.lookup.1)
    (subst (λ (all : List Configuration). IsLastWithout script all breach place) c.requires c.in-Some.ensures.last)
    c.cause_within.result told.place told.state told.executed told.within told.command

pub returns-clause-none : goal.returns-clause-none
returns-clause-none c =
    let script = c.args.script.now in
    let way : List WayStep = c.args.way.now in
    let configs = c.args.configs.now in
    let breach = c.args.breach.now in
    let place : ℕ = c.in-Some.place in
    let step : WayStep = c.in-Some-get.step.now in
    let config = c.in-Some-get-2.config.now in
    none script (opening script) (shown way) breach place (configuration_of config) (configuration_of step.to) step.by
    (stands_at configs place config (along (opening script) (shown way)) c.requires c.in-Some-get-2.ensures.lookup.3.0 c.in-Some-get-2.ensures.lookup.1)
    (moved_at way place step c.in-Some-get.ensures.lookup.3.0 c.in-Some-get.ensures.lookup.1)
    (subst (λ (all : List Configuration). IsLastWithout script all breach place) c.requires c.in-Some.ensures.last)
    c.cause_within.result c.cause_within.ensures.none
