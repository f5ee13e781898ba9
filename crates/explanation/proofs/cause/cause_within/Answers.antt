-- Each configuration that the commands lead through shows it, or the last that doesn't is behind all of them.
use Rattle.std.proofs.Common.{◌≡◌, ◌∙◌, length, ap, arith}
use Rattle.configuration.specs.Config.{configuration_of}
use Rattle.explanation.specs.Causes.{executes, through}
use Rattle.explanation.specs.Shown.{values_of}
use Rattle.explanation.proofs.Causes.{none_below, none_within}
use Rattle.explanation.proofs.cause.cause_within.Goals as goal

pub returns-in_default-clause-none : goal.returns-in_default-clause-none
returns-in_default-clause-none c =
    let script = c.args.script.now in
    let C = configuration_of c.args.config.now in
    let configs = c.as_slice-2.result.now in
    let are : values_of configs ≡ through script C (executes script C c.args.by) =
    ap values_of c.as_slice-2.ensures.value ∙ c.in_ok-configs.ensures ∙ ap (through script C) (c.as_slice.ensures.value ∙ c.in_ok-commands.ensures) in
    none_within script c.args.breach.now C c.args.by (values_of configs) are c.in_default.ensures.none

pub returns-then-command_place-len-clause-none : goal.returns-then-command_place-len-clause-none
returns-then-command_place-len-clause-none c =
    let script = c.args.script.now in
    let C = configuration_of c.args.config.now in
    let configs = c.as_slice-2.result.now in
    let are : values_of configs ≡ through script C (executes script C c.args.by) =
    ap values_of c.as_slice-2.ensures.value ∙ c.in_ok-configs.ensures ∙ ap (through script C) (c.as_slice.ensures.value ∙ c.in_ok-commands.ensures) in
    let as_many = ap length c.in_ok-commands.ensures in
    none_below script c.args.breach.now C c.args.by (values_of configs) c.in-Some.command_place are c.in-Some.ensures.last
    (omega (arith, c.if-command_place-len.true, c.len.ensures, as_many))
