-- At first all commands are left; one more has its fate; at the end none is left.
use Rattle.std.proofs.Common.{◌≡◌, ◌∙◌, ◌++◌, ◌∷◌, [], ◌+◌, ℕ, true, List, Option, Some, None, IfSome, IfNone, drop, refl, sym, ap, subst}
use Rattle.std.proofs.lemmas.List.{drop_all}
use Rattle.mg_model.specs.declared.commands.Command.{Command}
use Rattle.mg_model.specs.Configuration.{Configuration}
use Rattle.mg_model.specs.Effects.{is_legal}
use Rattle.mg_model.specs.Request.{Names, built}
use Rattle.mg_model.specs.Script.{Script}
use Rattle.mg_model.specs.Steps.{bound_names}
use Rattle.mg_model.specs.Tables.{state_of}
use Rattle.configuration.specs.Config.{configuration_of}
use Rattle.configuration.proofs.NumberLemmas.{at}
use Rattle.call_ways.specs.declared.fates.Fate.{Fate}
use Rattle.call_ways.specs.Fates.{fates, fates_in}
use Rattle.call_ways.specs.Sending.{ahead}
use Rattle.call_ways.proofs.Sending.{AreTold, all_told, one_told}
use Rattle.call_ways.proofs.fates.fates_in.Goals as goal

front : (next : Option Command) (old new : List Command) → IfSome next (λ command. old ≡ command ∷ new) → IfNone next (old ≡ []) → old ≡ ahead next new
front (Some first) old new some none = some
front None old new some none = none

pub loop-command-init : goal.loop-command-init
loop-command-init c =
    let script : Script = c.args.script.now in
    let C : Configuration = configuration_of c.args.config.now in
    let commands : List Command = c.commands_of-commands.result.now in
    let all : commands ≡ (state_of script C.state).commands =
    c.commands_of-commands.ensures ∙ ap (λ (s : ℕ). (state_of script s).commands) c.state-state.ensures in
    let request : c.new-request.result ≡ built (bound_names C) commands =
    c.new-request.ensures.value ∙ ap (λ (names : Names). built names (state_of script c.state-state.result).commands) c.bound_in.ensures
    ∙ ap (built (bound_names C)) (sym c.commands_of-commands.ensures) in
    record {
      names = bound_names C;
      fates_are =
          ap (λ (told : List Fate). told ++ fates script C (bound_names C) true commands) c.new-fates.ensures.items
          ∙ ap (fates script C (bound_names C) true) all;
      request_is =
          sym (front c.take_first-next.result c.new-request.result c.take_first-next.new.self c.take_first-next.ensures.some c.take_first-next.ensures.none)
          ∙ request;
    }

pub loop-command-preserved : goal.loop-command-preserved
loop-command-preserved c =
    let script : Script = c.args.script.now in
    let all : List Fate = fates_in script (configuration_of c.args.config.now) in
    let commands : List Command = c.commands_of-commands.result.now in
    let i : ℕ = c.loop-command.command-index in
    let command : Command = c.command-item.result in
    let current : Configuration = configuration_of c.loop-command.current in
    let next : drop i commands ≡ command ∷ drop (i + 1) commands = at commands i command c.loop-command-test.true c.command-item.is in
    let so_far : AreTold script all c.loop-command.fates.items current c.loop-command.is_reached c.loop-command.next c.loop-command.request
    (command ∷ drop (i + 1) commands) =
    subst (AreTold script all c.loop-command.fates.items current c.loop-command.is_reached c.loop-command.next c.loop-command.request) next
    c.loop-command.invariant in
    one_told script all c.loop-command.fates.items c.push.new.list.items current (configuration_of c.config_after-current.result) c.loop-command.is_reached
    c.is_reached_after-is_reached.result c.is_next-is_kept.result (is_legal current command) c.loop-command.next c.next_after-next.result
    c.loop-command.request c.next_after-next.new.request command (drop (i + 1) commands) c.fate_of-it.result so_far c.is_next-is_kept.ensures refl
    c.fate_of-it.ensures c.next_after-next.ensures c.config_after-current.ensures c.is_reached_after-is_reached.ensures c.in_ok-push.ensures

pub returns : goal.returns
returns c =
    let script : Script = c.args.script.now in
    let all : List Fate = fates_in script (configuration_of c.args.config.now) in
    let commands : List Command = c.commands_of-commands.result.now in
    let current : Configuration = configuration_of c.loop-command.current in
    let none : drop c.loop-command.command-index commands ≡ [] = drop_all c.loop-command.command-index commands c.loop-command-test.false in
    all_told script all c.loop-command.fates.items current c.loop-command.is_reached c.loop-command.next c.loop-command.request
    (subst (AreTold script all c.loop-command.fates.items current c.loop-command.is_reached c.loop-command.next c.loop-command.request) none
    c.loop-command.invariant)
