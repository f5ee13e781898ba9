-- At first all of the request is left, which is of no more commands than the state has.
use Rattle.std.proofs.Common.{◌≡◌, ◌∙◌, ◌≤◌, ◌++◌, ℕ, List, length, sym, ap, arith}
use Rattle.mg_model.specs.declared.commands.Command.{Command}
use Rattle.mg_model.specs.Request.{Names, built}
use Rattle.mg_model.specs.Tables.{state_of}
use Rattle.mg_model.specs.Steps.{bound_names, request_in}
use Rattle.mg_model.proofs.Built.{built_no_more}
use Rattle.built_request.specs.Known.{names_of}
use Rattle.configuration.specs.Config.{configuration_of}
use Rattle.explanation.proofs.through.request_of.Goals as goal

pub loop-init : goal.loop-init
loop-init c =
    let script = c.args.script.now in
    let C = configuration_of c.args.config.now in
    let names : Names = names_of c.bound_in.result in
    let commands : ℕ → List Command = λ state. (state_of script state).commands in
    let request : List Command = c.new-request.result in
    let is : request ≡ built names (commands c.state.result) = c.new-request.ensures.value in
    let whole : request ≡ request_in script C C.state =
    is ∙ ap (λ (known : Names). built known (commands c.state.result)) c.bound_in.ensures
    ∙ ap (λ (state : ℕ). built (bound_names C) (commands state)) c.state.ensures in
    let fewer : length (built names (commands c.state.result)) ≤ length (commands c.state.result) = built_no_more names (commands c.state.result) in
    let as_many : length request ≡ length (built names (commands c.state.result)) = ap length is in
    let of_state : length c.commands_of-end.result.now ≡ length (commands c.state.result) =
    ap length (c.commands_of-end.ensures ∙ ap commands (c.state-2.ensures ∙ sym c.state.ensures)) in
    record {
      all = ap (λ (items : List Command). items ++ request) c.new-commands.ensures.items ∙ whole;
      few = omega (arith, fewer, as_many, of_state);
    }
