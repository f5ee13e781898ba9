-- What results bind of an agent, whatever else it has.
use Rattle.std.proofs.Common.{◌≡◌, ◌∙◌, ℕ, List, [], ◌∷◌, refl, ap}
use Rattle.mg_model.specs.declared.commands.Command.{Command}
use Rattle.mg_model.specs.declared.commands.Command.TheVariants.{AddLine, AddEphemeral, ModifyLine, ModifyEphemeral, MoveLine, MoveEphemeral, Subtract, SubtractAll, SetTopology}
use Rattle.mg_model.specs.declared.commands.Termination.TheVariants as termination
use Rattle.mg_model.specs.Agent.{Agent, after_result, after_results}
use Rattle.mg_model.specs.Items.{Done}
use Rattle.agent.specs.Parts.{bound_as}

result_bound : (a b : Agent) (command : Command) (done : Done) (number : ℕ) →
    after_result (bound_as a b) command done number ≡ bound_as a (after_result b command done number)
result_bound a b (AddLine create j i o) done number = refl
result_bound a b (AddEphemeral create j k o) done number = refl
result_bound a b (ModifyLine place i o) done number = refl
result_bound a b (ModifyEphemeral place k o) done number = refl
result_bound a b (MoveLine j i o) done number = refl
result_bound a b (MoveEphemeral j k o) done number = refl
result_bound a b (Subtract j (termination.Line i)) done number = refl
result_bound a b (Subtract j (termination.Ephemeral k)) done number = refl
result_bound a b (SubtractAll j) done number = refl
result_bound a b (SetTopology j t u topology) done number = refl

-- the results of a request change the bindings alone
pub results_bound : (a b : Agent) (commands : List Command) (results : List Done) (number : ℕ) →
    after_results (bound_as a b) commands results number ≡ bound_as a (after_results b commands results number)
results_bound a b [] results number = refl
results_bound a b (command ∷ more) [] number = refl
results_bound a b (command ∷ more) (done ∷ results) number =
    ap (λ (x : Agent). after_results x more results number) (result_bound a b command done number)
    ∙ results_bound a (after_result b command done number) more results number
