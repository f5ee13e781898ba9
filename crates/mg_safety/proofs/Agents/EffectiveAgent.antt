-- What a reply binds leaves the rest of the agent; so the agent as it will be once it has taken a reply that is kept has the lines of the
-- call.
use Rattle.mg_safety.proofs.Words.{◌≡◌, ◌∙◌, ℕ, List, [], ◌∷◌, refl, ap, inl, inr, Command, Subtract, Agent, after_result, after_results, built_by, Gateway}
use Rattle.mg_safety.proofs.Words.{Done, Script}
use Rattle.mg_names.specs.declared.phases.LinkPhase as phases
use Rattle.mg_model.specs.declared.commands.Termination.TheVariants as termination
use Rattle.mg_safety.proofs.InvariantWords.{IsAt}

-- ---- what a reply binds leaves the rest of the agent

pub record IsKeptBy (a b : Agent) : Type 0 where
  pub call : b.call ≡ a.call
  pub state : b.state ≡ a.state
  pub association : b.association ≡ a.association
  pub lines : b.lines ≡ a.lines
  pub next : b.next ≡ a.next

kept_itself : (a : Agent) → IsKeptBy a a
kept_itself a = record { call = refl; state = refl; association = refl; lines = refl; next = refl }

kept_twice : (a b c : Agent) → IsKeptBy a b → IsKeptBy b c → IsKeptBy a c
kept_twice a b c first second = record {
  call = second.call ∙ first.call;
  state = second.state ∙ first.state;
  association = second.association ∙ first.association;
  lines = second.lines ∙ first.lines;
  next = second.next ∙ first.next;
}

result_keeps : (a : Agent) (command : Command) (done : Done) (number : ℕ) → IsKeptBy a (after_result a command done number)
result_keeps a (Subtract j (termination.Line i)) done number = record { call = refl; state = refl; association = refl; lines = refl; next = refl }
result_keeps a command done number = record { call = refl; state = refl; association = refl; lines = refl; next = refl }

pub results_keep : (a : Agent) (commands : List Command) (results : List Done) (number : ℕ) → IsKeptBy a (after_results a commands results number)
results_keep a [] results number = kept_itself a
results_keep a (command ∷ more) [] number = kept_itself a
results_keep a (command ∷ more) (done ∷ results) number =
    kept_twice a (after_result a command done number) (after_results (after_result a command done number) more results number)
    (result_keeps a command done number) (results_keep (after_result a command done number) more results number)

-- ---- the agent once a kept reply is taken

pub same_lines : (script : Script) (g : Gateway) (a e : Agent) (link : phases.LinkPhase) → IsAt script g a e link → e.lines ≡ a.lines
same_lines script g a e link (inl sent) = ap (λ (x : Agent). x.lines) sent.effective
same_lines script g a e link (inr (inl answered)) =
    ap (λ (x : Agent). x.lines) answered.effective
    ∙ (results_keep a (built_by script a a.state) answered.answer.results answered.answer.number).lines
same_lines script g a e link (inr (inr (inl passing))) = ap (λ (x : Agent). x.lines) passing.effective
same_lines script g a e link (inr (inr (inr resting))) = ap (λ (x : Agent). x.lines) resting.effective
