-- An agent whose request has no results, and one that rests.
use Rattle.std.proofs.Common.{◌≡◌, ℕ, true, List, [], ◌∷◌, refl, sym, true≢false}
use Rattle.mg_model.specs.declared.commands.Command.{Command}
use Rattle.mg_model.specs.Agent.{Agent, Phase, awaits_reply, awaits_pass, resting, is_resting, after_results}

pub no_results : (a : Agent) (commands : List Command) (number : ℕ) → after_results a commands [] number ≡ a
no_results a [] number = refl
no_results a (command ∷ more) number = refl

pub is_resting_is : (phase : Phase) → is_resting phase ≡ true → phase ≡ resting
is_resting_is resting is = refl
is_resting_is awaits_pass is = absurd (true≢false (sym is))
is_resting_is (awaits_reply request) is = absurd (true≢false (sym is))
