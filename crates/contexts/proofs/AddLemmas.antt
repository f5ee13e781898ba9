-- Add, from its step on the board to the command as it is defined.
use Rattle.std.proofs.Common.{◌≡◌, ◌≢◌, ℕ, ◌==◌, Bool, true, false, IsTrue, if◌then◌else◌, refl, sym, ◌∙◌, arith, rules, Option, Some, None, inr}
use Rattle.std.proofs.lemmas.Grind.{common_steps}
use Rattle.mg_names.specs.declared.codes.Code.TheVariants.{UnknownContext, UnknownTermination, AlreadyInContext, InsufficientResources}
use Rattle.mg_names.specs.declared.identifiers.ContextId.{ContextId}
use Rattle.mg_names.specs.declared.identifiers.TermId.TheVariants.{Line}
use Rattle.mg_model.specs.declared.items.Added.{Added}
use Rattle.mg_model.specs.declared.items.Added.TheVariants as added
use Rattle.mg_model.specs.declared.items.Item.TheVariants.{Add}
use Rattle.mg_model.specs.declared.items.Settings.{Settings}
use Rattle.mg_model.specs.Board.{Board}
use Rattle.mg_model.specs.Numbers.{choose}
use Rattle.mg_model.specs.Items.{IsLegal, IsExecuted, is_context_number, given, only_if}
use Rattle.contexts.specs.Steps.{created, entered, CanBeAdded, IsAdded}
use Rattle.contexts.proofs.ExecLemmas.{both_known, is_place, fits_from, no_numbers, not_null}

pub can_be_added : (b : Board) (context : ContextId) (what : Added) (settings : Settings) → IsLegal b (Add context what settings) → CanBeAdded b what settings
can_be_added b context (added.Line l) settings legal =
    let known = both_known _ _ (legal UnknownTermination) in
    (known.0, is_place _ _ (legal AlreadyInContext), fits_from b (Line l) settings.remote known.1)
can_be_added b context added.NewEphemeral settings legal = λ none. legal InsufficientResources (inr none)

pub context_named : (b : Board) (context : ContextId) (what : Added) (settings : Settings) → IsLegal b (Add context what settings) → context.0 ≢ choose → context.0 ≢ 0
context_named b context what settings legal named = not_null b context.0 (λ none. legal UnknownContext (named, none))

-- the board of which an Add to a context goes out: with the number of a new one used
abbrev pub entered_if : Board → Bool → ℕ → Board
entered_if b test number = record b { used_context = given test number b.used_context }

abbrev pub IsNew : Board → ℕ → Type 0
IsNew b number = is_context_number number × (b.used_context number ≡ false) × IsTrue (b.class number)

-- the number of a context that is there is used already
pub entered_there : (b : Board) (c : ℕ) → given true c b.used_context ≡ b.used_context → entered b c ≡ entered_if b false 0
entered_there b c same = λ i. record b { used_context = same i }

pub executed_add : (b after : Board) (context : ContextId) (what : Added) (settings : Settings) (number : ℕ) (ephemeral : Option ℕ) (test : Bool) → (context.0 == choose) ≡ test →
    IsAdded (entered_if b test number) after (if test then number else context.0) what settings ephemeral → (test ≡ true → IsNew b number) →
    IsLegal b (Add context what settings) → IsExecuted b (Add context what settings) after (created (only_if test number) ephemeral)
executed_add b after context (added.Line l) settings number ephemeral test e is_added fresh legal = record {
  chosen = record { context = number; ephemeral = 0 };
  fresh = record {
    context = λ h. fresh (sym e ∙ h);
    ephemeral = λ h. absurd (search rules);
  };
  legal = legal;
  effect_is = is_added.1 ∙ rw e refl;
  result = record {
    context = rw e refl;
    ephemeral = is_added.0;
    lines = no_numbers _ (λ n. refl);
    ephemerals = no_numbers _ (λ n. refl);
  };
}
executed_add b after context added.NewEphemeral settings number None test e is_added fresh legal = absurd is_added
executed_add b after context added.NewEphemeral settings number (Some k) test e is_added fresh legal = record {
  chosen = record { context = number; ephemeral = k };
  fresh = record {
    context = λ h. fresh (sym e ∙ h);
    ephemeral = λ h. (is_added.fits, is_added.fresh, is_added.of_class);
  };
  legal = legal;
  effect_is = is_added.board ∙ rw e refl;
  result = record {
    context = rw e refl;
    ephemeral = refl;
    lines = no_numbers _ (λ n. refl);
    ephemerals = no_numbers _ (λ n. refl);
  };
}

pub is_choose : (n : ℕ) → n ≡ choose → (n == choose) ≡ true
is_choose n e = grind (arith, common_steps)

pub is_not_choose : (n : ℕ) → n ≢ choose → (n == choose) ≡ false
is_not_choose n e = grind (arith, common_steps)
