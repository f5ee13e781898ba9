-- From a command's step on the board to the command as it is defined.
use Rattle.std.proofs.Common.{◌≡◌, ◌≢◌, ℕ, ◌==◌, Bool, true, false, not, ◌&&◌, ◌||◌, IsTrue, refl, arith, rules, [], Option, Some, None}
use Rattle.std.proofs.lemmas.Grind.{common_steps}
use Rattle.mg_names.specs.declared.identifiers.TermId.{TermId}
use Rattle.mg_names.specs.declared.identifiers.TermId.TheVariants.{Line, Eph}
use Rattle.mg_model.specs.declared.items.Item.{Item}
use Rattle.mg_model.specs.declared.items.RemoteSetting.{RemoteSetting}
use Rattle.mg_model.specs.Board.{Board, exists, ContextExists}
use Rattle.mg_model.specs.Items.{Done, Lists, IsLegal, IsExecuted, Chosen, creates_context, creates_ephemeral, subtracts, effect, remote_refused}
use Rattle.terminations.specs.Rows.{fits}
use Rattle.contexts.specs.Steps.{created}
use Rattle.contexts.proofs.TermLemmas.{by_value, not_both}

pub none_chosen : Chosen
none_chosen = record { context = 0; ephemeral = 0 }

pub no_numbers : (test : ℕ → Bool) → ((n : ℕ) → test n ≡ false) → Lists test []
no_numbers test none = record {
  rising = tt;
  exactly = λ n. (λ there. absurd (omega (arith, there.1)), λ h. not_both (test n) h (none n));
}

-- a command that creates nothing and takes nothing out
pub executed_plain : (b : Board) (item : Item) (after : Board) → creates_context item ≡ false → creates_ephemeral item ≡ false → ((u : TermId) → subtracts b item u ≡ false) →
    IsLegal b item → after ≡ effect b item none_chosen → IsExecuted b item after (created None None)
executed_plain b item after no_context no_ephemeral none legal is = record {
  chosen = none_chosen;
  fresh = record {
    context = λ h. not_both (creates_context item) h no_context;
    ephemeral = λ h. not_both (creates_ephemeral item) h no_ephemeral;
  };
  legal = legal;
  effect_is = is;
  result = record {
    context = rw no_context refl;
    ephemeral = rw no_ephemeral refl;
    lines = no_numbers _ (λ n. rw (none (Line (record { 0 = n }))) refl);
    ephemerals = no_numbers _ (λ n. rw (none (Eph n)) refl);
  };
}

pub both_known : (a b : Bool) → (IsTrue (not a || b) → ⊥) → (a ≡ true) × (b ≡ false)
both_known true true h = absurd (h (search rules))
both_known true false h = (refl, refl)
both_known false b h = absurd (h (search rules))

pub either_known : (a b : Bool) → (IsTrue (a || b) → ⊥) → (a ≡ false) × (b ≡ false)
either_known true b h = absurd (h (search rules))
either_known false true h = absurd (h (search rules))
either_known false false h = (refl, refl)

pub is_place : (p c : ℕ) → (IsTrue (not (p == c)) → ⊥) → p ≡ c
is_place p c h = by_value (p == c) (λ e. grind (arith, common_steps)) (λ e. absurd (h (rw e (search rules))))

pub number_not : (p c : ℕ) → (p == c) ≡ false → p ≢ c
number_not p c e = grind (arith, common_steps)

pub not_equal_false : (p c : ℕ) → not (p == c) ≡ false → p ≡ c
not_equal_false p c e = grind (arith, common_steps)

pub fits_from : (b : Board) (t : TermId) (remote : Option RemoteSetting) → remote_refused b t remote ≡ false → fits t remote ≡ true
fits_from b (Line l) None h = refl
fits_from b (Line l) (Some remote) h = absurd (search rules)
fits_from b (Eph k) remote h = refl

pub not_null : (b : Board) (c : ℕ) → ((ContextExists b c → ⊥) → ⊥) → c ≢ 0
not_null b c h e = h (λ there. there.0 e)

-- a command that creates nothing
pub executed_out : (b : Board) (item : Item) (after : Board) (done : Done) → creates_context item ≡ false → creates_ephemeral item ≡ false →
    IsLegal b item → after ≡ effect b item none_chosen → done.context ≡ None → done.ephemeral ≡ None →
    Lists (λ n. subtracts b item (Line (record { 0 = n })) && exists b (Line (record { 0 = n }))) done.lines → Lists (λ n. subtracts b item (Eph n) && exists b (Eph n)) done.ephemerals →
    IsExecuted b item after done
executed_out b item after done no_context no_ephemeral legal is context ephemeral lines ephemerals = record {
  chosen = none_chosen;
  fresh = record {
    context = λ h. not_both (creates_context item) h no_context;
    ephemeral = λ h. not_both (creates_ephemeral item) h no_ephemeral;
  };
  legal = legal;
  effect_is = is;
  result = record {
    context = rw no_context context;
    ephemeral = rw no_ephemeral ephemeral;
    lines = lines;
    ephemerals = ephemerals;
  };
}
