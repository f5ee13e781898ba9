-- Of the identifiers that are left one is taken for each command, so none is refused for want of one.
use Rattle.std.proofs.Common.{◌≡◌, ◌∙◌, ◌+◌, ◌<◌, ◌≤◌, ◌==◌, ℕ, suc, Bool, true, false, List, [], ◌∷◌, length, refl, sym, ap, subst, arith, inl, inr}
use Rattle.std.specs.Prelude.{Contains}
use Rattle.std.proofs.lemmas.Bool.{eq-eqb, eqb-true, false_from_ne_true}
use Rattle.mg_names.specs.declared.identifiers.TermId.TheVariants.{Eph}
use Rattle.mg_model.specs.declared.items.Added.TheVariants as added
use Rattle.mg_model.specs.declared.items.Item.{Item}
use Rattle.mg_model.specs.declared.items.Item.TheVariants.{Add, Modify, Move, Subtract, SubtractAll, SetTopology}
use Rattle.mg_model.specs.Board.{Board, IsSettled, exists}
use Rattle.mg_model.specs.Items.{Chosen, IsFresh, IsRising, IsUsedUp, NoContextLeft, NoEphemeralLeft, creates_context, creates_ephemeral, effect, given}
use Rattle.mg_model.specs.Shards.{AreLeft, IsContextLeft, IsEphemeralLeft}
use Rattle.mg_model.proofs.Cases.{different, not_both}
use Rattle.mg_safety.proofs.Invariant.Shown.{IsAccounted}
use Rattle.mg_model.proofs.Single.{first_in, first_or_later, later_in, none_in}

-- ---- one of those that are left

one_of : (passes : ℕ → Type 0) (wanted : ℕ) → AreLeft passes (suc wanted) → (n : ℕ) × passes n
one_of passes wanted left = go left.numbers left.enough left.each
  where
    go : (numbers : List ℕ) → suc wanted ≤ length numbers → ((n : ℕ) → Contains numbers n → passes n) → (n : ℕ) × passes n
    go [] enough each = absurd (let more : suc wanted ≤ 0 = enough in omega (arith, more))
    go (first ∷ more) enough each = (first, each first (first_in first more))

-- those of a list that aren't a number: one less at most
record AreOthers (numbers : List ℕ) (number : ℕ) : Type 0 where
  rest : List ℕ
  rising : IsRising rest
  enough : length numbers ≤ length rest + 1
  each : (n : ℕ) → Contains rest n → Contains numbers n × (n ≡ number → ⊥)

others_of : (numbers : List ℕ) (number : ℕ) → IsRising numbers → AreOthers numbers number
others_of [] number rising = record { rest = []; rising = tt; enough = omega arith; each = λ n there. absurd (none_in n there) }
others_of (first ∷ more) number rising = by_first (first == number) refl (others_of more number rising.1)
  where
    by_first : (same : Bool) → (first == number) ≡ same → AreOthers more number → AreOthers (first ∷ more) number
    by_first true e later = record {
      rest = more;
      rising = rising.1;
      enough = omega arith;
      each = λ n there. (
        later_in first more n there,
        λ is.
            let above : first < n = rising.0 n there in
            let here : first ≡ number = eqb-true first number e in omega (arith, above, here, is),
      );
    }
    by_first false e later = record {
      rest = first ∷ later.rest;
      rising = ((λ n there. rising.0 n (later.each n there).0), later.rising);
      enough = let few = later.enough in omega (arith, few);
      each = λ n there. elim (first_or_later first later.rest n there) [
        | inl here ↦ (subst (Contains (first ∷ more)) here (first_in first more), λ is. not_both (eq-eqb first number (here ∙ is)) e)
        | inr rest ↦ (let its = later.each n rest in (later_in first more n its.0, its.1))
      ];
    }

-- whichever is taken, one less is left
without_one : (passes : ℕ → Type 0) (wanted number : ℕ) → AreLeft passes (suc wanted) → AreLeft (λ n. passes n × (n ≡ number → ⊥)) wanted
without_one passes wanted number left =
    let others = others_of left.numbers number left.rising in
    record {
      numbers = others.rest;
      rising = others.rising;
      enough = let all : suc wanted ≤ length left.numbers = left.enough in let few = others.enough in omega (arith, all, few);
      each = λ n there. let its = others.each n there in (left.each n its.0, its.1);
    }

passed_on : (before after : ℕ → Type 0) (wanted : ℕ) → ((n : ℕ) → before n → after n) → AreLeft before wanted → AreLeft after wanted
passed_on before after wanted also left = record {
  numbers = left.numbers;
  rising = left.rising;
  enough = left.enough;
  each = λ n there. also n (left.each n there);
}

-- ---- on a board

pub record Remain (b : Board) (wanted : ℕ) : Type 0 where
  pub contexts : AreLeft (IsContextLeft b) wanted
  pub ephemerals : AreLeft (IsEphemeralLeft b) wanted

-- fewer are left too
pub fewer_left : (passes : ℕ → Type 0) (wanted fewer : ℕ) → fewer ≤ wanted → AreLeft passes wanted → AreLeft passes fewer
fewer_left passes wanted fewer less left = record {
  numbers = left.numbers;
  rising = left.rising;
  enough = let all = left.enough in omega (arith, all, less);
  each = left.each;
}

pub fewer_remain : (b : Board) (wanted fewer : ℕ) → fewer ≤ wanted → Remain b wanted → Remain b fewer
fewer_remain b wanted fewer less left = record {
  contexts = fewer_left (IsContextLeft b) wanted fewer less left.contexts;
  ephemerals = fewer_left (IsEphemeralLeft b) wanted fewer less left.ephemerals;
}

-- what a command takes, and what is left then
pub record IsTaken (b : Board) (item : Item) (wanted : ℕ) : Type 0 where
  pub chosen : Chosen
  pub fresh : IsFresh b item chosen
  pub left : Remain (effect b item chosen) wanted

class_stays : (b : Board) (item : Item) (chosen : Chosen) (n : ℕ) → (effect b item chosen).class n ≡ b.class n
class_stays b (Add context (added.Line l) settings) chosen n = refl
class_stays b (Add context added.NewEphemeral settings) chosen n = refl
class_stays b (Modify context t settings) chosen n = refl
class_stays b (Move context t settings) chosen n = refl
class_stays b (Subtract context t) chosen n = refl
class_stays b (SubtractAll context) chosen n = refl
class_stays b (SetTopology context t u topology) chosen n = refl

not_given : (creates : Bool) (number : ℕ) (was : ℕ → Bool) (n : ℕ) → (n ≡ number → ⊥) → was n ≡ false → given creates number was n ≡ false
not_given false number was n differ free = free
not_given true number was n differ free = rw (different n number differ) free

-- what is left after a command that took whichever it chose
pub left_after : (b : Board) (item : Item) (wanted : ℕ) (chosen : Chosen) → Remain b (suc wanted) → Remain (effect b item chosen) wanted
left_after b item wanted chosen left = record {
  contexts = passed_on (λ n. IsContextLeft b n × (n ≡ chosen.context → ⊥)) (IsContextLeft (effect b item chosen)) wanted
      (λ n it. (it.0.0, (class_stays b item chosen n ∙ it.0.1.0, not_given (creates_context item) chosen.context b.used_context n it.1 it.0.1.1)))
      (without_one (IsContextLeft b) wanted chosen.context left.contexts);
  ephemerals = passed_on (λ n. IsEphemeralLeft b n × (n ≡ chosen.ephemeral → ⊥)) (IsEphemeralLeft (effect b item chosen)) wanted
      (λ n it. (it.0.0, (class_stays b item chosen n ∙ it.0.1.0, not_given (creates_ephemeral item) chosen.ephemeral b.used_ephemeral n it.1 it.0.1.1)))
      (without_one (IsEphemeralLeft b) wanted chosen.ephemeral left.ephemerals);
}

pub taken : (b : Board) (item : Item) (wanted : ℕ) → Remain b (suc wanted) → IsTaken b item wanted
taken b item wanted left =
    let c = one_of (IsContextLeft b) wanted left.contexts in
    let k = one_of (IsEphemeralLeft b) wanted left.ephemerals in
    let chosen : Chosen = record { context = c.0; ephemeral = k.0 } in
    record {
      chosen = chosen;
      fresh = record {
        context = λ creates. (c.1.0, c.1.1.1, c.1.1.0);
        ephemeral = λ creates. (k.1.0, k.1.1.1, k.1.1.0);
      };
      left = left_after b item wanted chosen left;
    }

pub not_used_up : (b : Board) (wanted : ℕ) → Remain b (suc wanted) → (item : Item) → IsUsedUp b item → ⊥
not_used_up b wanted left item up = go item up
  where
    no_context : NoContextLeft b → ⊥
    no_context none = let one = one_of (IsContextLeft b) wanted left.contexts in
        not_both (none one.0 one.1.0 one.1.1.0) one.1.1.1

    no_ephemeral : NoEphemeralLeft b → ⊥
    no_ephemeral none = let one = one_of (IsEphemeralLeft b) wanted left.ephemerals in
        not_both (none one.0 one.1.0 one.1.1.0) one.1.1.1

    go : (item : Item) → IsUsedUp b item → ⊥
    go (Add context what settings) (inl (is, none)) = no_context none
    go (Add context (added.Line l) settings) (inr never) = never
    go (Add context added.NewEphemeral settings) (inr none) = no_ephemeral none
    go (Modify context t settings) never = never
    go (Move context t settings) never = never
    go (Subtract context t) never = never
    go (SubtractAll context) never = never
    go (SetTopology context t u topology) never = never

-- what is left when a request ends is left once its board is settled
pub settled_remain : (b settled : Board) (wanted : ℕ) → IsSettled b settled → IsAccounted b → Remain b wanted → Remain settled wanted
settled_remain b settled wanted is accounted left = record {
  contexts = passed_on (IsContextLeft b) (IsContextLeft settled) wanted
      (λ n it. (it.0, (ap (λ (class : ℕ → Bool). class n) is.class ∙ it.1.0, still_unused n it.1.1))) left.contexts;
  ephemerals = passed_on (IsEphemeralLeft b) (IsEphemeralLeft settled) wanted
      (λ n it. (it.0, (ap (λ (class : ℕ → Bool). class n) is.class ∙ it.1.0, still_absent n it.1.1))) left.ephemerals;
}
  where
    still_unused : (n : ℕ) → b.used_context n ≡ false → settled.used_context n ≡ false
    still_unused n unused = false_from_ne_true (settled.used_context n) (λ used.
        let stands = (is.contexts n).0 used in
        not_both (subst (λ (x : ℕ). b.used_context x ≡ true) stands.1.1 (accounted.contexts stands.1.0 (λ null. stands.0 (sym stands.1.1 ∙ null)))) unused)

    still_absent : (n : ℕ) → b.used_ephemeral n ≡ false → settled.used_ephemeral n ≡ false
    still_absent n unused = is.ephemerals n ∙ false_from_ne_true (exists b (Eph n)) (λ there. not_both (accounted.ephemerals n there) unused)
