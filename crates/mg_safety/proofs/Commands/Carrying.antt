-- A command that gives one termination a row carries over: the board shows the configuration in which this termination alone is
-- changed, and what changed is owned. The board may be one on which a context was given out or an ephemeral created for the command.
use Rattle.mg_safety.proofs.Words.{◌≡◌, ◌∙◌, ◌&&◌, ◌||◌, ℕ, Bool, true, false, not, Some, None, refl, sym, ap, inl, ◌⊎◌, TermId, Line, Eph, Termination, Row}
use Rattle.mg_safety.proofs.Words.{Board, same_term, exists, place_of, Configuration, Script, IsSlot, Command, Done, is_legal, effect, subtracts, not_both}
use Rattle.mg_safety.proofs.Words.{subst}
use Rattle.mg_safety.proofs.InvariantWords.{Naming, term_of, Shown, IsAccounted, Owner, owned_at, AreBuilt, ChangesOwned, IsCarried, named_after, built_after}
use Rattle.mg_safety.proofs.InvariantWords.{item_for}
use Rattle.mg_safety.proofs.Commands.OneRow.{HasOneRow, accounted_after, built_as_before, changes_as_owned}
use Rattle.mg_safety.proofs.Commands.Placing.{HasOneName, placed_shown}
use Rattle.mg_safety.proofs.Events.Others.{name_owned}
use Rattle.mg_safety.proofs.Shared.ShownParts.{shown_with}

-- what holds after a command, but that it is legal
pub record Carries (script : Script) (own : Owner) (n m : Naming) (b after : Board) (next : Configuration) : Type 0 where
  pub shown : Shown script (owned_at own after) n after next
  pub accounted : IsAccounted after
  pub built : AreBuilt n m after
  pub changes : ChangesOwned own b after

-- a number other than the null context's in which a termination comes to stand: something owned stood in it before, or it was never given
pub record IsEntered (own : Owner) (n m : Naming) (b : Board) (given : ℕ → Bool) (p : ℕ) : Type 0 where
  pub was_given : given p ≡ true
  pub in_force : (j : ℕ) → m.contexts j ≡ Some p → n.contexts j ≡ None → ⊥
  pub stood : ((w : TermId) × (owned_at own b w ≡ true) × (place_of b w ≡ p)) ⊎ (b.used_context p ≡ false)

-- something owned stands in it
pub entered_before : (own : Owner) (n m : Naming) (b : Board) (p : ℕ) (w : TermId) → IsAccounted b → AreBuilt n m b → (p ≡ 0 → ⊥)
    → owned_at own b w ≡ true → place_of b w ≡ p → IsEntered own n m b b.used_context p
entered_before own n m b p w accounted built real mine at = record {
  was_given = ap b.used_context (sym at) ∙ accounted.contexts w (λ null. real (sym at ∙ null));
  in_force = λ j bound lost. built.context_lost j p bound lost (real, (w, at));
  stood = inl (w, mine, at);
}

-- owning goes by what was given of ephemerals alone
pub owned_given : (own : Owner) (b after : Board) → ((x : ℕ) → after.used_ephemeral x ≡ b.used_ephemeral x) → (t : TermId)
    → owned_at own after t ≡ owned_at own b t
owned_given own b after same (Line l) = refl
owned_given own b after same (Eph x) = ap (λ p. own.created x || (p && not (own.before x))) (same x)

-- before is the board before the command, b the one on which what it creates was given out
pub carried : (script : Script) (own : Owner) (n m : Naming) (before b after : Board) (c next : Configuration) (t : Termination) (u : TermId) (r : Row)
    → Shown script (owned_at own b) n b c → IsAccounted b → AreBuilt n m b → IsSlot script t → term_of n t ≡ Some u → exists b u ≡ true
    → HasOneRow b after u r → HasOneName script n after c next t r → ((x : ℕ) → after.used_ephemeral x ≡ b.used_ephemeral x)
    → HasOneRow before after u r → (exists before u ≡ true) ⊎ ((x : ℕ) × (u ≡ Eph x) × (before.used_ephemeral x ≡ false))
    → ((v w : TermId) → same_term v u ≡ false → same_term w u ≡ false → after.cut v w ≡ before.cut v w)
    → ((v : TermId) → same_term v u ≡ false → owned_at own b v ≡ true → owned_at own before v ≡ true)
    → ((r.place.0 ≡ 0 → ⊥) → IsEntered own n m before b.used_context r.place.0) → Carries script own n m before after next
carried script own n m before b after c next t u r shown accounted built slot named stood one changed same first existed cuts back entered =
    let owned : (v : TermId) → owned_at own after v ≡ owned_at own b v = owned_given own b after same in
    record {
      shown = shown_with script (owned_at own b) (owned_at own after) n after next owned after.cut next.state next.link next.context next.cut
          (λ j. refl) changed.cut (placed_shown script (owned_at own b) n b after c next t u r shown slot named stood one changed);
      accounted = accounted_after b after u r one accounted
          (λ x is. one.used_ephemeral x (accounted.ephemerals x (ap (λ v. exists b v) (sym is) ∙ stood)))
          (λ real. one.used_context r.place.0 (entered real).was_given);
      built = built_as_before b after u r one n m built stood (λ real. (entered real).in_force);
      changes = changes_as_owned before after u r first own
          (owned u ∙ name_owned script (owned_at own b) n shown.line_owned shown.ephemeral_owned t slot u named) cuts
          (λ v other mine. back v other (sym (owned v) ∙ mine)) (λ real. (entered real).stood) existed;
    }

-- so a legal command that takes nothing out of a context is carried over
pub carried_over : (script : Script) (own : Owner) (n m : Naming) (b after end : Board) (c : Configuration) (command : Command) (done : Done)
    → after ≡ end → is_legal c command ≡ true
    → Carries script own (named_after n command done) (built_after m command done) b end (effect script c command)
    → ((t : TermId) → subtracts b (item_for m command) t ≡ false) → IsCarried script own n m b c command after done
carried_over script own n m b after end c command done is legal moved stays =
    subst (λ a. IsCarried script own n m b c command a done) (sym is) (record {
      legal = legal;
      shown = moved.shown;
      accounted = moved.accounted;
      built = moved.built;
      changes = moved.changes;
      leaving = λ t leaves. absurd (not_both leaves (stays t));
    })
