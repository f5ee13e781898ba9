-- A termination that stays where it is, with what a command sets on it.
use Rattle.mg_safety.proofs.Words.{◌≡◌, ◌∙◌, ℕ, true, Some, refl, sym, inl, TermId, Termination, Modify, Settings, Row, Board, exists, place_of, mode_of}
use Rattle.mg_safety.proofs.Words.{remote_of, Configuration, Chosen, row_at, Script, IsSlot}
use Rattle.mg_model.specs.Items.{effect}
use Rattle.mg_safety.proofs.InvariantWords.{Naming, term_of, Shown, IsAccounted, Owner, owned_at, AreBuilt}
use Rattle.mg_safety.proofs.Commands.Carrying.{Carries, entered_before, carried}
use Rattle.mg_safety.proofs.Commands.InForce.{place_named, present_named}
use Rattle.mg_safety.proofs.Commands.OneRow.{HasOneRow}
use Rattle.mg_safety.proofs.Commands.Setting.{IsSet, set_in_place}
use Rattle.mg_safety.proofs.Events.Others.{name_owned}

-- the row of a termination with what a command sets on it
abbrev pub row_with : Board → TermId → ℕ → Settings → Row
row_with b u p settings = row_at p settings (mode_of b u) (remote_of b u)

abbrev pub after_modify : Board → ℕ → TermId → Settings → Chosen → Board
after_modify b p u settings chosen = effect b (Modify (record { 0 = p }) u settings) chosen

pub carried_in_place : (script : Script) (own : Owner) (n m : Naming) (b : Board) (c next : Configuration) (t : Termination) (u : TermId) (p : ℕ)
    (settings : Settings) (chosen : Chosen) → Shown script (owned_at own b) n b c → IsAccounted b → AreBuilt n m b → IsSlot script t
    → term_of n t ≡ Some u → exists b u ≡ true → place_of b u ≡ p
    → IsSet script n (after_modify b p u settings chosen) c next t (row_with b u p settings)
    → ((s : Termination) → next.spot s ≡ c.spot s) → ((j : ℕ) → next.context j ≡ c.context j)
    → Carries script own n m b (after_modify b p u settings chosen) next
carried_in_place script own n m b c next t u p settings chosen shown accounted built slot named stood at sets spots contexts =
    let one : HasOneRow b (after_modify b p u settings chosen) u (row_with b u p settings) = record {
      row = λ v. refl;
      used_context = λ x e. e;
      used_ephemeral = λ x e. e;
    } in
    carried script own n m b b (after_modify b p u settings chosen) c next t u (row_with b u p settings) shown accounted built slot named stood one
    (set_in_place script (owned_at own b) n b (after_modify b p u settings chosen) c next t u (row_with b u p settings) shown slot
    (present_named script (owned_at own b) n b c shown t u slot named ∙ stood)
    (sym at ∙ place_named script (owned_at own b) n b c shown t u slot named) sets spots contexts)
    (λ x. refl) one (inl stood) (λ v w first second. refl) (λ v other mine. mine)
    (λ real. entered_before own n m b p u accounted built real (name_owned script (owned_at own b) n shown.line_owned shown.ephemeral_owned t slot u named) at)
