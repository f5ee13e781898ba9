-- The obligations but that of joined lines, of all in the hull of some configurations by those of these.
use Rattle.std.proofs.Common.{◌≡◌, ◌∙◌, ◌⊎◌, ℕ, zero, suc, ◌≤◌, Bool, true, false, List, not, refl, sym, ap, subst, arith, IsTrue, Contains}
use Rattle.std.specs.List.{list_all}
use Rattle.std.proofs.Math.Path.{fun_ext}
use Rattle.mg_names.specs.declared.context_values.ContextValue.{ContextValue}
use Rattle.mg_names.specs.declared.context_values.ContextValue.TheVariants.{Free, Live, Stale}
use Rattle.mg_names.specs.declared.phases.LinkPhase.{LinkPhase}
use Rattle.mg_names.specs.declared.phases.LinkPhase.TheVariants.{Sent, Resting}
use Rattle.mg_model.specs.declared.commands.Command.{Command}
use Rattle.mg_model.specs.declared.commands.Command.TheVariants.{AddLine, AddEphemeral, ModifyLine, ModifyEphemeral, MoveLine, MoveEphemeral, Subtract, SubtractAll, SetTopology}
use Rattle.mg_model.specs.declared.commands.EventsName.{EventsName}
use Rattle.mg_model.specs.declared.commands.Termination.TheVariants.{Line, Ephemeral}
use Rattle.mg_model.specs.Script.{Script}
use Rattle.mg_model.specs.Tables.{state_of, items_of, is_armed_list}
use Rattle.mg_model.specs.Configuration.{Configuration, IsWellFormed, is_free, is_present}
use Rattle.mg_model.specs.Entries.{Entry}
use Rattle.mg_model.specs.Obligations.{CreatedAreUnbound, EndedIsCleared, IsCleared, IsLive, NamesAreLive}
use Rattle.mg_model.specs.Request.{Names}
use Rattle.mg_model.specs.Steps.{bound_names, creates_unbound, names_unbound}
use Rattle.closure.specs.Hulls.{AreAlike, AreHullStepsCovered, AreOthersKept, IsInHull}
use Rattle.closure.proofs.HullLemmas.{hull_link, hull_names, hull_state}

-- ---- names

pub same_functions : (f g : ℕ → Bool) → f 0 ≡ g 0 → f 1 ≡ g 1 → f 2 ≡ g 2 → f 3 ≡ g 3 → ((j : ℕ) → 4 ≤ j → f j ≡ g j) → f ≡ g
same_functions f g first second third fourth past = fun_ext at
  where
    at : (j : ℕ) → f j ≡ g j
    at zero = first
    at (suc zero) = second
    at (suc (suc zero)) = third
    at (suc (suc (suc zero))) = fourth
    at (suc (suc (suc (suc j)))) = past (suc (suc (suc (suc j)))) (omega arith)

free_twice : (v : ContextValue) → is_free v ≡ not (not (is_free v))
free_twice Free = refl
free_twice Live = refl
free_twice Stale = refl

module _ (one c : Configuration) (names : bound_names c ≡ bound_names one) where
  free_alike : (j : ℕ) → is_free (c.context j) ≡ is_free (one.context j)
  free_alike j = free_twice (c.context j) ∙ ap (λ (n : Names). not (n.contexts j)) names ∙ sym (free_twice (one.context j))

  present_alike : (k : ℕ) → is_present (c.spot (Ephemeral k)) ≡ is_present (one.spot (Ephemeral k))
  present_alike k = ap (λ (n : Names). n.ephemerals k) names

  creates_alike : (command : Command) → creates_unbound c command ≡ creates_unbound one command
  creates_alike (AddLine true j i options) = rw (free_alike j) refl
  creates_alike (AddLine false j i options) = refl
  creates_alike (AddEphemeral true j k options) = rw (free_alike j, present_alike k) refl
  creates_alike (AddEphemeral false j k options) = rw (present_alike k) refl
  creates_alike (ModifyLine place i options) = refl
  creates_alike (ModifyEphemeral place k options) = refl
  creates_alike (MoveLine j i options) = refl
  creates_alike (MoveEphemeral j k options) = refl
  creates_alike (Subtract j t) = refl
  creates_alike (SubtractAll j) = refl
  creates_alike (SetTopology j t u topology) = refl

  unbound_alike : (script : Script) → c.state ≡ one.state → names_unbound script c ≡ names_unbound script one
  unbound_alike script same =
      ap (λ (test : Command → Bool). list_all test (state_of script c.state).commands) (fun_ext creates_alike)
      ∙ ap (λ (state : ℕ). list_all (creates_unbound one) (state_of script state).commands) same

-- ---- the obligations

module _ (some : List Configuration) (one : Configuration) (alike : AreAlike some one) (c : Configuration) (inside : IsInHull some c) where
  module _ (script : Script) (each : (d : Configuration) → Contains some d → EndedIsCleared script d) (rest : c.link ≡ Resting)
      (is_end : IsTrue (state_of script c.state).is_end) where
    each_cleared : (d : Configuration) → Contains some d → IsCleared script d
    each_cleared d has = each d has (alike.link d has ∙ sym (hull_link some one c alike inside) ∙ rest)
        (subst (λ (state : ℕ). IsTrue (state_of script state).is_end) (hull_state some one c alike inside ∙ sym (alike.state d has)) is_end)

    all_cleared : IsCleared script c
    all_cleared = record {
      in_null = λ i hi. let at = inside.spot (Line i) in sym at.1.1 ∙ (each_cleared at.0 at.1.0).in_null i hi;
      silent = λ i hi. let at = inside.plays i in sym at.1.1 ∙ (each_cleared at.0 at.1.0).silent i hi;
      armed = λ i hi. let at = inside.events i in
          subst (λ (list : EventsName). IsTrue (is_armed_list (items_of script list))) at.1.1 ((each_cleared at.0 at.1.0).armed i hi);
      no_ephemeral = λ k. let at = inside.spot (Ephemeral k) in sym at.1.1 ∙ (each_cleared at.0 at.1.0).no_ephemeral k;
    }

  hull_live : ((d : Configuration) → Contains some d → NamesAreLive d) → NamesAreLive c
  hull_live each used = record {
    contexts = λ j stale. let at = inside.context j in (each_live at.0 at.1.0).contexts j (at.1.1 ∙ stale);
    remotes = λ k gone. let at = inside.remote k in (each_live at.0 at.1.0).remotes k (at.1.1 ∙ gone);
  }
    where
      each_live : (d : Configuration) → Contains some d → IsLive d
      each_live d has = each d has (subst (λ (link : LinkPhase). (link ≡ Sent) ⊎ (link ≡ Resting))
          (hull_link some one c alike inside ∙ sym (alike.link d has)) used)

  hull_unbound : (script : Script) → CreatedAreUnbound script one → CreatedAreUnbound script c
  hull_unbound script unbound sent =
      unbound_alike one c (hull_names some one c alike inside) script (hull_state some one c alike inside)
      ∙ unbound (sym (hull_link some one c alike inside) ∙ sent)

pub hull_kept : (script : Script) (entries : List Entry) (some : List Configuration) (one : Configuration) → AreAlike some one
    → ((d : Configuration) → Contains some d → EndedIsCleared script d) → CreatedAreUnbound script one
    → ((d : Configuration) → Contains some d → NamesAreLive d) → AreHullStepsCovered script entries some
    → (c : Configuration) → IsInHull some c → IsWellFormed c → AreOthersKept script entries c
hull_kept script entries some one alike cleared unbound live covered c inside formed = record {
  cleared = all_cleared some one alike c inside script cleared;
  unbound = hull_unbound some one alike c inside script unbound;
  live = hull_live some one alike c inside live;
  covered = covered c inside formed;
}
