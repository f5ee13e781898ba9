-- A command of the script by names that are bound alike is one command on both boards.
use Rattle.std.proofs.Common.{◌≡◌, ◌<◌, ℕ, zero, suc, Bool, true, false, List, [], ◌∷◌, length, Option, Some, None, is_some, option_map, refl, sym, ap, inl}
use Rattle.std.proofs.Common.{inr, ◌&&◌, ◌||◌, unwrap_or, slice_get, option_and_then}
use Rattle.mg_merge.proofs.Words.{AddEphemeral, AddLine, Agent, Command, Context, Done, Eph, EphemeralOptions, IsCommandOf, IsSlot, Line, Made, ModifyEphemeral}
use Rattle.mg_merge.proofs.Words.{ModifyLine, MoveEphemeral, MoveLine, NoneGiven, NullContext, Peer, Place, RemoteOption, Script, Termination, all, and_first}
use Rattle.mg_merge.proofs.Words.{and_second, false_not_true, place_known, remote_option_known, termination_known, the_line, uses_known}
use Rattle.mg_alike.proofs.Words.{DoneAlike, OptionsAlike, Pairwise, PlacesAlike, Renaming, TermsAlike}
use Rattle.mg_model.specs.declared.commands.Command.TheVariants.{Subtract, SubtractAll, SetTopology}
use Rattle.mg_model.specs.declared.commands.Termination.TheVariants as termination
use Rattle.mg_safety.proofs.Invariant.Shown.{Naming, naming_at, context_made, ephemeral_made, known_by, context_for, ephemeral_for, target_for, place_for, term_for, remote_for, line_settings, ephemeral_settings, item_for, built_after}
use Rattle.mg_alike.proofs.Commands.Twins.{Twin, add_line, add_ephemeral, modify, move, subtract, subtract_all, set_topology, one_of, other_of, SetRemotesAlike, SettingsAlike, TargetsAlike, IsTwin}
use Rattle.mg_alike.proofs.Shared.Options.{options_more, bound_if_alike}
use Rattle.mg_alike.proofs.Shared.Pairs.{IsWider}

-- names that are bound to what stands for one another
pub record NamesAlike (r : Renaming) (n m : Naming) : Type 0 where
  pub lines : m.lines ≡ n.lines
  pub contexts : (j : ℕ) → OptionsAlike r.contexts (n.contexts j) (m.contexts j)
  pub ephemerals : (k : ℕ) → OptionsAlike r.ephemerals (n.ephemerals k) (m.ephemerals k)

pub names_more : (r wide : Renaming) → IsWider r wide → (n m : Naming) → NamesAlike r n m → NamesAlike wide n m
names_more r wide wider n m alike = record {
  lines = alike.lines;
  contexts = λ j. options_more r.contexts wide.contexts wider.contexts (n.contexts j) (m.contexts j) (alike.contexts j);
  ephemerals = λ k. options_more r.ephemerals wide.ephemerals wider.ephemerals (n.ephemerals k) (m.ephemerals k) (alike.ephemerals k);
}

-- ---- the names by which a request is built, at a place of it

result_there : (r : Renaming) (results others : List Done) → Pairwise (DoneAlike r) results others → (place : ℕ)
    → OptionsAlike r.contexts (option_and_then (λ (done : Done). done.context) (slice_get results place)) (option_and_then (λ (done : Done). done.context) (slice_get others place))
    × OptionsAlike r.ephemerals (option_and_then (λ (done : Done). done.ephemeral) (slice_get results place)) (option_and_then (λ (done : Done). done.ephemeral) (slice_get others place))
result_there r [] [] alike place = (tt, tt)
result_there r (one ∷ results) (other ∷ others) alike zero = (alike.0.context, alike.0.ephemeral)
result_there r (one ∷ results) (other ∷ others) alike (suc place) = result_there r results others alike.1 place
result_there r _ _ alike place = absurd alike

module _ (r : Renaming) (results others : List Done) (same : Pairwise (DoneAlike r) results others) where
  context_made_alike : (made o p : Option ℕ) → OptionsAlike r.contexts o p → OptionsAlike r.contexts (context_made results made o) (context_made others made p)
  context_made_alike (Some place) o p alike = (result_there r results others same place).0
  context_made_alike None o p alike = alike

  ephemeral_made_alike : (made o p : Option ℕ) → OptionsAlike r.ephemerals o p → OptionsAlike r.ephemerals (ephemeral_made results made o) (ephemeral_made others made p)
  ephemeral_made_alike (Some place) o p alike = (result_there r results others same place).1
  ephemeral_made_alike None o p alike = alike

  pub naming_alike : (a b : Agent) → b.lines ≡ a.lines → ((j : ℕ) → OptionsAlike r.contexts (a.contexts j) (b.contexts j))
      → ((k : ℕ) → OptionsAlike r.ephemerals (a.ephemerals k) (b.ephemerals k)) → (made : Made)
      → NamesAlike r (naming_at a made results) (naming_at b made others)
  naming_alike a b lines contexts ephemerals made = record {
    lines = lines;
    contexts = λ j. context_made_alike (made.contexts j) (a.contexts j) (b.contexts j) (contexts j);
    ephemerals = λ k. ephemeral_made_alike (made.ephemerals k) (a.ephemerals k) (b.ephemerals k) (ephemerals k);
  }

-- ---- a command as an item on both boards

abbrev pub twin_for : Naming → Naming → Command → Twin
twin_for n m (AddLine create j i o) = add_line (target_for n create j) (target_for m create j) (n.lines i) (line_settings o) (line_settings o)
twin_for n m (AddEphemeral create j k o) = add_ephemeral (target_for n create j) (target_for m create j) (ephemeral_settings n o) (ephemeral_settings m o)
twin_for n m (ModifyLine place i o) =
    modify (place_for n place) (place_for m place) (Line (the_line (n.lines i))) (Line (the_line (m.lines i))) (line_settings o) (line_settings o)
twin_for n m (ModifyEphemeral place k o) =
    modify (place_for n place) (place_for m place) (Eph (ephemeral_for n k)) (Eph (ephemeral_for m k)) (ephemeral_settings n o) (ephemeral_settings m o)
twin_for n m (MoveLine j i o) =
    move (context_for n j) (context_for m j) (Line (the_line (n.lines i))) (Line (the_line (m.lines i))) (line_settings o) (line_settings o)
twin_for n m (MoveEphemeral j k o) =
    move (context_for n j) (context_for m j) (Eph (ephemeral_for n k)) (Eph (ephemeral_for m k)) (ephemeral_settings n o) (ephemeral_settings m o)
twin_for n m (Subtract j t) = subtract (context_for n j) (context_for m j) (term_for n t) (term_for m t)
twin_for n m (SubtractAll j) = subtract_all (context_for n j) (context_for m j)
twin_for n m (SetTopology j t u topology) =
    set_topology (context_for n j) (context_for m j) (term_for n t) (term_for m t) (term_for n u) (term_for m u) topology

pub one_is : (n m : Naming) (command : Command) → one_of (twin_for n m command) ≡ item_for n command
one_is n m (AddLine create j i o) = refl
one_is n m _ = refl

pub other_is : (n m : Naming) → m.lines ≡ n.lines → (command : Command) → other_of (twin_for n m command) ≡ item_for m command
other_is n m lines (AddLine create j i o) = rw lines refl
other_is n m lines _ = refl

known_paired : (pairs : ℕ → ℕ → Bool) (o p : Option ℕ) (d e : ℕ) → OptionsAlike pairs o p → is_some o ≡ true → pairs (unwrap_or o d) (unwrap_or p e) ≡ true
known_paired pairs None None d e alike known = absurd (false_not_true known)
known_paired pairs (Some x) (Some y) d e alike known = alike
known_paired pairs _ _ d e alike known = absurd alike

module _ (script : Script) (r : Renaming) (held : ℕ → Bool) (n m : Naming) (alike : NamesAlike r n m)
    (own : (i : ℕ) → i < length script.lines → held (n.lines i) ≡ true) where
  context_paired : (j : ℕ) → is_some (n.contexts j) ≡ true → r.contexts (context_for n j) (context_for m j) ≡ true
  context_paired j known = known_paired r.contexts (n.contexts j) (m.contexts j) all all (alike.contexts j) known

  ephemeral_paired : (k : ℕ) → is_some (n.ephemerals k) ≡ true → r.ephemerals (ephemeral_for n k) (ephemeral_for m k) ≡ true
  ephemeral_paired k known = known_paired r.ephemerals (n.ephemerals k) (m.ephemerals k) 0 0 (alike.ephemerals k) known

  line_paired : (i : ℕ) → i < length script.lines → TermsAlike r held (Line (the_line (n.lines i))) (Line (the_line (m.lines i)))
  line_paired i within = (sym (ap (λ (lines : ℕ → ℕ). the_line (lines i)) alike.lines), own i within)

  target_paired : (create : Bool) (j : ℕ) → (create || is_some (n.contexts j)) ≡ true → TargetsAlike r (target_for n create j) (target_for m create j)
  target_paired true j known = inl (refl, refl)
  target_paired false j known = inr (context_paired j known)

  place_paired : (place : Place) → place_known (known_by n) place ≡ true → PlacesAlike r (place_for n place) (place_for m place)
  place_paired NullContext known = inl (refl, refl)
  place_paired (Context j) known = inr (context_paired j known)

  term_paired : (t : Termination) → IsSlot script t → termination_known (known_by n) t ≡ true → TermsAlike r held (term_for n t) (term_for m t)
  term_paired (termination.Line i) slot known = line_paired i slot
  term_paired (termination.Ephemeral k) slot known = ephemeral_paired k known

  remote_paired : (remote : Option RemoteOption) → remote_option_known (known_by n) remote ≡ true
      → SetRemotesAlike r (option_map (remote_for n) remote) (option_map (remote_for m) remote)
  remote_paired None known = tt
  remote_paired (Some NoneGiven) known = tt
  remote_paired (Some (Peer k)) known = ephemeral_paired k known

  settings_paired : (o : EphemeralOptions) → remote_option_known (known_by n) o.remote ≡ true → SettingsAlike r (ephemeral_settings n o) (ephemeral_settings m o)
  settings_paired o known = record { mode = refl; remote = remote_paired o.remote known }

  pub is_twin : (command : Command) → IsCommandOf script command → uses_known (known_by n) command ≡ true → IsTwin r held (twin_for n m command)
  is_twin (AddLine create j i o) declared known = (target_paired create j known, own i declared.1, record { mode = refl; remote = tt })
  is_twin (AddEphemeral create j k o) declared known = (
    target_paired create j (and_first (create || is_some (n.contexts j)) (remote_option_known (known_by n) o.remote) known),
    settings_paired o (and_second (create || is_some (n.contexts j)) (remote_option_known (known_by n) o.remote) known),
  )
  is_twin (ModifyLine place i o) declared known = (place_paired place known, line_paired i declared.1, record { mode = refl; remote = tt })
  is_twin (ModifyEphemeral place k o) declared known =
      let both = and_first (place_known (known_by n) place && is_some (n.ephemerals k)) (remote_option_known (known_by n) o.remote) known in (
        place_paired place (and_first (place_known (known_by n) place) (is_some (n.ephemerals k)) both),
        ephemeral_paired k (and_second (place_known (known_by n) place) (is_some (n.ephemerals k)) both),
        settings_paired o (and_second (place_known (known_by n) place && is_some (n.ephemerals k)) (remote_option_known (known_by n) o.remote) known),
      )
  is_twin (MoveLine j i o) declared known = (context_paired j known, line_paired i declared.1, record { mode = refl; remote = tt })
  is_twin (MoveEphemeral j k o) declared known =
      let both = and_first (is_some (n.contexts j) && is_some (n.ephemerals k)) (remote_option_known (known_by n) o.remote) known in (
        context_paired j (and_first (is_some (n.contexts j)) (is_some (n.ephemerals k)) both),
        ephemeral_paired k (and_second (is_some (n.contexts j)) (is_some (n.ephemerals k)) both),
        settings_paired o (and_second (is_some (n.contexts j) && is_some (n.ephemerals k)) (remote_option_known (known_by n) o.remote) known),
      )
  is_twin (Subtract j t) declared known = (
    context_paired j (and_first (is_some (n.contexts j)) (termination_known (known_by n) t) known),
    term_paired t declared.1 (and_second (is_some (n.contexts j)) (termination_known (known_by n) t) known),
  )
  is_twin (SubtractAll j) declared known = context_paired j known
  is_twin (SetTopology j t u topology) declared known =
      let both = and_first (is_some (n.contexts j) && termination_known (known_by n) t) (termination_known (known_by n) u) known in (
        context_paired j (and_first (is_some (n.contexts j)) (termination_known (known_by n) t) both),
        term_paired t declared.1 (and_second (is_some (n.contexts j)) (termination_known (known_by n) t) both),
        term_paired u declared.2 (and_second (is_some (n.contexts j) && termination_known (known_by n) t) (termination_known (known_by n) u) known),
      )

-- ---- the names of later commands

pub built_alike : (r : Renaming) (n m : Naming) → NamesAlike r n m → (command : Command) (done other : Done) → DoneAlike r done other
    → NamesAlike r (built_after n command done) (built_after m command other)
built_alike r n m alike (AddLine create j i o) done other same =
    assumption (bound_if_alike r.contexts create n.contexts m.contexts j done.context other.context alike.contexts same.context)
built_alike r n m alike (AddEphemeral create j k o) done other same = assumption (
  bound_if_alike r.contexts create n.contexts m.contexts j done.context other.context alike.contexts same.context,
  bound_if_alike r.ephemerals true n.ephemerals m.ephemerals k done.ephemeral other.ephemeral alike.ephemerals same.ephemeral,
)
built_alike r n m alike _ done other same = alike
