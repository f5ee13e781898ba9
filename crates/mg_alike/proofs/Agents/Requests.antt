-- The requests that agents build which are alike: the same commands of the script, by names that are bound alike.
use Rattle.std.proofs.Common.{◌≡◌, ◌∙◌, ◌+◌, ℕ, Bool, true, false, List, [], ◌∷◌, Option, Some, None, is_some, option_map, refl, sym, ap, subst, inl, inr}
use Rattle.std.proofs.Math.Path.{fun_ext}
use Rattle.mg_merge.proofs.Words.{AddEphemeral, AddLine, Agent, Command, Context, EphemeralOptions, LineOptions, Made, ModifyEphemeral, ModifyLine}
use Rattle.mg_merge.proofs.Words.{MoveEphemeral, MoveLine, Names, NoneGiven, NullContext, Peer, Place, RemoteOption, Script, Termination, added_to, bound_by}
use Rattle.mg_merge.proofs.Words.{built, built_by, command_of, commands_of, context_or, context_ref, ephemeral_descriptors, ephemeral_or, ephemeral_ref}
use Rattle.mg_merge.proofs.Words.{line_descriptors, made_after, none_made, place_ref, remote_ref, request_of, state_of, termination_ref, the_line}
use Rattle.mg_alike.proofs.Words.{AgentsAlike, CommandsAlike, ContextRefsAlike, DescriptorsAlike, EphemeralRefsAlike, OptionsAlike, Pairwise, RemoteRefsAlike}
use Rattle.mg_alike.proofs.Words.{Renaming, RequestsAlike, TerminationRefsAlike}
use Rattle.mg_model.specs.declared.commands.Command.TheVariants.{Subtract, SubtractAll, SetTopology}
use Rattle.mg_model.specs.declared.commands.Termination.TheVariants as termination
use Rattle.mg_alike.proofs.Shared.Options.{bound_same}

abbrev names_of : (ℕ → Bool) → (ℕ → Bool) → Names
names_of contexts ephemerals = record { contexts = contexts; ephemerals = ephemerals }

names_agree : (contexts other_contexts ephemerals other_ephemerals : ℕ → Bool) → ((j : ℕ) → contexts j ≡ other_contexts j)
    → ((k : ℕ) → ephemerals k ≡ other_ephemerals k) → names_of contexts ephemerals ≡ names_of other_contexts other_ephemerals
names_agree contexts other_contexts ephemerals other_ephemerals first second =
    ap (λ x. names_of x ephemerals) (fun_ext first) ∙ ap (names_of other_contexts) (fun_ext second)

module _ (r : Renaming) where
  context_or_alike : (made o p : Option ℕ) → OptionsAlike r.contexts o p → ContextRefsAlike r (context_or made o) (context_or made p)
  context_or_alike (Some place) o p alike = refl
  context_or_alike None None None alike = inl (inr (inr refl), refl)
  context_or_alike None (Some x) (Some y) alike = inr alike
  context_or_alike _ _ _ alike = absurd alike

  ephemeral_or_alike : (made o p : Option ℕ) → OptionsAlike r.ephemerals o p → EphemeralRefsAlike r (ephemeral_or made o) (ephemeral_or made p)
  ephemeral_or_alike (Some place) o p alike = refl
  ephemeral_or_alike None None None alike = inl (refl, refl)
  ephemeral_or_alike None (Some x) (Some y) alike = inr alike
  ephemeral_or_alike _ _ _ alike = absurd alike

-- names that are bound alike build requests that are alike
module _ (script : Script) (r : Renaming) (a b : Agent) (lines : b.lines ≡ a.lines) (contexts : (j : ℕ) → OptionsAlike r.contexts (a.contexts j) (b.contexts j))
    (ephemerals : (k : ℕ) → OptionsAlike r.ephemerals (a.ephemerals k) (b.ephemerals k)) where
  -- the same names are bound
  pub names_same : bound_by b ≡ bound_by a
  names_same = names_agree (λ j. is_some (b.contexts j)) (λ j. is_some (a.contexts j)) (λ k. is_some (b.ephemerals k)) (λ k. is_some (a.ephemerals k))
      (λ j. bound_same r.contexts (a.contexts j) (b.contexts j) (contexts j)) (λ k. bound_same r.ephemerals (a.ephemerals k) (b.ephemerals k) (ephemerals k))

  line_same : (i : ℕ) → a.lines i ≡ b.lines i
  line_same i = sym (ap (λ (of : ℕ → ℕ). of i) lines)

  module _ (made : Made) where
    context_alike : (j : ℕ) → ContextRefsAlike r (context_ref a made j) (context_ref b made j)
    context_alike j = context_or_alike r (made.contexts j) (a.contexts j) (b.contexts j) (contexts j)

    ephemeral_alike : (k : ℕ) → EphemeralRefsAlike r (ephemeral_ref a made k) (ephemeral_ref b made k)
    ephemeral_alike k = ephemeral_or_alike r (made.ephemerals k) (a.ephemerals k) (b.ephemerals k) (ephemerals k)

    added_alike : (create : Bool) (j : ℕ) → ContextRefsAlike r (added_to a made create j) (added_to b made create j)
    added_alike true j = inl (inr (inl refl), refl)
    added_alike false j = context_alike j

    place_alike : (place : Place) → ContextRefsAlike r (place_ref a made place) (place_ref b made place)
    place_alike NullContext = inl (inl refl, refl)
    place_alike (Context j) = context_alike j

    termination_alike : (t : Termination) → TerminationRefsAlike r (termination_ref a made t) (termination_ref b made t)
    termination_alike (termination.Line i) = ap the_line (line_same i)
    termination_alike (termination.Ephemeral k) = ephemeral_alike k

    remote_alike : (remote : Option RemoteOption) → RemoteRefsAlike r (option_map (remote_ref a made) remote) (option_map (remote_ref b made) remote)
    remote_alike None = tt
    remote_alike (Some NoneGiven) = tt
    remote_alike (Some (Peer k)) = ephemeral_alike k

    line_alike : (o : LineOptions) → DescriptorsAlike r (line_descriptors script o) (line_descriptors script o)
    line_alike o = record { mode = refl; remote = tt; events = refl; signals = refl }

    settings_alike : (o : EphemeralOptions) → DescriptorsAlike r (ephemeral_descriptors a made o) (ephemeral_descriptors b made o)
    settings_alike o = record { mode = refl; remote = remote_alike o.remote; events = refl; signals = refl }

    command_alike : (command : Command) → CommandsAlike r (command_of script a made command) (command_of script b made command)
    command_alike (AddLine create j i o) = (added_alike create j, line_same i, line_alike o)
    command_alike (AddEphemeral create j k o) = (added_alike create j, settings_alike o)
    command_alike (ModifyLine place i o) = (place_alike place, ap the_line (line_same i), line_alike o)
    command_alike (ModifyEphemeral place k o) = (place_alike place, ephemeral_alike k, settings_alike o)
    command_alike (MoveLine j i o) = (context_alike j, ap the_line (line_same i), line_alike o)
    command_alike (MoveEphemeral j k o) = (context_alike j, ephemeral_alike k, settings_alike o)
    command_alike (Subtract j t) = (context_alike j, termination_alike t)
    command_alike (SubtractAll j) = context_alike j
    command_alike (SetTopology j t u topology) = (context_alike j, termination_alike t, termination_alike u, refl)

  pub commands_alike : (made : Made) (place : ℕ) (commands : List Command)
      → Pairwise (CommandsAlike r) (commands_of script a made place commands) (commands_of script b made place commands)
  commands_alike made place [] = tt
  commands_alike made place (command ∷ more) = (command_alike made command, commands_alike (made_after made command place) (place + 1) more)

module _ (script : Script) (r : Renaming) (a b : Agent) (alike : AgentsAlike r a b) where
  pub built_same : (state : ℕ) → built_by script b state ≡ built_by script a state
  built_same state =
      ap (λ (names : Names). built names (state_of script state).commands) (names_same script r a b alike.lines alike.contexts alike.ephemerals)

  pub request_alike : (state : ℕ) → RequestsAlike r (request_of script a state) (request_of script b state)
  request_alike state = record {
    call = alike.call;
    association = alike.association;
    number = alike.next;
    commands = subst
        (λ (commands : List Command). Pairwise (CommandsAlike r) (commands_of script a none_made 0 (built_by script a state)) (commands_of script b none_made 0 commands))
        (sym (built_same state)) (commands_alike script r a b alike.lines alike.contexts alike.ephemerals none_made 0 (built_by script a state));
  }
