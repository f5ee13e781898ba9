-- A request that is the same but for a renaming is the same where more is renamed; so it has one shape.
use Rattle.std.proofs.Common.{ℕ, List, [], ◌∷◌, Option, Some, None, inl, inr}
use Rattle.mg_merge.proofs.Words.{ContextRef, Descriptors, EphemeralRef, MadeAt, Number, RemoteRef, Request, RequestCommand, TerminationRef, To, add_ephemeral}
use Rattle.mg_merge.proofs.Words.{add_line, modify, move, set_topology, subtract, subtract_all}
use Rattle.mg_alike.proofs.Words.{CommandsAlike, ContextRefsAlike, ContextsAlike, DescriptorsAlike, EphemeralRefsAlike, EphemeralsAlike, Pairwise}
use Rattle.mg_alike.proofs.Words.{RemoteRefsAlike, Renaming, RequestsAlike, TerminationRefsAlike}
use Rattle.mg_model.specs.declared.references.EphemeralRef.TheVariants as ephemeral
use Rattle.mg_model.specs.declared.references.RemoteRef.TheVariants.{Nothing}
use Rattle.mg_model.specs.declared.references.TerminationRef.TheVariants.{Line, Ephemeral}
use Rattle.mg_alike.proofs.Shared.Pairs.{IsWider}

module _ (r wide : Renaming) (wider : IsWider r wide) where
  contexts_more : (c d : ℕ) → ContextsAlike r c d → ContextsAlike wide c d
  contexts_more c d (inl word) = inl word
  contexts_more c d (inr is) = inr (wider.contexts c d is)

  ephemerals_more : (x y : ℕ) → EphemeralsAlike r x y → EphemeralsAlike wide x y
  ephemerals_more x y (inl none) = inl none
  ephemerals_more x y (inr is) = inr (wider.ephemerals x y is)

  context_refs_more : (c d : ContextRef) → ContextRefsAlike r c d → ContextRefsAlike wide c d
  context_refs_more (Number c) (Number d) is = contexts_more c.0 d.0 is
  context_refs_more (MadeAt p) (MadeAt q) is = is
  context_refs_more _ _ is = absurd is

  ephemeral_refs_more : (e f : EphemeralRef) → EphemeralRefsAlike r e f → EphemeralRefsAlike wide e f
  ephemeral_refs_more (ephemeral.Number x) (ephemeral.Number y) is = ephemerals_more x y is
  ephemeral_refs_more (ephemeral.MadeAt p) (ephemeral.MadeAt q) is = is
  ephemeral_refs_more _ _ is = absurd is

  termination_refs_more : (t u : TerminationRef) → TerminationRefsAlike r t u → TerminationRefsAlike wide t u
  termination_refs_more (Line l) (Line m) is = is
  termination_refs_more (Ephemeral e) (Ephemeral f) is = ephemeral_refs_more e f is
  termination_refs_more _ _ is = absurd is

  remote_refs_more : (e f : Option RemoteRef) → RemoteRefsAlike r e f → RemoteRefsAlike wide e f
  remote_refs_more None None is = tt
  remote_refs_more (Some Nothing) (Some Nothing) is = tt
  remote_refs_more (Some (To e)) (Some (To f)) is = ephemeral_refs_more e f is
  remote_refs_more _ _ is = absurd is

  descriptors_more : (d e : Descriptors) → DescriptorsAlike r d e → DescriptorsAlike wide d e
  descriptors_more d e is = assumption (remote_refs_more d.remote e.remote is.remote)

  commands_more : (one other : RequestCommand) → CommandsAlike r one other → CommandsAlike wide one other
  commands_more (add_line c l d) (add_line e m f) is = (context_refs_more c e is.0, is.1, descriptors_more d f is.2)
  commands_more (add_ephemeral c d) (add_ephemeral e f) is = (context_refs_more c e is.0, descriptors_more d f is.1)
  commands_more (modify c t d) (modify e u f) is = (context_refs_more c e is.0, termination_refs_more t u is.1, descriptors_more d f is.2)
  commands_more (move c t d) (move e u f) is = (context_refs_more c e is.0, termination_refs_more t u is.1, descriptors_more d f is.2)
  commands_more (subtract c t) (subtract e u) is = (context_refs_more c e is.0, termination_refs_more t u is.1)
  commands_more (subtract_all c) (subtract_all e) is = context_refs_more c e is
  commands_more (set_topology c t u one) (set_topology e v w other) is =
      (context_refs_more c e is.0, termination_refs_more t v is.1, termination_refs_more u w is.2, is.3)
  commands_more _ _ is = absurd is

  all_more : (some others : List RequestCommand) → Pairwise (CommandsAlike r) some others → Pairwise (CommandsAlike wide) some others
  all_more [] [] is = tt
  all_more (one ∷ some) (other ∷ others) is = (commands_more one other is.0, all_more some others is.1)
  all_more _ _ is = absurd is

  pub requests_more : (one other : Request) → RequestsAlike r one other → RequestsAlike wide one other
  requests_more one other is = assumption (all_more one.commands other.commands is.commands)
