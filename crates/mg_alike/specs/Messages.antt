-- Two messages that are the same but for a renaming of identifiers. A reader should check that all else of a request and of a reply is the same: the
-- call, the association, the number, each command with its place, and the failure. A note holds no identifier, so notes are simply the same.
use Rattle.std.specs.Prelude.{◌≡◌, Option, Some, None}
use Rattle.mg_model.specs.declared.references.ContextRef.{ContextRef}
use Rattle.mg_model.specs.declared.references.ContextRef.TheVariants.{Number, MadeAt}
use Rattle.mg_model.specs.declared.references.EphemeralRef.{EphemeralRef}
use Rattle.mg_model.specs.declared.references.EphemeralRef.TheVariants as ephemeral
use Rattle.mg_model.specs.declared.references.RemoteRef.{RemoteRef}
use Rattle.mg_model.specs.declared.references.RemoteRef.TheVariants.{Nothing, To}
use Rattle.mg_model.specs.declared.references.TerminationRef.{TerminationRef}
use Rattle.mg_model.specs.declared.references.TerminationRef.TheVariants.{Line, Ephemeral}
use Rattle.mg_model.specs.Items.{Done}
use Rattle.mg_model.specs.Messages.{Descriptors, RequestCommand, add_line, add_ephemeral, modify, move, subtract, subtract_all, set_topology, Request, Reply}
use Rattle.mg_alike.specs.Renaming.{Renaming, OptionsAlike, SetsAlike, ContextsAlike, EphemeralsAlike, Pairwise}

-- ---- requests

abbrev pub ContextRefsAlike : Renaming → ContextRef → ContextRef → Type 0
ContextRefsAlike r (Number c) (Number d) = ContextsAlike r c.0 d.0
ContextRefsAlike r (MadeAt p) (MadeAt q) = p ≡ q
ContextRefsAlike r (Number c) (MadeAt q) = ⊥
ContextRefsAlike r (MadeAt p) (Number d) = ⊥

abbrev pub EphemeralRefsAlike : Renaming → EphemeralRef → EphemeralRef → Type 0
EphemeralRefsAlike r (ephemeral.Number x) (ephemeral.Number y) = EphemeralsAlike r x y
EphemeralRefsAlike r (ephemeral.MadeAt p) (ephemeral.MadeAt q) = p ≡ q
EphemeralRefsAlike r (ephemeral.Number x) (ephemeral.MadeAt q) = ⊥
EphemeralRefsAlike r (ephemeral.MadeAt p) (ephemeral.Number y) = ⊥

-- a line stands for itself
abbrev pub TerminationRefsAlike : Renaming → TerminationRef → TerminationRef → Type 0
TerminationRefsAlike r (Line l) (Line m) = l ≡ m
TerminationRefsAlike r (Ephemeral e) (Ephemeral f) = EphemeralRefsAlike r e f
TerminationRefsAlike r (Line l) (Ephemeral f) = ⊥
TerminationRefsAlike r (Ephemeral e) (Line m) = ⊥

abbrev pub RemoteRefsAlike : Renaming → Option RemoteRef → Option RemoteRef → Type 0
RemoteRefsAlike r None None = Unit {0}
RemoteRefsAlike r (Some Nothing) (Some Nothing) = Unit {0}
RemoteRefsAlike r (Some (To e)) (Some (To f)) = EphemeralRefsAlike r e f
RemoteRefsAlike r _ _ = ⊥

pub record DescriptorsAlike (r : Renaming) (d e : Descriptors) : Type 0 where
  pub mode : e.mode ≡ d.mode
  pub remote : RemoteRefsAlike r d.remote e.remote
  pub events : e.events ≡ d.events
  pub signals : e.signals ≡ d.signals

abbrev pub CommandsAlike : Renaming → RequestCommand → RequestCommand → Type 0
CommandsAlike r (add_line c l d) (add_line e m f) = ContextRefsAlike r c e × (l ≡ m) × DescriptorsAlike r d f
CommandsAlike r (add_ephemeral c d) (add_ephemeral e f) = ContextRefsAlike r c e × DescriptorsAlike r d f
CommandsAlike r (modify c t d) (modify e u f) = ContextRefsAlike r c e × TerminationRefsAlike r t u × DescriptorsAlike r d f
CommandsAlike r (move c t d) (move e u f) = ContextRefsAlike r c e × TerminationRefsAlike r t u × DescriptorsAlike r d f
CommandsAlike r (subtract c t) (subtract e u) = ContextRefsAlike r c e × TerminationRefsAlike r t u
CommandsAlike r (subtract_all c) (subtract_all e) = ContextRefsAlike r c e
CommandsAlike r (set_topology c t u one) (set_topology e v w other) =
    ContextRefsAlike r c e × TerminationRefsAlike r t v × TerminationRefsAlike r u w × (one ≡ other)
CommandsAlike r _ _ = ⊥

pub record RequestsAlike (r : Renaming) (one other : Request) : Type 0 where
  pub call : other.call ≡ one.call
  pub association : other.association ≡ one.association
  pub number : other.number ≡ one.number
  pub commands : Pairwise (CommandsAlike r) one.commands other.commands

-- ---- replies

-- what a command tells: the ephemerals that it destroyed are told in rising number, so the order of the one world may not be that of the other
pub record DoneAlike (r : Renaming) (one other : Done) : Type 0 where
  pub context : OptionsAlike r.contexts one.context other.context
  pub ephemeral : OptionsAlike r.ephemerals one.ephemeral other.ephemeral
  pub lines : other.lines ≡ one.lines
  pub ephemerals : SetsAlike r.ephemerals one.ephemerals other.ephemerals

pub record RepliesAlike (r : Renaming) (one other : Reply) : Type 0 where
  pub call : other.call ≡ one.call
  pub association : other.association ≡ one.association
  pub number : other.number ≡ one.number
  pub results : Pairwise (DoneAlike r) one.results other.results
  pub failure : other.failure ≡ one.failure
