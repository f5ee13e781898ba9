-- The commands of a shard's requests name nothing of another shard, so their items don't either.
use Rattle.std.proofs.Common.{◌≡◌, ◌<◌, ℕ, true, List, Option, Some, None, option_map, refl, subst, arith, unwrap_or, slice_get, option_and_then}
use Rattle.mg_merge.proofs.Words.{All, ContextRef, Descriptors, Done, EphemeralRef, LineDescriptors, MadeAt, Number, RemoteRef, RequestCommand, TerminationRef}
use Rattle.mg_merge.proofs.Words.{add_ephemeral, add_line, all, context_at, descriptors_for, ephemeral_at, get_or_from_slice_get, item_at, modify, move}
use Rattle.mg_merge.proofs.Words.{no_ephemeral, none_is_some, of_termination, on_line, remote_at, set_topology, slice_get_within, subtract, subtract_all}
use Rattle.mg_merge.proofs.Words.{termination_at, the_some}
use Rattle.mg_model.specs.declared.references.EphemeralRef.TheVariants as ephemeral
use Rattle.mg_model.specs.declared.references.RemoteRef.TheVariants as remote
use Rattle.mg_model.specs.declared.references.TerminationRef.TheVariants as on
use Rattle.mg_merge.proofs.Scopes.{Scope, NamesContext, NamesEphemeral, NamesTerm, NamesRemote, NamesItem, IsContextOf, IsEphemeralOf}

-- ---- commands

abbrev pub NamesContextRef : Scope → ContextRef → Type 0
NamesContextRef s (Number n) = NamesContext s n.0
NamesContextRef s (MadeAt p) = Unit {0}

abbrev pub NamesEphemeralRef : Scope → EphemeralRef → Type 0
NamesEphemeralRef s (ephemeral.Number k) = NamesEphemeral s k
NamesEphemeralRef s (ephemeral.MadeAt p) = Unit {0}

abbrev pub NamesTermRef : Scope → TerminationRef → Type 0
NamesTermRef s (on.Line l) = s.lines l.0 ≡ true
NamesTermRef s (on.Ephemeral e) = NamesEphemeralRef s e

abbrev pub NamesRemoteRef : Scope → Option RemoteRef → Type 0
NamesRemoteRef s None = Unit {0}
NamesRemoteRef s (Some remote.Nothing) = Unit {0}
NamesRemoteRef s (Some (remote.To e)) = NamesEphemeralRef s e

-- a command that names nothing of another shard
abbrev pub NamesCommand : Scope → RequestCommand → Type 0
NamesCommand s (add_line c l d) = NamesContextRef s c × (s.lines l ≡ true) × NamesRemoteRef s d.remote
NamesCommand s (add_ephemeral c d) = NamesContextRef s c × NamesRemoteRef s d.remote
NamesCommand s (modify c t d) = NamesContextRef s c × NamesTermRef s t × NamesRemoteRef s d.remote
NamesCommand s (move c t d) = NamesContextRef s c × NamesTermRef s t × NamesRemoteRef s d.remote
NamesCommand s (subtract c t) = NamesContextRef s c × NamesTermRef s t
NamesCommand s (subtract_all c) = NamesContextRef s c
NamesCommand s (set_topology c t u topology) = NamesContextRef s c × NamesTermRef s t × NamesTermRef s u

-- a result of a command of the shard: what it created is the shard's
pub record IsDoneBy (s : Scope) (done : Done) : Type 0 where
  pub context : (n : ℕ) → done.context ≡ Some n → IsContextOf s n
  pub ephemeral : (k : ℕ) → done.ephemeral ≡ Some k → IsEphemeralOf s k

-- ---- their items

pub none_is_all : (s : Scope) → NamesContext s all
none_is_all s number = let less : 4294967295 < 4294967294 = number.1 in absurd (omega (arith, less))

pub none_is_zero : (s : Scope) → NamesEphemeral s no_ephemeral
none_is_zero s above = let more : 0 < 0 = above in absurd (omega (arith, more))

module _ (s : Scope) (results : List Done) (made : All (IsDoneBy s) results) where
  done_at : (p : ℕ) (done : Done) → slice_get results p ≡ Some done → IsDoneBy s done
  done_at p done e = subst (IsDoneBy s) (get_or_from_slice_get results p done done e) (made p done (slice_get_within results p done e))

  context_made : (p : ℕ) (o : Option Done) → slice_get results p ≡ o → NamesContext s (unwrap_or (option_and_then (λ (done : Done). done.context) o) all)
  context_made p None e = none_is_all s
  context_made p (Some done) e = go done.context refl
    where
      go : (o : Option ℕ) → done.context ≡ o → NamesContext s (unwrap_or o all)
      go None is = none_is_all s
      go (Some n) is = λ number. ((done_at p done e).context n is).1

  ephemeral_made : (p : ℕ) (o : Option Done) → slice_get results p ≡ o
      → NamesEphemeral s (unwrap_or (option_and_then (λ (done : Done). done.ephemeral) o) no_ephemeral)
  ephemeral_made p None e = none_is_zero s
  ephemeral_made p (Some done) e = go done.ephemeral refl
    where
      go : (o : Option ℕ) → done.ephemeral ≡ o → NamesEphemeral s (unwrap_or o no_ephemeral)
      go None is = none_is_zero s
      go (Some n) is = λ number. ((done_at p done e).ephemeral n is).1

  context_named : (ref : ContextRef) → NamesContextRef s ref → NamesContext s (context_at results ref)
  context_named (Number n) names = names
  context_named (MadeAt p) names = context_made p (slice_get results p) refl

  ephemeral_named : (ref : EphemeralRef) → NamesEphemeralRef s ref → NamesEphemeral s (ephemeral_at results ref)
  ephemeral_named (ephemeral.Number k) names = names
  ephemeral_named (ephemeral.MadeAt p) names = ephemeral_made p (slice_get results p) refl

  term_named : (ref : TerminationRef) → NamesTermRef s ref → NamesTerm s (termination_at results ref)
  term_named (on.Line l) names = names
  term_named (on.Ephemeral e) names = ephemeral_named e names

  remote_named : (ref : Option RemoteRef) → NamesRemoteRef s ref → NamesRemote s (option_map (remote_at results) ref)
  remote_named None names = tt
  remote_named (Some remote.Nothing) names = tt
  remote_named (Some (remote.To e)) names = ephemeral_named e names

  pub item_named : (command : RequestCommand) → NamesCommand s command → NamesItem s (item_at results command)
  item_named (add_line c l d) names = (context_named c names.0, names.1, remote_named d.remote names.2)
  item_named (add_ephemeral c d) names = (context_named c names.0, tt, remote_named d.remote names.1)
  item_named (modify c t d) names = (context_named c names.0, term_named t names.1, remote_named d.remote names.2)
  item_named (move c t d) names = (context_named c names.0, term_named t names.1, remote_named d.remote names.2)
  item_named (subtract c t) names = (context_named c names.0, term_named t names.1)
  item_named (subtract_all c) names = context_named c names
  item_named (set_topology c t u topology) names = (context_named c names.0, term_named t names.1, term_named u names.2)

-- ---- the line that a command's descriptors are for

described_term : (s : Scope) (t : TerminationRef) (d : Descriptors) → NamesTermRef s t → (with_it : LineDescriptors) → of_termination t d ≡ Some with_it
    → s.lines with_it.line ≡ true
described_term s (on.Line l) d names with_it e = subst (λ (x : LineDescriptors). s.lines x.line ≡ true) (the_some (on_line l.0 d) with_it e) names
described_term s (on.Ephemeral k) d names with_it e = absurd (none_is_some with_it e)

pub described_mine : (s : Scope) (command : RequestCommand) → NamesCommand s command → (with_it : LineDescriptors) → descriptors_for command ≡ Some with_it
    → s.lines with_it.line ≡ true
described_mine s (add_line c l d) names with_it e = subst (λ (x : LineDescriptors). s.lines x.line ≡ true) (the_some (on_line l d) with_it e) names.1
described_mine s (modify c t d) names with_it e = described_term s t d names.1 with_it e
described_mine s (move c t d) names with_it e = described_term s t d names.1 with_it e
described_mine s _ names with_it e = absurd (none_is_some with_it e)
