-- What a shard owns: numbers of calls, lines, and identifiers of contexts and ephemerals; what of a command is the shard's; and what it means
-- that the board and the lines of a shard stand, as they are, among those of the merge.
use Rattle.std.proofs.Common.{◌≡◌, ◌<◌, ℕ, Bool, true, false, Option, Some, None, is_some}
use Rattle.mg_merge.proofs.Words.{Add, Added, Board, Eph, Ephemeral, Item, Line, Modify, Move, Nothing, RemoteSetting, SetTopology, Shard, Subtract}
use Rattle.mg_merge.proofs.Words.{SubtractAll, TermId, exists, is_context_number, null, place_of}
use Rattle.mg_model.specs.declared.items.Added.TheVariants as added

-- the numbers of the calls of a shard, its lines, and the identifiers that it gives to contexts and to ephemerals
pub record Scope : Type 0 where
  pub numbers : ℕ → Bool
  pub lines : ℕ → Bool
  pub class : ℕ → Bool

-- a shard's lines are those that a call holds where it opens
abbrev pub scope_of : Shard → Scope
scope_of shard = record {
  numbers = shard.numbers;
  lines = λ l. is_some (shard.start.gateway.holder l);
  class = shard.start.gateway.board.class;
}

-- whether a termination is the shard's
abbrev pub mine : Scope → TermId → Bool
mine s (Line l) = s.lines l.0
mine s (Eph k) = s.class k

-- two that own nothing in common
pub record AreSeparate (s u : Scope) : Type 0 where
  pub numbers : (c : ℕ) → s.numbers c ≡ true → u.numbers c ≡ true → ⊥
  pub lines : (l : ℕ) → s.lines l ≡ true → u.lines l ≡ true → ⊥
  pub classes : (n : ℕ) → s.class n ≡ true → u.class n ≡ true → ⊥

-- ---- names in commands

-- a number that a context may have, and that the shard gives
abbrev pub IsContextOf : Scope → ℕ → Type 0
IsContextOf s c = is_context_number c × (s.class c ≡ true)

-- an ephemeral that the shard gives
abbrev pub IsEphemeralOf : Scope → ℕ → Type 0
IsEphemeralOf s k = (0 < k) × (s.class k ≡ true)

-- a number that stands for no context of another shard: it is the shard's, or the number of no context
abbrev pub NamesContext : Scope → ℕ → Type 0
NamesContext s c = is_context_number c → s.class c ≡ true

abbrev pub NamesEphemeral : Scope → ℕ → Type 0
NamesEphemeral s k = 0 < k → s.class k ≡ true

abbrev pub NamesTerm : Scope → TermId → Type 0
NamesTerm s (Line l) = s.lines l.0 ≡ true
NamesTerm s (Eph k) = NamesEphemeral s k

abbrev pub NamesRemote : Scope → Option RemoteSetting → Type 0
NamesRemote s None = Unit {0}
NamesRemote s (Some Nothing) = Unit {0}
NamesRemote s (Some (Ephemeral k)) = NamesEphemeral s k

abbrev pub NamesAdded : Scope → Added → Type 0
NamesAdded s (added.Line l) = s.lines l.0 ≡ true
NamesAdded s added.NewEphemeral = Unit {0}

-- a command that names nothing of another shard
abbrev pub NamesItem : Scope → Item → Type 0
NamesItem s (Add context what settings) = NamesContext s context.0 × NamesAdded s what × NamesRemote s settings.remote
NamesItem s (Modify context t settings) = NamesContext s context.0 × NamesTerm s t × NamesRemote s settings.remote
NamesItem s (Move context t settings) = NamesContext s context.0 × NamesTerm s t × NamesRemote s settings.remote
NamesItem s (Subtract context t) = NamesContext s context.0 × NamesTerm s t
NamesItem s (SubtractAll context) = NamesContext s context.0
NamesItem s (SetTopology context t u topology) = NamesContext s context.0 × NamesTerm s t × NamesTerm s u

-- ---- boards

-- a board of a shard: what isn't the shard's stands nowhere, and what stands in a context stands in one that the shard gives
pub record IsWithin (s : Scope) (b : Board) : Type 0 where
  pub class : (n : ℕ) → b.class n ≡ s.class n
  pub outside : (t : TermId) → mine s t ≡ false → place_of b t ≡ null
  pub places : (t : TermId) → (place_of b t ≡ null → ⊥) → IsContextOf s (place_of b t)
  pub ephemerals : (k : ℕ) → exists b (Eph k) ≡ true → IsEphemeralOf s k

-- the board of a shard, and that of the merge, which reads alike at what is the shard's; and no other stands in a context that the shard gives
pub record IsPart (s : Scope) (b m : Board) : Type 0 where
  pub class : (n : ℕ) → s.class n ≡ true → m.class n ≡ true
  pub row : (t : TermId) → mine s t ≡ true → m.row t ≡ b.row t
  pub cut : (t u : TermId) → mine s t ≡ true → mine s u ≡ true → m.cut t u ≡ b.cut t u
  pub used_context : (n : ℕ) → s.class n ≡ true → m.used_context n ≡ b.used_context n
  pub used_ephemeral : (n : ℕ) → s.class n ≡ true → m.used_ephemeral n ≡ b.used_ephemeral n
  pub members : (t : TermId) → (place_of m t ≡ null → ⊥) → s.class (place_of m t) ≡ true → mine s t ≡ true

-- a board of the merge: contexts have numbers of contexts, and no ephemeral has the number 0
pub record IsWhole (m : Board) : Type 0 where
  pub places : (t : TermId) → (place_of m t ≡ null → ⊥) → is_context_number (place_of m t)
  pub zeroth : exists m (Eph 0) ≡ false

-- two boards of the merge that read alike at what isn't the shard's
pub record IsSameOutside (s : Scope) (m after : Board) : Type 0 where
  pub class : (n : ℕ) → after.class n ≡ m.class n
  pub row : (t : TermId) → mine s t ≡ false → after.row t ≡ m.row t
  pub cut : (t u : TermId) → mine s t ≡ false → mine s u ≡ false → after.cut t u ≡ m.cut t u
  pub used_context : (n : ℕ) → s.class n ≡ false → after.used_context n ≡ m.used_context n
  pub used_ephemeral : (n : ℕ) → s.class n ≡ false → after.used_ephemeral n ≡ m.used_ephemeral n
