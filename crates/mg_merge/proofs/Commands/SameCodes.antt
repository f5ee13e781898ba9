-- A command that names nothing of another shard is refused on the board of the merge with the codes that it is refused with on the
-- shard's, and takes the same terminations out of their context.
use Rattle.std.proofs.Common.{◌≡◌, ◌∙◌, ◌<◌, ℕ, Bool, true, false, zero, suc, Option, Some, None, is_some, refl, sym, ap, subst, arith, ◌==◌, not}
use Rattle.mg_merge.proofs.Words.{Add, AlreadyInContext, Applies, Board, Code, ContextExists, Eph, Ephemeral, InsufficientResources, InternalFailure, IsLegal}
use Rattle.mg_merge.proofs.Words.{IsUsedUp, Item, LacksContext, Line, Modify, Move, NotInContext, Nothing, RemoteSetting, SetTopology, Subtract, SubtractAll}
use Rattle.mg_merge.proofs.Words.{TermId, UnknownContext, UnknownTermination, different, eqb-true, exists, false_from_ne_true, false_not_true}
use Rattle.mg_merge.proofs.Words.{is_context_number, is_misplaced, is_taken, lacks_termination, names_nothing, none_of, not_both, not_refused, null, place_in}
use Rattle.mg_merge.proofs.Words.{place_of, remote_refused, subtracts, true_from_ne_false}
use Rattle.mg_model.specs.declared.items.Added.TheVariants as added
use Rattle.mg_model.proofs.Terminations.{same_term_is}
use Rattle.mg_merge.proofs.Scopes.{Scope, mine, NamesContext, NamesTerm, NamesRemote, NamesItem, IsWithin, IsPart, IsWhole}

-- ---- the shard's board alone

module _ (s : Scope) (b : Board) (within : IsWithin s b) where
  pub no_zeroth : exists b (Eph 0) ≡ false
  no_zeroth =
      false_from_ne_true (exists b (Eph 0)) (λ there. let above : 0 < 0 = (within.ephemerals 0 there).0 in omega (arith, above))

  -- who stands in a context is the shard's
  pub standing_mine : (t : TermId) → (place_of b t ≡ null → ⊥) → mine s t ≡ true
  standing_mine t there = true_from_ne_false (mine s t) (λ e. there (within.outside t e))

  -- what exists, and is named, is the shard's
  pub existing_mine : (t : TermId) → NamesTerm s t → exists b t ≡ true → mine s t ≡ true
  existing_mine (Line l) names there = names
  existing_mine (Eph k) names there = (within.ephemerals k there).1

-- a context that exists is not the null context
legal_real : (b : Board) (c : ℕ) → ((ContextExists b c → ⊥) → ⊥) → c ≡ null → ⊥
legal_real b c legal is = legal (λ there. there.0 is)

-- who leaves with a command that is legal
pub leaves_mine : (s : Scope) (b : Board) → IsWithin s b → (item : Item) → NamesItem s item → IsLegal b item → (t : TermId)
    → subtracts b item t ≡ true → mine s t ≡ true
leaves_mine s b within (Subtract context u) names legal t e =
    ap (mine s) (same_term_is t u e) ∙ existing_mine s b within u names.1 (not_refused (exists b u) (legal UnknownTermination))
leaves_mine s b within (SubtractAll context) names legal t e =
    standing_mine s b within t (λ is. legal_real b context.0 (legal UnknownContext) (sym (eqb-true (place_of b t) context.0 e) ∙ is))
leaves_mine s b within item names legal t e = absurd (false_not_true e)

-- ---- beside the board of the merge

module _ (s : Scope) (b m : Board) (within : IsWithin s b) (part : IsPart s b m) (whole : IsWhole m) where
  pub row_same : (t : TermId) → NamesTerm s t → m.row t ≡ b.row t
  row_same (Line l) names = part.row (Line l) names
  row_same (Eph zero) names = none_of (m.row (Eph 0)) whole.zeroth ∙ sym (none_of (b.row (Eph 0)) (no_zeroth s b within))
  row_same (Eph (suc k)) names = part.row (Eph (suc k)) (names (omega (arith)))

  pub exists_same : (t : TermId) → NamesTerm s t → exists m t ≡ exists b t
  exists_same t names = ap is_some (row_same t names)

  pub place_same : (t : TermId) → NamesTerm s t → place_of m t ≡ place_of b t
  place_same t names = ap place_in (row_same t names)

  -- ---- contexts

  pub merge_context : (c : ℕ) → ContextExists b c → ContextExists m c
  merge_context c there =
      let mine_is : mine s there.1.0 ≡ true = standing_mine s b within there.1.0 (λ is. there.0 (sym there.1.1 ∙ is)) in
      (there.0, (there.1.0, ap place_in (part.row there.1.0 mine_is) ∙ there.1.1))

  -- who stands in a context that a command names is the shard's
  pub member_mine : (c : ℕ) → NamesContext s c → (c ≡ null → ⊥) → (t : TermId) → place_of m t ≡ c → mine s t ≡ true
  member_mine c names real t at =
      let number : is_context_number c = subst is_context_number at (whole.places t (λ is. real (sym at ∙ is))) in
      part.members t (λ is. real (sym at ∙ is)) (ap s.class at ∙ names number)

  pub shard_context : (c : ℕ) → NamesContext s c → ContextExists m c → ContextExists b c
  shard_context c names there =
      (there.0, (there.1.0, sym (ap place_in (part.row there.1.0 (member_mine c names there.0 there.1.0 there.1.1))) ∙ there.1.1))

  -- ---- who leaves

  pub leaves_same : (item : Item) → NamesItem s item → IsLegal b item → (t : TermId) → subtracts m item t ≡ subtracts b item t
  leaves_same (SubtractAll context) names legal t = go (mine s t) refl
    where
      real : context.0 ≡ null → ⊥
      real = legal_real b context.0 (legal UnknownContext)

      go : (test : Bool) → mine s t ≡ test → (place_of m t == context.0) ≡ (place_of b t == context.0)
      go true e = ap (λ r. place_in r == context.0) (part.row t e)
      go false e =
          different (place_of m t) context.0 (λ at. not_both (member_mine context.0 names real t at) e)
          ∙ sym (different (place_of b t) context.0 (λ at. real (sym at ∙ within.outside t e)))
  leaves_same item names legal t = refl

  -- ---- codes

  lacks_on : (c : ℕ) → (ContextExists b c → ⊥) → NamesContext s c → ContextExists m c → ⊥
  lacks_on c lacks names there = lacks (shard_context c names there)

  lacks_back : (c : ℕ) → (ContextExists m c → ⊥) → ContextExists b c → ⊥
  lacks_back c lacks there = lacks (merge_context c there)

  merge_lacks : (item : Item) → NamesItem s item → LacksContext b item → LacksContext m item
  merge_lacks (Add context what settings) names lacks = (lacks.0, lacks_on context.0 lacks.1 names.0)
  merge_lacks (Modify context t settings) names lacks = (lacks.0, lacks_on context.0 lacks.1 names.0)
  merge_lacks (Move context t settings) names lacks = lacks_on context.0 lacks names.0
  merge_lacks (Subtract context t) names lacks = lacks_on context.0 lacks names.0
  merge_lacks (SubtractAll context) names lacks = lacks_on context.0 lacks names
  merge_lacks (SetTopology context t u topology) names lacks = lacks_on context.0 lacks names.0

  shard_lacks : (item : Item) → NamesItem s item → LacksContext m item → LacksContext b item
  shard_lacks (Add context what settings) names lacks = (lacks.0, lacks_back context.0 lacks.1)
  shard_lacks (Modify context t settings) names lacks = (lacks.0, lacks_back context.0 lacks.1)
  shard_lacks (Move context t settings) names lacks = lacks_back context.0 lacks
  shard_lacks (Subtract context t) names lacks = lacks_back context.0 lacks
  shard_lacks (SubtractAll context) names lacks = lacks_back context.0 lacks
  shard_lacks (SetTopology context t u topology) names lacks = lacks_back context.0 lacks

  nothing_same : (remote : Option RemoteSetting) → NamesRemote s remote → names_nothing m remote ≡ names_nothing b remote
  nothing_same None names = refl
  nothing_same (Some Nothing) names = refl
  nothing_same (Some (Ephemeral k)) names = ap not (exists_same (Eph k) names)

  refused_same : (t : TermId) (remote : Option RemoteSetting) → NamesRemote s remote → remote_refused m t remote ≡ remote_refused b t remote
  refused_same (Line l) None names = refl
  refused_same (Line l) (Some remote) names = refl
  refused_same (Eph k) remote names = nothing_same remote names

  lacks_same : (item : Item) → NamesItem s item → lacks_termination m item ≡ lacks_termination b item
  lacks_same (Add context (added.Line l) settings) names = rw (exists_same (Line l) names.1, refused_same (Line l) settings.remote names.2) refl
  lacks_same (Add context added.NewEphemeral settings) names = nothing_same settings.remote names.2
  lacks_same (Modify context t settings) names = rw (exists_same t names.1, refused_same t settings.remote names.2) refl
  lacks_same (Move context t settings) names = rw (exists_same t names.1, refused_same t settings.remote names.2) refl
  lacks_same (Subtract context t) names = rw (exists_same t names.1) refl
  lacks_same (SubtractAll context) names = refl
  lacks_same (SetTopology context t u topology) names = rw (exists_same t names.1, exists_same u names.2) refl

  taken_same : (item : Item) → NamesItem s item → is_taken m item ≡ is_taken b item
  taken_same (Add context (added.Line l) settings) names = rw (place_same (Line l) names.1) refl
  taken_same item names = refl

  misplaced_same : (item : Item) → NamesItem s item → is_misplaced m item ≡ is_misplaced b item
  misplaced_same (Modify context t settings) names = rw (place_same t names.1) refl
  misplaced_same (Move context t settings) names = rw (place_same t names.1) refl
  misplaced_same (Subtract context t) names = rw (place_same t names.1) refl
  misplaced_same (SetTopology context t u topology) names = rw (place_same t names.1, place_same u names.2) refl
  misplaced_same item names = refl

  -- a code that applies for the shard applies in the merge, where identifiers are left to the shard
  pub applies_on : (item : Item) → NamesItem s item → (IsUsedUp b item → ⊥) → (code : Code) → Applies b item code → Applies m item code
  applies_on item names left UnknownContext applies = merge_lacks item names applies
  applies_on item names left UnknownTermination applies = lacks_same item names ∙ applies
  applies_on item names left AlreadyInContext applies = taken_same item names ∙ applies
  applies_on item names left NotInContext applies = misplaced_same item names ∙ applies
  applies_on item names left InternalFailure applies = applies
  applies_on item names left InsufficientResources applies = absurd (left applies)

  -- and the other way round
  pub applies_back : (item : Item) → NamesItem s item → (IsUsedUp m item → ⊥) → (code : Code) → Applies m item code → Applies b item code
  applies_back item names left UnknownContext applies = shard_lacks item names applies
  applies_back item names left UnknownTermination applies = sym (lacks_same item names) ∙ applies
  applies_back item names left AlreadyInContext applies = sym (taken_same item names) ∙ applies
  applies_back item names left NotInContext applies = sym (misplaced_same item names) ∙ applies
  applies_back item names left InternalFailure applies = applies
  applies_back item names left InsufficientResources applies = absurd (left applies)
