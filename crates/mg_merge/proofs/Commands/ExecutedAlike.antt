-- A command that a shard's board executes is executed on the board of the merge, with the same result; the boards after it read alike at what
-- is the shard's, and all else stays.
use Rattle.std.proofs.Common.{◌≡◌, ◌∙◌, ℕ, Bool, true, false, List, Option, Some, is_some, refl, sym, ap, subst, ◌==◌, ◌||◌, ◌&&◌, if◌then◌else◌, inl, inr}
use Rattle.mg_merge.proofs.Words.{Add, Board, Chosen, Done, Eph, IsExecuted, IsFresh, IsLegal, IsResult, IsUsedUp, Item, Line, Lists, Modify, Move, Row}
use Rattle.mg_merge.proofs.Words.{SetTopology, Settings, Subtract, SubtractAll, TermId, cases_Bool, creates_context, creates_ephemeral, effect, exists}
use Rattle.mg_merge.proofs.Words.{is_context_number, mode_in, mode_of, not_both, null, place_in, place_of, placed, remote_in, remote_of, row_at, same_term}
use Rattle.mg_merge.proofs.Words.{subtracted, subtracts, true_from_ne_false}
use Rattle.mg_model.specs.declared.items.Added.TheVariants as added
use Rattle.mg_merge.proofs.Commands.SameCodes.{no_zeroth, leaves_mine, row_same, leaves_same, applies_back}
use Rattle.mg_merge.proofs.Commands.Changes.{class_stays, row_out, cut_out, given_out, not_leaving, within_after, fresh_context, fresh_ephemeral}
use Rattle.mg_merge.proofs.Scopes.{Scope, mine, NamesItem, IsWithin, IsPart, IsWhole, IsSameOutside}

-- ---- boards that were changed alike

-- where the rows of the shard are those of its board, and the others stayed, the board is one of a merge
pub whole_after : (s : Scope) (after m merged : Board) → IsWithin s after → ((t : TermId) → mine s t ≡ true → merged.row t ≡ after.row t)
    → ((t : TermId) → mine s t ≡ false → merged.row t ≡ m.row t) → IsWhole m → IsWhole merged
whole_after s after m merged within own others whole = record {
  places = λ t real. elim (cases_Bool (mine s t)) [
    | inl e ↦ (let at : place_of merged t ≡ place_of after t = ap place_in (own t e) in
        subst is_context_number (sym at) (within.places t (λ is. real (at ∙ is))).0)
    | inr e ↦ (let at : place_of merged t ≡ place_of m t = ap place_in (others t e) in
        subst is_context_number (sym at) (whole.places t (λ is. real (at ∙ is))))
  ];
  zeroth = elim (cases_Bool (mine s (Eph 0))) [
    | inl e ↦ ap is_some (own (Eph 0) e) ∙ no_zeroth s after within
    | inr e ↦ ap is_some (others (Eph 0) e) ∙ whole.zeroth
  ];
}

-- and who stands in the shard's contexts is the shard's
pub members_after : (s : Scope) (b m merged : Board) → IsPart s b m → ((t : TermId) → mine s t ≡ false → merged.row t ≡ m.row t)
    → (t : TermId) → (place_of merged t ≡ null → ⊥) → s.class (place_of merged t) ≡ true → mine s t ≡ true
members_after s b m merged part others t real class = true_from_ne_false (mine s t) (λ e.
    let at : place_of merged t ≡ place_of m t = ap place_in (others t e) in
    not_both (part.members t (λ is. real (at ∙ is)) (sym (ap s.class at) ∙ class)) e)

-- ---- the effect of a command

placed_row : (b m : Board) (u t : TermId) (c : ℕ) (settings : Settings) → m.row u ≡ b.row u → m.row t ≡ b.row t
    → (placed m u c settings).row t ≡ (placed b u c settings).row t
placed_row b m u t c settings first second =
    ap (λ (r : Option Row). if same_term t u then Some (row_at c settings (mode_in r) (remote_in r)) else m.row t) first
    ∙ ap (λ (r : Option Row). if same_term t u then Some (row_at c settings (mode_of b u) (remote_of b u)) else r) second

-- a command that is executed on the board of the merge, too
pub record IsExecutedBeside (s : Scope) (m : Board) (item : Item) (after : Board) (done : Done) : Type 0 where
  pub merged : Board
  pub executed : IsExecuted m item merged done
  pub within : IsWithin s after
  pub part : IsPart s after merged
  pub whole : IsWhole merged
  pub outside : IsSameOutside s m merged

module _ (s : Scope) (b m : Board) (within : IsWithin s b) (part : IsPart s b m) (whole : IsWhole m) where
  row_on : (item : Item) (names : NamesItem s item) (legal : IsLegal b item) (chosen : Chosen) (t : TermId) → mine s t ≡ true
      → (effect m item chosen).row t ≡ (effect b item chosen).row t
  row_on (Add context (added.Line l) settings) names legal chosen t own =
      placed_row b m (Line l) t _ settings (part.row (Line l) names.1) (part.row t own)
  row_on (Add context added.NewEphemeral settings) names legal chosen t own =
      rw (part.row t own) refl
  row_on (Modify context u settings) names legal chosen t own =
      placed_row b m u t context.0 settings (row_same s b m within part whole u names.1) (part.row t own)
  row_on (Move context u settings) names legal chosen t own =
      placed_row b m u t context.0 settings (row_same s b m within part whole u names.1) (part.row t own)
  row_on (Subtract context u) names legal chosen t own =
      ap (λ (r : Option Row). if same_term t u then subtracted t else r) (part.row t own)
  row_on (SubtractAll context) names legal chosen t own =
      ap (λ (test : Bool). if test then subtracted t else m.row t) (leaves_same s b m within part whole (SubtractAll context) names legal t)
      ∙ ap (λ (r : Option Row). if place_of b t == context.0 then subtracted t else r) (part.row t own)
  row_on (SetTopology context u v topology) names legal chosen t own = part.row t own

  cut_on : (item : Item) (names : NamesItem s item) (legal : IsLegal b item) (chosen : Chosen) (t v : TermId) → mine s t ≡ true → mine s v ≡ true
      → (effect m item chosen).cut t v ≡ (effect b item chosen).cut t v
  cut_on (Add context (added.Line l) settings) names legal chosen t v own also = part.cut t v own also
  cut_on (Modify context u settings) names legal chosen t v own also = part.cut t v own also
  cut_on (SubtractAll context) names legal chosen t v own also =
      rw (
        leaves_same s b m within part whole (SubtractAll context) names legal t,
        leaves_same s b m within part whole (SubtractAll context) names legal v,
        part.cut t v own also,
      ) refl
  cut_on _ names legal chosen t v own also = rw (part.cut t v own also) refl

  -- ---- the command is executed

  -- a test of who leaves, and exists
  leaving_same : (item : Item) → NamesItem s item → IsLegal b item → (t : TermId)
      → (subtracts m item t && exists m t) ≡ (subtracts b item t && exists b t)
  leaving_same item names legal t = go (subtracts b item t) refl (leaves_same s b m within part whole item names legal t)
    where
      go : (test : Bool) → subtracts b item t ≡ test → subtracts m item t ≡ subtracts b item t → (subtracts m item t && exists m t) ≡ (subtracts b item t && exists b t)
      go true e same = rw (same, e) (ap is_some (part.row t (leaves_mine s b within item names legal t e)))
      go false e same = rw (same, e) refl

  lists_too : (p q : ℕ → Bool) (numbers : List ℕ) → ((n : ℕ) → p n ≡ q n) → Lists q numbers → Lists p numbers
  lists_too p q numbers same lists = record {
    rising = lists.rising;
    exactly = λ n. (λ there. same n ∙ (lists.exactly n).0 there, λ passes. (lists.exactly n).1 (sym (same n) ∙ passes));
  }

  module _ (item : Item) (names : NamesItem s item) (left : IsUsedUp m item → ⊥) (done : Done) (legal : IsLegal b item) (chosen : Chosen)
      (fresh : IsFresh b item chosen) (result : IsResult b item chosen done) where
    others_stay : (t : TermId) → mine s t ≡ false → subtracts m item t ≡ false
    others_stay t other = leaves_same s b m within part whole item names legal t ∙ not_leaving s b within item names legal t other

    row_others : (t : TermId) → mine s t ≡ false → (effect m item chosen).row t ≡ m.row t
    row_others t other = row_out s b within m item names legal chosen fresh t other (others_stay t other)

    own_context : creates_context item ≡ true → s.class chosen.context ≡ true
    own_context creates = (fresh_context s b within item names legal chosen fresh creates).1

    own_ephemeral : creates_ephemeral item ≡ true → s.class chosen.ephemeral ≡ true
    own_ephemeral creates = (fresh_ephemeral s b within item names legal chosen fresh creates).1

    pub beside : IsExecutedBeside s m item (effect b item chosen) done
    beside = record {
      merged = effect m item chosen;
      executed = record {
        chosen = chosen;
        fresh = record {
          context = λ creates. (
            (fresh.context creates).0,
            part.used_context chosen.context (own_context creates) ∙ (fresh.context creates).1,
            part.class chosen.context (own_context creates),
          );
          ephemeral = λ creates. (
            (fresh.ephemeral creates).0,
            part.used_ephemeral chosen.ephemeral (own_ephemeral creates) ∙ (fresh.ephemeral creates).1,
            part.class chosen.ephemeral (own_ephemeral creates),
          );
        };
        legal = λ code applies. legal code (applies_back s b m within part whole item names left code applies);
        effect_is = refl;
        result = record {
          context = result.context;
          ephemeral = result.ephemeral;
          lines = lists_too _ _ done.lines (λ n. leaving_same item names legal (Line (record { 0 = n }))) result.lines;
          ephemerals = lists_too _ _ done.ephemerals (λ n. leaving_same item names legal (Eph n)) result.ephemerals;
        };
      };
      within = within_after s b within item names legal chosen fresh;
      part = record {
        class = λ n own. class_stays m item chosen n ∙ part.class n own;
        row = row_on item names legal chosen;
        cut = cut_on item names legal chosen;
        used_context = λ n own. ap (λ (was : Bool). (creates_context item && n == chosen.context) || was) (part.used_context n own);
        used_ephemeral = λ n own. ap (λ (was : Bool). (creates_ephemeral item && n == chosen.ephemeral) || was) (part.used_ephemeral n own);
        members = members_after s b m (effect m item chosen) part row_others;
      };
      whole = whole_after s (effect b item chosen) m (effect m item chosen) (within_after s b within item names legal chosen fresh)
          (row_on item names legal chosen) row_others whole;
      outside = record {
        class = class_stays m item chosen;
        row = row_others;
        cut = λ t v other also. cut_out s b within m item names legal chosen fresh t v other also (others_stay t other) (others_stay v also);
        used_context = λ n other. given_out s b within (creates_context item) chosen.context m.used_context own_context n other;
        used_ephemeral = λ n other. given_out s b within (creates_ephemeral item) chosen.ephemeral m.used_ephemeral own_ephemeral n other;
      };
    }
