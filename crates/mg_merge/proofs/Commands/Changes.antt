-- What a command of a shard changes: its board stays within what is the shard's, and any board on which it is executed is, at what isn't the
-- shard's, as it was.
use Rattle.std.proofs.Common.{◌≡◌, ◌∙◌, ◌<◌, ℕ, Bool, true, false, Option, Some, None, is_some, refl, sym, ap, subst, arith, inl, inr, ◌==◌, ◌||◌, ◌⊎◌, not}
use Rattle.std.proofs.Common.{nat_lt, IsTrue, if◌then◌else◌}
use Rattle.mg_merge.proofs.Words.{Add, Board, Chosen, ContextExists, Eph, IsFresh, IsLegal, Item, Line, Modify, Move, Row, SetTopology, Subtract, SubtractAll}
use Rattle.mg_merge.proofs.Words.{TermId, UnknownContext, UnknownTermination, by_test, choose, creates_context, creates_ephemeral, different, effect, eq-eqb}
use Rattle.mg_merge.proofs.Words.{eqb-true, exists, false_from_ne_true, false_not_true, given, mode_of, nat_tests, neither_first, neither_second, not_both}
use Rattle.mg_merge.proofs.Words.{not_refused, null, place_in, place_of, remote_of, row_at, same_term, subtracted, subtracts, target, where_false}
use Rattle.mg_model.specs.declared.items.Added.TheVariants as added
use Rattle.mg_model.proofs.Terminations.{same_term_is}
use Rattle.mg_merge.proofs.Commands.SameCodes.{existing_mine, leaves_mine}
use Rattle.mg_merge.proofs.Scopes.{Scope, mine, NamesTerm, NamesItem, IsContextOf, IsEphemeralOf, IsWithin}

-- ---- tests

differs : (s : Scope) (u t : TermId) → mine s u ≡ true → mine s t ≡ false → same_term t u ≡ false
differs s u t own other = false_from_ne_true (same_term t u) (λ e. not_both (ap (mine s) (same_term_is t u e) ∙ own) other)

differs_back : (s : Scope) (u t : TermId) → mine s u ≡ true → mine s t ≡ false → same_term u t ≡ false
differs_back s u t own other = false_from_ne_true (same_term u t) (λ e. not_both own (ap (mine s) (same_term_is u t e) ∙ other))

is_decided : (s : Scope) (c : ℕ) → IsContextOf s c ⊎ (IsContextOf s c → ⊥)
is_decided s c = go (nat_lt 0 c) (nat_lt c choose) (s.class c) refl refl refl
  where
    go : (above below class : Bool) → nat_lt 0 c ≡ above → nat_lt c choose ≡ below → s.class c ≡ class → IsContextOf s c ⊎ (IsContextOf s c → ⊥)
    go true true true first second third = inl ((grind (arith, nat_tests), grind (arith, nat_tests)), third)
    go false below class first second third = inr (λ is. let more : 0 < c = is.0.0 in grind (arith, nat_tests))
    go true false class first second third = inr (λ is. let less : c < choose = is.0.1 in grind (arith, nat_tests))
    go true true false first second third = inr (λ is. not_both is.1 third)

pub class_stays : (b : Board) (item : Item) (chosen : Chosen) (n : ℕ) → (effect b item chosen).class n ≡ b.class n
class_stays b (Add context (added.Line l) settings) chosen n = refl
class_stays b item chosen n = refl

module _ (s : Scope) (b : Board) (within : IsWithin s b) (item : Item) (names : NamesItem s item) (legal : IsLegal b item) (chosen : Chosen)
    (fresh : IsFresh b item chosen) where
  pub fresh_context : creates_context item ≡ true → IsContextOf s chosen.context
  fresh_context creates = let it = fresh.context creates in (it.0, sym (within.class chosen.context) ∙ it.2)

  pub fresh_ephemeral : creates_ephemeral item ≡ true → IsEphemeralOf s chosen.ephemeral
  fresh_ephemeral creates = let it = fresh.ephemeral creates in (it.0.0, sym (within.class chosen.ephemeral) ∙ it.2)

-- ---- contexts that exist

module _ (s : Scope) (b : Board) (within : IsWithin s b) where
  known : (c : ℕ) → ContextExists b c → IsContextOf s c
  known c there = subst (IsContextOf s) there.1.1 (within.places there.1.0 (λ is. there.0 (sym there.1.1 ∙ is)))

  pub existing : (c : ℕ) → ((ContextExists b c → ⊥) → ⊥) → IsContextOf s c
  existing c legal = elim (is_decided s c) [
    | inl is ↦ is
    | inr never ↦ absurd (legal (λ there. never (known c there)))
  ]

  -- a termination that a legal command names is the shard's
  pub named_mine : (t : TermId) (more : Bool) → NamesTerm s t → (IsTrue (not (exists b t) || more) → ⊥) → (exists b t ≡ true) × (mine s t ≡ true)
  named_mine t more names legal =
      let stands : exists b t ≡ true = not_refused (exists b t) (neither_first (not (exists b t)) more legal) in
      (stands, existing_mine s b within t names stands)

-- ---- what isn't the shard's

module _ (s : Scope) (b : Board) (within : IsWithin s b) where
  -- on any board from which nobody else leaves, the rows of others stay
  pub row_out : (x : Board) (item : Item) (names : NamesItem s item) (legal : IsLegal b item) (chosen : Chosen) (fresh : IsFresh b item chosen)
      → (t : TermId) → mine s t ≡ false → subtracts x item t ≡ false → (effect x item chosen).row t ≡ x.row t
  row_out x (Add context (added.Line l) settings) names legal chosen fresh t other stays = rw (differs s (Line l) t names.1 other) refl
  row_out x (Add context added.NewEphemeral settings) names legal chosen fresh t other stays =
      rw (differs s (Eph chosen.ephemeral) t (fresh_ephemeral s b within (Add context added.NewEphemeral settings) names legal chosen fresh refl).1 other) refl
  row_out x (Modify context u settings) names legal chosen fresh t other stays =
      rw (differs s u t (named_mine s b within u _ names.1 (legal UnknownTermination)).1 other) refl
  row_out x (Move context u settings) names legal chosen fresh t other stays =
      rw (differs s u t (named_mine s b within u _ names.1 (legal UnknownTermination)).1 other) refl
  row_out x (Subtract context u) names legal chosen fresh t other stays = where_false (same_term t u) (subtracted t) (x.row t) stays
  row_out x (SubtractAll context) names legal chosen fresh t other stays = where_false (place_of x t == context.0) (subtracted t) (x.row t) stays
  row_out x (SetTopology context u v topology) names legal chosen fresh t other stays = refl

  pub cut_out : (x : Board) (item : Item) (names : NamesItem s item) (legal : IsLegal b item) (chosen : Chosen) (fresh : IsFresh b item chosen)
      → (t v : TermId) → mine s t ≡ false → mine s v ≡ false → subtracts x item t ≡ false → subtracts x item v ≡ false
      → (effect x item chosen).cut t v ≡ x.cut t v
  cut_out x (Add context (added.Line l) settings) names legal chosen fresh t v other also stays still = refl
  cut_out x (Add context added.NewEphemeral settings) names legal chosen fresh t v other also stays still =
      let own = (fresh_ephemeral s b within (Add context added.NewEphemeral settings) names legal chosen fresh refl).1 in
      rw (differs_back s (Eph chosen.ephemeral) t own other, differs_back s (Eph chosen.ephemeral) v own also) refl
  cut_out x (Modify context u settings) names legal chosen fresh t v other also stays still = refl
  cut_out x (Move context u settings) names legal chosen fresh t v other also stays still =
      let own = (named_mine s b within u _ names.1 (legal UnknownTermination)).1 in
      rw (differs_back s u t own other, differs_back s u v own also) refl
  cut_out x (Subtract context u) names legal chosen fresh t v other also stays still = rw (stays, still) refl
  cut_out x (SubtractAll context) names legal chosen fresh t v other also stays still = rw (stays, still) refl
  cut_out x (SetTopology context u w topology) names legal chosen fresh t v other also stays still =
      let own = (named_mine s b within u _ names.1 (legal UnknownTermination)).1 in
      let second : mine s w ≡ true = existing_mine s b within w names.2
      (not_refused (exists b w) (neither_second (not (exists b u)) (not (exists b w)) (legal UnknownTermination))) in
      rw (differs s u t own other, differs s w t second other) refl

  pub not_leaving : (item : Item) → NamesItem s item → IsLegal b item → (t : TermId) → mine s t ≡ false → subtracts b item t ≡ false
  not_leaving item names legal t other =
      false_from_ne_true (subtracts b item t) (λ e. not_both (leaves_mine s b within item names legal t e) other)

  pub given_out : (creates : Bool) (number : ℕ) (was : ℕ → Bool) → (creates ≡ true → s.class number ≡ true) → (n : ℕ) → s.class n ≡ false
      → given creates number was n ≡ was n
  given_out false number was own n other = refl
  given_out true number was own n other =
      ap (λ (test : Bool). test || was n) (different n number (λ is. not_both (ap s.class is ∙ own refl) other))

  -- ---- the shard's board after a command

  -- a row that stands nowhere, or in a context of the shard
  abbrev StandsWithin : Option Row → Type 0
  StandsWithin r = (place_in r ≡ null → ⊥) → IsContextOf s (place_in r)

  target_within : (context : ℕ) (chosen : Chosen) → (context == choose ≡ true → IsContextOf s chosen.context)
      → ((context ≡ choose → ⊥) → IsContextOf s context) → IsContextOf s (if context == choose then chosen.context else context)
  target_within context chosen first second = by_test (IsContextOf s) chosen.context context (context == choose) first
      (λ e. second (λ is. not_both (eq-eqb context choose is) e))

  taken_away : (t : TermId) (leaves : Bool) → StandsWithin (if leaves then subtracted t else b.row t)
  taken_away (Line l) true real = absurd (real refl)
  taken_away (Eph k) true real = absurd (real refl)
  taken_away t false real = within.places t real

  places_after : (item : Item) (names : NamesItem s item) (legal : IsLegal b item) (chosen : Chosen) (fresh : IsFresh b item chosen)
      → (t : TermId) → StandsWithin ((effect b item chosen).row t)
  places_after (Add context (added.Line l) settings) names legal chosen fresh t =
      by_test StandsWithin (Some (row_at (target context chosen) settings (mode_of b (Line l)) (remote_of b (Line l)))) (b.row t) (same_term t (Line l))
      (λ e real. target_within context.0 chosen
      (fresh_context s b within (Add context (added.Line l) settings) names legal chosen fresh)
      (λ named. existing s b within context.0 (λ lacks. legal UnknownContext (named, lacks))))
      (λ e. within.places t)
  places_after (Add context added.NewEphemeral settings) names legal chosen fresh t =
      by_test StandsWithin (Some (row_at (target context chosen) settings _ None)) (b.row t) (same_term t (Eph chosen.ephemeral))
      (λ e real. target_within context.0 chosen
      (fresh_context s b within (Add context added.NewEphemeral settings) names legal chosen fresh)
      (λ named. existing s b within context.0 (λ lacks. legal UnknownContext (named, lacks))))
      (λ e. within.places t)
  places_after (Modify context u settings) names legal chosen fresh t =
      by_test StandsWithin (Some (row_at context.0 settings (mode_of b u) (remote_of b u))) (b.row t) (same_term t u)
      (λ e real. existing s b within context.0 (λ lacks. legal UnknownContext (real, lacks))) (λ e. within.places t)
  places_after (Move context u settings) names legal chosen fresh t =
      by_test StandsWithin (Some (row_at context.0 settings (mode_of b u) (remote_of b u))) (b.row t) (same_term t u)
      (λ e real. existing s b within context.0 (legal UnknownContext)) (λ e. within.places t)
  places_after (Subtract context u) names legal chosen fresh t = taken_away t (same_term t u)
  places_after (SubtractAll context) names legal chosen fresh t = taken_away t (place_of b t == context.0)
  places_after (SetTopology context u v topology) names legal chosen fresh t = within.places t

  -- an ephemeral that exists is one that the shard gives
  abbrev ExistsWithin : ℕ → Option Row → Type 0
  ExistsWithin k r = is_some r ≡ true → IsEphemeralOf s k

  ephemerals_after : (item : Item) (names : NamesItem s item) (legal : IsLegal b item) (chosen : Chosen) (fresh : IsFresh b item chosen)
      → (k : ℕ) → ExistsWithin k ((effect b item chosen).row (Eph k))
  ephemerals_after (Add context (added.Line l) settings) names legal chosen fresh k = within.ephemerals k
  ephemerals_after (Add context added.NewEphemeral settings) names legal chosen fresh k =
      by_test (ExistsWithin k) (Some (row_at (target context chosen) settings _ None)) (b.row (Eph k)) (k == chosen.ephemeral)
      (λ e there. subst (IsEphemeralOf s) (sym (eqb-true k chosen.ephemeral e))
      (fresh_ephemeral s b within (Add context added.NewEphemeral settings) names legal chosen fresh refl))
      (λ e. within.ephemerals k)
  ephemerals_after (Modify context u settings) names legal chosen fresh k =
      by_test (ExistsWithin k) (Some (row_at context.0 settings (mode_of b u) (remote_of b u))) (b.row (Eph k)) (same_term (Eph k) u)
      (λ e there. within.ephemerals k (ap (λ t. exists b t) (same_term_is (Eph k) u e) ∙ (named_mine s b within u _ names.1 (legal UnknownTermination)).0))
      (λ e. within.ephemerals k)
  ephemerals_after (Move context u settings) names legal chosen fresh k =
      by_test (ExistsWithin k) (Some (row_at context.0 settings (mode_of b u) (remote_of b u))) (b.row (Eph k)) (same_term (Eph k) u)
      (λ e there. within.ephemerals k (ap (λ t. exists b t) (same_term_is (Eph k) u e) ∙ (named_mine s b within u _ names.1 (legal UnknownTermination)).0))
      (λ e. within.ephemerals k)
  ephemerals_after (Subtract context u) names legal chosen fresh k =
      by_test (ExistsWithin k) None (b.row (Eph k)) (same_term (Eph k) u) (λ e there. absurd (false_not_true there)) (λ e. within.ephemerals k)
  ephemerals_after (SubtractAll context) names legal chosen fresh k =
      by_test (ExistsWithin k) None (b.row (Eph k)) (place_of b (Eph k) == context.0) (λ e there. absurd (false_not_true there)) (λ e. within.ephemerals k)
  ephemerals_after (SetTopology context u v topology) names legal chosen fresh k = within.ephemerals k

  pub within_after : (item : Item) (names : NamesItem s item) (legal : IsLegal b item) (chosen : Chosen) (fresh : IsFresh b item chosen)
      → IsWithin s (effect b item chosen)
  within_after item names legal chosen fresh = record {
    class = λ n. class_stays b item chosen n ∙ within.class n;
    outside = λ t other. ap place_in (row_out b item names legal chosen fresh t other (not_leaving item names legal t other)) ∙ within.outside t other;
    places = places_after item names legal chosen fresh;
    ephemerals = ephemerals_after item names legal chosen fresh;
  }
