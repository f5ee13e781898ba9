-- What one of several shards has and no other: the first that has it, taken shard by shard; and two shards among those that are all apart.
use Rattle.std.proofs.Common.{◌≡◌, ◌∙◌, ℕ, Bool, true, false, List, [], ◌∷◌, Option, Some, None, refl, sym, ap, subst, inl, inr, ◌||◌, ◌⊎◌, Contains}
use Rattle.mg_merge.proofs.Words.{AreAllApart, AreApart, Script, Shard, first_in, first_or_later, later_in, none_in, none_is_some, or_left, or_right}

-- ---- the first that has it

abbrev pub or_else : {A : Type 0} → Option A → Option A → Option A
or_else None o = o
or_else (Some x) o = Some x

abbrev pub first_with : {A : Type 0} → (Shard → Option A) → List Shard → Option A
first_with f [] = None
first_with f (shard ∷ more) = or_else (f shard) (first_with f more)

none_with : {A : Type 0} (f : Shard → Option A) (shards : List Shard) → ((other : Shard) → Contains shards other → f other ≡ None) → first_with f shards ≡ None
none_with f [] none = refl
none_with f (shard ∷ more) none =
    ap (λ o. or_else o (first_with f more)) (none shard (first_in shard more))
    ∙ none_with f more (λ other there. none other (later_in shard more other there))

-- where no other has it, it is that shard's
pub only_with : {A : Type 0} (f : Shard → Option A) (shards : List Shard) (shard : Shard) → Contains shards shard
    → ((other : Shard) → Contains shards other → (other ≡ shard) ⊎ (f other ≡ None)) → first_with f shards ≡ f shard
only_with f [] shard there alone = absurd (none_in shard there)
only_with f (first ∷ more) shard there alone = go (f shard) refl (first_or_later first more shard there)
    (only_with f more shard) (none_with f more)
  where
    go : (o : Option _) → f shard ≡ o → (first ≡ shard) ⊎ Contains more shard
        → (Contains more shard → ((other : Shard) → Contains more other → (other ≡ shard) ⊎ (f other ≡ None)) → first_with f more ≡ f shard)
        → (((other : Shard) → Contains more other → f other ≡ None) → first_with f more ≡ None)
        → or_else (f first) (first_with f more) ≡ f shard
    go None e where_is on none =
        ap (λ o. or_else o (first_with f more)) (nothing first (first_in first more))
        ∙ none (λ other among. nothing other (later_in first more other among)) ∙ sym e
      where
        nothing : (other : Shard) → Contains (first ∷ more) other → f other ≡ None
        nothing other among = elim (alone other among) [
          | inl is ↦ ap f is ∙ e
          | inr never ↦ never
        ]
    go (Some x) e (inl is) on none = ap (λ o. or_else o (first_with f more)) (ap f is ∙ e) ∙ sym e
    go (Some x) e (inr later) on none = elim (alone first (first_in first more)) [
      | inl is ↦ ap (λ o. or_else o (first_with f more)) (ap f is ∙ e) ∙ sym e
      | inr never ↦ ap (λ o. or_else o (first_with f more)) never
          ∙ on later (λ other among. alone other (later_in first more other among))
    ]

-- what was chosen is some shard's
pub from_first : {A : Type 0} (f : Shard → Option A) (shards : List Shard) (x : A) → first_with f shards ≡ Some x
    → (shard : Shard) × Contains shards shard × (f shard ≡ Some x)
from_first f [] x is = absurd (none_is_some x is)
from_first f (first ∷ more) x is = go (f first) refl is (from_first f more x)
  where
    go : (o : Option _) → f first ≡ o → or_else o (first_with f more) ≡ Some x
        → (first_with f more ≡ Some x → (shard : Shard) × Contains more shard × (f shard ≡ Some x))
        → (shard : Shard) × Contains (first ∷ more) shard × (f shard ≡ Some x)
    go None e is on = let it = on is in (it.0, later_in first more it.0 it.1, it.2)
    go (Some y) e is on = (first, first_in first more, e ∙ is)

-- ---- the numbers of all

abbrev pub class_of : List Shard → ℕ → Bool
class_of [] n = false
class_of (shard ∷ more) n = shard.start.gateway.board.class n || class_of more n

pub in_class : (shards : List Shard) (shard : Shard) → Contains shards shard → (n : ℕ) → shard.start.gateway.board.class n ≡ true
    → class_of shards n ≡ true
in_class [] shard there n own = absurd (none_in shard there)
in_class (first ∷ more) shard there n own = go (first_or_later first more shard there) (in_class more shard)
  where
    go : (first ≡ shard) ⊎ Contains more shard → (Contains more shard → (n : ℕ) → shard.start.gateway.board.class n ≡ true → class_of more n ≡ true)
        → (first.start.gateway.board.class n || class_of more n) ≡ true
    go (inl is) on = or_left (first.start.gateway.board.class n) (class_of more n) (ap (λ (x : Shard). x.start.gateway.board.class n) is ∙ own)
    go (inr later) on = or_right (first.start.gateway.board.class n) (class_of more n) (on later n own)

-- ---- two of them

other_way : (script : Script) (one other : Shard) → AreApart script one other → AreApart script other one
other_way script one other apart = record {
  numbers = λ call first second. apart.numbers call second first;
  lines = λ a b i j first second below also is. apart.lines b a j i second first also below (sym is);
  classes = λ n first second. apart.classes n second first;
}

pub two_of : (script : Script) (shards : List Shard) → AreAllApart script shards → (one other : Shard) → Contains shards one → Contains shards other
    → (one ≡ other) ⊎ AreApart script one other
unfolding AreAllApart
two_of script [] apart one other here there = absurd (none_in one here)
two_of script (first ∷ more) apart one other here there =
    go (first_or_later first more one here) (first_or_later first more other there) (two_of script more apart.1 one other)
  where
    go : (first ≡ one) ⊎ Contains more one → (first ≡ other) ⊎ Contains more other
        → (Contains more one → Contains more other → (one ≡ other) ⊎ AreApart script one other) → (one ≡ other) ⊎ AreApart script one other
    go (inl is) (inl also) on = inl (sym is ∙ also)
    go (inl is) (inr later) on = inr (subst (λ (x : Shard). AreApart script x other) is (apart.0 other later))
    go (inr later) (inl also) on = inr (other_way script other one (subst (λ (x : Shard). AreApart script x one) also (apart.0 one later)))
    go (inr first_later) (inr second_later) on = on first_later second_later
