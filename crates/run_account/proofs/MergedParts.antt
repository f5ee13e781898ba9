-- The events that pass a test which no restart passes, in the merge of several histories: those of the one history that has such events, in their order.
use Rattle.std.proofs.Common.{◌≡◌, ◌∙◌, ◌<◌, ◌≤◌, ◌++◌, ◌⊎◌, inl, inr, ℕ, zero, suc, Bool, true, false, List, [], ◌∷◌, length, map, refl, sym, ap, arith}
use Rattle.std.specs.Prelude.{if◌then◌else◌, slice_index_or}
use Rattle.std.specs.List.{filter}
use Rattle.std.proofs.lemmas.Bool.{cases_lt}
use Rattle.std.proofs.lemmas.List.{append-nil, get_or_past}
use Rattle.std.proofs.lemmas.List.Elements.{filter-append}
use Rattle.mg_model.specs.declared.events.Event.{Event}
use Rattle.mg_model.specs.declared.events.Event.TheVariants.{OfCall, Restart}
use Rattle.mg_model.specs.Shards.{cut_at_restarts, merged, merged_from, restarts_in, together}
use Rattle.mg_merge.proofs.Shards.Histories.{after_restart, all_after, all_before, all_cut, before_restart, first_together, later_merged}

-- ---- restarts

-- what has no restart is all before the first
all_first : (history : List Event) → restarts_in history ≤ 0 → before_restart history ≡ history
unfolding restarts_in
all_first [] none = refl
all_first (OfCall c happens ∷ more) none = ap (λ (events : List Event). OfCall c happens ∷ events) (all_first more none)
all_first (Restart ∷ more) none = absurd (let never : suc (restarts_in more) ≤ 0 = none in omega (arith, never))

-- after a restart there is one less
one_less : (history : List Event) (restarts : ℕ) → restarts_in history ≤ suc restarts → restarts_in (after_restart history) ≤ restarts
unfolding restarts_in
one_less [] restarts few = omega arith
one_less (OfCall c happens ∷ more) restarts few = one_less more restarts few
one_less (Restart ∷ more) restarts few = let one : suc (restarts_in more) ≤ suc restarts = few in omega (arith, one)

-- ---- several histories

abbrev at : List (List Event) → ℕ → List Event
at histories i = slice_index_or histories i []

at_after : (histories : List (List Event)) (k : ℕ) → at (all_after histories) k ≡ after_restart (at histories k)
at_after [] k = refl
at_after (history ∷ more) zero = refl
at_after (history ∷ more) (suc k) = at_after more k

cut_all : (histories : List (List Event)) → map cut_at_restarts histories ≡ all_cut histories
cut_all [] = refl
cut_all (history ∷ more) = ap (λ cut. cut_at_restarts history ∷ cut) (cut_all more)

-- where two lists together are empty, each is
nothing_in : (first second : List Event) → first ++ second ≡ [] → (first ≡ []) × (second ≡ [])
nothing_in [] second none = (refl, none)
nothing_in (event ∷ first) second none = cc

-- ---- the events that pass

module _ (test : Event → Bool) (fails : test Restart ≡ false) where
  -- those that pass, in their order
  abbrev passing : List Event → List Event
  passing history = filter test history

  no_restart : (more : List Event) → passing (Restart ∷ more) ≡ passing more
  no_restart more = ap (λ (passes : Bool). if passes then Restart ∷ passing more else passing more) fails

  -- those before the first restart, and those after it
  parted : (history : List Event) → passing (before_restart history) ++ passing (after_restart history) ≡ passing history
  parted [] = refl
  parted (Restart ∷ more) = sym (no_restart more)
  parted (OfCall c happens ∷ more) = by_test (test (OfCall c happens)) (parted more)
    where
      by_test : (passes : Bool) → passing (before_restart more) ++ passing (after_restart more) ≡ passing more
          → (if passes then OfCall c happens ∷ passing (before_restart more) else passing (before_restart more)) ++ passing (after_restart more)
          ≡ (if passes then OfCall c happens ∷ passing more else passing more)
      by_test true on = ap (λ (events : List Event). OfCall c happens ∷ events) on
      by_test false on = on

  -- where nothing passes, nothing does in either part
  none_in_parts : (history : List Event) → passing history ≡ [] → (passing (before_restart history) ≡ []) × (passing (after_restart history) ≡ [])
  none_in_parts history none = nothing_in (passing (before_restart history)) (passing (after_restart history)) (parted history ∙ none)

  -- all that passes is in the history with this place
  abbrev IsAlone : List (List Event) → ℕ → Type 0
  IsAlone histories k = (i : ℕ) → (i ≡ k → ⊥) → passing (at histories i) ≡ []

  none_before : (histories : List (List Event)) → ((i : ℕ) → passing (at histories i) ≡ []) → passing (all_before histories) ≡ []
  none_before [] none = refl
  none_before (history ∷ more) none =
      filter-append test (before_restart history) (all_before more)
      ∙ ap (λ (events : List Event). events ++ passing (all_before more)) (none_in_parts history (none 0)).0
      ∙ none_before more (λ i. none (suc i))

  alone_before : (histories : List (List Event)) (k : ℕ) → IsAlone histories k → passing (all_before histories) ≡ passing (before_restart (at histories k))
  alone_before [] k alone = refl
  alone_before (history ∷ more) zero alone =
      filter-append test (before_restart history) (all_before more)
      ∙ ap (λ (events : List Event). passing (before_restart history) ++ events) (none_before more (λ i. alone (suc i) (λ never. omega (arith, never))))
      ∙ append-nil (passing (before_restart history))
  alone_before (history ∷ more) (suc k) alone =
      filter-append test (before_restart history) (all_before more)
      ∙ ap (λ (events : List Event). events ++ passing (all_before more)) (none_in_parts history (alone 0 (λ never. omega (arith, never)))).0
      ∙ alone_before more k (λ i other. alone (suc i) (λ same. other (omega (arith, same))))

  alone_merged : (histories : List (List Event)) (restarts k : ℕ) → restarts_in (at histories k) ≤ restarts → IsAlone histories k
      → passing (merged (all_cut histories) restarts) ≡ passing (at histories k)
  unfolding merged_from
  alone_merged histories zero k few alone =
      ap passing (first_together histories) ∙ alone_before histories k alone ∙ ap passing (all_first (at histories k) few)
  alone_merged histories (suc restarts) k few alone =
      let rest : passing (merged (all_cut (all_after histories)) restarts) ≡ passing (at (all_after histories) k) =
      alone_merged (all_after histories) restarts k (rw (at_after histories k) (one_less (at histories k) restarts few))
      (λ i other. ap passing (at_after histories i) ∙ (none_in_parts (at histories i) (alone i other)).1) in
      filter-append test (together (all_cut histories) 0) (Restart ∷ merged_from (all_cut histories) 1 restarts)
      ∙ ap (λ (events : List Event). passing (together (all_cut histories) 0) ++ events) (no_restart (merged_from (all_cut histories) 1 restarts))
      ∙ ap (λ (events : List Event). events ++ passing (merged_from (all_cut histories) 1 restarts))
      (ap passing (first_together histories) ∙ alone_before histories k alone)
      ∙ ap (λ (events : List Event). passing (before_restart (at histories k)) ++ events)
      (ap passing (later_merged histories 0 restarts) ∙ rest ∙ ap passing (at_after histories k))
      ∙ parted (at histories k)

-- ---- the merge

-- where the events that pass are all in one history, which is restarted no more often than the merge
pub merged_alone : (test : Event → Bool) → test Restart ≡ false → (histories : List (List Event)) (restarts k : ℕ)
    → restarts_in (slice_index_or histories k []) ≤ restarts
    → ((i : ℕ) → i < length histories → (i ≡ k → ⊥) → filter test (slice_index_or histories i []) ≡ [])
    → filter test (merged (map cut_at_restarts histories) restarts) ≡ filter test (slice_index_or histories k [])
merged_alone test fails histories restarts k few alone =
    ap (λ cut. filter test (merged cut restarts)) (cut_all histories)
    ∙ alone_merged test fails histories restarts k few (λ i other. by_length i other (cases_lt i (length histories)))
  where
    by_length : (i : ℕ) → (i ≡ k → ⊥) → (i < length histories) ⊎ (length histories ≤ i) → filter test (at histories i) ≡ []
    by_length i other (inl within) = alone i within other
    by_length i other (inr past) = ap (filter test) (get_or_past histories i [] past)

-- where no event passes
pub merged_none : (test : Event → Bool) → test Restart ≡ false → (histories : List (List Event)) (restarts : ℕ)
    → ((i : ℕ) → i < length histories → filter test (slice_index_or histories i []) ≡ [])
    → filter test (merged (map cut_at_restarts histories) restarts) ≡ []
unfolding restarts_in
merged_none test fails histories restarts none =
    let past : slice_index_or histories (length histories) [] ≡ [] = get_or_past histories (length histories) [] (omega arith) in
    merged_alone test fails histories restarts (length histories) (rw past (omega arith)) (λ i within other. none i within) ∙ ap (filter test) past
