-- One association of several histories: what is left of each, as its events are pushed and its place is moved on.
use Rattle.std.proofs.Common.{◌≡◌, ◌∙◌, ◌+◌, ◌<◌, ◌≤◌, ◌++◌, ℕ, zero, suc, List, [], ◌∷◌, drop, take, length, refl, sym, ap, subst, arith}
use Rattle.std.specs.Prelude.{slice_index_or, slice_set}
use Rattle.std.proofs.lemmas.List.{append-nil, append_assoc, drop-set-lt, drop_all, drop_more, take_all, take_more_set}
use Rattle.mg_model.specs.declared.events.Event.{Event}
use Rattle.mg_model.specs.declared.events.Event.TheVariants.{OfCall, Restart}
use Rattle.mg_model.specs.Shards.{cut_at_restarts}
use Rattle.mg_model.proofs.Histories.{first_with, later_with}
use Rattle.run_account.specs.Merging.{ArePartsPushed, IsPartPushed, left_from, part_at, parts_at}

-- ---- the parts of one history

-- nothing has no events in any part
none_at : (association : ℕ) → part_at [] association ≡ []
unfolding cut_at_restarts
none_at zero = refl
none_at (suc association) = refl

-- ---- pushing one part

-- the events so far, and the rest of a history's first part, are those before and that part; and the rest has the later ones
pub record IsPushing (before history events rest : List Event) : Type 0 where
  pub first : events ++ part_at rest 0 ≡ before ++ part_at history 0
  pub later : (association : ℕ) → part_at rest (suc association) ≡ part_at history (suc association)

module _ (before history events : List Event) where
  -- where the rest begins with an event of a call, that is pushed
  event_pushed : (more : List Event) (event : Event) → (event ≡ Restart → ⊥) → IsPushing before history events (event ∷ more)
      → IsPushing before history (events ++ event ∷ []) more
  unfolding cut_at_restarts
  event_pushed more Restart other so_far = absurd (other refl)
  event_pushed more (OfCall call happens) other so_far = record {
    first = append_assoc events (OfCall call happens ∷ []) (part_at more 0)
        ∙ ap (λ (part : List Event). events ++ part) (sym (first_with (OfCall call happens) (cut_at_restarts more))) ∙ so_far.first;
    later = λ association. sym (later_with (OfCall call happens) (cut_at_restarts more) association) ∙ so_far.later association;
  }

  -- where it begins with a restart, the part is done
  done_at_restart : (more : List Event) → IsPushing before history events (Restart ∷ more) → IsPartPushed before history events more
  unfolding cut_at_restarts
  done_at_restart more so_far = record { first = sym (append-nil events) ∙ so_far.first; later = so_far.later }

  -- and so it is where nothing is left
  done_at_end : IsPushing before history events [] → IsPartPushed before history events []
  unfolding cut_at_restarts
  done_at_end so_far = record {
    first = sym (append-nil events) ∙ so_far.first;
    later = λ association. none_at association ∙ sym (none_at (suc association)) ∙ so_far.later association;
  }

  -- the same, where the rest is what a history has from a place on
  module _ (whole : List Event) (next : ℕ) where
    pub one_pushed : (default : Event) → next < length whole → (slice_index_or whole next default ≡ Restart → ⊥)
        → IsPushing before history events (drop next whole)
        → IsPushing before history (events ++ slice_index_or whole next default ∷ []) (drop (next + 1) whole)
    one_pushed default within other so_far =
        event_pushed (drop (next + 1) whole) (slice_index_or whole next default) other
        (subst (IsPushing before history events) (drop_more whole next default within) so_far)

    pub pushed_to_restart : (default : Event) → next < length whole → slice_index_or whole next default ≡ Restart
        → IsPushing before history events (drop next whole) → IsPartPushed before history events (drop (next + 1) whole)
    pushed_to_restart default within is so_far =
        done_at_restart (drop (next + 1) whole)
        (subst (IsPushing before history events) (drop_more whole next default within ∙ ap (λ (event : Event). event ∷ drop (next + 1) whole) is) so_far)

    pub pushed_to_end : length whole ≤ next → IsPushing before history events (drop next whole) → IsPartPushed before history events (drop next whole)
    pushed_to_end past so_far =
        subst (IsPartPushed before history events) (sym (drop_all next whole past))
        (done_at_end (subst (IsPushing before history events) (drop_all next whole past) so_far))

-- ---- pushing one association of several

-- the events so far, and the first parts of the histories from this one on, are those before and the first parts of all; the histories before this one
-- have been moved on by one association, and none else
pub record IsMovingOn (before : List Event) (start : List (List Event)) (events : List Event) (histories : List (List Event)) (index : ℕ) : Type 0 where
  pub first : events ++ parts_at (drop index histories) 0 ≡ before ++ parts_at start 0
  pub later : (association : ℕ) → parts_at (take index histories) association ++ parts_at (drop index histories) (suc association)
      ≡ parts_at start (suc association)

-- the parts of these histories, and of those after them
parts_of_both : (first second : List (List Event)) (association : ℕ)
    → parts_at (first ++ second) association ≡ parts_at first association ++ parts_at second association
parts_of_both [] second association = refl
parts_of_both (history ∷ first) second association =
    ap (λ (parts : List Event). part_at history association ++ parts) (parts_of_both first second association)
    ∙ sym (append_assoc (part_at history association) (parts_at first association) (parts_at second association))

module _ (before : List Event) (start : List (List Event)) (events : List Event) (histories : List (List Event)) (index : ℕ) where
  -- where the first part of this history is pushed, and `rest` has its later ones
  one_moved_on : (rest : List Event) → index < length histories
      → ((association : ℕ) → part_at rest association ≡ part_at (slice_index_or histories index []) (suc association))
      → IsMovingOn before start events histories index
      → IsMovingOn before start (events ++ part_at (slice_index_or histories index []) 0) (slice_set histories index rest) (index + 1)
  one_moved_on rest within same so_far =
      let now = slice_index_or histories index [] in
      let behind = drop (index + 1) histories in
      let kept : drop (index + 1) (slice_set histories index rest) ≡ behind = drop-set-lt (index + 1) histories index rest (omega arith) in
      let from : now ∷ behind ≡ drop index histories = sym (drop_more histories index [] within) in
      record {
        first = ap (λ (more : List (List Event)). events ++ part_at now 0 ++ parts_at more 0) kept
            ∙ append_assoc events (part_at now 0) (parts_at behind 0)
            ∙ ap (λ (more : List (List Event)). events ++ parts_at more 0) from ∙ so_far.first;
        later = λ association.
            let done = parts_at (take index histories) association in
            ap (λ (more : List (List Event)). parts_at (take (index + 1) (slice_set histories index rest)) association ++ parts_at more (suc association)) kept
            ∙ ap (λ (front : List (List Event)). parts_at front association ++ parts_at behind (suc association))
            (take_more_set histories index rest within)
            ∙ ap (λ (parts : List Event). parts ++ parts_at behind (suc association))
            (parts_of_both (take index histories) (rest ∷ []) association)
            ∙ append_assoc done (part_at rest association ++ []) (parts_at behind (suc association))
            ∙ ap (λ (part : List Event). done ++ (part ++ parts_at behind (suc association)))
            (append-nil (part_at rest association) ∙ same association)
            ∙ ap (λ (more : List (List Event)). done ++ parts_at more (suc association)) from ∙ so_far.later association;
      }

  all_moved_on : length histories ≤ index → IsMovingOn before start events histories index → ArePartsPushed before start events histories
  all_moved_on past so_far =
      let none : drop index histories ≡ [] = drop_all index histories past in
      record {
        first = sym (append-nil events) ∙ ap (λ (more : List (List Event)). events ++ parts_at more 0) (sym none) ∙ so_far.first;
        later = λ association.
            sym (append-nil (parts_at histories association))
            ∙ ap (λ (more : List (List Event)). parts_at histories association ++ parts_at more (suc association)) (sym none)
            ∙ ap (λ (front : List (List Event)). parts_at front association ++ parts_at (drop index histories) (suc association))
            (sym (take_all index histories past))
            ∙ so_far.later association;
      }

-- ---- places

left_length : (places : List ℕ) (histories : List (List Event)) → length places ≡ length histories → length (left_from places histories) ≡ length histories
left_length places [] all = refl
left_length [] (history ∷ more) all = absurd (omega (arith, all))
left_length (place ∷ places) (history ∷ more) all = ap suc (left_length places more (omega (arith, all)))

left_at : (places : List ℕ) (histories : List (List Event)) (index : ℕ) → length places ≡ length histories → index < length histories
    → slice_index_or (left_from places histories) index [] ≡ drop (slice_index_or places index 0) (slice_index_or histories index [])
left_at places [] index all within = absurd (omega (arith, within))
left_at [] (history ∷ more) index all within = absurd (omega (arith, all))
left_at (place ∷ places) (history ∷ more) zero all within = refl
left_at (place ∷ places) (history ∷ more) (suc index) all within = left_at places more index (omega (arith, all)) (omega (arith, within))

left_set : (places : List ℕ) (histories : List (List Event)) (index next : ℕ)
    → left_from (slice_set places index next) histories ≡ slice_set (left_from places histories) index (drop next (slice_index_or histories index []))
left_set places [] index next = refl
left_set [] (history ∷ more) index next = refl
left_set (place ∷ places) (history ∷ more) zero next = refl
left_set (place ∷ places) (history ∷ more) (suc index) next = ap (λ (left : List (List Event)). drop place history ∷ left) (left_set places more index next)

-- where one place is set past the part that is pushed, that history is moved on
pub place_moved_on : (before : List Event) (start : List (List Event)) (events pushed : List Event) (places : List ℕ) (histories : List (List Event))
    (index next : ℕ) (history : List Event) → length places ≡ length histories → index < length histories → slice_index_or histories index [] ≡ history
    → IsPartPushed events (drop (slice_index_or places index 0) history) pushed (drop next history)
    → IsMovingOn before start events (left_from places histories) index
    → IsMovingOn before start pushed (left_from (slice_set places index next) histories) (index + 1)
place_moved_on before start events pushed places histories index next history all within is part so_far =
    let left = left_from places histories in
    let from = drop (slice_index_or places index 0) history in
    let rest = drop next history in
    let here : slice_index_or left index [] ≡ from = left_at places histories index all within ∙ ap (drop (slice_index_or places index 0)) is in
    let there : slice_set left index rest ≡ left_from (slice_set places index next) histories =
    ap (λ (whole : List Event). slice_set left index (drop next whole)) (sym is) ∙ sym (left_set places histories index next) in
    rw part.first (subst (λ (lefts : List (List Event)). IsMovingOn before start (events ++ part_at from 0) lefts (index + 1)) there
    (subst (λ (begin : List Event). IsMovingOn before start (events ++ part_at begin 0) (slice_set left index rest) (index + 1)) here
    (one_moved_on before start events left index rest (rw (left_length places histories all) within)
    (λ association. part.later association ∙ ap (λ (begin : List Event). part_at begin (suc association)) (sym here)) so_far)))

-- and behind the last, all are
pub places_moved_on : (before : List Event) (start : List (List Event)) (events : List Event) (places : List ℕ) (histories : List (List Event)) (index : ℕ)
    → length places ≡ length histories → length histories ≤ index → IsMovingOn before start events (left_from places histories) index
    → ArePartsPushed before start events (left_from places histories)
places_moved_on before start events places histories index all past so_far =
    all_moved_on before start events (left_from places histories) index (rw (left_length places histories all) past) so_far
