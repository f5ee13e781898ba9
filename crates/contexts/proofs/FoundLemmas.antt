-- The search by what is found: what may be arrived at leads on, and a set that is closed holds every path.
use Rattle.std.proofs.Common.{◌≡◌, ℕ, ◌+◌, ◌<◌, ◌≤◌, ◌==◌, Bool, true, false, not, ◌&&◌, ◌||◌, if◌then◌else◌, IsTrue, refl, sym, ◌∙◌, arith, rules, List, [], ◌∷◌, ◌++◌, append_assoc, length, get_or, set, take, drop, Option, Some, None, ◌⊎◌, inl, inr}
use Rattle.std.proofs.lemmas.Grind.{common_steps}
use Rattle.std.proofs.lemmas.List.Folds.{list_any-append}
use Rattle.std.proofs.lemmas.List.{append-nil, take-append-drop, take_all, take_more, take_more_set}
use Rattle.std.proofs.lemmas.Bool.{and_parts, not-true, or_parts, or_right, or_left, or_cases, eqb-true}
use Rattle.std.specs.List.{list_any}
use Rattle.mg_names.specs.declared.identifiers.TermId.{TermId}
use Rattle.mg_names.specs.declared.identifiers.TermId.TheVariants.{Eph}
use Rattle.mg_model.specs.Board.{Board, same_term, place_of}
use Rattle.mg_model.specs.Members.{is_among}
use Rattle.mg_model.specs.Media.{hops, crosses, goes_over}
use Rattle.mg_model.proofs.Terminations.{same_term_is, same_term_self}
use Rattle.mg_model.proofs.Cases.{same_itself}
use Rattle.contexts.specs.TiedBoard.{stands_in}
use Rattle.contexts.specs.Paths.{Leads, arrival}
use Rattle.contexts.specs.Found.{FoundValue, all_found, noted, noted_if, IsTaken, all_differ, IsFullFor, IsOverfull, ArrivesAtMore, ArrivesNext, arrives_over, MayArrive, IsSpread, IsExplored, IsClosed}
use Rattle.contexts.proofs.TermLemmas.{by_value, not_both}
use Rattle.contexts.proofs.PathLemmas.{both, negated, next_from, arrives, stands_beside, avoids_nothing}

-- ---- what is among numbers

among_first : (xs ys : List ℕ) (i : ℕ) → is_among xs i ≡ true → is_among (xs ++ ys) i ≡ true
among_first xs ys i h = list_any-append (λ (m : ℕ). i == m) xs ys ∙ or_left (is_among xs i) (is_among ys i) h

among_second : (xs ys : List ℕ) (i : ℕ) → is_among ys i ≡ true → is_among (xs ++ ys) i ≡ true
among_second xs ys i h = list_any-append (λ (m : ℕ). i == m) xs ys ∙ or_right (is_among xs i) (is_among ys i) h

among_either : (xs ys : List ℕ) (i : ℕ) → is_among (xs ++ ys) i ≡ true → (is_among xs i ≡ true) ⊎ (is_among ys i ≡ true)
among_either xs ys i h = or_cases (is_among xs i) (is_among ys i) (sym (list_any-append (λ (m : ℕ). i == m) xs ys) ∙ h)

among_one : (i k : ℕ) → is_among (i ∷ []) k ≡ true → k ≡ i
among_one i k h = go (or_cases (k == i) false h)
  where
    go : ((k == i) ≡ true) ⊎ (false ≡ true) → k ≡ i
    go (inl e) = eqb-true k i e
    go (inr e) = absurd (search rules)

among_head : (i : ℕ) (more : List ℕ) → is_among (i ∷ more) i ≡ true
among_head i more = or_left (i == i) (is_among more i) (same_itself i)

-- ---- numbers that differ

neither : (a b : Bool) → a ≡ false → b ≡ false → (a || b) ≡ false
neither true b h k = absurd (search rules)
neither false b h k = k

turned : (i k : ℕ) → (i == k) ≡ false → (k == i) ≡ false
turned i k h = grind (arith, common_steps)

pub differ_with : (i : ℕ) (xs : List ℕ) → IsTrue (all_differ xs) → is_among xs i ≡ false → IsTrue (all_differ (xs ++ i ∷ []))
differ_with i [] h absent = refl
differ_with i (x ∷ xs) h absent =
    let parts = and_parts (not (is_among xs x)) (all_differ xs) h in
    let apart = or_parts (i == x) (is_among xs i) absent in
    let last : is_among (i ∷ []) x ≡ false = neither (x == i) false (turned i x apart.0) refl in
    let new : is_among (xs ++ i ∷ []) x ≡ false = list_any-append (λ (m : ℕ). x == m) xs (i ∷ []) ∙ neither (is_among xs x) (is_among (i ∷ []) x) (not-true _ parts.0) last in
    both (not (is_among (xs ++ i ∷ []) x)) (all_differ (xs ++ i ∷ [])) (negated _ new) (differ_with i xs parts.1 apart.1)

-- one more is written after the first ones
pub differ_set : (i k : ℕ) (xs : List ℕ) → k < length xs → IsTrue (all_differ (take k xs)) → is_among (take k xs) i ≡ false → IsTrue (all_differ (take (k + 1) (set xs k i)))
differ_set i k xs short h absent = rw (take_more_set xs k i short) (differ_with i (take k xs) h absent)

-- all that were found, cut at the next one
pub together : (next : ℕ) (xs : List ℕ) (i : ℕ) → is_among (take next xs ++ drop next xs) i ≡ false → is_among xs i ≡ false
together next xs i h = rw (take-append-drop {A = ℕ} next xs) at h

-- ---- one more is noted

with_one : ℕ → List ℕ → List ℕ
with_one i xs = if is_among xs i then xs else xs ++ i ∷ []

all_noted : (i : ℕ) (found : FoundValue) → all_found (noted i found) ≡ with_one i (all_found found)
unfolding with_one
all_noted i found = go (is_among (all_found found) i)
  where
    go : (b : Bool) → all_found (if b then found else record { done = found.done; ahead = found.ahead ++ i ∷ [] }) ≡ (if b then all_found found else all_found found ++ i ∷ [])
    go true = refl
    go false = sym (append_assoc found.done found.ahead (i ∷ []))

one_keeps : (i k : ℕ) (xs : List ℕ) → is_among xs k ≡ true → is_among (with_one i xs) k ≡ true
unfolding with_one
one_keeps i k xs h = go (is_among xs i)
  where
    go : (b : Bool) → is_among (if b then xs else xs ++ i ∷ []) k ≡ true
    go true = h
    go false = among_first xs (i ∷ []) k h

one_has : (i : ℕ) (xs : List ℕ) → is_among (with_one i xs) i ≡ true
unfolding with_one
one_has i xs = go (is_among xs i) refl
  where
    go : (b : Bool) → is_among xs i ≡ b → is_among (if b then xs else xs ++ i ∷ []) i ≡ true
    go true e = e
    go false e = among_second xs (i ∷ []) i (among_head i [])

one_only : (i k : ℕ) (xs : List ℕ) → is_among (with_one i xs) k ≡ true → (is_among xs k ≡ true) ⊎ (k ≡ i)
unfolding with_one
one_only i k xs = go (is_among xs i)
  where
    last : (is_among xs k ≡ true) ⊎ (is_among (i ∷ []) k ≡ true) → (is_among xs k ≡ true) ⊎ (k ≡ i)
    last (inl h) = inl h
    last (inr h) = inr (among_one i k h)

    go : (b : Bool) → is_among (if b then xs else xs ++ i ∷ []) k ≡ true → (is_among xs k ≡ true) ⊎ (k ≡ i)
    go true h = inl h
    go false h = last (among_either xs (i ∷ []) k h)

noted_done : (i : ℕ) (found : FoundValue) → (noted i found).done ≡ found.done
noted_done i found = go (is_among (all_found found) i)
  where
    go : (b : Bool) → (if b then found else record { done = found.done; ahead = found.ahead ++ i ∷ [] }).done ≡ found.done
    go true = refl
    go false = refl

-- ---- where media arrives next

pub arrival_next : (b : Board) (from t : TermId) (i : ℕ) → arrival b [] from t ≡ Some i → ArrivesNext b from i
arrival_next b from t i h = let next = next_from b [] from t i h in record { by = next.e; hop = next.hop; crossing = next.crossing }

-- what was found so far, by way of terminations
pub record IsSpreadBy (b : Board) (from : TermId) (group : List TermId) (old new : FoundValue) : Type 0 where
  pub done : new.done ≡ old.done
  pub kept : (i : ℕ) → is_among (all_found old) i ≡ true → is_among (all_found new) i ≡ true
  pub arrived : (t : TermId) (i : ℕ) → list_any (same_term t) group ≡ true → arrival b [] from t ≡ Some i → is_among (all_found new) i ≡ true
  pub only : (i : ℕ) → is_among (all_found new) i ≡ true → (is_among (all_found old) i ≡ true) ⊎ ArrivesNext b from i

pub spread_none : (b : Board) (from : TermId) (found : FoundValue) → IsSpreadBy b from [] found found
spread_none b from found = record { done = refl; kept = λ i h. h; arrived = λ t i h a. absurd (search rules); only = λ i h. inl h }

-- what one more termination adds
record Adds (b : Board) (from t : TermId) (old new : FoundValue) : Type 0 where
  pub done : new.done ≡ old.done
  pub kept : (i : ℕ) → is_among (all_found old) i ≡ true → is_among (all_found new) i ≡ true
  pub arrived : (i : ℕ) → arrival b [] from t ≡ Some i → is_among (all_found new) i ≡ true
  pub only : (i : ℕ) → is_among (all_found new) i ≡ true → (is_among (all_found old) i ≡ true) ⊎ ArrivesNext b from i

adds : (b : Board) (from t : TermId) (old : FoundValue) → Adds b from t old (noted_if (arrival b [] from t) old)
adds b from t old = go (arrival b [] from t) refl
  where
    new_one : (k i : ℕ) → arrival b [] from t ≡ Some k → (is_among (all_found old) i ≡ true) ⊎ (i ≡ k) → (is_among (all_found old) i ≡ true) ⊎ ArrivesNext b from i
    new_one k i e (inl h) = inl h
    new_one k i e (inr same) = inr (arrival_next b from t i (rw same e))

    go : (next : Option ℕ) → arrival b [] from t ≡ next → Adds b from t old (noted_if next old)
    go None e = record { done = refl; kept = λ i h. h; arrived = λ i a. let bad : None ≡ Some i = sym e ∙ a in absurd (cc); only = λ i h. inl h }
    go (Some k) e = record {
      done = noted_done k old;
      kept = λ i h. rw (all_noted k old) (one_keeps k i (all_found old) h);
      arrived = λ i a. let same : Some k ≡ Some i = sym e ∙ a in let is : i ≡ k = cc in rw (is, all_noted k old) (one_has k (all_found old));
      only = λ i h. new_one k i e (one_only k i (all_found old) (rw (all_noted k old) at h));
    }

pub spread_one : (b : Board) (from t : TermId) (group : List TermId) (old mid new : FoundValue) → IsSpreadBy b from group old mid → new ≡ noted_if (arrival b [] from t) mid →
    IsSpreadBy b from (group ++ t ∷ []) old new
spread_one b from t group old mid new so_far is = let at : IsSpreadBy b from (group ++ t ∷ []) old (noted_if (arrival b [] from t) mid) = go (adds b from t mid) in rw is at
  where
    before : (i : ℕ) → (is_among (all_found mid) i ≡ true) ⊎ ArrivesNext b from i → (is_among (all_found old) i ≡ true) ⊎ ArrivesNext b from i
    before i (inl h) = so_far.only i h
    before i (inr next) = inr next

    arrived : Adds b from t mid (noted_if (arrival b [] from t) mid) → (u : TermId) (i : ℕ) → (list_any (same_term u) group ≡ true) ⊎ ((same_term u t || false) ≡ true) → arrival b [] from u ≡ Some i →
        is_among (all_found (noted_if (arrival b [] from t) mid)) i ≡ true
    arrived more u i (inl h) a = more.kept i (so_far.arrived u i h a)
    arrived more u i (inr h) a = by_value (same_term u t)
        (λ e. let same : u ≡ t = same_term_is u t e in more.arrived i (rw same at a))
        (λ e. let bad : false ≡ true = rw e at h in absurd (search rules))

    go : Adds b from t mid (noted_if (arrival b [] from t) mid) → IsSpreadBy b from (group ++ t ∷ []) old (noted_if (arrival b [] from t) mid)
    go more = record {
      done = more.done ∙ so_far.done;
      kept = λ i h. more.kept i (so_far.kept i h);
      arrived = λ u i h a. arrived more u i (or_cases (list_any (same_term u) group) (same_term u t || false) (sym (list_any-append (same_term u) group (t ∷ [])) ∙ h)) a;
      only = λ i h. before i (more.only i h);
    }

pub spread_more : (b : Board) (from : TermId) (group : List TermId) (k : ℕ) (t : TermId) (old mid new : FoundValue) → k < length group → IsSpreadBy b from (take k group) old mid →
    new ≡ noted_if (arrival b [] from (get_or group k t)) mid → IsSpreadBy b from (take (k + 1) group) old new
spread_more b from group k t old mid new short so_far is = rw (take_more group k t short) (spread_one b from (get_or group k t) (take k group) old mid new so_far is)

pub spread_to_end : (b : Board) (from : TermId) (group : List TermId) (k : ℕ) (old new : FoundValue) → length group ≤ k → IsSpreadBy b from (take k group) old new → IsSpreadBy b from group old new
spread_to_end b from group k old new long by = rw (take_all k group long) at by

-- the members of the context of a termination are all by which media goes on from it
pub spread_all : (b : Board) (from : TermId) (group : List TermId) (old new : FoundValue) → ((t : TermId) → list_any (same_term t) group ≡ stands_in b.row (place_of b from) t) →
    IsSpreadBy b from group old new → IsSpread b from old new
spread_all b from group old new members by = record {
  done = by.done;
  kept = by.kept;
  arrived = λ i next. by.arrived (Eph next.by) i (members (Eph next.by) ∙ stands_beside b from (Eph next.by) next.hop) (arrives b [] from next.by i next.hop next.crossing refl);
  only = by.only;
}

-- the one that doesn't fit is one more, with all that were found
pub overfull : (b : Board) (most : ℕ) (from t : TermId) (group : List TermId) (old mid : FoundValue) → IsSpreadBy b from group old mid →
    IsFullFor most (arrival b [] from t) mid → IsOverfull b most from old
overfull b most from t group old mid so_far full = go (arrival b [] from t) refl full
  where
    only : (k i : ℕ) → arrival b [] from t ≡ Some k → ((i == k) ≡ true) ⊎ (is_among (all_found mid) i ≡ true) → (is_among (all_found old) i ≡ true) ⊎ ArrivesNext b from i
    only k i e (inl same) = let is : i ≡ k = eqb-true i k same in inr (arrival_next b from t i (rw is e))
    only k i e (inr before) = so_far.only i before

    go : (next : Option ℕ) → arrival b [] from t ≡ next → IsFullFor most next mid → IsOverfull b most from old
    go None e bad = absurd bad
    go (Some k) e is_full = record {
      numbers = k ∷ all_found mid;
      more = let many = is_full.many in omega (arith, many);
      differ = is_full.differ;
      only = λ i h. only k i e (or_cases (i == k) (is_among (all_found mid) i) h);
    }

-- ---- what may be arrived at leads on

pub from_start : (b : Board) (from : TermId) (i : ℕ) → ArrivesNext b from i → MayArrive b from i
from_start b from i next = record {
  crossings = (next.by, i) ∷ [];
  goes = both (hops b from (Eph next.by) && crosses b next.by i) (same_term (Eph i) (Eph i)) (both _ _ next.hop next.crossing) (same_term_self (Eph i));
}

goes_further : (b : Board) (from : TermId) (crossings : List (ℕ × ℕ)) (k i : ℕ) → IsTrue (arrives_over b from crossings k) → ArrivesNext b (Eph k) i → MayArrive b from i
goes_further b from [] k i goes next = let same : from ≡ Eph k = same_term_is from (Eph k) goes in rw same (from_start b (Eph k) i next)
goes_further b from (crossing ∷ more) k i goes next =
    let parts = and_parts (hops b from (Eph crossing.0) && crosses b crossing.0 crossing.1) (arrives_over b (Eph crossing.1) more k) goes in
    let on = goes_further b (Eph crossing.1) more k i parts.1 next in
    record { crossings = crossing ∷ on.crossings; goes = both (hops b from (Eph crossing.0) && crosses b crossing.0 crossing.1) _ parts.0 on.goes }

pub further : (b : Board) (from : TermId) (k i : ℕ) → MayArrive b from k → ArrivesNext b (Eph k) i → MayArrive b from i
further b from k i way next = goes_further b from way.crossings k i way.goes next

goes_to : (b : Board) (from to : TermId) (crossings : List (ℕ × ℕ)) (k : ℕ) → IsTrue (arrives_over b from crossings k) → hops b (Eph k) to ≡ true → IsTrue (goes_over b from crossings to)
goes_to b from to [] k goes hop = let same : from ≡ Eph k = same_term_is from (Eph k) goes in rw same hop
goes_to b from to (crossing ∷ more) k goes hop =
    let parts = and_parts (hops b from (Eph crossing.0) && crosses b crossing.0 crossing.1) (arrives_over b (Eph crossing.1) more k) goes in
    both (hops b from (Eph crossing.0) && crosses b crossing.0 crossing.1) _ parts.0 (goes_to b (Eph crossing.1) to more k parts.1 hop)

pub leads_by_found : (b : Board) (from to : TermId) (k : ℕ) → MayArrive b from k → hops b (Eph k) to ≡ true → Leads b [] from to
leads_by_found b from to k way hop = (way.crossings, avoids_nothing way.crossings, goes_to b from to way.crossings k way.goes hop)

-- ---- a set that is closed holds every path

no_way : (b : Board) (to : TermId) (found : List ℕ) → ((i : ℕ) → is_among found i ≡ true → IsExplored b to found (Eph i)) →
    (from : TermId) (crossings : List (ℕ × ℕ)) → IsExplored b to found from → IsTrue (goes_over b from crossings to) → ⊥
no_way b to found all from [] settled goes = not_both (hops b from to) goes settled.misses
no_way b to found all from (crossing ∷ more) settled goes =
    let parts = and_parts (hops b from (Eph crossing.0) && crosses b crossing.0 crossing.1) (goes_over b (Eph crossing.1) more to) goes in
    let first = and_parts (hops b from (Eph crossing.0)) (crosses b crossing.0 crossing.1) parts.0 in
    no_way b to found all (Eph crossing.1) more (all crossing.1 (settled.arrived crossing.1 (record { by = crossing.0; hop = first.0; crossing = first.1 }))) parts.1

pub closed_misses : (b : Board) (from to : TermId) (found : FoundValue) → IsClosed b from to found → found.ahead ≡ [] → Leads b [] from to → ⊥
closed_misses b from to found closed none way = no_way b to (all_found found) (λ i h. closed.done i (is_done i h)) from way.0 closed.start way.2
  where
    is_done : (i : ℕ) → is_among (all_found found) i ≡ true → is_among found.done i ≡ true
    is_done i h = let at : is_among (found.done ++ []) i ≡ true = rw none at h in rw (append-nil found.done) at at

-- ---- the search as it goes on

larger : (b : Board) (to : TermId) (xs ys : List ℕ) (from : TermId) → ((i : ℕ) → is_among xs i ≡ true → is_among ys i ≡ true) → IsExplored b to xs from → IsExplored b to ys from
larger b to xs ys from kept settled = record { misses = settled.misses; arrived = λ i next. kept i (settled.arrived i next) }

pub closed_start : (b : Board) (from to : TermId) (new : FoundValue) → hops b from to ≡ false → IsSpread b from (record { done = []; ahead = [] }) new → IsClosed b from to new
closed_start b from to new misses spread = record {
  start = record { misses = misses; arrived = spread.arrived };
  done = λ i h. let bad : is_among [] i ≡ true = rw spread.done at h in absurd (search rules);
  sound = λ i h. sound i (spread.only i h);
}
  where
    sound : (i : ℕ) → (is_among [] i ≡ true) ⊎ ArrivesNext b from i → MayArrive b from i
    sound i (inl bad) = absurd (search rules)
    sound i (inr next) = from_start b from i next

-- the one that is taken is among those found, and what was found stays
taken_found : (n : ℕ) (old mid : FoundValue) → IsTaken old mid (Some n) → all_found mid ≡ all_found old
taken_found n old mid taken =
    let seam : (old.done ++ n ∷ []) ++ mid.ahead ≡ old.done ++ n ∷ mid.ahead = append_assoc old.done (n ∷ []) mid.ahead in
    rw (taken.0, taken.1) seam

taken_among : (n : ℕ) (old mid : FoundValue) → IsTaken old mid (Some n) → is_among (all_found old) n ≡ true
taken_among n old mid taken = rw taken.0 (among_second old.done (n ∷ mid.ahead) n (among_head n mid.ahead))

pub found_leads : (b : Board) (from to : TermId) (n : ℕ) (old mid : FoundValue) → IsClosed b from to old → IsTaken old mid (Some n) → hops b (Eph n) to ≡ true → Leads b [] from to
found_leads b from to n old mid closed taken hop = leads_by_found b from to n (closed.sound n (taken_among n old mid taken)) hop

pub closed_step : (b : Board) (from to : TermId) (n : ℕ) (old mid new : FoundValue) → IsClosed b from to old → IsTaken old mid (Some n) → hops b (Eph n) to ≡ false →
    IsSpread b (Eph n) mid new → IsClosed b from to new
closed_step b from to n old mid new closed taken misses spread = record {
  start = larger b to (all_found old) (all_found new) from kept closed.start;
  done = λ i h. done i (among_either old.done (n ∷ []) i (rw (spread.done, taken.1) at h));
  sound = λ i h. sound i (spread.only i h);
}
  where
    kept : (i : ℕ) → is_among (all_found old) i ≡ true → is_among (all_found new) i ≡ true
    kept i h = spread.kept i (rw (taken_found n old mid taken) h)

    done : (i : ℕ) → (is_among old.done i ≡ true) ⊎ (is_among (n ∷ []) i ≡ true) → IsExplored b to (all_found new) (Eph i)
    done i (inl before) = larger b to (all_found old) (all_found new) (Eph i) kept (closed.done i before)
    done i (inr last) = let same : i ≡ n = among_one n i last in rw same (record { misses = misses; arrived = spread.arrived })

    sound : (i : ℕ) → (is_among (all_found mid) i ≡ true) ⊎ ArrivesNext b (Eph n) i → MayArrive b from i
    sound i (inl before) = closed.sound i (rw (taken_found n old mid taken) at before)
    sound i (inr next) = further b from n i (closed.sound n (taken_among n old mid taken)) next

-- ---- where one more doesn't fit

pub more_from_start : (b : Board) (most : ℕ) (from : TermId) → IsOverfull b most from (record { done = []; ahead = [] }) → ArrivesAtMore b most from
more_from_start b most from over = record { numbers = over.numbers; more = over.more; differ = over.differ; sound = λ i h. sound i (over.only i h) }
  where
    sound : (i : ℕ) → (is_among [] i ≡ true) ⊎ ArrivesNext b from i → MayArrive b from i
    sound i (inl bad) = absurd (search rules)
    sound i (inr next) = from_start b from i next

pub more_further : (b : Board) (most : ℕ) (from to : TermId) (n : ℕ) (old mid : FoundValue) → IsClosed b from to old → IsTaken old mid (Some n) → IsOverfull b most (Eph n) mid →
    ArrivesAtMore b most from
more_further b most from to n old mid closed taken over = record { numbers = over.numbers; more = over.more; differ = over.differ; sound = λ i h. sound i (over.only i h) }
  where
    sound : (i : ℕ) → (is_among (all_found mid) i ≡ true) ⊎ ArrivesNext b (Eph n) i → MayArrive b from i
    sound i (inl before) = closed.sound i (rw (taken_found n old mid taken) at before)
    sound i (inr next) = further b from n i (closed.sound n (taken_among n old mid taken)) next
