-- The merge of several histories, from one association to the next: what is pushed, and what is left, are all.
use Rattle.std.proofs.Common.{◌≡◌, ◌∙◌, ◌+◌, ◌-◌, ◌<◌, ◌≤◌, ◌++◌, ℕ, zero, suc, List, [], ◌∷◌, drop, take, length, map, refl, sym, ap, arith}
use Rattle.std.specs.Prelude.{replicate}
use Rattle.std.proofs.lemmas.List.{append_assoc, take_at}
use Rattle.mg_model.specs.declared.events.Event.{Event}
use Rattle.mg_model.specs.declared.events.Event.TheVariants.{Restart}
use Rattle.mg_model.specs.Shards.{cut_at_restarts, merged, merged_from}
use Rattle.run_account.specs.Merging.{ArePartsPushed, left_from, parts_at}

-- ---- the next association

one_more : (n : ℕ) → n + 1 ≡ suc n
one_more n = omega arith

-- where each association of these is the next one of those, the merge of these is that of those from the next on
merged_later : (those these : List (List Event)) → ((n : ℕ) → parts_at these n ≡ parts_at those (suc n)) → (place restarts : ℕ)
    → merged_from (map cut_at_restarts those) (place + 1) restarts ≡ merged_from (map cut_at_restarts these) place restarts
unfolding merged_from
merged_later those these same place zero = ap (parts_at those) (one_more place) ∙ sym (same place)
merged_later those these same place (suc restarts) =
    ap (λ (first : List Event). first ++ Restart ∷ merged_from (map cut_at_restarts those) (place + 1 + 1) restarts)
    (ap (parts_at those) (one_more place) ∙ sym (same place))
    ∙ ap (λ (rest : List Event). parts_at these place ++ Restart ∷ rest) (merged_later those these same (place + 1) restarts)

-- ---- the merge

-- the events so far, and the merge of what is left, are all
abbrev pub IsMerging : (all events : List Event) → (left : List (List Event)) → (restarts : ℕ) → Type 0
IsMerging all events left restarts = events ++ merged (map cut_at_restarts left) restarts ≡ all

module _ (all before events : List Event) (those these : List (List Event)) where
  -- behind one association and a restart stands the merge of what is left
  next_merged : (restarts : ℕ) → ArePartsPushed before those events these → IsMerging all before those (suc restarts)
      → IsMerging all (events ++ Restart ∷ []) these restarts
  unfolding merged_from
  next_merged restarts pushed so_far =
      append_assoc events (Restart ∷ []) (merged (map cut_at_restarts these) restarts)
      ∙ ap (λ (front : List Event). front ++ Restart ∷ merged (map cut_at_restarts these) restarts) pushed.first
      ∙ append_assoc before (parts_at those 0) (Restart ∷ merged (map cut_at_restarts these) restarts)
      ∙ ap (λ (rest : List Event). before ++ (parts_at those 0 ++ Restart ∷ rest)) (sym (merged_later those these pushed.later 0 restarts))
      ∙ so_far

  -- the same, of so many restarts as have been merged
  pub association_merged : (done restarts : ℕ) → done < restarts → ArePartsPushed before those events these → IsMerging all before those (restarts - done)
      → IsMerging all (events ++ Restart ∷ []) these (restarts - (done + 1))
  association_merged done restarts more pushed so_far =
      let one : restarts - done ≡ suc (restarts - (done + 1)) = omega (arith, more) in
      next_merged (restarts - (done + 1)) pushed (rw (sym one) so_far)

  -- where no restart is left, the association is the last
  pub last_merged : (done restarts : ℕ) → restarts ≤ done → ArePartsPushed before those events these → IsMerging all before those (restarts - done)
      → events ≡ all
  unfolding merged_from
  last_merged done restarts past pushed so_far =
      let none : restarts - done ≡ 0 = omega (arith, past) in
      pushed.first ∙ ap (λ (left : ℕ). before ++ merged (map cut_at_restarts those) left) (sym none) ∙ so_far

-- ---- places

-- from the first places on, all is left
all_left : (histories : List (List Event)) → left_from (replicate (length histories) 0) histories ≡ histories
all_left [] = refl
all_left (history ∷ more) = ap (λ (left : List (List Event)). history ∷ left) (all_left more)

-- so nothing is merged at first
pub none_merged : (events : List Event) (places : List ℕ) (histories : List (List Event)) (restarts : ℕ) → events ≡ []
    → places ≡ replicate (length histories) 0
    → IsMerging (merged (map cut_at_restarts histories) restarts) events (left_from places histories) (restarts - 0)
none_merged events places histories restarts none first =
    let all : restarts - 0 ≡ restarts = omega arith in
    ap (λ (front : List Event). front ++ merged (map cut_at_restarts (left_from places histories)) (restarts - 0)) none
    ∙ ap (λ (left : List (List Event)). merged (map cut_at_restarts left) (restarts - 0))
    (ap (λ (first : List ℕ). left_from first histories) first ∙ all_left histories)
    ∙ ap (merged (map cut_at_restarts histories)) all

-- what a vector holds once a slice of all its places is written
pub written : (places new : List ℕ) (count : ℕ) → length new ≡ count → take count (new ++ drop (length new) places) ≡ new
written places new count all = take_at new (drop (length new) places) count all
