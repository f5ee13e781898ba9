-- A history cut at its restarts: its first association, what comes after it, and how the histories of several go on together from one association
-- to the next.
use Rattle.std.proofs.Common.{◌≡◌, ◌∙◌, ◌+◌, ◌++◌, ℕ, zero, suc, List, [], ◌∷◌, refl, sym, ap, subst, arith, slice_index_or}
use Rattle.mg_merge.proofs.Words.{All, All-tail, Event, History, OfCall, Restart, Runs, Script, World, cut_at_restarts, merged_from, restarts_in, together}
use Rattle.mg_model.proofs.Histories.{first_with, later_with}

-- ---- one history

-- the events before the first restart
abbrev pub before_restart : List Event → List Event
before_restart [] = []
before_restart (OfCall call happens ∷ more) = OfCall call happens ∷ before_restart more
before_restart (Restart ∷ more) = []

-- those from the first restart on
abbrev pub from_restart : List Event → List Event
from_restart [] = []
from_restart (OfCall call happens ∷ more) = from_restart more
from_restart (Restart ∷ more) = Restart ∷ more

-- and those after it
abbrev pub after_restart : List Event → List Event
after_restart [] = []
after_restart (OfCall call happens ∷ more) = after_restart more
after_restart (Restart ∷ more) = more

-- the first part of a history that is cut
first_part : (events : List Event) → slice_index_or (cut_at_restarts events) 0 [] ≡ before_restart events
unfolding cut_at_restarts
first_part [] = refl
first_part (OfCall call happens ∷ more) =
    first_with (OfCall call happens) (cut_at_restarts more) ∙ ap (λ (events : List Event). OfCall call happens ∷ events) (first_part more)
first_part (Restart ∷ more) = refl

nothing_at : (place : ℕ) → slice_index_or (cut_at_restarts []) place [] ≡ []
unfolding cut_at_restarts
nothing_at zero = refl
nothing_at (suc place) = refl

-- the others
later_part : (events : List Event) (place : ℕ) → slice_index_or (cut_at_restarts events) (suc place) [] ≡ slice_index_or (cut_at_restarts (after_restart events)) place []
unfolding cut_at_restarts
later_part [] place = sym (nothing_at place)
later_part (OfCall call happens ∷ more) place = later_with (OfCall call happens) (cut_at_restarts more) place ∙ later_part more place
later_part (Restart ∷ more) place = refl

pub none_left : (events : List Event) → restarts_in events ≡ 0 → from_restart events ≡ []
unfolding restarts_in
none_left [] none = refl
none_left (OfCall call happens ∷ more) none = none_left more none
none_left (Restart ∷ more) none = absurd (let never : suc (restarts_in more) ≡ 0 = none in omega (arith, never))

pub one_left : (events : List Event) (count : ℕ) → restarts_in events ≡ suc count
    → (from_restart events ≡ Restart ∷ after_restart events) × (restarts_in (after_restart events) ≡ count)
unfolding restarts_in
one_left [] count is = absurd (let never : 0 ≡ suc count = is in omega (arith, never))
one_left (OfCall call happens ∷ more) count is = one_left more count is
one_left (Restart ∷ more) count is = (refl, let one : suc (restarts_in more) ≡ suc count = is in omega (arith, one))

pub later_own : (P : Event → Type 0) (events : List Event) → All P events → All P (after_restart events)
later_own P [] all = all
later_own P (OfCall call happens ∷ more) all = later_own P more (All-tail P (OfCall call happens) more all)
later_own P (Restart ∷ more) all = All-tail P Restart more all

-- ---- several

abbrev pub all_cut : List (List Event) → List History
all_cut [] = []
all_cut (events ∷ more) = cut_at_restarts events ∷ all_cut more

abbrev pub all_before : List (List Event) → List Event
all_before [] = []
all_before (events ∷ more) = before_restart events ++ all_before more

abbrev pub all_after : List (List Event) → List (List Event)
all_after [] = []
all_after (events ∷ more) = after_restart events ∷ all_after more

pub first_together : (all : List (List Event)) → together (all_cut all) 0 ≡ all_before all
first_together [] = refl
first_together (events ∷ more) =
    ap (λ (first : List Event). first ++ together (all_cut more) 0) (first_part events)
    ∙ ap (λ (rest : List Event). before_restart events ++ rest) (first_together more)

one_more : (n : ℕ) → n + 1 ≡ suc n
one_more n = omega (arith)

later_together : (all : List (List Event)) (place : ℕ) → together (all_cut all) (place + 1) ≡ together (all_cut (all_after all)) place
later_together [] place = refl
later_together (events ∷ more) place =
    ap (λ (first : List Event). first ++ together (all_cut more) (place + 1))
    (ap (λ (n : ℕ). slice_index_or (cut_at_restarts events) n []) (one_more place) ∙ later_part events place)
    ∙ ap (λ (rest : List Event). slice_index_or (cut_at_restarts (after_restart events)) place [] ++ rest) (later_together more place)

pub later_merged : (all : List (List Event)) (place restarts : ℕ) → merged_from (all_cut all) (place + 1) restarts ≡ merged_from (all_cut (all_after all)) place restarts
unfolding merged_from
later_merged all place zero = later_together all place
later_merged all place (suc restarts) =
    ap (λ (first : List Event). first ++ Restart ∷ merged_from (all_cut all) (place + 1 + 1) restarts) (later_together all place)
    ∙ ap (λ (rest : List Event). together (all_cut (all_after all)) place ++ Restart ∷ rest) (later_merged all (place + 1) restarts)

-- ---- runs

pub runs_after : (script : Script) (first second : List Event) (w between end : World) → Runs script first w between → Runs script second between end
    → Runs script (first ++ second) w end
unfolding Runs
runs_after script [] second w between end is runs = subst (λ (x : World). Runs script second x end) is runs
runs_after script (event ∷ more) second w between end (next, (occurs, rest)) runs = (next, (occurs, runs_after script more second next between end rest runs))
