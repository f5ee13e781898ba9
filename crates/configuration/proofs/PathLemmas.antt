-- The search for a path: what has been arrived at is reached over some crossings, and a set that nothing new is arrived
-- from holds every path.
use Rattle.std.proofs.Common.{◌≡◌, ℕ, suc, zero, ◌<◌, ◌≤◌, Bool, true, false, ◌&&◌, ◌||◌, List, [], ◌∷◌, ◌++◌, slice_index_or, refl, arith, rules, IsTrue, nat_lt}
use Rattle.std.proofs.lemmas.Grind.{common_steps}
use Rattle.std.proofs.lemmas.Bool.{and_parts, and_from}
use Rattle.std.specs.List.{list_any}
use Rattle.mg_model.specs.declared.commands.Termination.{Termination}
use Rattle.mg_model.specs.declared.commands.Termination.TheVariants.{Line, Ephemeral}
use Rattle.mg_model.specs.declared.components.Spot.TheVariants.{Absent}
use Rattle.mg_model.specs.Configuration.{Configuration, is_present}
use Rattle.mg_model.specs.Paths.{hops, crosses, goes_over}
use Rattle.configuration.specs.Places.{index_of, AbsentPastEight}
use Rattle.configuration.specs.Search.{hops_from, is_reached, crosses_from, arrives_at}

-- each slot stands at its own place
pub slot_at : (k d : ℕ) → k < 4 → slice_index_or (0 ∷ 1 ∷ 2 ∷ 3 ∷ []) k d ≡ k
slot_at zero d h = refl
slot_at (suc zero) d h = refl
slot_at (suc (suc zero)) d h = refl
slot_at (suc (suc (suc zero))) d h = refl
slot_at (suc (suc (suc (suc k)))) d h = absurd (omega arith)

-- media from the line goes over some crossings to whatever the ephemeral hops to
abbrev pub IsArrival : Configuration → ℕ → ℕ → Type 0
IsArrival c line k =
    (crossings : List (ℕ × ℕ)) × ((sink : Termination) → IsTrue (hops c (Ephemeral k) sink) → IsTrue (goes_over c (Line line) crossings sink))

abbrev pub AllArrived : Configuration → ℕ → (ℕ → Bool) → Type 0
AllArrived c line arrived = (k : ℕ) → arrived k ≡ true → IsArrival c line k

-- nothing is arrived at that has not been
abbrev pub IsClosed : Configuration → ℕ → (ℕ → Bool) → Type 0
IsClosed c line arrived = (k : ℕ) → k < 4 → arrives_at c line arrived k ≡ true → arrived k ≡ true

-- a path may be extended by a crossing and a hop
pub goes_over-append : (c : Configuration) (source : Termination) (crossings : List (ℕ × ℕ)) (e k : ℕ) (sink : Termination) →
    IsTrue (goes_over c source crossings (Ephemeral e)) → IsTrue (crosses c e k) → IsTrue (hops c (Ephemeral k) sink) →
    IsTrue (goes_over c source (crossings ++ (e, k) ∷ []) sink)
goes_over-append c source [] e k sink g x h = grind (arith, common_steps)
goes_over-append c source (crossing ∷ more) e k sink g x h =
    let first = and_parts (hops c source (Ephemeral crossing.0) && crosses c crossing.0 crossing.1) (goes_over c (Ephemeral crossing.1) more (Ephemeral e)) g in
    let rest : IsTrue (goes_over c (Ephemeral crossing.1) (more ++ (e, k) ∷ []) sink) = goes_over-append c (Ephemeral crossing.1) more e k sink first.1 x h in
    and_from (hops c source (Ephemeral crossing.0) && crosses c crossing.0 crossing.1) _ first.0 rest

-- some slot passes
pub any_slot : (p : ℕ → Bool) → list_any p (0 ∷ 1 ∷ 2 ∷ 3 ∷ []) ≡ true → (k : ℕ) × (p k ≡ true)
any_slot p h = first (p 0) refl h
  where
    fourth : (b : Bool) → p 3 ≡ b → (b || false) ≡ true → (k : ℕ) × (p k ≡ true)
    fourth true e h = (3, e)
    fourth false e h = cc

    third : (b : Bool) → p 2 ≡ b → (b || (p 3 || false)) ≡ true → (k : ℕ) × (p k ≡ true)
    third true e h = (2, e)
    third false e h = fourth (p 3) refl h

    second : (b : Bool) → p 1 ≡ b → (b || (p 2 || (p 3 || false))) ≡ true → (k : ℕ) × (p k ≡ true)
    second true e h = (1, e)
    second false e h = third (p 2) refl h

    first : (b : Bool) → p 0 ≡ b → (b || (p 1 || (p 2 || (p 3 || false)))) ≡ true → (k : ℕ) × (p k ≡ true)
    first true e h = (0, e)
    first false e h = second (p 1) refl h

pub any_slot_from : (p : ℕ → Bool) (k : ℕ) → k < 4 → p k ≡ true → list_any p (0 ∷ 1 ∷ 2 ∷ 3 ∷ []) ≡ true
any_slot_from p zero l h = grind (arith, common_steps)
any_slot_from p (suc zero) l h = grind (arith, common_steps)
any_slot_from p (suc (suc zero)) l h = grind (arith, common_steps)
any_slot_from p (suc (suc (suc zero))) l h = grind (arith, common_steps)
any_slot_from p (suc (suc (suc (suc k)))) l h = absurd (omega arith)

pub reached_goes : (c : Configuration) (line : ℕ) (arrived : ℕ → Bool) (sink : Termination) → AllArrived c line arrived →
    is_reached c line arrived sink ≡ true → (crossings : List (ℕ × ℕ)) × IsTrue (goes_over c (Line line) crossings sink)
reached_goes c line arrived sink all h = by_test (hops c (Line line) sink) refl h
  where
    by_test : (b : Bool) → hops c (Line line) sink ≡ b → (b || list_any (hops_from c arrived sink) (0 ∷ 1 ∷ 2 ∷ 3 ∷ [])) ≡ true →
        (crossings : List (ℕ × ℕ)) × IsTrue (goes_over c (Line line) crossings sink)
    by_test true e h = ([], search rules)
    by_test false e h =
        let some = any_slot (hops_from c arrived sink) h in
        let parts = and_parts (arrived some.0) (hops c (Ephemeral some.0) sink) some.1 in
        let arrival = all some.0 parts.0 in
        (arrival.0, arrival.1 sink parts.1)

pub arrives_goes : (c : Configuration) (line : ℕ) (arrived : ℕ → Bool) (k : ℕ) → AllArrived c line arrived →
    arrives_at c line arrived k ≡ true → IsArrival c line k
arrives_goes c line arrived k all h =
    let some = any_slot (crosses_from c line arrived k) h in
    let parts = and_parts (is_reached c line arrived (Ephemeral some.0)) (crosses c some.0 k) some.1 in
    let way = reached_goes c line arrived (Ephemeral some.0) all parts.0 in
    (way.0 ++ (some.0, k) ∷ [], λ sink hop. goes_over-append c (Line line) way.0 some.0 k sink way.1 parts.1 hop)

-- whatever an ephemeral that was arrived at hops to is reached
pub goes_on_arrived : (c : Configuration) (line : ℕ) (arrived : ℕ → Bool) (k : ℕ) → k < 4 → arrived k ≡ true →
    (t : Termination) → IsTrue (hops c (Ephemeral k) t) → IsTrue (is_reached c line arrived t)
goes_on_arrived c line arrived k l h t hop =
    let some : list_any (hops_from c arrived t) (0 ∷ 1 ∷ 2 ∷ 3 ∷ []) ≡ true =
    any_slot_from (hops_from c arrived t) k l (and_from (arrived k) (hops c (Ephemeral k) t) h hop) in
    by_test (hops c (Line line) t) some
  where
    by_test : (b : Bool) → list_any (hops_from c arrived t) (0 ∷ 1 ∷ 2 ∷ 3 ∷ []) ≡ true → IsTrue (b || list_any (hops_from c arrived t) (0 ∷ 1 ∷ 2 ∷ 3 ∷ []))
    by_test true some = search rules
    by_test false some = some

pub goes_on_line : (c : Configuration) (line : ℕ) (arrived : ℕ → Bool) (t : Termination) → IsTrue (hops c (Line line) t) →
    IsTrue (is_reached c line arrived t)
goes_on_line c line arrived t hop = grind (arith, common_steps)

-- whatever the source hops to is reached
abbrev pub GoesOn : Configuration → ℕ → (ℕ → Bool) → Termination → Type 0
GoesOn c line arrived source = (t : Termination) → IsTrue (hops c source t) → IsTrue (is_reached c line arrived t)

pub past : (i : ℕ) → nat_lt i 4 ≡ false → 8 ≤ index_of (Ephemeral i)
past i q = grind (arith, common_steps)

pub crosses_small : (c : Configuration) (e k : ℕ) → AbsentPastEight c → IsTrue (crosses c e k) → (e < 4) × (k < 4)
crosses_small c e k small x =
    (by_test e (nat_lt e 4) refl (grind (arith, common_steps)), by_test k (nat_lt k 4) refl (grind (arith, common_steps)))
  where
    by_test : (i : ℕ) (b : Bool) → nat_lt i 4 ≡ b → IsTrue (is_present (c.spot (Ephemeral i))) → i < 4
    by_test i true q p = grind (arith, common_steps)
    by_test i false q p =
        let gone : c.spot (Ephemeral i) ≡ Absent = small (Ephemeral i) (past i q) in
        let bad : IsTrue (is_present Absent) = rw gone at p in absurd (search rules)

pub closed_reaches : (c : Configuration) (line : ℕ) (arrived : ℕ → Bool) → AbsentPastEight c → IsClosed c line arrived →
    (source : Termination) (crossings : List (ℕ × ℕ)) (sink : Termination) → GoesOn c line arrived source →
    IsTrue (goes_over c source crossings sink) → IsTrue (is_reached c line arrived sink)
closed_reaches c line arrived small closed source [] sink on g = on sink g
closed_reaches c line arrived small closed source (crossing ∷ more) sink on g =
    let outer = and_parts (hops c source (Ephemeral crossing.0) && crosses c crossing.0 crossing.1) (goes_over c (Ephemeral crossing.1) more sink) g in
    let inner = and_parts (hops c source (Ephemeral crossing.0)) (crosses c crossing.0 crossing.1) outer.0 in
    let sizes = crosses_small c crossing.0 crossing.1 small inner.1 in
    let reached : IsTrue (is_reached c line arrived (Ephemeral crossing.0)) = on (Ephemeral crossing.0) inner.0 in
    let arrives : arrives_at c line arrived crossing.1 ≡ true =
    any_slot_from (crosses_from c line arrived crossing.1) crossing.0 sizes.0 (and_from (is_reached c line arrived (Ephemeral crossing.0)) _ reached inner.1) in
    let here : arrived crossing.1 ≡ true = closed crossing.1 sizes.1 arrives in
    closed_reaches c line arrived small closed (Ephemeral crossing.1) more sink (goes_on_arrived c line arrived crossing.1 sizes.1 here) outer.1
