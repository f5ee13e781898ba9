-- The search for a path: what it finds is a path, and what it doesn't find isn't there; a trail can't be longer than there are
-- numbers of ephemerals.
use Rattle.std.proofs.Common.{◌≡◌, ℕ, ◌≤◌, ◌<◌, ◌+◌, leb, zero, suc, ◌==◌, nat_eq, Bool, true, false, not, ◌&&◌, ◌||◌, IsTrue, is_some, refl, ap, sym, ◌∙◌, arith, rules, List, [], ◌∷◌, length, drop, Option, Some, None, ◌⊎◌, inl, inr}
use Rattle.std.proofs.lemmas.Grind.{common_steps}
use Rattle.std.proofs.Math.Nat.{mul-le-mul_right}
use Rattle.std.proofs.lemmas.List.{get_or_past}
use Rattle.std.proofs.lemmas.Map.Steps.{length-le_from_distinct_below}
use Rattle.std.proofs.lemmas.Bool.{and_parts, not-true, eqb-true}
use Rattle.std.specs.List.{list_any, IsDistinct, AllByRecursion}
use Rattle.mg_names.specs.declared.identifiers.TermId.{TermId}
use Rattle.mg_names.specs.declared.identifiers.TermId.TheVariants.{Line, Eph}
use Rattle.mg_model.specs.declared.rows.Row.{Row}
use Rattle.mg_model.specs.Board.{Board, same_term, exists, place_of, remote_of}
use Rattle.mg_model.specs.Media.{share_context, hops, is_number, crosses, goes_over}
use Rattle.identifiers.specs.Class as class
use Rattle.identifiers.specs.Class.{key_of, number_at, skipped}
use Rattle.identifiers.specs.Stock.{Stock, slot_at, value_in, at}
use Rattle.identifiers.proofs.ClassLemmas.{number_at-key_of}
use Rattle.contexts.specs.TiedBoard.{stands_in}
use Rattle.contexts.specs.Paths.{is_trail, avoids, Leads, crossed, arrival, LeadsBy, LeadsByOne}
use Rattle.mg_model.specs.Members.{is_among}
use Rattle.mg_model.proofs.Terminations.{same_term_is}
use Rattle.contexts.proofs.TermLemmas.{by_value, not_both}

pub both : (a b : Bool) → a ≡ true → b ≡ true → (a && b) ≡ true
both true b h k = k
both false b h k = absurd (search rules)

pub negated : (b : Bool) → b ≡ false → not b ≡ true
negated b h = rw h refl

-- ---- what is found is a path

pub among_tail : (i j : ℕ) (trail : List ℕ) → is_among (i ∷ trail) j ≡ false → is_among trail j ≡ false
among_tail i j trail h = by_value (j == i) (λ e. let bad : (true || is_among trail j) ≡ false = rw e at h in absurd (search rules)) (λ e. let kept : (false || is_among trail j) ≡ false = rw e at h in kept)

pub avoids_tail : (i : ℕ) (trail : List ℕ) (crossings : List (ℕ × ℕ)) → avoids (i ∷ trail) crossings ≡ true → avoids trail crossings ≡ true
avoids_tail i trail [] h = refl
avoids_tail i trail (crossing ∷ more) h =
    let parts = and_parts (not (is_among (i ∷ trail) crossing.1)) (avoids (i ∷ trail) more) h in
    both _ _ (negated _ (among_tail i crossing.1 trail (not-true _ parts.0))) (avoids_tail i trail more parts.1)

pub record IsNext (b : Board) (trail : List ℕ) (from t : TermId) (i : ℕ) : Type 0 where
  pub e : ℕ
  pub is : t ≡ Eph e
  pub hop : hops b from (Eph e) ≡ true
  pub crossing : crosses b e i ≡ true
  pub new : is_among trail i ≡ false

pub next_from : (b : Board) (trail : List ℕ) (from t : TermId) (i : ℕ) → arrival b trail from t ≡ Some i → IsNext b trail from t i
next_from b trail from (Line l) i h = absurd (search rules)
next_from b trail from (Eph e) i h = by_value (hops b from (Eph e))
    (λ hop. let more : crossed b trail e (remote_of b (Eph e)) ≡ Some i = rw hop at h in go (remote_of b (Eph e)) hop more)
    (λ none. let bad : None ≡ Some i = rw none at h in absurd (search rules))
  where
    go : (remote : Option ℕ) → hops b from (Eph e) ≡ true → crossed b trail e remote ≡ Some i → IsNext b trail from (Eph e) i
    go None hop k = absurd (search rules)
    go (Some j) hop k = by_value (crosses b e j && not (is_among trail j))
        (λ yes_it. let is_some : Some j ≡ Some i = rw yes_it at k in let same : j ≡ i = cc in
        let parts = and_parts (crosses b e j) (not (is_among trail j)) yes_it in
        record { e = e; is = refl; hop = hop; crossing = rw same at parts.0; new = rw same at (not-true _ parts.1) })
        (λ none. let bad : None ≡ Some i = rw none at k in absurd (search rules))

pub leads_from : (b : Board) (trail : List ℕ) (from to t : TermId) → LeadsBy b trail from to t → Leads b trail from to
leads_from b trail from to t by =
    let next = next_from b trail from t by.0 by.1 in
    let way = by.2 in (
      (next.e, by.0) ∷ way.0,
      both _ _ (negated _ next.new) (avoids_tail by.0 trail way.0 way.1),
      both (hops b from (Eph next.e) && crosses b next.e by.0) _ (both _ _ next.hop next.crossing) way.2,
    )

-- ---- what isn't found isn't there

-- a list of crossings either arrives nowhere at i, or its last part goes on from i
pub cut_short : (b : Board) (trail : List ℕ) (i : ℕ) (from to : TermId) (crossings : List (ℕ × ℕ)) → avoids trail crossings ≡ true → goes_over b from crossings to ≡ true →
    (avoids (i ∷ trail) crossings ≡ true) ⊎ Leads b (i ∷ trail) (Eph i) to
cut_short b trail i from to [] a g = inl refl
cut_short b trail i from to (crossing ∷ more) a g =
    let apart = and_parts (not (is_among trail crossing.1)) (avoids trail more) a in
    let parts = and_parts (hops b from (Eph crossing.0) && crosses b crossing.0 crossing.1) (goes_over b (Eph crossing.1) more to) g in
    go (cut_short b trail i (Eph crossing.1) to more apart.1 parts.1) apart.0 parts.1
  where
    go : (avoids (i ∷ trail) more ≡ true) ⊎ Leads b (i ∷ trail) (Eph i) to → not (is_among trail crossing.1) ≡ true → goes_over b (Eph crossing.1) more to ≡ true →
        (avoids (i ∷ trail) (crossing ∷ more) ≡ true) ⊎ Leads b (i ∷ trail) (Eph i) to
    go (inr leads) new g = inr leads
    go (inl avoided) new g = by_value (crossing.1 == i)
        (λ e. let same : crossing.1 ≡ i = eqb-true _ _ e in let at : goes_over b (Eph i) more to ≡ true = rw same at g in inr (more, avoided, at))
        (λ e. let absent : is_among (i ∷ trail) crossing.1 ≡ false = rw e (not-true _ new) in inl (both _ _ (negated _ absent) avoided))

pub leads_on : (b : Board) (trail : List ℕ) (i : ℕ) (to : TermId) (crossings : List (ℕ × ℕ)) → avoids trail crossings ≡ true → goes_over b (Eph i) crossings to ≡ true →
    Leads b (i ∷ trail) (Eph i) to
leads_on b trail i to crossings a g = go (cut_short b trail i (Eph i) to crossings a g)
  where
    go : (avoids (i ∷ trail) crossings ≡ true) ⊎ Leads b (i ∷ trail) (Eph i) to → Leads b (i ∷ trail) (Eph i) to
    go (inl avoided) = (crossings, avoided, g)
    go (inr leads) = leads

-- an ephemeral that crosses names the other one
pub crosses_to : (b : Board) (e i : ℕ) → crosses b e i ≡ true → remote_of b (Eph e) ≡ Some i
crosses_to b e i h =
    let first = and_parts (not (e == i) && exists b (Eph e) && exists b (Eph i) && is_number (remote_of b (Eph e)) i) (is_number (remote_of b (Eph i)) e) h in
    let second = and_parts (not (e == i) && exists b (Eph e) && exists b (Eph i)) (is_number (remote_of b (Eph e)) i) first.0 in
    go (remote_of b (Eph e)) second.1
  where
    go : (remote : Option ℕ) → is_number remote i ≡ true → remote ≡ Some i
    go None k = absurd (search rules)
    go (Some j) k = ap Some (eqb-true j i k)

pub exists_beyond : (b : Board) (e i : ℕ) → crosses b e i ≡ true → exists b (Eph i) ≡ true
exists_beyond b e i h =
    let first = and_parts (not (e == i) && exists b (Eph e) && exists b (Eph i) && is_number (remote_of b (Eph e)) i) (is_number (remote_of b (Eph i)) e) h in
    let second = and_parts (not (e == i) && exists b (Eph e) && exists b (Eph i)) (is_number (remote_of b (Eph e)) i) first.0 in
    (and_parts (not (e == i) && exists b (Eph e)) (exists b (Eph i)) second.0).1

pub arrives : (b : Board) (trail : List ℕ) (from : TermId) (e i : ℕ) → hops b from (Eph e) ≡ true → crosses b e i ≡ true → is_among trail i ≡ false →
    arrival b trail from (Eph e) ≡ Some i
arrives b trail from e i hop crossing new = rw (hop, crosses_to b e i crossing, crossing, new) refl

-- what is in a group leads on by one of it
pub by_one : (b : Board) (trail : List ℕ) (from to t : TermId) (group : List TermId) → list_any (same_term t) group ≡ true → LeadsBy b trail from to t →
    LeadsByOne b trail from to group
by_one b trail from to t [] h by = absurd (search rules)
by_one b trail from to t (u ∷ group) h by = by_value (same_term t u)
    (λ e. let same : t ≡ u = same_term_is t u e in let at : LeadsBy b trail from to u = rw same at by in inl at)
    (λ e. let more : list_any (same_term t) group ≡ true = rw e at h in inr (by_one b trail from to t group more by))

pub hop_shares : (b : Board) (t u : TermId) → hops b t u ≡ true → share_context b t u ≡ true
hop_shares b t u h = by_value (share_context b t u) (λ e. e) (λ e. let bad = rw e at h in absurd (grind (arith, common_steps)))

pub stands_beside : (b : Board) (t u : TermId) → hops b t u ≡ true → stands_in b.row (place_of b t) u ≡ true
stands_beside b t u h = go (place_of b t) (place_of b u) (hop_shares b t u h)
  where
    go : (c d : ℕ) → (not (c == 0) && c == d) ≡ true → (not (c == 0) && d == c) ≡ true
    go c d k = grind (arith, common_steps)

pub leads_by_one : (b : Board) (trail : List ℕ) (from to : TermId) (group : List TermId) → ((t : TermId) → list_any (same_term t) group ≡ stands_in b.row (place_of b from) t) →
    hops b from to ≡ false → Leads b trail from to → LeadsByOne b trail from to group
leads_by_one b trail from to group members no_hop ([], a, g) = not_both (hops b from to) g no_hop
leads_by_one b trail from to group members no_hop ((crossing ∷ more), a, g) =
    let apart = and_parts (not (is_among trail crossing.1)) (avoids trail more) a in
    let outer = and_parts (hops b from (Eph crossing.0) && crosses b crossing.0 crossing.1) (goes_over b (Eph crossing.1) more to) g in
    let inner = and_parts (hops b from (Eph crossing.0)) (crosses b crossing.0 crossing.1) outer.0 in
    by_one b trail from to (Eph crossing.0) group (members (Eph crossing.0) ∙ stands_beside b from (Eph crossing.0) inner.0)
    (crossing.1, arrives b trail from crossing.0 crossing.1 inner.0 inner.1 (not-true _ apart.0), leads_on b trail crossing.1 to more apart.1 outer.1)

-- ---- paths

pub avoids_nothing : (crossings : List (ℕ × ℕ)) → avoids [] crossings ≡ true
avoids_nothing [] = refl
avoids_nothing (crossing ∷ more) = avoids_nothing more

-- ---- a trail grows by what is new

pub trail_grows : (b : Board) (trail : List ℕ) (from t : TermId) (i : ℕ) → IsTrue (is_trail b trail) → arrival b trail from t ≡ Some i → IsTrue (is_trail b (i ∷ trail))
trail_grows b trail from t i sound h =
    let next = next_from b trail from t i h in
    both (not (is_among trail i) && exists b (Eph i)) _ (both _ _ (negated _ next.new) (exists_beyond b next.e i next.crossing)) sound

-- ---- a trail is no longer than the list of the ephemerals

none_equal : (i : ℕ) (before : List ℕ) → is_among before i ≡ false → AllByRecursion (λ y. nat_eq i y ≡ false) before
none_equal i [] h = tt
none_equal i (j ∷ before) h = by_value (nat_eq i j)
    (λ e. let bad : (true || is_among before i) ≡ false = rw e at h in absurd (search rules))
    (λ e. let more : (false || is_among before i) ≡ false = rw e at h in (e, none_equal i before more))

distinct : (b : Board) (trail : List ℕ) → is_trail b trail ≡ true → IsDistinct nat_eq trail
unfolding IsDistinct
distinct b [] h = tt
distinct b (i ∷ before) h =
    let outer = and_parts (not (is_among before i) && exists b (Eph i)) (is_trail b before) h in
    let inner = and_parts (not (is_among before i)) (exists b (Eph i)) outer.0 in
    (none_equal i before (not-true _ inner.0), distinct b before outer.1)

on_trail : (b : Board) (trail : List ℕ) (q : ℕ) → is_trail b trail ≡ true → list_any (nat_eq q) trail ≡ true → exists b (Eph q) ≡ true
on_trail b [] q h k = absurd (search rules)
on_trail b (i ∷ before) q h k =
    let outer = and_parts (not (is_among before i) && exists b (Eph i)) (is_trail b before) h in
    let inner = and_parts (not (is_among before i)) (exists b (Eph i)) outer.0 in
    by_value (nat_eq q i)
    (λ e. let same : q ≡ i = eqb-true q i e in rw same inner.1)
    (λ e. let more : list_any (nat_eq q) before ≡ true = rw e at k in on_trail b before q outer.1 more)

-- no ephemeral has a number past that of the last key
abbrev pub most : Stock Row → ℕ
most ephemerals = number_at ephemerals.class (length ephemerals.slots) + 1

pub trail_fits : (b : Board) (ephemerals : Stock Row) (trail : List ℕ) → ((k : ℕ) → b.row (Eph k) ≡ at ephemerals k) → is_trail b trail ≡ true → length trail ≤ most ephemerals
trail_fits b ephemerals trail rows h = length-le_from_distinct_below trail (most ephemerals) (distinct b trail h) (λ q k. below q (ap is_some (sym (rows q)) ∙ on_trail b trail q h k))
  where
    slot : (o : Option (Option Row)) → is_some (value_in o) ≡ true → o ≡ None → ⊥
    slot None e none = absurd (search rules)
    slot (Some o) e none = cc

    within : (q : ℕ) → class.is_number ephemerals.class q ≡ true → is_some (at ephemerals q) ≡ true → (length ephemerals.slots ≤ key_of ephemerals.class q) → ⊥
    within q is e past =
        let found : is_some (value_in (slot_at ephemerals.slots (key_of ephemerals.class q))) ≡ true = rw is at e in
        slot _ found (get_or_past ephemerals.slots (key_of ephemerals.class q) None past)

    rises : (q : ℕ) → key_of ephemerals.class q ≤ length ephemerals.slots → number_at ephemerals.class (key_of ephemerals.class q) ≤ number_at ephemerals.class (length ephemerals.slots)
    rises q h =
        let keys : key_of ephemerals.class q + skipped ephemerals.class.first ≤ length ephemerals.slots + skipped ephemerals.class.first = omega (arith, h) in
        let more = mul-le-mul_right ephemerals.class.stride keys in
        omega (arith, more)

    below : (q : ℕ) → is_some (at ephemerals q) ≡ true → q < most ephemerals
    below q e = by_value (class.is_number ephemerals.class q)
        (λ is. let key : key_of ephemerals.class q ≤ length ephemerals.slots = not_above _ _ (within q is e) in
        let more = rises q key in let same = number_at-key_of ephemerals.class q is in omega (arith, more, same))
        (λ is. let bad : false ≡ true = rw is at e in absurd (search rules))
      where
        not_above : (k n : ℕ) → (n ≤ k → ⊥) → k ≤ n
        not_above k n h = by_value (leb k n) (λ e. grind (arith, common_steps)) (λ e. absurd (h (grind (arith, common_steps))))

pub none_left : (b : Board) (trail : List ℕ) (from to : TermId) (group : List TermId) (k : ℕ) → length group ≤ k → LeadsByOne b trail from to (drop k group) → ⊥
none_left b trail from to [] zero h by = by
none_left b trail from to [] (suc k) h by = by
none_left b trail from to (t ∷ group) zero h by = absurd (omega (arith, h))
none_left b trail from to (t ∷ group) (suc k) h by = none_left b trail from to group k (omega (arith, h)) by
