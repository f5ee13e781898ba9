-- The names in force: which termination each stands for, where it stands by the configuration, that the names which a legal command uses
-- are in force, and who stands in a context that exists.
use Rattle.mg_safety.proofs.Words.{◌≡◌, ◌∙◌, ◌<◌, ◌≤◌, ◌⊎◌, ℕ, zero, suc, Bool, true, false, not, length, Option, Some, None, is_some, refl, sym, ap, inl, inr}
use Rattle.mg_safety.proofs.Words.{arith, true≢false, ◌==◌, unwrap_or, get_or, list_any, eqb-true, eq-eqb, list_any_at, TermId, Line, Eph, Termination, Spot}
use Rattle.mg_safety.proofs.Words.{Absent, Null, In, Board, exists, place_of, place_in, ContextExists, Configuration, IsWellFormed, is_in, is_null, is_present}
use Rattle.mg_safety.proofs.Words.{is_live, terminations, is_elsewhere, termination_known, Script, IsScript, IsSlot, false_not_true, same_test, some_of}
use Rattle.mg_safety.proofs.Words.{the_some, is_in_is, different}
use Rattle.mg_model.specs.declared.commands.Termination.TheVariants as termination
use Rattle.mg_names.specs.declared.identifiers.LineNo.{LineNo}
use Rattle.mg_safety.proofs.InvariantWords.{Naming, Shown, AreBuilt, row_on, term_of, eph_of, number_at, known_by, term_for, ephemeral_for}
use Rattle.mg_safety.proofs.Shared.Components.{is_in_self, eph_is}

-- ---- names and terminations

-- a name that stands for a termination that exists is read there
pub name_stands : (script : Script) (owned : TermId → Bool) (n : Naming) (b : Board) (c : Configuration) → Shown script owned n b c
    → (t : Termination) → IsSlot script t → (u : TermId) → term_of n t ≡ Some u → exists b u ≡ true
name_stands script owned n b c shown (termination.Line i) slot u e =
    ap (exists b) (sym (the_some (Line (record { 0 = n.lines i })) u e)) ∙ shown.line_stands i slot
name_stands script owned n b c shown (termination.Ephemeral k) slot u e =
    let x = eph_is (n.ephemerals k) u e in ap (exists b) x.2 ∙ shown.ephemeral_stands k x.0 x.1

-- a name of an ephemeral stands for no line
not_line : (o : Option ℕ) (l : LineNo) → eph_of o ≡ Some (Line l) → ⊥
not_line None l e = cc
not_line (Some y) l e = cc

-- no two names stand for one termination
pub names_once : (script : Script) (owned : TermId → Bool) (n : Naming) (b : Board) (c : Configuration) → Shown script owned n b c
    → (t u : Termination) → IsSlot script t → IsSlot script u → (v : TermId) → term_of n t ≡ Some v → term_of n u ≡ Some v → t ≡ u
names_once script owned n b c shown (termination.Line i) (termination.Line j) slot also v e f =
    let one : Line (record { 0 = n.lines i }) ≡ Line (record { 0 = n.lines j }) = the_some _ _ (e ∙ sym f) in
    ap (λ n. termination.Line n) (shown.line_once i j slot also (ap line_number one))
  where
    line_number : TermId → ℕ
    line_number (Line l) = l.0
    line_number (Eph z) = 0
names_once script owned n b c shown (termination.Line i) (termination.Ephemeral k) slot also v e f =
    absurd (not_line (n.ephemerals k) (record { 0 = n.lines i }) (f ∙ sym e))
names_once script owned n b c shown (termination.Ephemeral k) (termination.Line i) slot also v e f =
    absurd (not_line (n.ephemerals k) (record { 0 = n.lines i }) (e ∙ sym f))
names_once script owned n b c shown (termination.Ephemeral k) (termination.Ephemeral l) slot also v e f =
    let x = eph_is (n.ephemerals k) v e in
    let y = eph_is (n.ephemerals l) v f in
    let same : Eph y.0 ≡ Eph x.0 = sym y.2 ∙ x.2 in
    let number : y.0 ≡ x.0 = cc in
    ap (λ n. termination.Ephemeral n) (shown.ephemeral_once k l x.0 x.1 (y.1 ∙ ap (λ z. Some z) number))

-- ---- names in force

-- a context that can't be said not to exist
abbrev pub MayExist : Board → ℕ → Type 0
MayExist b x = (ContextExists b x → ⊥) → ⊥

module _ (n m : Naming) (b : Board) (built : AreBuilt n m b) where
  -- a context that exists has its name in force
  pub context_in_force : (j x : ℕ) → m.contexts j ≡ Some x → MayExist b x → n.contexts j ≡ Some x
  context_in_force j x bound may = go (n.contexts j) refl
    where
      go : (o : Option ℕ) → n.contexts j ≡ o → n.contexts j ≡ Some x
      go None e = absurd (may (built.context_lost j x bound e))
      go (Some y) e = e ∙ sym (built.context j y e) ∙ bound

  -- an ephemeral that exists has its name in force
  pub ephemeral_in_force : (k x : ℕ) → m.ephemerals k ≡ Some x → exists b (Eph x) ≡ true → n.ephemerals k ≡ Some x
  ephemeral_in_force k x bound stands = go (n.ephemerals k) refl
    where
      go : (o : Option ℕ) → n.ephemerals k ≡ o → n.ephemerals k ≡ Some x
      go None e = absurd (true≢false (sym stands ∙ built.ephemeral_lost k x bound e))
      go (Some y) e = e ∙ sym (built.ephemeral k y e) ∙ bound

  -- a termination that exists has its name in force
  pub term_in_force : (t : Termination) → termination_known (known_by m) t ≡ true → exists b (term_for m t) ≡ true → term_of n t ≡ Some (term_for m t)
  term_in_force (termination.Line i) known stands = ap (λ (l : ℕ → ℕ). Some (Line (record { 0 = l i }))) (sym built.lines)
  term_in_force (termination.Ephemeral k) known stands =
      let given = some_of (m.ephemerals k) known in
      let is : ephemeral_for m k ≡ given.0 = ap (λ o. unwrap_or o 0) given.1 in
      ap eph_of (ephemeral_in_force k given.0 given.1 (ap (λ x. exists b (Eph x)) (sym is) ∙ stands)) ∙ ap (λ x. Some (Eph x)) (sym is)

-- ---- places

module _ (script : Script) (owned : TermId → Bool) (n : Naming) (b : Board) (c : Configuration) (shown : Shown script owned n b c) where
  -- a name in a context of the configuration is bound to a number that isn't the null context's
  in_number : (t : Termination) (j : ℕ) → IsSlot script t → c.spot t ≡ In j → (x : ℕ) × (n.contexts j ≡ Some x) × (0 < x)
  in_number t j slot at =
      let x = some_of (n.contexts j) (shown.in_bound t j slot at) in
      (x.0, x.1, (shown.context_real j x.0 x.1).0.0)

  -- what a named termination is by the configuration, from where it stands on the board, and back
  module _ (t : Termination) (u : TermId) (slot : IsSlot script t) (named : term_of n t ≡ Some u) where
    pub place_named : place_of b u ≡ number_at n (c.spot t)
    place_named = sym (ap (λ o. place_in (row_on b o)) named) ∙ shown.place t slot

    pub present_named : is_present (c.spot t) ≡ exists b u
    present_named = sym (shown.stands t slot) ∙ ap (λ o. is_some (row_on b o)) named

    pub null_named : exists b u ≡ true → place_of b u ≡ 0 → is_null (c.spot t) ≡ true
    null_named stands null = go (c.spot t) refl
      where
        go : (s : Spot) → c.spot t ≡ s → is_null s ≡ true
        go Absent e = absurd (false_not_true (sym (ap is_present e) ∙ present_named ∙ stands))
        go Null e = refl
        go (In j) e =
            let x = in_number t j slot e in
            let zero_is : x.0 ≡ 0 = ap (λ o. unwrap_or o 0) (sym x.1) ∙ ap (number_at n) (sym e) ∙ sym place_named ∙ null in
            let positive : 0 < x.0 = x.2 in
            absurd (omega (arith, zero_is, positive))

    pub in_named : (j x : ℕ) → n.contexts j ≡ Some x → place_of b u ≡ x → c.spot t ≡ In j
    in_named j x bound at = go (c.spot t) refl
      where
        positive : 0 < x
        positive = (shown.context_real j x bound).0.0

        go : (s : Spot) → c.spot t ≡ s → c.spot t ≡ In j
        go (In i) e =
            let y = in_number t i slot e in
            let same : y.0 ≡ x = ap (λ o. unwrap_or o 0) (sym y.1) ∙ ap (number_at n) (sym e) ∙ sym place_named ∙ at in
            e ∙ ap (λ k. In k) (shown.context_once i j x (y.1 ∙ ap (λ z. Some z) same) bound)
        go s e = let null : 0 ≡ x = ap (number_at n) (sym e) ∙ sym place_named ∙ at in absurd (omega (arith, null, positive))

    pub placed_named : (j x : ℕ) → n.contexts j ≡ Some x → c.spot t ≡ In j → place_of b u ≡ x
    placed_named j x bound at = place_named ∙ ap (number_at n) at ∙ ap (λ o. unwrap_or o 0) bound

    pub elsewhere_named : (j x : ℕ) → n.contexts j ≡ Some x → (place_of b u ≡ 0 → ⊥) → (place_of b u ≡ x → ⊥) → is_elsewhere (c.spot t) j ≡ true
    elsewhere_named j x bound not_null not_there = go (c.spot t) refl
      where
        go : (s : Spot) → c.spot t ≡ s → is_elsewhere s j ≡ true
        go (In i) e = ap not (different i j (λ same. not_there (place_named ∙ ap (number_at n) e
            ∙ ap (λ k. unwrap_or (n.contexts k) 0) same ∙ ap (λ o. unwrap_or o 0) bound)))
        go s e = absurd (not_null (place_named ∙ ap (number_at n) e))

  -- standing in the context is the same test on the board and in the configuration
  pub same_place : (j x : ℕ) → n.contexts j ≡ Some x → (t : Termination) → IsSlot script t → (u : TermId) → term_of n t ≡ Some u
      → (place_of b u == x) ≡ is_in (c.spot t) j
  same_place j x bound t slot u named = same_test (place_of b u == x) (is_in (c.spot t) j)
      (λ e. is_in_self (c.spot t) j (in_named t u slot named j x bound (eqb-true (place_of b u) x e)))
      (λ e. eq-eqb (place_of b u) x (placed_named t u slot named j x bound (is_in_is (c.spot t) j e)))

-- ---- who stands in a context

-- the first numbers have one that passes the test, or none does
search_below : (test : ℕ → Bool) (k : ℕ) → ((i : ℕ) × (i < k) × (test i ≡ true)) ⊎ ((i : ℕ) → i < k → test i ≡ true → ⊥)
search_below test zero = inr (λ i within. absurd (let below : i < 0 = within in omega (arith, below)))
search_below test (suc k) = elim (search_below test k) [
  | inl found ↦ let below : found.0 < k = found.1 in inl (found.0, omega (arith, below), found.2)
  | inr without ↦ last (test k) refl without
]
  where
    last : (p : Bool) → test k ≡ p → ((i : ℕ) → i < k → test i ≡ true → ⊥)
        → ((i : ℕ) × (i < suc k) × (test i ≡ true)) ⊎ ((i : ℕ) → i < suc k → test i ≡ true → ⊥)
    last true e without = inl (k, omega arith, e)
    last false e without = inr (λ i within passes. at i within passes (i == k) refl)
      where
        at : (i : ℕ) → i < suc k → test i ≡ true → (p : Bool) → (i == k) ≡ p → ⊥
        at i within passes true same = true≢false (sym passes ∙ ap test (eqb-true i k same) ∙ e)
        at i within passes false other =
            let apart : i ≡ k → ⊥ = λ same. true≢false (sym (eq-eqb i k same) ∙ other) in
            without i (omega (arith, within, apart)) passes

module _ (script : Script) (owned : TermId → Bool) (n : Naming) (b : Board) (c : Configuration) (shown : Shown script owned n b c) where
  -- a declared termination stands in a context that exists
  pub someone_in : (j x : ℕ) → n.contexts j ≡ Some x → MayExist b x → (t : Termination) × IsSlot script t × (c.spot t ≡ In j)
  someone_in j x bound may = elim (search_below (λ i. is_in (c.spot (termination.Line i)) j) (length script.lines)) [
    | inl found ↦ (termination.Line found.0, found.1, is_in_is (c.spot (termination.Line found.0)) j found.2)
    | inr no_line ↦ elim (search_below (λ k. is_in (c.spot (termination.Ephemeral k)) j) (length script.ephemerals)) [
      | inl found ↦ (termination.Ephemeral found.0, found.1, is_in_is (c.spot (termination.Ephemeral found.0)) j found.2)
      | inr no_ephemeral ↦ absurd (may (nobody no_line no_ephemeral))
    ]
  ]
    where
      nobody : ((i : ℕ) → i < length script.lines → is_in (c.spot (termination.Line i)) j ≡ true → ⊥)
          → ((k : ℕ) → k < length script.ephemerals → is_in (c.spot (termination.Ephemeral k)) j ≡ true → ⊥) → ContextExists b x → ⊥
      nobody no_line no_ephemeral there =
          let member = shown.members j x there.1.0 bound there.1.1 in
          among member.0 member.1
          (is_in_self (c.spot member.0) j (in_named script owned n b c shown member.0 there.1.0 member.1 member.2 j x bound there.1.1))
        where
          among : (t : Termination) → IsSlot script t → is_in (c.spot t) j ≡ true → ⊥
          among (termination.Line i) = no_line i
          among (termination.Ephemeral k) = no_ephemeral k

  -- who stands in a context of the configuration is owned, and stands in its number
  pub owned_in_context : (j x : ℕ) (t : Termination) → n.contexts j ≡ Some x → IsSlot script t → c.spot t ≡ In j
      → (u : TermId) × (owned u ≡ true) × (place_of b u ≡ x)
  owned_in_context j x t bound slot at = go t slot at
    where
      go : (s : Termination) → IsSlot script s → c.spot s ≡ In j → (u : TermId) × (owned u ≡ true) × (place_of b u ≡ x)
      go (termination.Line i) declared where_it_is =
          (_, shown.line_owned i declared, placed_named script owned n b c shown (termination.Line i) _ declared refl j x bound where_it_is)
      go (termination.Ephemeral k) declared where_it_is = by_name (n.ephemerals k) refl
        where
          by_name : (o : Option ℕ) → n.ephemerals k ≡ o → (u : TermId) × (owned u ≡ true) × (place_of b u ≡ x)
          by_name None e = absurd (false_not_true
              (ap (λ r. is_some (row_on b (eph_of r))) (sym e) ∙ shown.stands (termination.Ephemeral k) declared ∙ ap is_present where_it_is))
          by_name (Some y) e = (
            Eph y,
            shown.ephemeral_owned k y e,
            placed_named script owned n b c shown (termination.Ephemeral k) (Eph y) declared (ap eph_of e) j x bound where_it_is,
          )

-- ---- live contexts

below_four : (P : ℕ → Type 0) → P 0 → P 1 → P 2 → P 3 → (k : ℕ) → k < 4 → P k
below_four P p q r s zero within = p
below_four P p q r s (suc zero) within = q
below_four P p q r s (suc (suc zero)) within = r
below_four P p q r s (suc (suc (suc zero))) within = s
below_four P p q r s (suc (suc (suc (suc k)))) within = absurd (omega (arith, within))

-- one of the eight terminations passes a test
passes_at : (test : Termination → Bool) (place : ℕ) → place < 8 → (t : Termination) → get_or terminations place t ≡ t → test t ≡ true
    → list_any test terminations ≡ true
passes_at test place within t is passes = list_any_at test terminations place t within (ap test is ∙ passes)

some_passes : (script : Script) → IsScript script → (test : Termination → Bool) (t : Termination) → IsSlot script t → test t ≡ true
    → list_any test terminations ≡ true
some_passes script is_script test (termination.Line i) slot passes =
    let most : length script.lines ≤ 4 = is_script.lines in
    below_four (λ k. test (termination.Line k) ≡ true → list_any test terminations ≡ true)
    (passes_at test 0 (omega arith) (termination.Line 0) refl) (passes_at test 1 (omega arith) (termination.Line 1) refl)
    (passes_at test 2 (omega arith) (termination.Line 2) refl) (passes_at test 3 (omega arith) (termination.Line 3) refl) i (omega (arith, slot, most)) passes
some_passes script is_script test (termination.Ephemeral k) slot passes =
    let most : length script.ephemerals ≤ 4 = is_script.ephemerals in
    below_four (λ k. test (termination.Ephemeral k) ≡ true → list_any test terminations ≡ true)
    (passes_at test 4 (omega arith) (termination.Ephemeral 0) refl) (passes_at test 5 (omega arith) (termination.Ephemeral 1) refl)
    (passes_at test 6 (omega arith) (termination.Ephemeral 2) refl) (passes_at test 7 (omega arith) (termination.Ephemeral 3) refl)
    k (omega (arith, slot, most)) passes

-- the context where a declared termination stands is live
pub live_of : (script : Script) → IsScript script → (c : Configuration) → IsWellFormed c → (j : ℕ) (t : Termination) → IsSlot script t
    → c.spot t ≡ In j → is_live (c.context j) ≡ true
live_of script is_script c well_formed j t slot at =
    well_formed.live j ∙ some_passes script is_script (λ s. is_in (c.spot s) j) t slot (is_in_self (c.spot t) j at)

-- a context that exists is live
pub live_context : (script : Script) → IsScript script → (owned : TermId → Bool) (n : Naming) (b : Board) (c : Configuration)
    → Shown script owned n b c → IsWellFormed c → (j x : ℕ) → n.contexts j ≡ Some x → MayExist b x → is_live (c.context j) ≡ true
live_context script is_script owned n b c shown well_formed j x bound may =
    let one = someone_in script owned n b c shown j x bound may in live_of script is_script c well_formed j one.0 one.1 one.2
