-- Hulls in which the same names are bound.
use Rattle.std.proofs.Common.{◌≡◌, ◌∙◌, ℕ, zero, suc, ◌<◌, ◌≤◌, ◌-◌, ◌+◌, ◌==◌, nat_lt, Bool, true, false, not, if◌then◌else◌, List, [], ◌∷◌, map, inl, inr, refl, sym, ap, subst, arith, below_more, Contains}
use Rattle.std.proofs.Math.Path.{fun_ext}
use Rattle.std.proofs.lemmas.Bool.{cases_lt}
use Rattle.mg_names.specs.declared.context_values.ContextValue.{ContextValue}
use Rattle.mg_names.specs.declared.context_values.ContextValue.TheVariants.{Free}
use Rattle.mg_model.specs.declared.commands.Termination.{Termination}
use Rattle.mg_model.specs.declared.commands.Termination.TheVariants.{Line, Ephemeral}
use Rattle.mg_model.specs.declared.components.Spot.{Spot}
use Rattle.mg_model.specs.declared.components.Spot.TheVariants.{Absent}
use Rattle.mg_model.specs.Configuration.{Configuration, IsWellFormed, is_free, is_present}
use Rattle.mg_model.specs.Entries.{Entry}
use Rattle.mg_model.specs.Script.{Script}
use Rattle.mg_model.specs.Steps.{bound_names}
use Rattle.mg_model.proofs.Built.{same_names}
use Rattle.mg_model.proofs.Cases.{at_another, at_one}
use Rattle.configuration.specs.Config.{configuration_of}
use Rattle.configuration.specs.Packed.{Words}
use Rattle.configuration.proofs.SlotLemmas.{absent_past_eight, free_past_four}
use Rattle.closure.specs.Hulls.{AreOthersKept, HasOne, IsInHull}
use Rattle.closure.specs.Naming.{AreNamedBelow, AreNamedKept, as_other, is_context_bound, is_ephemeral_bound, is_number_bound, named_as, named_at}
use Rattle.closure.proofs.HullLemmas.{one_kept, one_made}

-- ---- the four slots are all

free_either_way : (v w : ContextValue) → v ≡ Free → w ≡ Free → v ≡ as_other (not (is_free v)) (not (is_free w)) v w
free_either_way v w one other = rw (one, other) refl

absent_either_way : (v w : Spot) → v ≡ Absent → w ≡ Absent → v ≡ as_other (is_present v) (is_present w) v w
absent_either_way v w one other = rw (one, other) refl

-- what is set at four slots is as it was past them
pub stays_past : {A : Type 0} (j : ℕ) (v₀ v₁ v₂ v₃ was : A)
    → (if suc (suc (suc (suc j))) == 3 then v₃ else (if suc (suc (suc (suc j))) == 2 then v₂ else (if suc (suc (suc (suc j))) == 1 then v₁ else (if suc (suc (suc (suc j))) == 0 then v₀ else was)))) ≡ was
stays_past j v₀ v₁ v₂ v₃ was =
    at_another 3 (suc (suc (suc (suc j)))) v₃ (if suc (suc (suc (suc j))) == 2 then v₂ else (if suc (suc (suc (suc j))) == 1 then v₁ else (if suc (suc (suc (suc j))) == 0 then v₀ else was))) (λ e. omega (arith, e))
    ∙ at_another 2 (suc (suc (suc (suc j)))) v₂ (if suc (suc (suc (suc j))) == 1 then v₁ else (if suc (suc (suc (suc j))) == 0 then v₀ else was)) (λ e. omega (arith, e))
    ∙ at_another 1 (suc (suc (suc (suc j)))) v₁ (if suc (suc (suc (suc j))) == 0 then v₀ else was) (λ e. omega (arith, e))
    ∙ at_another 0 (suc (suc (suc (suc j)))) v₀ was (λ e. omega (arith, e))

module _ (one d : Configuration) (free : (j : ℕ) → 4 ≤ j → d.context j ≡ Free) (one_free : (j : ℕ) → 4 ≤ j → one.context j ≡ Free)
    (absent : (k : ℕ) → 4 ≤ k → d.spot (Ephemeral k) ≡ Absent) (one_absent : (k : ℕ) → 4 ≤ k → one.spot (Ephemeral k) ≡ Absent) where
  context_at : (j : ℕ) → (named_at one d 3 (named_at one d 2 (named_at one d 1 (named_at one d 0 d)))).context j ≡ (named_as one d).context j
  context_at zero = refl
  context_at (suc zero) = refl
  context_at (suc (suc zero)) = refl
  context_at (suc (suc (suc zero))) = refl
  context_at (suc (suc (suc (suc j)))) =
      stays_past j _ _ _ _ _ ∙ free_either_way (d.context (suc (suc (suc (suc j))))) (one.context (suc (suc (suc (suc j))))) (free (suc (suc (suc (suc j)))) (omega arith))
      (one_free (suc (suc (suc (suc j)))) (omega arith))

  spot_at : (t : Termination) → (named_at one d 3 (named_at one d 2 (named_at one d 1 (named_at one d 0 d)))).spot t ≡ (named_as one d).spot t
  spot_at (Line i) = refl
  spot_at (Ephemeral zero) = refl
  spot_at (Ephemeral (suc zero)) = refl
  spot_at (Ephemeral (suc (suc zero))) = refl
  spot_at (Ephemeral (suc (suc (suc zero)))) = refl
  spot_at (Ephemeral (suc (suc (suc (suc k))))) =
      stays_past k _ _ _ _ _ ∙ absent_either_way (d.spot (Ephemeral (suc (suc (suc (suc k)))))) (one.spot (Ephemeral (suc (suc (suc (suc k))))))
      (absent (suc (suc (suc (suc k)))) (omega arith)) (one_absent (suc (suc (suc (suc k)))) (omega arith))

  pub four_named : named_at one d 3 (named_at one d 2 (named_at one d 1 (named_at one d 0 d))) ≡ named_as one d
  four_named = λ p. record d { context = λ j. context_at j p; spot = λ t. spot_at t p }

-- ---- the same names are bound

context_named : (v w : ContextValue) → not (is_free (as_other (not (is_free v)) (not (is_free w)) v w)) ≡ not (is_free w)
context_named v w = by_tests (not (is_free v)) (not (is_free w)) refl refl
  where
    by_tests : (a b : Bool) → not (is_free v) ≡ a → not (is_free w) ≡ b → not (is_free (as_other a b v w)) ≡ not (is_free w)
    by_tests true true own other = own ∙ sym other
    by_tests true false own other = refl
    by_tests false true own other = refl
    by_tests false false own other = own ∙ sym other

spot_named : (v w : Spot) → is_present (as_other (is_present v) (is_present w) v w) ≡ is_present w
spot_named v w = by_tests (is_present v) (is_present w) refl refl
  where
    by_tests : (a b : Bool) → is_present v ≡ a → is_present w ≡ b → is_present (as_other a b v w) ≡ is_present w
    by_tests true true own other = own ∙ sym other
    by_tests true false own other = refl
    by_tests false true own other = refl
    by_tests false false own other = own ∙ sym other

pub names_as : (one d : Configuration) → bound_names (named_as one d) ≡ bound_names one
names_as one d = same_names (bound_names (named_as one d)) (bound_names one)
    (fun_ext (λ j. context_named (d.context j) (one.context j))) (fun_ext (λ k. spot_named (d.spot (Ephemeral k)) (one.spot (Ephemeral k))))

-- ---- in their hull, where the same names are bound as in the one

own_kept : {A : Type 0} (a b : Bool) (own other : A) → a ≡ b → as_other a b own other ≡ own
own_kept true true own other same = refl
own_kept true false own other same = absurd (cc (same))
own_kept false true own other same = absurd (cc (same))
own_kept false false own other same = refl

pub hull_named : (some : List Configuration) (one c : Configuration) → IsInHull some c
    → ((j : ℕ) → is_context_bound c j ≡ is_context_bound one j) → ((k : ℕ) → is_ephemeral_bound c k ≡ is_ephemeral_bound one k)
    → IsInHull (map (named_as one) some) c
hull_named some one c inside contexts ephemerals =
    let f : Configuration → Configuration = named_as one in
    record {
      state = one_kept some f (λ d. d.state) c.state (λ d. refl) inside.state;
      link = one_kept some f (λ d. d.link) c.link (λ d. refl) inside.link;
      spot = spot;
      mode = λ t. one_kept some f (λ d. d.mode t) (c.mode t) (λ d. refl) (inside.mode t);
      events = λ i. one_kept some f (λ d. d.events i) (c.events i) (λ d. refl) (inside.events i);
      plays = λ i. one_kept some f (λ d. d.plays i) (c.plays i) (λ d. refl) (inside.plays i);
      context = λ j. one_made some f (λ d. d.context j) (c.context j) (λ d. d.context j) (c.context j) (inside.context j)
          (λ d is. own_kept (is_context_bound d j) (is_context_bound one j) (d.context j) (one.context j)
          (ap (λ (v : ContextValue). not (is_free v)) is ∙ contexts j) ∙ is);
      remote = λ k. one_kept some f (λ d. d.remote k) (c.remote k) (λ d. refl) (inside.remote k);
      cut = λ t u. one_kept some f (λ d. d.cut t u) (c.cut t u) (λ d. refl) (inside.cut t u);
    }
  where
    spot : (t : Termination) → HasOne (map (named_as one) some) (λ d. d.spot t) (c.spot t)
    spot (Line i) = one_kept some (named_as one) (λ d. d.spot (Line i)) (c.spot (Line i)) (λ d. refl) (inside.spot (Line i))
    spot (Ephemeral k) = one_made some (named_as one) (λ d. d.spot (Ephemeral k)) (c.spot (Ephemeral k)) (λ d. d.spot (Ephemeral k)) (c.spot (Ephemeral k))
        (inside.spot (Ephemeral k))
        (λ d is. own_kept (is_ephemeral_bound d k) (is_ephemeral_bound one k) (d.spot (Ephemeral k)) (one.spot (Ephemeral k))
        (ap is_present is ∙ ephemerals k) ∙ is)

-- ---- the first few names, and all

pub each_config : (P : Configuration → Type 0) → ((w : Words) → P (configuration_of w)) → (words : List Words) (d : Configuration)
    → Contains (map configuration_of words) d → P d
each_config P each [] d has = absurd (omega (arith, has.1))
each_config P each (w ∷ words) d (zero, lt, is) = subst P is (each w)
each_config P each (w ∷ words) d (suc k, lt, is) = each_config P each words d (k, omega (arith, lt), is)

-- past the fourth slot no name is bound
module _ (words : List Words) (one : Words) (c : Configuration) (inside : IsInHull (map configuration_of words) c)
    (named : AreNamedBelow 8 (configuration_of one) c) where
  free_past : (j : ℕ) → 4 ≤ j → c.context j ≡ Free
  free_past j past = let at = inside.context j in
      sym at.1.1 ∙ each_config (λ (d : Configuration). d.context j ≡ Free) (λ w. free_past_four w j past) words at.0 at.1.0

  absent_past : (k : ℕ) → 4 ≤ k → c.spot (Ephemeral k) ≡ Absent
  absent_past k past = let at = inside.spot (Ephemeral k) in
      sym at.1.1 ∙ each_config (λ (d : Configuration). d.spot (Ephemeral k) ≡ Absent) (λ w. absent_past_eight w (Ephemeral k) (omega (arith, past))) words at.0 at.1.0

  pub contexts_named : (j : ℕ) → is_context_bound c j ≡ is_context_bound (configuration_of one) j
  contexts_named j = elim (cases_lt j 4) [
    | inl lt ↦ let test : nat_lt j 4 ≡ true = grind (arith, lt) in
        subst (λ (b : Bool). (if b then is_context_bound c j else is_ephemeral_bound c (j - 4))
        ≡ (if b then is_context_bound (configuration_of one) j else is_ephemeral_bound (configuration_of one) (j - 4))) test (named j (omega (arith, lt)))
    | inr past ↦ ap (λ (v : ContextValue). not (is_free v)) (free_past j past ∙ sym (free_past_four one j past))
  ]

  pub ephemerals_named : (k : ℕ) → is_ephemeral_bound c k ≡ is_ephemeral_bound (configuration_of one) k
  ephemerals_named k = elim (cases_lt k 4) [
    | inl lt ↦ let test : nat_lt (k + 4) 4 ≡ false = grind arith in
        let number : k + 4 - 4 ≡ k = omega arith in
        subst (λ (m : ℕ). is_ephemeral_bound c m ≡ is_ephemeral_bound (configuration_of one) m) number
        (subst (λ (b : Bool). (if b then is_context_bound c (k + 4) else is_ephemeral_bound c (k + 4 - 4))
        ≡ (if b then is_context_bound (configuration_of one) (k + 4) else is_ephemeral_bound (configuration_of one) (k + 4 - 4))) test
        (named (k + 4) (omega (arith, lt))))
    | inr past ↦ ap is_present (absent_past k past ∙ sym (absent_past_eight one (Ephemeral k) (omega (arith, past))))
  ]

-- two bits that aren't one
other_bit : (a b : Bool) → (a ≡ b → ⊥) → a ≡ not b
other_bit true true apart = absurd (apart refl)
other_bit true false apart = refl
other_bit false true apart = refl
other_bit false false apart = absurd (apart refl)

module _ (script : Script) (entries : List Entry) (some : List Configuration) (n : ℕ) (one : Configuration) (few : n < 8) where
  -- what holds where one name more is bound as in one of two in which it isn't alike holds of all
  pub either_way : (unlike other : Configuration) → (is_number_bound unlike n ≡ is_number_bound one n → ⊥)
      → ((m : ℕ) → m < 8 → is_number_bound other m ≡ (if m == n then is_number_bound unlike m else is_number_bound one m))
      → AreNamedKept script entries some (n + 1) one → AreNamedKept script entries some (n + 1) other → AreNamedKept script entries some n one
  either_way unlike other apart turned first second c inside named = by_test (is_number_bound c n) (is_number_bound one n) refl refl
    where
      as_one : is_number_bound c n ≡ is_number_bound one n → AreNamedBelow (n + 1) one c
      as_one same = below_more (λ (m : ℕ). is_number_bound c m ≡ is_number_bound one m) n named same

      as_that : is_number_bound c n ≡ not (is_number_bound one n) → AreNamedBelow (n + 1) other c
      as_that turns = below_more (λ (m : ℕ). is_number_bound c m ≡ is_number_bound other m) n
          (λ m lt. named m lt ∙ sym (turned m (omega (arith, lt, few)) ∙ at_another n m (is_number_bound unlike m) (is_number_bound one m) (λ e. omega (arith, e, lt))))
          (turns ∙ sym (other_bit (is_number_bound unlike n) (is_number_bound one n) apart)
          ∙ sym (turned n few ∙ at_one n (is_number_bound unlike n) (is_number_bound one n)))

      by_test : (a b : Bool) → is_number_bound c n ≡ a → is_number_bound one n ≡ b → IsWellFormed c → AreOthersKept script entries c
      by_test true true here there = first c inside (as_one (here ∙ sym there))
      by_test true false here there = second c inside (as_that (here ∙ ap not (sym there)))
      by_test false true here there = second c inside (as_that (here ∙ ap not (sym there)))
      by_test false false here there = first c inside (as_one (here ∙ sym there))

  -- a name that is bound alike in each is so in their whole hull
  pub one_way : ((d : Configuration) → Contains some d → is_number_bound d n ≡ is_number_bound one n)
      → AreNamedKept script entries some (n + 1) one → AreNamedKept script entries some n one
  one_way alike kept c inside named =
      kept c inside (below_more (λ (m : ℕ). is_number_bound c m ≡ is_number_bound one m) n named (same (nat_lt n 4) alike))
    where
      same : (b : Bool)
          → ((d : Configuration) → Contains some d → (if b then is_context_bound d n else is_ephemeral_bound d (n - 4))
          ≡ (if b then is_context_bound one n else is_ephemeral_bound one (n - 4)))
          → (if b then is_context_bound c n else is_ephemeral_bound c (n - 4)) ≡ (if b then is_context_bound one n else is_ephemeral_bound one (n - 4))
      same true each = let at = inside.context n in ap (λ (v : ContextValue). not (is_free v)) (sym at.1.1) ∙ each at.0 at.1.0
      same false each = let at = inside.spot (Ephemeral (n - 4)) in ap is_present (sym at.1.1) ∙ each at.0 at.1.0
