-- Where media goes from lines that let none in, and from lines that it doesn't leave for an ephemeral.
use Rattle.std.proofs.Common.{◌≡◌, ℕ, zero, suc, ◌+◌, ◌*◌, ◌/◌, ◌<◌, ◌≤◌, ◌==◌, Bool, true, false, nat_lt, not, ◌&&◌, [], ◌∷◌, refl, sym, ap, ◌∙◌, arith, rules, IsTrue, ◌↔◌, inl, inr}
use Rattle.std.proofs.lemmas.Grind.{common_steps}
use Rattle.std.specs.Int.RustNames.{bit_or}
use Rattle.std.specs.Int.Bits.{or_add_and}
use Rattle.std.proofs.lemmas.Nat.{and_le_l}
use Rattle.std.proofs.lemmas.Bool.{and_parts, lt-ltb}
use Rattle.mg_model.specs.declared.commands.Termination.{Termination}
use Rattle.mg_model.specs.declared.commands.Termination.TheVariants.{Line, Ephemeral}
use Rattle.mg_model.specs.declared.components.Spot.{Spot}
use Rattle.mg_model.specs.declared.components.Spot.TheVariants.{Absent, Null, In}
use Rattle.mg_model.specs.Configuration.{Configuration, is_same}
use Rattle.mg_model.specs.Paths.{AreJoined, hops, passes_in, passes_out, is_shared}
use Rattle.configuration.specs.Bits.{has}
use Rattle.configuration.specs.Fields.{field_of}
use Rattle.configuration.specs.Words.{termination_at}
use Rattle.configuration.specs.Places.{AbsentPastEight}
use Rattle.configuration.specs.Search.{IsLineRows, IsCrossings, IsWays, Goes}
use Rattle.configuration.proofs.BitLemmas.{has_none, has_field}
use Rattle.configuration.proofs.SearchLemmas.{more_or}
use Rattle.configuration.proofs.PathLemmas.{past, crosses_small}

more_or_r : (a b : ℕ) → b ≤ bit_or a b
more_or_r a b = omega (arith, or_add_and a b, and_le_l a b)

-- ---- who lets no media in

pieces : (a b d e f : Bool) → (a && b && d && e && f) ≡ true → (b ≡ true) × (d ≡ true)
pieces true true true e f h = (refl, refl)
pieces true true false e f h = absurd cc
pieces true false d e f h = absurd cc
pieces false b d e f h = absurd cc

-- media that hops from one to another comes in at the first, and the two share a context
hop_parts : (c : Configuration) (t u : Termination) → IsTrue (hops c t u) → (is_shared (c.spot t) (c.spot u) ≡ true) × (passes_in (c.mode t) ≡ true)
hop_parts c t u holds = pieces (not (is_same t u)) (is_shared (c.spot t) (c.spot u)) (passes_in (c.mode t)) (passes_out (c.mode u)) (not (c.cut t u)) holds

no_hop : (c : Configuration) (t u : Termination) → passes_in (c.mode t) ≡ false → IsTrue (hops c t u) → ⊥
no_hop c t u none holds = let bad : true ≡ false = sym (hop_parts c t u holds).1 ∙ none in cc

no_way : (c : Configuration) (i j : ℕ) → passes_in (c.mode (Line i)) ≡ false → Goes c i j → ⊥
no_way c i j none ([], way) = no_hop c (Line i) (Line j) none way
no_way c i j none (crossing ∷ more, way) =
    no_hop c (Line i) (Ephemeral crossing.0) none (and_parts _ _ (and_parts _ _ way).0).0

no_bit : (p : ℕ) → IsTrue (has 0 p) → ⊥
no_bit p holds = let bad : true ≡ false = sym holds ∙ has_none p in cc

pub no_ways : (c : Configuration) → ((i : ℕ) → i < 4 → passes_in (c.mode (Line i)) ≡ false) → IsWays c 0
no_ways c none i j hi hj = (
  λ holds. absurd (no_bit (8 * i + j) holds),
  λ way. absurd (no_way c i j (none i hi) way),
)

-- ---- lines alone

not_shared : (s t : Spot) → t ≡ Absent → is_shared s t ≡ false
not_shared Absent t e = refl
not_shared Null t e = refl
not_shared (In j) t e = rw e refl

no_hop_to : (c : Configuration) (t u : Termination) → c.spot u ≡ Absent → IsTrue (hops c t u) → ⊥
no_hop_to c t u gone holds =
    let bad : true ≡ false = sym (hop_parts c t u holds).0 ∙ not_shared (c.spot t) (c.spot u) gone in cc

line_at : (i : ℕ) → i < 4 → termination_at i ≡ Line i
line_at i h = rw (lt-ltb i 4 h) refl

ephemeral_at : (k : ℕ) → k < 4 → termination_at (4 + k) ≡ Ephemeral k
ephemeral_at zero h = refl
ephemeral_at (suc zero) h = refl
ephemeral_at (suc (suc zero)) h = refl
ephemeral_at (suc (suc (suc zero))) h = refl
ephemeral_at (suc (suc (suc (suc k)))) h = absurd (omega arith)

module _ (c : Configuration) (rows : ℕ) (is_rows : IsLineRows c rows) (small : AbsentPastEight c) where
  abbrev Stays : ℕ → Type 0
  Stays i = (k : ℕ) → k < 4 → has rows (8 * i + (4 + k)) ≡ false

  line_bit : (i j : ℕ) → i < 4 → j < 4 → has rows (8 * i + j) ≡ hops c (Line i) (Line j)
  line_bit i j hi hj =
      is_rows i j hi (omega (arith, hj)) ∙ ap (λ t. hops c t (termination_at j)) (line_at i hi) ∙ ap (hops c (Line i)) (line_at j hj)

  ephemeral_bit : (i k : ℕ) → i < 4 → k < 4 → has rows (8 * i + (4 + k)) ≡ hops c (Line i) (Ephemeral k)
  ephemeral_bit i k hi hk =
      is_rows i (4 + k) hi (omega (arith, hk)) ∙ ap (λ t. hops c t (termination_at (4 + k))) (line_at i hi)
      ∙ ap (hops c (Line i)) (ephemeral_at k hk)

  no_ephemeral : (i k : ℕ) → i < 4 → Stays i → IsTrue (hops c (Line i) (Ephemeral k)) → ⊥
  no_ephemeral i k hi none holds = by_place (nat_lt k 4) refl
    where
      by_place : (b : Bool) → nat_lt k 4 ≡ b → ⊥
      by_place true e =
          let below : k < 4 = grind (arith, common_steps) in
          let bad : true ≡ false = sym holds ∙ sym (ephemeral_bit i k hi below) ∙ none k below in cc
      by_place false e = no_hop_to c (Line i) (Ephemeral k) (small (Ephemeral k) (past k e)) holds

  stays : (i j : ℕ) → i < 4 → Stays i → Goes c i j → IsTrue (hops c (Line i) (Line j))
  stays i j hi none ([], way) = way
  stays i j hi none (crossing ∷ more, way) =
      absurd (no_ephemeral i crossing.0 hi none (and_parts _ _ (and_parts _ _ way).0).0)

  pub rows_are_ways : ((i : ℕ) → i < 4 → Stays i) → IsWays c rows
  rows_are_ways none i j hi hj = (
    λ holds. ([], sym (line_bit i j hi hj) ∙ holds),
    λ way. line_bit i j hi hj ∙ stays i j hi (none i hi) way,
  )

  -- where no ephemeral's media crosses, none goes further than a hop
  uncrossed : (crossings i j : ℕ) → IsCrossings c crossings → crossings ≡ 0 → Goes c i j → IsTrue (hops c (Line i) (Line j))
  uncrossed crossings i j are none ([], way) = way
  uncrossed crossings i j are none (crossing ∷ more, way) =
      let crossed = (and_parts _ _ (and_parts _ _ way).0).1 in
      let sizes = crosses_small c crossing.0 crossing.1 small crossed in
      absurd (no_bit (8 * crossing.0 + crossing.1) (sym (ap (λ n. has n (8 * crossing.0 + crossing.1)) none) ∙ are crossing.0 crossing.1 sizes.0 sizes.1 ∙ crossed))

  pub uncrossed_ways : (crossings : ℕ) → IsCrossings c crossings → crossings ≡ 0 → IsWays c rows
  uncrossed_ways crossings are none i j hi hj = (
    λ holds. ([], sym (line_bit i j hi hj) ∙ holds),
    λ way. line_bit i j hi hj ∙ uncrossed crossings i j are none way,
  )

-- ---- bytes

byte : (w v a j : ℕ) → field_of w a 8 ≡ v → j < 4 → has w (a + j) ≡ has v j
byte w v a j e h = sym (has_field w a 8 j ∙ rw (lt-ltb j 8 (omega (arith, h))) refl) ∙ ap (λ n. has n j) e

abbrev pub AreHeard : Configuration → ℕ → ℕ → Type 0
AreHeard c i v = (j : ℕ) → j < 4 → IsTrue (has v j) ↔ Goes c i j

heard_at : (c : Configuration) (w v i : ℕ) → field_of w (8 * i) 8 ≡ v → AreHeard c i v → (j : ℕ) → j < 4 → IsTrue (has w (8 * i + j)) ↔ Goes c i j
heard_at c w v i e are j h =
    let same = byte w v (8 * i) j e h in
    (λ holds. (are j h).0 (sym same ∙ holds), λ way. same ∙ (are j h).1 way)

pub four_ways : (c : Configuration) (w a b d e : ℕ) → field_of w 0 8 ≡ a → field_of w 8 8 ≡ b → field_of w 16 8 ≡ d → field_of w 24 8 ≡ e
    → AreHeard c 0 a → AreHeard c 1 b → AreHeard c 2 d → AreHeard c 3 e → IsWays c w
four_ways c w a b d e fa fb fd fe ha hb hd he zero j hi hj = heard_at c w a 0 fa ha j hj
four_ways c w a b d e fa fb fd fe ha hb hd he (suc zero) j hi hj = heard_at c w b 1 fb hb j hj
four_ways c w a b d e fa fb fd fe ha hb hd he (suc (suc zero)) j hi hj = heard_at c w d 2 fd hd j hj
four_ways c w a b d e fa fb fd fe ha hb hd he (suc (suc (suc zero))) j hi hj = heard_at c w e 3 fe he j hj
four_ways c w a b d e fa fb fd fe ha hb hd he (suc (suc (suc (suc i)))) j hi hj = absurd (omega arith)

-- a field that is nothing has no bit
pub no_bits : (w a k : ℕ) → k < 4 → field_of w a 4 ≡ 0 → has w (a + k) ≡ false
no_bits w a k h e =
    sym (has_field w a 4 k ∙ rw (lt-ltb k 4 h) refl) ∙ ap (λ n. has n k) e ∙ has_none k

pub none_of_four : (a b d e : ℕ) → bit_or (bit_or a b) (bit_or d e) ≡ 0 → (a ≡ 0) × (b ≡ 0) × (d ≡ 0) × (e ≡ 0)
none_of_four a b d e h = (
  omega (arith, h, more_or (bit_or a b) (bit_or d e), more_or a b),
  omega (arith, h, more_or (bit_or a b) (bit_or d e), more_or_r a b),
  omega (arith, h, more_or_r (bit_or a b) (bit_or d e), more_or d e),
  omega (arith, h, more_or_r (bit_or a b) (bit_or d e), more_or_r d e),
)

pub small_of_four : (a b d e : ℕ) → bit_or (bit_or a b) (bit_or d e) < 2 → (a < 2) × (b < 2) × (d < 2) × (e < 2)
small_of_four a b d e h = (
  omega (arith, h, more_or (bit_or a b) (bit_or d e), more_or a b),
  omega (arith, h, more_or (bit_or a b) (bit_or d e), more_or_r a b),
  omega (arith, h, more_or_r (bit_or a b) (bit_or d e), more_or d e),
  omega (arith, h, more_or_r (bit_or a b) (bit_or d e), more_or_r d e),
)

pub no_half : (n : ℕ) → n < 2 → (n / 2 == 1) ≡ false
no_half zero h = refl
no_half (suc zero) h = refl
no_half (suc (suc n)) h = absurd (omega arith)

eq_zero : (n : ℕ) → IsTrue (n == 0) → n ≡ 0
eq_zero zero h = refl
eq_zero (suc n) h = absurd (search rules)

pub four_stay : (w a b d e : ℕ) → a ≡ field_of w 4 4 → b ≡ field_of w 12 4 → d ≡ field_of w 20 4 → e ≡ field_of w 28 4
    → IsTrue (bit_or (bit_or a b) (bit_or d e) == 0) → (i k : ℕ) → i < 4 → k < 4 → has w (8 * i + (4 + k)) ≡ false
four_stay w a b d e fa fb fd fe h i k hi hk = by_line i hi
  where
    none : (a ≡ 0) × (b ≡ 0) × (d ≡ 0) × (e ≡ 0)
    none = none_of_four a b d e (eq_zero (bit_or (bit_or a b) (bit_or d e)) h)

    by_line : (i : ℕ) → i < 4 → has w (8 * i + (4 + k)) ≡ false
    by_line zero l = ap (has w) (omega arith) ∙ no_bits w 4 k hk (sym fa ∙ none.0)
    by_line (suc zero) l = ap (has w) (omega arith) ∙ no_bits w 12 k hk (sym fb ∙ none.1)
    by_line (suc (suc zero)) l = ap (has w) (omega arith) ∙ no_bits w 20 k hk (sym fd ∙ none.2)
    by_line (suc (suc (suc zero))) l = ap (has w) (omega arith) ∙ no_bits w 28 k hk (sym fe ∙ none.3)
    by_line (suc (suc (suc (suc i)))) l = absurd (omega arith)

-- ---- joined lines

one_way : (c : Configuration) (i j : ℕ) → (i ≡ j → ⊥) → Goes c i j → AreJoined c i j
one_way c i j other way = inl (record { another = other; crossings = way.0; goes = way.1 })

other_way : (c : Configuration) (i j : ℕ) → (i ≡ j → ⊥) → Goes c j i → AreJoined c i j
other_way c i j other way = inr (record { another = λ e. other (sym e); crossings = way.0; goes = way.1 })

-- joined, but not the one way
left_over : (c : Configuration) (i j : ℕ) → (Goes c i j → ⊥) → AreJoined c i j → Goes c j i
left_over c i j none (inl path) = absurd (none (path.crossings, path.goes))
left_over c i j none (inr path) = (path.crossings, path.goes)

ruled_out : (b : Bool) (X : Type 0) → b ≡ false → (X → IsTrue b) → X → ⊥
ruled_out b X e h x = let bad : false ≡ true = sym e ∙ h x in cc

pub joined_one_way : (c : Configuration) (i j : ℕ) (b : Bool) → (i ≡ j → ⊥) → IsTrue b ↔ Goes c i j → b ≡ true → IsTrue true ↔ AreJoined c i j
joined_one_way c i j b other ways e = (λ holds. one_way c i j other (ways.0 e), λ joined. search rules)

pub joined_other_way : (c : Configuration) (i j : ℕ) (b d : Bool) → (i ≡ j → ⊥) → IsTrue b ↔ Goes c i j → b ≡ false → IsTrue d ↔ Goes c j i
    → IsTrue d ↔ AreJoined c i j
joined_other_way c i j b d other ways e back = (
  λ holds. other_way c i j other (back.0 holds),
  λ joined. back.1 (left_over c i j (ruled_out b (Goes c i j) e ways.1) joined),
)

nothing_goes : (c : Configuration) (w : ℕ) → w ≡ 0 → IsWays c w → (i j : ℕ) → i < 4 → j < 4 → Goes c i j → ⊥
nothing_goes c w none ways i j hi hj way =
    no_bit (8 * i + j) (sym (ap (λ n. has n (8 * i + j)) none) ∙ (ways i j hi hj).1 way)

-- where no word has a bit, no lines are joined
pub none_joined : (c : Configuration) (w : ℕ) → IsTrue (w == 0) → IsWays c w → (i j : ℕ) → i < 4 → j < 4 → AreJoined c i j → ⊥
none_joined c w h ways i j hi hj (inl path) = nothing_goes c w (eq_zero w h) ways i j hi hj (path.crossings, path.goes)
none_joined c w h ways i j hi hj (inr path) = nothing_goes c w (eq_zero w h) ways j i hj hi (path.crossings, path.goes)
