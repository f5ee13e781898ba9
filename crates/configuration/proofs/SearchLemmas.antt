-- What the words of bits say of the search for a path.
use Rattle.std.proofs.Common.{◌≡◌, ℕ, ◌+◌, ◌*◌, ◌%◌, ◌^◌, ◌<◌, ◌≤◌, ◌==◌, nat_lt, zero, suc, Bool, true, false, ◌||◌, ◌&&◌, ◌∷◌, [], refl, ap, sym, ◌∙◌, arith, IsTrue, ◌↔◌}
use Rattle.std.proofs.lemmas.Grind.{common_steps}
use Rattle.std.specs.List.{list_any}
use Rattle.std.specs.Int.RustNames.{bit_or}
use Rattle.std.specs.Int.Bits.{or_add_and}
use Rattle.std.proofs.lemmas.Nat.{and_le_r}
use Rattle.std.proofs.lemmas.Nat.Bits.{bit_at_above}
use Rattle.mg_model.specs.declared.commands.Termination.TheVariants.{Line, Ephemeral}
use Rattle.mg_model.specs.Configuration.{Configuration}
use Rattle.mg_model.specs.Paths.{hops, crosses}
use Rattle.configuration.specs.Fields.{field_of}
use Rattle.configuration.specs.Bits.{has}
use Rattle.configuration.specs.Codes.{flag_at}
use Rattle.configuration.specs.Places.{AbsentPastEight}
use Rattle.configuration.specs.Words.{termination_at}
use Rattle.configuration.specs.Search.{IsRows, IsCrossings, Goes, reaches, crosses_to, hops_from, is_reached, arrives_at, HasLine}
use Rattle.configuration.proofs.BitLemmas.{has_bit, has_or, has_field, has_one}
use Rattle.configuration.proofs.PathLemmas.{AllArrived, IsClosed, IsArrival, reached_goes, arrives_goes, closed_reaches, goes_on_line}

pub has_above : (x p : ℕ) → x < 256 → 8 ≤ p → has x p ≡ false
has_above x p h l = has_bit x p ∙ ap flag_at (bit_at_above x 8 p h l)

pub has_low : (x n p : ℕ) → has (field_of x 0 n) p ≡ (nat_lt p n && has x p)
has_low x n p = let same : 0 + p ≡ p = omega arith in has_field x 0 n p ∙ ap (λ q. nat_lt p n && has x q) same

pub more_or : (a b : ℕ) → a ≤ bit_or a b
more_or a b = omega (arith, or_add_and a b, and_le_r a b)

pub eight_or : (a b d e f g h k p : ℕ) →
    has (bit_or a (bit_or b (bit_or d (bit_or e (bit_or f (bit_or g (bit_or h k))))))) p
    ≡ (has a p || (has b p || (has d p || (has e p || (has f p || (has g p || (has h p || (has k p || false))))))))
eight_or a b d e f g h k p =
    has_or a _ p ∙ ap (λ x. has a p || x) (has_or b _ p ∙ ap (λ x. has b p || x) (has_or d _ p ∙ ap (λ x. has d p || x)
    (has_or e _ p ∙ ap (λ x. has e p || x) (has_or f _ p ∙ ap (λ x. has f p || x) (has_or g _ p ∙ ap (λ x. has g p || x)
    (has_or h k p ∙ ap (λ x. has h p || x) (or_false (has k p))))))))
  where
    or_false : (b : Bool) → b ≡ (b || false)
    or_false true = refl
    or_false false = refl

pub four_or : (a b d e p : ℕ) → has (bit_or a (bit_or b (bit_or d e))) p ≡ (has a p || (has b p || (has d p || (has e p || false))))
four_or a b d e p =
    has_or a _ p ∙ ap (λ x. has a p || x) (has_or b _ p ∙ ap (λ x. has b p || x) (has_or d e p ∙ ap (λ x. has d p || x) (or_false (has e p))))
  where
    or_false : (b : Bool) → b ≡ (b || false)
    or_false true = refl
    or_false false = refl

pub same_crossings : (x k : ℕ) (m n : ℕ → Bool) → m 0 ≡ n 0 → m 1 ≡ n 1 → m 2 ≡ n 2 → m 3 ≡ n 3 → crosses_to x m k ≡ crosses_to x n k
same_crossings x k m n e f g h = rw (e, f, g, h) refl

pub eight_same : (a b d e f g h k a' b' d' e' f' g' h' k' : Bool) → a ≡ a' → b ≡ b' → d ≡ d' → e ≡ e' → f ≡ f' → g ≡ g' → h ≡ h' → k ≡ k' →
    (a || (b || (d || (e || (f || (g || (h || (k || false)))))))) ≡ (a' || (b' || (d' || (e' || (f' || (g' || (h' || (k' || false))))))))
eight_same a b d e f g h k a' b' d' e' f' g' h' k' p q r s t u v x = rw (p, q, r, s, t, u, v, x) refl

pub four_same : (a b d e a' b' d' e' : Bool) → a ≡ a' → b ≡ b' → d ≡ d' → e ≡ e' →
    (a || (b || (d || (e || false)))) ≡ (a' || (b' || (d' || (e' || false))))
four_same a b d e a' b' d' e' p q r s = rw (p, q, r, s) refl

-- of four, the one line that the mask has
one_line : (p : ℕ → Bool) (line : ℕ) (rest : Bool) → line < 4 →
    ((0 == line && p 0) || ((1 == line && p 1) || ((2 == line && p 2) || ((3 == line && p 3) || rest)))) ≡ (p line || rest)
one_line p zero rest h = refl
one_line p (suc zero) rest h = refl
one_line p (suc (suc zero)) rest h = refl
one_line p (suc (suc (suc zero))) rest h = refl
one_line p (suc (suc (suc (suc i)))) rest h = absurd (omega arith)

-- the ephemerals that a mask has
abbrev pub arrived_in : ℕ → ℕ → Bool
arrived_in mask k = has mask (4 + k)

pub reaches_is : (c : Configuration) (rows mask line u : ℕ) → IsRows c rows → HasLine mask line → line < 4 → u < 8 →
    reaches rows mask u ≡ is_reached c line (arrived_in mask) (termination_at u)
reaches_is c rows mask line u is_rows has_line l h =
    rw (
      is_rows 0 u (omega arith) h,
      is_rows 1 u (omega arith) h,
      is_rows 2 u (omega arith) h,
      is_rows 3 u (omega arith) h,
      is_rows 4 u (omega arith) h,
      is_rows 5 u (omega arith) h,
      is_rows 6 u (omega arith) h,
      is_rows 7 u (omega arith) h,
      has_line 0 (omega arith),
      has_line 1 (omega arith),
      has_line 2 (omega arith),
      has_line 3 (omega arith),
    )
    (one_line (λ t. hops c (Line t) (termination_at u)) line (list_any (hops_from c (arrived_in mask) (termination_at u)) (0 ∷ 1 ∷ 2 ∷ 3 ∷ [])) l)

pub arrives_is : (c : Configuration) (rows crossings mask line k : ℕ) → IsRows c rows → IsCrossings c crossings → HasLine mask line → line < 4 → k < 4 →
    crosses_to crossings (λ e. reaches rows mask (4 + e)) k ≡ arrives_at c line (arrived_in mask) k
arrives_is c rows crossings mask line k is_rows is_crossings has_line l h =
    same_crossings crossings k (λ e. reaches rows mask (4 + e)) (λ e. is_reached c line (arrived_in mask) (Ephemeral e))
    (reaches_is c rows mask line 4 is_rows has_line l (omega arith)) (reaches_is c rows mask line 5 is_rows has_line l (omega arith))
    (reaches_is c rows mask line 6 is_rows has_line l (omega arith)) (reaches_is c rows mask line 7 is_rows has_line l (omega arith))
    ∙ crossed_by (is_crossings 0 k (omega arith) h) (is_crossings 1 k (omega arith) h) (is_crossings 2 k (omega arith) h) (is_crossings 3 k (omega arith) h)
  where
    reached : ℕ → Bool
    reached e = is_reached c line (arrived_in mask) (Ephemeral e)

    crossed_by : has crossings (8 * 0 + k) ≡ crosses c 0 k → has crossings (8 * 1 + k) ≡ crosses c 1 k → has crossings (8 * 2 + k) ≡ crosses c 2 k →
        has crossings (8 * 3 + k) ≡ crosses c 3 k →
        crosses_to crossings (λ e. is_reached c line (arrived_in mask) (Ephemeral e)) k ≡ arrives_at c line (arrived_in mask) k
    crossed_by e f g i = rw (e, f, g, i) refl

-- where the search is: what the mask has is reached, and what comes next
pub record IsSearched (rows crossings line mask more : ℕ) : Type 0 where
  pub small : mask < 256
  pub small_more : more < 256
  pub below : mask ≤ more
  pub start : HasLine mask line
  pub arrived : (c : Configuration) → IsRows c rows → IsCrossings c crossings → AllArrived c line (arrived_in mask)
  pub lines : (t : ℕ) → t < 4 → has more t ≡ has mask t
  pub ephemerals : (k : ℕ) → k < 4 → has more (4 + k) ≡ (has mask (4 + k) || crosses_to crossings (λ e. reaches rows mask (4 + e)) k)

-- an ephemeral of the next mask was arrived at before, or is now
pub next_arrived : (rows crossings line mask more : ℕ) → line < 4 → IsSearched rows crossings line mask more → (c : Configuration) → IsRows c rows →
    IsCrossings c crossings → AllArrived c line (arrived_in more)
next_arrived rows crossings line mask more l found c is_rows is_crossings k h = by_place (nat_lt k 4) refl
  where
    by_mask : k < 4 → (b : Bool) → has mask (4 + k) ≡ b → (b || crosses_to crossings (λ e. reaches rows mask (4 + e)) k) ≡ true → IsArrival c line k
    by_mask small true e g = found.arrived c is_rows is_crossings k e
    by_mask small false e g =
        arrives_goes c line (arrived_in mask) k (found.arrived c is_rows is_crossings)
        (sym (arrives_is c rows crossings mask line k is_rows is_crossings found.start l small) ∙ g)

    by_place : (b : Bool) → nat_lt k 4 ≡ b → IsArrival c line k
    by_place true e =
        let small : k < 4 = grind (arith, common_steps) in
        by_mask small (has mask (4 + k)) refl (sym (found.ephemerals k small) ∙ h)
    by_place false e =
        let past : has more (4 + k) ≡ false = has_above more (4 + k) found.small_more (grind (arith, common_steps)) in
        let bad : true ≡ false = sym h ∙ past in cc

-- where nothing more comes, the mask is closed
pub all_closed : (rows crossings line mask more : ℕ) → line < 4 → IsSearched rows crossings line mask more → mask ≡ more → (c : Configuration) →
    IsRows c rows → IsCrossings c crossings → IsClosed c line (arrived_in mask)
all_closed rows crossings line mask more l found same c is_rows is_crossings k h arrives =
    ap (λ n. has n (4 + k)) same ∙ found.ephemerals k h
    ∙ ap (λ b. has mask (4 + k) || b) (arrives_is c rows crossings mask line k is_rows is_crossings found.start l h ∙ arrives) ∙ or_true (has mask (4 + k))
  where
    or_true : (b : Bool) → (b || true) ≡ true
    or_true true = refl
    or_true false = refl

-- what the closed mask reaches is what a path reaches
pub search_ends : (rows crossings line sink mask more reached : ℕ) → line < 4 → sink < 4 → IsSearched rows crossings line mask more → mask ≡ more →
    has reached sink ≡ reaches rows mask sink → (c : Configuration) → IsRows c rows → IsCrossings c crossings → AbsentPastEight c →
    IsTrue (has reached sink) ↔ Goes c line sink
search_ends rows crossings line sink mask more reached l h found same bit c is_rows is_crossings small =
    let inside : nat_lt sink 4 ≡ true = grind (arith, common_steps) in
    let way : has reached sink ≡ is_reached c line (arrived_in mask) (Line sink) =
    bit ∙ (rw inside at (reaches_is c rows mask line sink is_rows found.start l (omega arith))) in (
      λ yes. reached_goes c line (arrived_in mask) (Line sink) (found.arrived c is_rows is_crossings) (sym way ∙ yes),
      λ path. way ∙ closed_reaches c line (arrived_in mask) small (all_closed rows crossings line mask more l found same c is_rows is_crossings)
          (Line line) path.0 (Line sink) (goes_on_line c line (arrived_in mask)) path.1,
    )

-- the mask of a line alone
pub alone : (line : ℕ) → line < 4 → HasLine (1 * 2 ^ line % 2 ^ 64) line
alone line h t l = has_one line t (omega arith)

pub none_arrived : (rows crossings line : ℕ) → line < 4 → (c : Configuration) → AllArrived c line (arrived_in (1 * 2 ^ line % 2 ^ 64))
none_arrived rows crossings line h c k e =
    let other : (4 + k == line) ≡ false = grind (arith, common_steps) in
    let bad : true ≡ false = sym e ∙ has_one line (4 + k) (omega arith) ∙ other in cc

pub alone_small : (line : ℕ) → line < 4 → 1 * 2 ^ line % 2 ^ 64 < 256
alone_small zero h = omega arith
alone_small (suc zero) h = omega arith
alone_small (suc (suc zero)) h = omega arith
alone_small (suc (suc (suc zero))) h = omega arith
alone_small (suc (suc (suc (suc i)))) h = absurd (omega arith)
