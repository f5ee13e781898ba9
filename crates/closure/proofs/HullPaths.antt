-- In the hull of some configurations media goes only where it may.
use Rattle.std.proofs.Common.{◌≡◌, ◌∙◌, ℕ, zero, suc, ◌<◌, ◌+◌, ◌-◌, ◌*◌, ◌==◌, ◌&&◌, ◌||◌, Bool, true, false, not, nat_lt, if◌then◌else◌, List, [], ◌∷◌, map, slice_index_or, refl, sym, ap, arith, Contains}
use Rattle.std.specs.List.{list_all, list_any}
use Rattle.std.proofs.lemmas.Bool.{and_from, eqb-true}
use Rattle.std.proofs.lemmas.Grind.{common_steps}
use Rattle.mg_model.specs.declared.commands.Termination.{Termination}
use Rattle.mg_model.specs.declared.commands.Termination.TheVariants.{Line, Ephemeral}
use Rattle.mg_model.specs.declared.components.Remote.{Remote}
use Rattle.mg_model.specs.declared.components.Spot.{Spot}
use Rattle.mg_model.specs.declared.components.Spot.TheVariants.{Absent, Null, In}
use Rattle.mg_model.specs.Configuration.{Configuration, is_in, is_present, is_same, is_to}
use Rattle.mg_model.specs.Paths.{HasPath, crosses, hops, is_shared, passes_in, passes_out}
use Rattle.mg_model.proofs.Cases.{and_first, and_second, denied, not_both, same_itself}
use Rattle.configuration.specs.Codes.{ephemeral_spot_at, line_spot_at}
use Rattle.configuration.specs.Config.{configuration_of}
use Rattle.configuration.specs.Fields.{field_of}
use Rattle.configuration.specs.Packed.{Words}
use Rattle.configuration.specs.Places.{AbsentPastEight}
use Rattle.configuration.specs.Search.{arrives_at, is_reached}
use Rattle.configuration.proofs.PathLemmas.{IsClosed, any_slot_from, closed_reaches, goes_on_line}
use Rattle.configuration.proofs.SlotLemmas.{absent_past_eight}
use Rattle.closure.specs.Hops.{among, is_closed, may_arrive, may_come_in, may_cross, may_go_out, may_hop, may_hop_on, may_name, may_pass, may_reach, may_share, may_stand, names_of}
use Rattle.closure.specs.Hulls.{HasOne, IsInHull}
use Rattle.closure.proofs.NamedHulls.{each_config}

-- what a table of four says of one of them
pub at_four : {A : Type 0} (f : ℕ → A) (xs : List A) (i : ℕ) (d : A) → xs ≡ f 0 ∷ f 1 ∷ f 2 ∷ f 3 ∷ [] → i < 4 → slice_index_or xs i d ≡ f i
at_four f xs zero d is below = ap (λ ys. slice_index_or ys 0 d) is
at_four f xs (suc zero) d is below = ap (λ ys. slice_index_or ys 1 d) is
at_four f xs (suc (suc zero)) d is below = ap (λ ys. slice_index_or ys 2 d) is
at_four f xs (suc (suc (suc zero))) d is below = ap (λ ys. slice_index_or ys 3 d) is
at_four f xs (suc (suc (suc (suc i)))) d is below = absurd (omega (arith, below))

-- the same of a table of tables
pub named_at : (words own : List Words) (names : List (List Bool)) (k i n m : ℕ)
    → names ≡ names_of words 0 ∷ names_of words 1 ∷ names_of words 2 ∷ names_of words 3 ∷ [] → words ≡ own → n ≡ k → m ≡ i → n < 4 → m < 4
    → slice_index_or (slice_index_or names n []) m false ≡ may_name own k i
unfolding names_of
named_at words own names k i n m is same first second one two =
    at_four (may_name words n) (slice_index_or names n []) m false (at_four (names_of words) names n [] is one) two
    ∙ ap (λ (w : List Words). may_name w n m) same ∙ ap (λ (x : ℕ). may_name own x m) first ∙ ap (may_name own k) second

-- ---- tests

or_first : (a b : Bool) → a ≡ true → (a || b) ≡ true
or_first true b e = refl
or_first false b e = absurd (cc (e))

or_second : (a b : Bool) → b ≡ true → (a || b) ≡ true
or_second true b e = refl
or_second false b e = e

either_too : (a b p q : Bool) → (a ≡ true → p ≡ true) → (b ≡ true → q ≡ true) → (a || b) ≡ true → (p || q) ≡ true
either_too true b p q first second e = or_first p q (first refl)
either_too false b p q first second e = or_second p q (second e)

any_too : (p q : ℕ → Bool) (ks : List ℕ) → ((k : ℕ) → p k ≡ true → q k ≡ true) → list_any p ks ≡ true → list_any q ks ≡ true
any_too p q [] each e = absurd (cc (e))
any_too p q (k ∷ ks) each e = either_too (p k) (list_any p ks) (q k) (list_any q ks) (each k) (any_too p q ks each) e

all_four : (p : ℕ → Bool) (k : ℕ) → k < 4 → list_all p (0 ∷ 1 ∷ 2 ∷ 3 ∷ []) ≡ true → p k ≡ true
all_four p zero below e = and_first (p 0) _ e
all_four p (suc zero) below e = and_first (p 1) _ (and_second (p 0) _ e)
all_four p (suc (suc zero)) below e = and_first (p 2) _ (and_second (p 1) _ (and_second (p 0) _ e))
all_four p (suc (suc (suc zero))) below e = and_first (p 3) _ (and_second (p 2) _ (and_second (p 1) _ (and_second (p 0) _ e)))
all_four p (suc (suc (suc (suc k)))) below e = absurd (omega (arith, below))

unless : (a b : Bool) → (a || not b) ≡ true → b ≡ true → a ≡ true
unless true b e holds = refl
unless false b e holds = absurd (not_both holds (denied b e))

-- ---- four contexts

line_below : (n j : ℕ) → is_in (line_spot_at n) j ≡ true → j < 4
line_below n j e = by_zero (n == 0) refl e
  where
    by_five : (b : Bool) → nat_lt n 5 ≡ b → (n == 0) ≡ false → is_in (if b then In (n - 1) else Absent) j ≡ true → j < 4
    by_five true few some here = let is : n - 1 ≡ j = eqb-true (n - 1) j here in grind (arith, common_steps)
    by_five false few some here = absurd (cc (here))

    by_zero : (b : Bool) → (n == 0) ≡ b → is_in (if b then Null else if nat_lt n 5 then In (n - 1) else Absent) j ≡ true → j < 4
    by_zero true none here = absurd (cc (here))
    by_zero false some here = by_five (nat_lt n 5) refl some here

ephemeral_below : (n j : ℕ) → is_in (ephemeral_spot_at n) j ≡ true → j < 4
ephemeral_below n j e = by_zero (n == 0) refl e
  where
    by_five : (b : Bool) → nat_lt n 5 ≡ b → (n == 0) ≡ false → is_in (if b then In (n - 1) else Null) j ≡ true → j < 4
    by_five true few some here = let is : n - 1 ≡ j = eqb-true (n - 1) j here in grind (arith, common_steps)
    by_five false few some here = absurd (cc (here))

    by_zero : (b : Bool) → (n == 0) ≡ b → is_in (if b then Absent else if nat_lt n 5 then In (n - 1) else Null) j ≡ true → j < 4
    by_zero true none here = absurd (cc (here))
    by_zero false some here = by_five (nat_lt n 5) refl some here

if_there : (b : Bool) (spot : Spot) (j : ℕ) → is_in (if b then spot else Absent) j ≡ true → is_in spot j ≡ true
if_there true spot j here = here
if_there false spot j here = absurd (cc (here))

in_four : (w : Words) (t : Termination) (j : ℕ) → is_in ((configuration_of w).spot t) j ≡ true → j < 4
unfolding configuration_of
in_four w (Line i) j here = line_below (field_of w.lines (8 + 11 * i) 3) j (if_there (nat_lt i 4) _ j here)
in_four w (Ephemeral k) j here = ephemeral_below (field_of w.ephemerals (8 * k) 3) j (if_there (nat_lt k 4) _ j here)

pub shared_in : (spot other : Spot) → is_shared spot other ≡ true → (j : ℕ) × ((is_in spot j ≡ true) × (is_in other j ≡ true))
shared_in Absent other e = absurd (cc (e))
shared_in Null other e = absurd (cc (e))
shared_in (In j) other e = (j, (same_itself j, e))

-- ---- what is so in the hull may be so

one_does : (test : Configuration → Bool) (words : List Words) (d : Configuration) → Contains (map configuration_of words) d → test d ≡ true
    → list_any (λ w. test (configuration_of w)) words ≡ true
one_does test [] d has e = absurd (omega (arith, has.1))
one_does test (w ∷ words) d (zero, lt, is) e = or_first (test (configuration_of w)) _ (ap test is ∙ e)
one_does test (w ∷ words) d (suc k, lt, is) e =
    or_second (test (configuration_of w)) _ (one_does test words d (k, omega (arith, lt), is) e)

value_does : {A : Type 0} (of : Configuration → A) (test : A → Bool) (words : List Words) (v : A) → HasOne (map configuration_of words) of v
    → test v ≡ true → list_any (λ w. test (of (configuration_of w))) words ≡ true
value_does of test words v one e = one_does (λ d. test (of d)) words one.0 one.1.0 (ap test one.1.1 ∙ e)

module _ (words : List Words) (c : Configuration) (inside : IsInHull (map configuration_of words) c) where
  absent_past : AbsentPastEight c
  absent_past t past = let at = inside.spot t in
      sym at.1.1 ∙ each_config (λ (d : Configuration). d.spot t ≡ Absent) (λ w. absent_past_eight w t past) words at.0 at.1.0

  stands_below : (t : Termination) (j : ℕ) → is_in (c.spot t) j ≡ true → j < 4
  stands_below t j here = let at = inside.spot t in
      each_config (λ (d : Configuration). is_in (d.spot t) j ≡ true → j < 4) (λ w. in_four w t j) words at.0 at.1.0
      (ap (λ (spot : Spot). is_in spot j) at.1.1 ∙ here)

  stand_too : (t : Termination) (j : ℕ) → is_in (c.spot t) j ≡ true → may_stand words t j ≡ true
  unfolding may_stand
  stand_too t j here = value_does (λ (d : Configuration). d.spot t) (λ (spot : Spot). is_in spot j) words (c.spot t) (inside.spot t) here

  come_in_too : (t : Termination) → passes_in (c.mode t) ≡ true → may_come_in words t ≡ true
  unfolding may_come_in
  come_in_too t passes = value_does (λ (d : Configuration). d.mode t) passes_in words (c.mode t) (inside.mode t) passes

  go_out_too : (t : Termination) → passes_out (c.mode t) ≡ true → may_go_out words t ≡ true
  unfolding may_go_out
  go_out_too t passes = value_does (λ (d : Configuration). d.mode t) passes_out words (c.mode t) (inside.mode t) passes

  name_too : (k i : ℕ) → is_to (c.remote k) i ≡ true → may_name words k i ≡ true
  unfolding may_name
  name_too k i names = value_does (λ (d : Configuration). d.remote k) (λ (remote : Remote). is_to remote i) words (c.remote k) (inside.remote k) names

  pass_too : (t u : Termination) → not (c.cut t u) ≡ true → may_pass words t u ≡ true
  unfolding may_pass
  pass_too t u uncut = value_does (λ (d : Configuration). d.cut t u) not words (c.cut t u) (inside.cut t u) uncut

  share_too : (t u : Termination) → is_shared (c.spot t) (c.spot u) ≡ true → may_share words t u ≡ true
  unfolding may_share
  share_too t u shared =
      let at = shared_in (c.spot t) (c.spot u) shared in
      any_slot_from (λ j. may_stand words t j && may_stand words u j) at.0 (stands_below t at.0 at.1.0)
      (and_from (may_stand words t at.0) (may_stand words u at.0) (stand_too t at.0 at.1.0) (stand_too u at.0 at.1.1))

  hop_too : (t u : Termination) → hops c t u ≡ true → may_hop words t u ≡ true
  unfolding may_hop
  hop_too t u hop =
      let apart = not (is_same t u) in
      let shared = is_shared (c.spot t) (c.spot u) in
      let into = passes_in (c.mode t) in
      let out = passes_out (c.mode u) in
      let uncut = not (c.cut t u) in
      let four = and_first (apart && shared && into && out) uncut hop in
      let three = and_first (apart && shared && into) out four in
      let two = and_first (apart && shared) into three in
      and_from apart _ (and_first apart shared two)
      (and_from (may_come_in words t) _ (come_in_too t (and_second (apart && shared) into three))
      (and_from (may_go_out words u) _ (go_out_too u (and_second (apart && shared && into) out four))
      (and_from (may_share words t u) (may_pass words t u) (share_too t u (and_second apart shared two))
      (pass_too t u (and_second (apart && shared && into && out) uncut hop)))))

  cross_too : (k i : ℕ) → crosses c k i ≡ true → may_cross words k i ≡ true
  unfolding may_cross
  cross_too k i crossed =
      let apart = not (k == i) in
      let here = is_present (c.spot (Ephemeral k)) in
      let there = is_present (c.spot (Ephemeral i)) in
      let onward = is_to (c.remote k) i in
      let back = is_to (c.remote i) k in
      let four = and_first (apart && here && there && onward) back crossed in
      let three = and_first (apart && here && there) onward four in
      and_from apart _ (and_first apart here (and_first (apart && here) there three))
      (and_from (may_name words k i) (may_name words i k) (name_too k i (and_second (apart && here && there) onward four))
      (name_too i k (and_second (apart && here && there && onward) back crossed)))

  hop_on_too : (arrived : List Bool) (sink : Termination) → list_any (λ k. among arrived k && hops c (Ephemeral k) sink) (0 ∷ 1 ∷ 2 ∷ 3 ∷ []) ≡ true
      → may_hop_on words arrived sink ≡ true
  unfolding may_hop_on
  hop_on_too arrived sink =
      any_too (λ k. among arrived k && hops c (Ephemeral k) sink) (λ k. among arrived k && may_hop words (Ephemeral k) sink) (0 ∷ 1 ∷ 2 ∷ 3 ∷ [])
      (λ k both. and_from (among arrived k) (may_hop words (Ephemeral k) sink) (and_first (among arrived k) (hops c (Ephemeral k) sink) both)
      (hop_too (Ephemeral k) sink (and_second (among arrived k) (hops c (Ephemeral k) sink) both)))

  reach_too : (line : ℕ) (arrived : List Bool) (sink : Termination) → is_reached c line (among arrived) sink ≡ true
      → may_reach words line arrived sink ≡ true
  unfolding may_reach
  reach_too line arrived sink =
      either_too (hops c (Line line) sink) (list_any (λ k. among arrived k && hops c (Ephemeral k) sink) (0 ∷ 1 ∷ 2 ∷ 3 ∷ []))
      (may_hop words (Line line) sink) (may_hop_on words arrived sink) (hop_too (Line line) sink) (hop_on_too arrived sink)

  arrive_too : (line : ℕ) (arrived : List Bool) (k : ℕ) → arrives_at c line (among arrived) k ≡ true → may_arrive words line arrived k ≡ true
  unfolding may_arrive
  arrive_too line arrived k =
      any_too (λ source. is_reached c line (among arrived) (Ephemeral source) && crosses c source k)
      (λ source. may_cross words source k && may_reach words line arrived (Ephemeral source)) (0 ∷ 1 ∷ 2 ∷ 3 ∷ [])
      (λ source both.
      let reached = is_reached c line (among arrived) (Ephemeral source) in
      let crossed = crosses c source k in
      and_from (may_cross words source k) (may_reach words line arrived (Ephemeral source)) (cross_too source k (and_second reached crossed both))
      (reach_too line arrived (Ephemeral source) (and_first reached crossed both)))

  closed_too : (line : ℕ) (arrived : List Bool) → is_closed words line arrived ≡ true → IsClosed c line (among arrived)
  unfolding is_closed
  closed_too line arrived closed k below arrives =
      unless (among arrived k) (may_arrive words line arrived k)
      (all_four (λ e. among arrived e || not (may_arrive words line arrived e)) k below closed) (arrive_too line arrived k arrives)

  pub no_path : (line to : ℕ) (arrived : List Bool) → is_closed words line arrived ≡ true → may_reach words line arrived (Line to) ≡ false
      → HasPath c line to → ⊥
  no_path line to arrived closed never path =
      not_both (reach_too line arrived (Line to)
      (closed_reaches c line (among arrived) absent_past (closed_too line arrived closed) (Line line) path.crossings (Line to)
      (goes_on_line c line (among arrived)) path.goes)) never
