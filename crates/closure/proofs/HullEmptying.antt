-- What `subtract CONTEXT *` makes of all in the hull of some configurations, whoever stands in the context.
use Rattle.std.proofs.Common.{◌≡◌, ◌∙◌, ℕ, zero, suc, ◌≤◌, ◌||◌, Bool, true, false, if◌then◌else◌, List, [], ◌∷◌, map, refl, sym, ap, subst, arith, IsTrue, Contains}
use Rattle.std.proofs.Math.Path.{fun_ext}
use Rattle.std.proofs.lemmas.Grind.{common_steps}
use Rattle.mg_names.specs.declared.context_values.ContextValue.TheVariants.{Free}
use Rattle.mg_names.specs.declared.modes.Mode.TheVariants.{Inactive}
use Rattle.mg_model.specs.declared.commands.Command.TheVariants.{SubtractAll}
use Rattle.mg_model.specs.declared.commands.EventsName.TheVariants.{Empty}
use Rattle.mg_model.specs.declared.commands.Termination.{Termination}
use Rattle.mg_model.specs.declared.commands.Termination.TheVariants.{Line, Ephemeral}
use Rattle.mg_model.specs.declared.components.Remote.{Remote}
use Rattle.mg_model.specs.declared.components.Remote.TheVariants.{Unset, Gone, To}
use Rattle.mg_model.specs.declared.components.Spot.{Spot}
use Rattle.mg_model.specs.declared.components.Spot.TheVariants.{Absent}
use Rattle.mg_model.specs.Script.{Script}
use Rattle.mg_model.specs.Configuration.{Configuration, is_in, is_same, terminations}
use Rattle.mg_model.specs.Effects.{remote_after, spot_after, without_terminations}
use Rattle.mg_model.specs.Updates.{with_at}
use Rattle.mg_model.proofs.Cases.{by_test, not_both, where_false, where_true}
use Rattle.configuration.specs.Config.{configuration_of}
use Rattle.configuration.specs.Packed.{Words}
use Rattle.configuration.specs.Places.{index_of}
use Rattle.configuration.proofs.SlotLemmas.{absent_past_eight, unset_past_four}
use Rattle.closure.specs.Emptying.{AreMade, IsLost, NamesNoneOf, StandsInEach, StandsToo, emptied, out_each, put_out, spot_out}
use Rattle.closure.specs.Hulls.{HasOne, IsInHull}
use Rattle.closure.specs.Placing.{IsNowhere, unsettled}
use Rattle.closure.proofs.ByComponent.{IsByComponent, hull_by, named_by, then_by, unchanged, without_by}
use Rattle.closure.proofs.FormedPlaces.{left_nowhere}
use Rattle.closure.proofs.HullLemmas.{of_one_termination}
use Rattle.closure.proofs.HullPlaces.{more_in_hull}
use Rattle.closure.proofs.NamedHulls.{each_config, stays_past}

-- ---- each termination

-- what holds of the eight and past the eighth place holds of all
pub everywhere : (P : Termination → Type 0) → ((t : Termination) → Contains terminations t → P t) → ((t : Termination) → 8 ≤ index_of t → P t)
    → (t : Termination) → P t
everywhere P each past (Line zero) = each (Line 0) (0, omega arith, refl)
everywhere P each past (Line (suc zero)) = each (Line 1) (1, omega arith, refl)
everywhere P each past (Line (suc (suc zero))) = each (Line 2) (2, omega arith, refl)
everywhere P each past (Line (suc (suc (suc zero)))) = each (Line 3) (3, omega arith, refl)
everywhere P each past (Line (suc (suc (suc (suc i))))) = past (Line (suc (suc (suc (suc i))))) (grind (arith, common_steps))
everywhere P each past (Ephemeral zero) = each (Ephemeral 0) (4, omega arith, refl)
everywhere P each past (Ephemeral (suc zero)) = each (Ephemeral 1) (5, omega arith, refl)
everywhere P each past (Ephemeral (suc (suc zero))) = each (Ephemeral 2) (6, omega arith, refl)
everywhere P each past (Ephemeral (suc (suc (suc zero)))) = each (Ephemeral 3) (7, omega arith, refl)
everywhere P each past (Ephemeral (suc (suc (suc (suc k))))) = past (Ephemeral (suc (suc (suc (suc k))))) (omega arith)

-- ---- who stands there in some, and who does in each

module _ (some : List Configuration) (j : ℕ) where
  -- who stands there in none doesn't in one of their hull
  pub never_too : (t : Termination) → IsNowhere some t j → (c : Configuration) → IsInHull some c → is_in (c.spot t) j ≡ false
  never_too t never c inside = let at = inside.spot t in ap (λ (spot : Spot). is_in spot j) (sym at.1.1) ∙ never at.0 at.1.0

  pub always_too : (t : Termination) → ((d : Configuration) → Contains some d → IsTrue (is_in (d.spot t) j)) → (c : Configuration) → IsInHull some c
      → IsTrue (is_in (c.spot t) j)
  always_too t always c inside = let at = inside.spot t in ap (λ (spot : Spot). is_in spot j) (sym at.1.1) ∙ always at.0 at.1.0

  pub nobody_stands : (one : Configuration) (t : Termination) → IsNowhere some t j → StandsToo some j one t
  nobody_stands one t never c inside here = absurd (not_both here (never_too t never c inside))

  -- a Remote that names none that may leave, and one of an ephemeral that leaves itself
  pub none_lost : (gone : Configuration) (k : ℕ) → ((d : Configuration) → Contains some d → NamesNoneOf some j k d) → IsLost some j gone k
  none_lost gone k each c i inside names leaves stays =
      let at = inside.remote k in
      absurd (not_both leaves (never_too (Ephemeral i) (each at.0 at.1.0 i (at.1.1 ∙ names)) c inside))

  pub leaves_itself : (gone : Configuration) (k : ℕ) → ((d : Configuration) → Contains some d → IsTrue (is_in (d.spot (Ephemeral k)) j)) → IsLost some j gone k
  leaves_itself gone k always c i inside names leaves stays = absurd (not_both (always_too (Ephemeral k) always c inside) stays)

-- past the eighth place nothing stands anywhere, and past the fourth no Remote names anything
module _ (words : List Words) (j : ℕ) (c : Configuration) (inside : IsInHull (map configuration_of words) c) where
  pub absent_past : (t : Termination) → 8 ≤ index_of t → c.spot t ≡ Absent
  absent_past t past = let at = inside.spot t in
      sym at.1.1 ∙ each_config (λ (d : Configuration). d.spot t ≡ Absent) (λ w. absent_past_eight w t past) words at.0 at.1.0

  unset_past : (k : ℕ) → 4 ≤ k → c.remote k ≡ Unset
  unset_past k past = let at = inside.remote k in
      sym at.1.1 ∙ each_config (λ (d : Configuration). d.remote k ≡ Unset) (λ w. unset_past_four w k past) words at.0 at.1.0

-- ---- those are put out of the context who don't surely stand there

module _ (sure : Configuration) (j : ℕ) where
  out_by : (ts : List Termination) → IsByComponent (λ (d : Configuration). out_each sure j d ts)
  out_by [] = unchanged
  out_by (t ∷ ts) = then_by (λ (d : Configuration). put_out sure j d t) (λ (d : Configuration). out_each sure j d ts) put_by (out_by ts)
    where
      put_by : IsByComponent (λ (d : Configuration). put_out sure j d t)
      put_by = record {
        state = λ d e same. same;
        link = λ d e same. same;
        spot = λ u d e same. of_one_termination d.spot (spot_out sure j t) t u ∙ ap (λ (v : Spot). if is_same u t then spot_out sure j t v else v) same
            ∙ sym (of_one_termination e.spot (spot_out sure j t) t u);
        mode = λ u d e same. same;
        events = λ i d e same. same;
        plays = λ i d e same. same;
        context = λ n d e same. same;
        remote = λ k d e same. same;
        cut = λ u v d e same. same;
      }

  -- an absent one stays so
  module _ (d : Configuration) (absent : (t : Termination) → 8 ≤ index_of t → d.spot t ≡ Absent) where
    past_out : (t : Termination) → d.spot t ≡ Absent → d.spot t ≡ spot_out sure j t (d.spot t)
    past_out t is = is ∙ sym (ap (spot_out sure j t) is)

    spot_of_out : (t : Termination) → (out_each sure j d terminations).spot t ≡ spot_out sure j t (d.spot t)
    spot_of_out (Line zero) = refl
    spot_of_out (Line (suc zero)) = refl
    spot_of_out (Line (suc (suc zero))) = refl
    spot_of_out (Line (suc (suc (suc zero)))) = refl
    spot_of_out (Line (suc (suc (suc (suc i))))) =
        stays_past i _ _ _ _ _ ∙ past_out (Line (suc (suc (suc (suc i))))) (absent (Line (suc (suc (suc (suc i))))) (grind (arith, common_steps)))
    spot_of_out (Ephemeral zero) = refl
    spot_of_out (Ephemeral (suc zero)) = refl
    spot_of_out (Ephemeral (suc (suc zero))) = refl
    spot_of_out (Ephemeral (suc (suc (suc zero)))) = refl
    spot_of_out (Ephemeral (suc (suc (suc (suc k))))) =
        stays_past k _ _ _ _ _ ∙ past_out (Ephemeral (suc (suc (suc (suc k))))) (absent (Ephemeral (suc (suc (suc (suc k))))) (omega arith))

-- who surely stands there does, and nobody else
out_as : (t : Termination) (j : ℕ) (spot : Spot) (here surely : Bool) → is_in spot j ≡ here → (surely ≡ true → is_in spot j ≡ true)
    → is_in (if here then (if surely then spot else spot_after t) else spot) j ≡ surely
out_as t j spot true true is each = is
out_as t j spot true false is each = left_nowhere t j
out_as t j spot false true is each = each refl
out_as t j spot false false is each = is

-- in the end all have left
out_at_last : (t : Termination) (j : ℕ) (spot : Spot) (here surely : Bool) → is_in spot j ≡ here
    → (if is_in (if here then (if surely then spot else spot_after t) else spot) j then spot_after t else (if here then (if surely then spot else spot_after t) else spot))
    ≡ (if here then spot_after t else spot)
out_at_last t j spot true true is = where_true (is_in spot j) (spot_after t) spot is
out_at_last t j spot true false is = where_false (is_in (spot_after t) j) (spot_after t) (spot_after t) (left_nowhere t j)
out_at_last t j spot false surely is = where_false (is_in spot j) (spot_after t) spot is

-- who isn't there isn't put there
out_stays : (t : Termination) (j : ℕ) (spot : Spot) (surely : Bool) → is_in spot j ≡ false
    → is_in (if is_in spot j then (if surely then spot else spot_after t) else spot) j ≡ false
out_stays t j spot surely is = ap (λ (s : Spot). is_in s j) (where_false (is_in spot j) (if surely then spot else spot_after t) spot is) ∙ is

-- a function makes the same of each of some as another one
same_made : {X Y : Type 0} (f g : X → Y) (xs : List X) → ((x : X) → Contains xs x → f x ≡ g x) → map f xs ≡ map g xs
same_made f g [] same = refl
same_made {X} {Y} f g (x ∷ xs) same =
    ap (λ (y : Y). y ∷ map f xs) (same x (0, omega arith, refl))
    ∙ ap (λ (ys : List Y). g x ∷ ys) (same_made f g xs (λ y has. same y (suc has.0, omega (arith, has.1), has.2)))

-- ---- either of two

or_too : (a b x y : Bool) → (a ≡ true → x ≡ true) → (b ≡ true → y ≡ true) → (a || b) ≡ true → (x || y) ≡ true
or_too true b true y one other is = refl
or_too true b false y one other is = absurd (cc (one refl))
or_too false true x true one other is = by_first x
  where
    by_first : (p : Bool) → (p || true) ≡ true
    by_first true = refl
    by_first false = refl
or_too false true x false one other is = absurd (cc (other refl))
or_too false false x y one other is = absurd (cc (is))

or_neither : (a b x y : Bool) → (a ≡ false → x ≡ false) → (b ≡ false → y ≡ false) → (a || b) ≡ false → (x || y) ≡ false
or_neither true b x y one other is = absurd (cc (is))
or_neither false true x y one other is = absurd (cc (is))
or_neither false false x y one other is = rw (one refl, other refl) refl

-- the Remote of who leaves
unset_after : (leaves : Termination → Bool) (k : ℕ) (remote : Remote) → leaves (Ephemeral k) ≡ true → remote_after leaves k remote ≡ Unset
unset_after leaves k Unset is = refl
unset_after leaves k Gone is = where_true (leaves (Ephemeral k)) Unset Gone is
unset_after leaves k (To i) is = where_true (leaves (Ephemeral k)) Unset (if leaves (Ephemeral i) then Gone else To i) is

-- ---- all of a hull

module _ (script : Script) (words : List Words) (j : ℕ) (sure : Words)
    (each : (t : Termination) → StandsInEach (map configuration_of words) j (configuration_of sure) t) where
  abbrev who : Configuration
  who = configuration_of sure

  abbrev some : List Configuration
  some = map configuration_of words

  abbrev out : Configuration → Configuration
  out d = out_each who j d terminations

  -- it is known who leaves
  abbrev all_leave : Configuration → Configuration
  all_leave d = record (without_terminations d (λ t. is_in (who.spot t) j)) { context = with_at d.context j Free }

  leaves_so : (d : Configuration) → ((t : Termination) → is_in (d.spot t) j ≡ is_in (who.spot t) j) → all_leave d ≡ unsettled script (SubtractAll j) d
  leaves_so d same = ap (λ (leaves : Termination → Bool). record (without_terminations d leaves) { context = with_at d.context j Free }) (sym (fun_ext same))

  out_alike : (d : Configuration) → ((t : Termination) → 8 ≤ index_of t → d.spot t ≡ Absent)
      → ((t : Termination) → is_in (who.spot t) j ≡ true → is_in (d.spot t) j ≡ true) → (t : Termination) → is_in ((out d).spot t) j ≡ is_in (who.spot t) j
  out_alike d absent surely t =
      ap (λ (spot : Spot). is_in spot j) (spot_of_out who j d absent t)
      ∙ out_as t j (d.spot t) (is_in (d.spot t) j) (is_in (who.spot t) j) refl (surely t)

  out_of_each : (d : Configuration) → Contains some d → (t : Termination) → is_in ((out d).spot t) j ≡ is_in (who.spot t) j
  out_of_each d has = out_alike d
      (λ t past. each_config (λ (e : Configuration). e.spot t ≡ Absent) (λ w. absent_past_eight w t past) words d has) (λ t is. each t is d has)

  module _ (c : Configuration) (inside : IsInHull some c) where
    out_of_in_hull : (t : Termination) → is_in ((out c).spot t) j ≡ is_in (who.spot t) j
    out_of_in_hull = out_alike c (absent_past words j c inside) (λ t is. always_too some j t (each t is) c inside)

    emptied_in_hull : IsInHull (map (emptied script j who) some) (emptied script j who c)
    emptied_in_hull =
        subst (λ (ds : List Configuration). IsInHull ds (emptied script j who c))
        (same_made (λ (d : Configuration). all_leave (out d)) (emptied script j who) some (λ d has. leaves_so (out d) (out_of_each d has)))
        (subst (λ (d : Configuration). IsInHull (map (λ (e : Configuration). all_leave (out e)) some) d) (leaves_so (out c) out_of_in_hull)
        (hull_by some (λ (d : Configuration). all_leave (out d)) c
        (then_by out all_leave (out_by who j terminations)
        (then_by (λ d. without_terminations d (λ t. is_in (who.spot t) j)) (λ d. record d { context = with_at d.context j Free })
        (without_by (λ t. is_in (who.spot t) j)) (named_by j Free))) inside))

    -- it is so too where others may leave
    module _ (made : List Configuration) (base : IsInHull made (emptied script j who c)) (w : Configuration) (too : (t : Termination) → StandsToo some j w t)
        (has_left : Contains made (unsettled script (SubtractAll j) w)) (gone : Configuration) (lost : (k : ℕ) → IsLost some j gone k)
        (has_gone : Contains made gone) where
      abbrev left : Configuration
      left = unsettled script (SubtractAll j) w

      goes : (t : Termination) → is_in (c.spot t) j ≡ true → is_in (w.spot t) j ≡ true
      goes t here = too t c inside here

      stays : (t : Termination) → is_in (c.spot t) j ≡ false → is_in ((out c).spot t) j ≡ false
      stays t there = ap (λ (spot : Spot). is_in spot j) (spot_of_out who j c (absent_past words j c inside) t)
          ∙ out_stays t j (c.spot t) (is_in (who.spot t) j) there

      either_of : {A : Type 0} (of : Configuration → A) (v was : A) (leaves too_leaves out_leaves : Bool) (left_was : A)
          → (leaves ≡ true → too_leaves ≡ true) → (leaves ≡ false → out_leaves ≡ false) → of left ≡ (if too_leaves then v else left_was)
          → HasOne made of (if out_leaves then v else was) → HasOne made of (if leaves then v else was)
      either_of of v was leaves too_leaves out_leaves left_was one other is now = by_test (λ x. HasOne made of x) v was leaves
          (λ here. (left, (has_left, is ∙ where_true too_leaves v left_was (one here))))
          (λ there. subst (λ x. HasOne made of x) (where_false out_leaves v was (other there)) now)

      spot_now : (t : Termination) → HasOne made (λ d. d.spot t) (if is_in (c.spot t) j then spot_after t else c.spot t)
      spot_now t = subst (λ (s : Spot). HasOne made (λ d. d.spot t) s)
          (ap (λ (s : Spot). if is_in s j then spot_after t else s) (spot_of_out who j c (absent_past words j c inside) t)
          ∙ out_at_last t j (c.spot t) (is_in (c.spot t) j) (is_in (who.spot t) j) refl) (base.spot t)

      remote_now : (k : ℕ) (remote : Remote) → c.remote k ≡ remote
          → HasOne made (λ d. d.remote k) (remote_after (λ t. is_in ((out c).spot t) j) k remote)
          → HasOne made (λ d. d.remote k) (remote_after (λ t. is_in (c.spot t) j) k remote)
      remote_now k Unset is now = now
      remote_now k Gone is now = by_test (λ x. HasOne made (λ d. d.remote k) x) Unset Gone (is_in (c.spot (Ephemeral k)) j)
          (λ here. (left, (has_left, unset_after (λ t. is_in (w.spot t) j) k (w.remote k) (goes (Ephemeral k) here))))
          (λ there. subst (λ x. HasOne made (λ d. d.remote k) x) (where_false (is_in ((out c).spot (Ephemeral k)) j) Unset Gone (stays (Ephemeral k) there)) now)
      remote_now k (To i) is now =
          by_test (λ x. HasOne made (λ d. d.remote k) x) Unset (if is_in (c.spot (Ephemeral i)) j then Gone else To i) (is_in (c.spot (Ephemeral k)) j)
          (λ here. (left, (has_left, unset_after (λ t. is_in (w.spot t) j) k (w.remote k) (goes (Ephemeral k) here))))
          (λ there. by_test (λ x. HasOne made (λ d. d.remote k) x) Gone (To i) (is_in (c.spot (Ephemeral i)) j)
          (λ other. (gone, (has_gone, lost k c i inside is other there)))
          (λ other. subst (λ x. HasOne made (λ d. d.remote k) x)
          (where_false (is_in ((out c).spot (Ephemeral k)) j) Unset (if is_in ((out c).spot (Ephemeral i)) j then Gone else To i) (stays (Ephemeral k) there)
          ∙ where_false (is_in ((out c).spot (Ephemeral i)) j) Gone (To i) (stays (Ephemeral i) other)) now))

      pub all_made_of : IsInHull made (unsettled script (SubtractAll j) c)
      all_made_of = record {
        state = base.state;
        link = base.link;
        spot = spot_now;
        mode = λ t. either_of (λ d. d.mode t) Inactive (c.mode t) (is_in (c.spot t) j) (is_in (w.spot t) j) (is_in ((out c).spot t) j) (w.mode t)
            (goes t) (stays t) refl (base.mode t);
        events = λ i. either_of (λ d. d.events i) Empty (c.events i) (is_in (c.spot (Line i)) j) (is_in (w.spot (Line i)) j) (is_in ((out c).spot (Line i)) j)
            (w.events i) (goes (Line i)) (stays (Line i)) refl (base.events i);
        plays = λ i. either_of (λ d. d.plays i) false (c.plays i) (is_in (c.spot (Line i)) j) (is_in (w.spot (Line i)) j) (is_in ((out c).spot (Line i)) j)
            (w.plays i) (goes (Line i)) (stays (Line i)) refl (base.plays i);
        context = base.context;
        remote = λ k. remote_now k (c.remote k) refl (base.remote k);
        cut = λ t u. either_of (λ d. d.cut t u) false (c.cut t u) (is_in (c.spot t) j || is_in (c.spot u) j) (is_in (w.spot t) j || is_in (w.spot u) j)
            (is_in ((out c).spot t) j || is_in ((out c).spot u) j) (w.cut t u)
            (or_too (is_in (c.spot t) j) (is_in (c.spot u) j) (is_in (w.spot t) j) (is_in (w.spot u) j) (goes t) (goes u))
            (or_neither (is_in (c.spot t) j) (is_in (c.spot u) j) (is_in ((out c).spot t) j) (is_in ((out c).spot u) j) (stays t) (stays u)) refl (base.cut t u);
      }

-- the four slots are all
pub all_lost : (words : List Words) (j : ℕ) (gone : Configuration) → IsLost (map configuration_of words) j gone 0 → IsLost (map configuration_of words) j gone 1
    → IsLost (map configuration_of words) j gone 2 → IsLost (map configuration_of words) j gone 3 → (k : ℕ) → IsLost (map configuration_of words) j gone k
all_lost words j gone first second third fourth zero = first
all_lost words j gone first second third fourth (suc zero) = second
all_lost words j gone first second third fourth (suc (suc zero)) = third
all_lost words j gone first second third fourth (suc (suc (suc zero))) = fourth
all_lost words j gone first second third fourth (suc (suc (suc (suc k)))) =
    λ c i inside names leaves itself. absurd (unset_is_to i (sym (unset_past words j c inside (suc (suc (suc (suc k)))) (omega arith)) ∙ names))
  where
    unset_is_to : (i : ℕ) → Unset ≡ To i → ⊥
    unset_is_to i e = cc (e)

-- past the eighth place nobody stands there
pub all_stand_too : (words : List Words) (j : ℕ) (one : Configuration) → ((t : Termination) → Contains terminations t → StandsToo (map configuration_of words) j one t)
    → (t : Termination) → StandsToo (map configuration_of words) j one t
all_stand_too words j one each = everywhere (StandsToo (map configuration_of words) j one) each
    (λ t past c inside here. absurd (not_both here (ap (λ (spot : Spot). is_in spot j) (absent_past words j c inside t past))))

pub all_stand_in_each : (words : List Words) (j : ℕ) (one : Words)
    → ((t : Termination) → Contains terminations t → StandsInEach (map configuration_of words) j (configuration_of one) t)
    → (t : Termination) → StandsInEach (map configuration_of words) j (configuration_of one) t
all_stand_in_each words j one each = everywhere (StandsInEach (map configuration_of words) j (configuration_of one)) each
    (λ t past here. absurd (not_both here (ap (λ (spot : Spot). is_in spot j) (absent_past_eight one t past))))

-- what the configurations themselves make, with two more
pub from_parts : (script : Script) (words : List Words) (j : ℕ) (sure left : Words)
    → ((t : Termination) → StandsInEach (map configuration_of words) j (configuration_of sure) t)
    → ((t : Termination) → StandsToo (map configuration_of words) j (configuration_of left) t) → (first second third : List Configuration) (gone : Words)
    → first ≡ map (emptied script j (configuration_of sure)) (map configuration_of words)
    → ((d : Configuration) → Contains first d → Contains second d) → Contains second (unsettled script (SubtractAll j) (configuration_of left))
    → ((d : Configuration) → Contains second d → Contains third d) → Contains third (configuration_of gone)
    → ((k : ℕ) → IsLost (map configuration_of words) j (configuration_of gone) k) → AreMade script (map configuration_of words) (SubtractAll j) third
from_parts script words j sure left each too first second third gone is kept has_left still has_gone lost c inside =
    let x : Configuration = emptied script j (configuration_of sure) c in
    all_made_of script words j sure each c inside third
    (more_in_hull first third (λ d has. still d (kept d has)) x
    (subst (λ (ds : List Configuration). IsInHull ds x) (sym is) (emptied_in_hull script words j sure each c inside)))
    (configuration_of left) too (still (unsettled script (SubtractAll j) (configuration_of left)) has_left) (configuration_of gone) lost has_gone
