-- Turns that subtract a termination make of a configuration what the definition says.
use Rattle.std.proofs.Common.{◌≡◌, ℕ, ◌≤◌, ◌<◌, suc, zero, nat_lt, Bool, true, false, ◌&&◌, ◌||◌, List, [], ◌∷◌, refl, ap, sym, ◌∙◌, arith}
use Rattle.std.specs.Prelude.{if◌then◌else◌}
use Rattle.std.specs.List.{list_any}
use Rattle.std.proofs.lemmas.Grind.{common_steps}
use Rattle.mg_model.specs.declared.commands.Termination.{Termination}
use Rattle.mg_model.specs.declared.commands.Termination.TheVariants.{Line, Ephemeral}
use Rattle.mg_model.specs.declared.components.Remote.{Remote}
use Rattle.mg_model.specs.declared.components.Remote.TheVariants.{Unset, Gone, To}
use Rattle.mg_model.specs.Configuration.{Configuration, is_in, is_same, terminations}
use Rattle.mg_model.specs.Effects.{spot_after, remote_after, without_cuts_of, without_terminations}
use Rattle.mg_model.proofs.ConfigurationLemmas.{same_configurations}
use Rattle.mg_names.specs.declared.modes.Mode.TheVariants.{Inactive}
use Rattle.mg_model.specs.declared.components.Spot.TheVariants.{Absent}
use Rattle.mg_model.specs.declared.commands.EventsName.TheVariants.{Empty}
use Rattle.mg_model.proofs.Cases.{false_either_way}
use Rattle.mg_model.proofs.Terminations.{is_same_turned, is_same_self, is_same_is}
use Rattle.configuration.specs.Places.{index_of, AbsentPastEight, NoCutsPastEight}
use Rattle.configuration.proofs.WellFormedLemmas.{some_termination}
use Rattle.closure.specs.Elementwise.{forget_pair, forget_pairs, lost_at, remote_lost, without_remotes_to, subtracted_from, subtracted_each}

pub lost_all : (k : ℕ) (c : Configuration) → ((n : ℕ) → 4 ≤ n → c.remote n ≡ Unset) →
    lost_at k (lost_at k (lost_at k (lost_at k c 0) 1) 2) 3 ≡ without_remotes_to k c
lost_all k c unset = ap (λ (f : ℕ → Remote). record c { remote = f }) (same_functions at)
  where
    same_functions : {f g : ℕ → Remote} → ((j : ℕ) → f j ≡ g j) → f ≡ g
    same_functions h = λ i j. h j i

    at : (n : ℕ) → (lost_at k (lost_at k (lost_at k (lost_at k c 0) 1) 2) 3).remote n ≡ remote_lost k (c.remote n)
    at zero = refl
    at (suc zero) = refl
    at (suc (suc zero)) = refl
    at (suc (suc (suc zero))) = refl
    at (suc (suc (suc (suc n)))) = let none : c.remote (suc (suc (suc (suc n)))) ≡ Unset = unset (suc (suc (suc (suc n)))) (omega arith) in grind (arith, common_steps)

-- one turn, and the turns after it
pub one_turn : (a b y x d f v : Bool) →
    (if (a && y) || (x && f) then false else (if d && f then false else (if a && b then false else v)))
    ≡ (if (a && (b || y)) || ((d || x) && f) then false else v)
one_turn true true true x d f v = refl
one_turn true true false true d true v = refl
one_turn true true false true d false v = grind (arith, common_steps)
one_turn true true false false d f v = grind (arith, common_steps)
one_turn true false true x d f v = refl
one_turn true false false true d true v = grind (arith, common_steps)
one_turn true false false true d false v = grind (arith, common_steps)
one_turn true false false false true f v = grind (arith, common_steps)
one_turn true false false false false f v = grind (arith, common_steps)
one_turn false b y true d true v = grind (arith, common_steps)
one_turn false b y true d false v = grind (arith, common_steps)
one_turn false b y false true f v = grind (arith, common_steps)
one_turn false b y false false f v = grind (arith, common_steps)

pub cut-forget_pairs : (c : Configuration) (t : Termination) (us : List Termination) (x y : Termination) →
    (forget_pairs c t us).cut x y
    ≡ (if (is_same x t && list_any (is_same y) us) || (list_any (is_same x) us && is_same y t) then false else c.cut x y)
cut-forget_pairs c t [] x y = by_test (is_same x t)
  where
    by_test : (b : Bool) → c.cut x y ≡ (if (b && false) || (false && is_same y t) then false else c.cut x y)
    by_test true = refl
    by_test false = refl
cut-forget_pairs c t (u ∷ us) x y =
    cut-forget_pairs (forget_pair c t u) t us x y
    ∙ one_turn (is_same x t) (is_same y u) (list_any (is_same y) us) (list_any (is_same x) us) (is_same x u) (is_same y t) (c.cut x y)

-- nothing but cuts has changed
pub forget_pairs-else : (c : Configuration) (t : Termination) (us : List Termination) →
    forget_pairs c t us ≡ record c { cut = (forget_pairs c t us).cut }
forget_pairs-else c t [] = refl
forget_pairs-else c t (u ∷ us) = forget_pairs-else (forget_pair c t u) t us

pub among_terminations : (y : Termination) → index_of y < 8 → list_any (is_same y) terminations ≡ true
among_terminations y l = some_termination (is_same y) y l (is_same_self y)

pub with_true : (a b v : Bool) → (if (a && true) || (true && b) then false else v) ≡ (if a || b then false else v)
with_true true b v = refl
with_true false b v = refl

pub cut-forget_all : (c : Configuration) → NoCutsPastEight c → (t x y : Termination) →
    (forget_pairs c t terminations).cut x y ≡ without_cuts_of (is_same t) c.cut x y
cut-forget_all c small t x y = cut-forget_pairs c t terminations x y ∙ by_cut (c.cut x y) refl
  where
    by_cut : (b : Bool) → c.cut x y ≡ b →
        (if (is_same x t && list_any (is_same y) terminations) || (list_any (is_same x) terminations && is_same y t) then false else c.cut x y)
        ≡ (if is_same t x || is_same t y then false else c.cut x y)
    by_cut false e =
        rw e
        (false_either_way ((is_same x t && list_any (is_same y) terminations) || (list_any (is_same x) terminations && is_same y t))
        ∙ sym (false_either_way (is_same t x || is_same t y)))
    by_cut true e =
        let places = small x y e in
        let here : list_any (is_same x) terminations ≡ true = among_terminations x places.0 in
        let there : list_any (is_same y) terminations ≡ true = among_terminations y places.1 in
        rw (here, there, is_same_turned t x, is_same_turned t y) (with_true (is_same x t) (is_same y t) (c.cut x y))

pub forget_all : (c : Configuration) → NoCutsPastEight c → (t : Termination) →
    forget_pairs c t terminations ≡ record c { cut = without_cuts_of (is_same t) c.cut }
forget_all c small t =
    forget_pairs-else c t terminations
    ∙ ap (λ (f : Termination → Termination → Bool). record c { cut = f }) (λ i x y. cut-forget_all c small t x y i)

-- two subtractions, one after the other, are one of both
pub remote-twice : (one two : Termination → Bool) (k : ℕ) (r : Remote) →
    remote_after two k (remote_after one k r) ≡ remote_after (λ t. one t || two t) k r
remote-twice one two k Unset = refl
remote-twice one two k Gone = by_test (one (Ephemeral k)) refl (two (Ephemeral k)) refl
  where
    by_test : (a : Bool) → one (Ephemeral k) ≡ a → (b : Bool) → two (Ephemeral k) ≡ b →
        remote_after two k (if one (Ephemeral k) then Unset else Gone) ≡ (if one (Ephemeral k) || two (Ephemeral k) then Unset else Gone)
    by_test true e b f = rw e refl
    by_test false e b f = rw e refl
remote-twice one two k (To i) = by_test (one (Ephemeral k)) refl (one (Ephemeral i)) refl (two (Ephemeral k)) refl
  where
    by_test : (a : Bool) → one (Ephemeral k) ≡ a → (d : Bool) → one (Ephemeral i) ≡ d → (b : Bool) → two (Ephemeral k) ≡ b →
        remote_after two k (if one (Ephemeral k) then Unset else (if one (Ephemeral i) then Gone else To i))
        ≡ (if one (Ephemeral k) || two (Ephemeral k) then Unset else (if one (Ephemeral i) || two (Ephemeral i) then Gone else To i))
    by_test true e d f b g = rw e refl
    by_test false e true f true g = rw (e, f, g) refl
    by_test false e true f false g = rw (e, f, g) refl
    by_test false e false f b g = rw (e, f) refl

pub subtracted_twice : (c : Configuration) (one two : Termination → Bool) →
    without_terminations (without_terminations c one) two ≡ without_terminations c (λ t. one t || two t)
subtracted_twice c one two = same_configurations _ _ record {
  state = refl;
  link = refl;
  spot = λ t. either (one t) (two t) (spot_after t) (c.spot t);
  mode = λ t. either (one t) (two t) Inactive (c.mode t);
  events = λ i. either (one (Line i)) (two (Line i)) Empty (c.events i);
  plays = λ i. either (one (Line i)) (two (Line i)) false (c.plays i);
  context = λ j. refl;
  remote = λ k. remote-twice one two k (c.remote k);
  cut = λ t u. either_cut (one t) (two t) (one u) (two u) (c.cut t u);
}
  where
    either : {A : Type 0} (a b : Bool) (x y : A) → (if b then x else (if a then x else y)) ≡ (if a || b then x else y)
    either true true x y = refl
    either true false x y = refl
    either false b x y = refl

    either_cut : (a b d e v : Bool) → (if b || e then false else (if a || d then false else v)) ≡ (if (a || b) || (d || e) then false else v)
    either_cut true true d e v = refl
    either_cut true false d true v = refl
    either_cut true false d false v = refl
    either_cut false true d e v = refl
    either_cut false false true true v = refl
    either_cut false false true false v = refl
    either_cut false false false e v = refl

-- the subtraction of none changes nothing
pub subtracted_none : (c : Configuration) → without_terminations c (λ t. false) ≡ c
subtracted_none c = same_configurations _ _ record {
  state = refl;
  link = refl;
  spot = λ t. refl;
  mode = λ t. refl;
  events = λ i. refl;
  plays = λ i. refl;
  context = λ j. refl;
  remote = λ k. same_remote k (c.remote k);
  cut = λ t u. refl;
}
  where
    same_remote : (k : ℕ) (r : Remote) → remote_after (λ t. false) k r ≡ r
    same_remote k Unset = refl
    same_remote k Gone = refl
    same_remote k (To i) = refl

pub same_leaves : (c : Configuration) (one two : Termination → Bool) → ((t : Termination) → one t ≡ two t) →
    without_terminations c one ≡ without_terminations c two
same_leaves c one two h = ap (without_terminations c) (λ i t. h t i)

-- one turn subtracts the termination if it stands there
pub turn_is : (j : ℕ) (c : Configuration) (t : Termination) →
    subtracted_from j c t ≡ without_terminations c (λ u. is_same t u && is_in (c.spot t) j)
turn_is j c t = by_test (is_in (c.spot t) j)
  where
    by_test : (b : Bool) → (if b then without_terminations c (is_same t) else c) ≡ without_terminations c (λ u. is_same t u && b)
    by_test true = same_leaves c (is_same t) (λ u. is_same t u && true) (λ u. and_true (is_same t u))
      where
        and_true : (b : Bool) → b ≡ (b && true)
        and_true true = refl
        and_true false = refl
    by_test false = sym (same_leaves c (λ u. is_same t u && false) (λ u. false) (λ u. and_false (is_same t u)) ∙ subtracted_none c)
      where
        and_false : (b : Bool) → (b && false) ≡ false
        and_false true = refl
        and_false false = refl

pub subtracted_each_is : (j : ℕ) (c : Configuration) (ts : List Termination) →
    subtracted_each j c ts ≡ without_terminations c (λ u. list_any (is_same u) ts && is_in (c.spot u) j)
subtracted_each_is j c [] = sym (subtracted_none c)
subtracted_each_is j c (t ∷ ts) =
    subtracted_each_is j (subtracted_from j c t) ts
    ∙ ap (λ (d : Configuration). without_terminations d (λ u. list_any (is_same u) ts && is_in (d.spot u) j)) (turn_is j c t)
    ∙ subtracted_twice c (λ u. is_same t u && is_in (c.spot t) j) (λ u. list_any (is_same u) ts && is_in ((without_terminations c (λ v. is_same t v && is_in (c.spot t) j)).spot u) j)
    ∙ same_leaves c _ _ (λ u. leaves u (is_same t u) refl)
  where
    no_more : (u : Termination) → is_in (spot_after u) j ≡ false
    no_more (Line i) = refl
    no_more (Ephemeral k) = refl

    leaves : (u : Termination) (b : Bool) → is_same t u ≡ b →
        ((is_same t u && is_in (c.spot t) j) || (list_any (is_same u) ts && is_in (if is_same t u && is_in (c.spot t) j then spot_after u else c.spot u) j))
        ≡ ((is_same u t || list_any (is_same u) ts) && is_in (c.spot u) j)
    leaves u true e =
        let one : t ≡ u = is_same_is t u e in
        let spot : is_in (c.spot t) j ≡ is_in (c.spot u) j = ap (λ (v : Termination). is_in (c.spot v) j) one in
        let back : is_same u t ≡ true = is_same_turned u t ∙ e in
        rw (e, back, spot) (by_place (is_in (c.spot u) j) (list_any (is_same u) ts) refl)
      where
        by_place : (p a : Bool) → is_in (c.spot u) j ≡ p → (p || (a && is_in (if p then spot_after u else c.spot u) j)) ≡ p
        by_place true a q = refl
        by_place false true q = q
        by_place false false q = refl
    leaves u false e =
        let back : is_same u t ≡ false = is_same_turned u t ∙ e in
        rw (e, back) refl

-- all terminations that stand in the context
pub subtracted_all : (j : ℕ) (c : Configuration) → AbsentPastEight c →
    subtracted_each j c terminations ≡ without_terminations c (λ t. is_in (c.spot t) j)
subtracted_all j c absent =
    subtracted_each_is j c terminations
    ∙ same_leaves c _ _ (λ u. by_place u (nat_lt (index_of u) 8) refl)
  where
    by_place : (u : Termination) (b : Bool) → nat_lt (index_of u) 8 ≡ b →
        (list_any (is_same u) terminations && is_in (c.spot u) j) ≡ is_in (c.spot u) j
    by_place u true e = let among = among_terminations u (grind (arith, common_steps)) in rw among refl
    by_place u false e =
        let gone : c.spot u ≡ Absent = absent u (grind (arith, common_steps)) in
        rw gone (and_false (list_any (is_same u) terminations))
      where
        and_false : (b : Bool) → (b && false) ≡ false
        and_false true = refl
        and_false false = refl
