-- Who stands in a context after some places have changed, and which context names and cuts agree with it then.
use Rattle.std.proofs.Common.{◌≡◌, ◌∙◌, ℕ, ◌==◌, ◌||◌, Bool, true, false, if◌then◌else◌, List, [], ◌∷◌, refl, sym, ap, subst, IsTrue}
use Rattle.std.specs.List.{list_any}
use Rattle.std.proofs.lemmas.Bool.{eqb-true, or_left}
use Rattle.mg_names.specs.declared.modes.Mode.TheVariants.{Inactive}
use Rattle.mg_names.specs.declared.context_values.ContextValue.{ContextValue}
use Rattle.mg_names.specs.declared.context_values.ContextValue.TheVariants.{Free, Live, Stale}
use Rattle.mg_model.specs.declared.commands.Termination.{Termination}
use Rattle.mg_model.specs.declared.commands.Termination.TheVariants.{Line, Ephemeral}
use Rattle.mg_model.specs.declared.components.Spot.{Spot}
use Rattle.mg_model.specs.declared.components.Spot.TheVariants.{Absent, Null, In}
use Rattle.mg_model.specs.declared.components.Remote.{Remote}
use Rattle.mg_model.specs.declared.components.Remote.TheVariants.{Unset, Gone, To}
use Rattle.mg_model.specs.Configuration.{Configuration, IsWellFormed, is_in, is_live, is_null, is_present, is_same, stands_in, terminations, value_of, with_of}
use Rattle.mg_model.specs.Effects.{remote_after, spot_after, without_cuts_of}
use Rattle.mg_model.proofs.Cases.{false_not_true, not_both, same_turned, where_false, where_true}
use Rattle.mg_model.proofs.Terminations.{is_same_is, is_same_turned}

-- ---- who stands in a context

-- it hangs on each place alone
pub stands_alike : (f g : Termination → Spot) (n : ℕ) → ((t : Termination) → is_in (f t) n ≡ is_in (g t) n) → stands_in f n ≡ stands_in g n
stands_alike f g n alike = ap (λ (p : Termination → Bool). list_any p terminations) (λ i t. alike t i)

none_of_two : (a b p q : Bool) → (a ≡ true → b ≡ true) → (q ≡ false → p ≡ false) → (b || q) ≡ false → (a || p) ≡ false
none_of_two true b p q first rest none = absurd (not_both (or_left b q (first refl)) none)
none_of_two false true p q first rest none = absurd (not_both refl none)
none_of_two false false p q first rest none = rest none

-- a test that passes fewer passes none where the other passes none
none_of_fewer : {A : Type 0} (p q : A → Bool) → ((x : A) → p x ≡ true → q x ≡ true) → (xs : List A) → list_any q xs ≡ false → list_any p xs ≡ false
none_of_fewer p q fewer [] = λ none. refl
none_of_fewer p q fewer (x ∷ xs) = none_of_two (p x) (q x) (list_any p xs) (list_any q xs) (fewer x) (none_of_fewer p q fewer xs)

-- where nobody stands, nobody does of fewer
pub stands_fewer : (f g : Termination → Spot) (n : ℕ) → ((t : Termination) → is_in (f t) n ≡ true → is_in (g t) n ≡ true)
    → stands_in g n ≡ false → stands_in f n ≡ false
stands_fewer f g n fewer = none_of_fewer (λ t. is_in (f t) n) (λ t. is_in (g t) n) fewer terminations

-- who is in the null context is in no other
pub null_nowhere : (spot : Spot) → IsTrue (is_null spot) → (n : ℕ) → is_in spot n ≡ false
null_nowhere Null is n = refl
null_nowhere Absent is n = refl
null_nowhere (In j) is n = absurd (false_not_true is)

-- who has left is in no context
pub left_nowhere : (t : Termination) (n : ℕ) → is_in (spot_after t) n ≡ false
left_nowhere (Line i) n = refl
left_nowhere (Ephemeral k) n = refl

-- nobody stands in a context that all of it leave
pub all_left : (spot : Termination → Spot) (j : ℕ) → stands_in (λ t. if is_in (spot t) j then spot_after t else spot t) j ≡ false
all_left spot j = stands_fewer (λ t. if is_in (spot t) j then spot_after t else spot t) (λ t. Null) j (λ t. by_test t (is_in (spot t) j) refl) refl
  where
    by_test : (t : Termination) (b : Bool) → is_in (spot t) j ≡ b → is_in (if b then spot_after t else spot t) j ≡ true → false ≡ true
    by_test t true here is = sym (left_nowhere t j) ∙ is
    by_test t false elsewhere is = sym elsewhere ∙ is

-- ---- what a name stands for

-- a name is live exactly where somebody stands in its context, if nobody does where it is free
pub live_where_stood : (v : ContextValue) (exists : Bool) → (v ≡ Free → exists ≡ false) → is_live (value_of v exists) ≡ exists
live_where_stood Free exists unbound = sym (unbound refl)
live_where_stood Live true unbound = refl
live_where_stood Live false unbound = refl
live_where_stood Stale true unbound = refl
live_where_stood Stale false unbound = refl

-- the same of a name that is bound
pub bound_where_stood : (exists : Bool) → is_live (value_of Live exists) ≡ exists
bound_where_stood true = refl
bound_where_stood false = refl

-- a name whose context exists exactly where it is live stands for what it stood for
pub value_itself : (v : ContextValue) → value_of v (is_live v) ≡ v
value_itself Free = refl
value_itself Live = refl
value_itself Stale = refl

-- ---- Remotes of who leaves and who stays

left_remote : (leaves : Termination → Bool) (k : ℕ) (r : Remote) → leaves (Ephemeral k) ≡ true → remote_after leaves k r ≡ Unset
left_remote leaves k Unset left = refl
left_remote leaves k Gone left = where_true (leaves (Ephemeral k)) Unset Gone left
left_remote leaves k (To i) left = where_true (leaves (Ephemeral k)) Unset (if leaves (Ephemeral i) then Gone else To i) left

pub to_same : (x y : ℕ) → To x ≡ To y → x ≡ y
to_same x y e = ap number_of e
  where
    number_of : Remote → ℕ
    number_of (To n) = n
    number_of Unset = 0
    number_of Gone = 0

-- a Remote that is a name was that name, and what it names stays
still_named : (leaves : Termination → Bool) (k m : ℕ) (r : Remote) → remote_after leaves k r ≡ To m → (r ≡ To m) × (leaves (Ephemeral m) ≡ false)
still_named leaves k m Unset is = absurd (cc (is))
still_named leaves k m Gone is = by_test (leaves (Ephemeral k)) is
  where
    by_test : (b : Bool) → (if b then Unset else Gone) ≡ To m → (Gone ≡ To m) × (leaves (Ephemeral m) ≡ false)
    by_test true left = absurd (cc (left))
    by_test false gone = absurd (cc (gone))
still_named leaves k m (To i) is = by_test (leaves (Ephemeral k)) (leaves (Ephemeral i)) refl is
  where
    by_test : (a b : Bool) → leaves (Ephemeral i) ≡ b → (if a then Unset else (if b then Gone else To i)) ≡ To m
        → (To i ≡ To m) × (leaves (Ephemeral m) ≡ false)
    by_test true b stays left = absurd (cc (left))
    by_test false true stays gone = absurd (cc (gone))
    by_test false false stays same = (same, ap (λ (n : ℕ). leaves (Ephemeral n)) (sym (to_same i m same)) ∙ stays)

-- ---- an ephemeral that is put in a context

-- what is set of an ephemeral that is put somewhere is as it was of those that don't exist
pub put_absent : {A : Type 0} (c : Configuration) (value : ℕ → A) (none v : A) (k j : ℕ) → ((n : ℕ) → c.spot (Ephemeral n) ≡ Absent → value n ≡ none)
    → (n : ℕ) → (if n == k then In j else c.spot (Ephemeral n)) ≡ Absent → (if n == k then v else value n) ≡ none
put_absent c value none v k j was n = by_test (n == k)
  where
    by_test : (b : Bool) → (if b then In j else c.spot (Ephemeral n)) ≡ Absent → (if b then v else value n) ≡ none
    by_test true absent = absurd (cc (absent))
    by_test false absent = was n absent

-- what exists still does where an ephemeral is put somewhere
pub put_present : (c : Configuration) (k j m : ℕ) → IsTrue (is_present (c.spot (Ephemeral m))) → IsTrue (is_present (if m == k then In j else c.spot (Ephemeral m)))
put_present c k j m present = by_test (m == k)
  where
    by_test : (b : Bool) → IsTrue (is_present (if b then In j else c.spot (Ephemeral m)))
    by_test true = refl
    by_test false = present

-- ---- a configuration that was well formed

module _ (c : Configuration) (formed : IsWellFormed c) where
  -- in what is well formed each context name says what the places make it
  pub settles_itself : (n : ℕ) → value_of (c.context n) (stands_in c.spot n) ≡ c.context n
  settles_itself n = ap (λ (b : Bool). value_of (c.context n) b) (sym (formed.live n)) ∙ value_itself (c.context n)

  -- a context that nobody new stands in
  pub live_kept : (spot : Termination → Spot) (n : ℕ) → ((t : Termination) → is_in (spot t) n ≡ true → is_in (c.spot t) n ≡ true)
      → is_live (value_of (c.context n) (stands_in spot n)) ≡ stands_in spot n
  live_kept spot n fewer = live_where_stood (c.context n) (stands_in spot n)
      (λ free. stands_fewer spot c.spot n fewer (sym (formed.live n) ∙ ap (λ (v : ContextValue). is_live v) free))

  -- a pair that is cut still stands in one context, if both stand where they stood
  pub cut_stays : (spot : Termination → Spot) (x y : Termination) → ((n : ℕ) → IsTrue (is_in (c.spot x) n) → IsTrue (is_in (spot x) n))
      → ((n : ℕ) → IsTrue (is_in (c.spot y) n) → IsTrue (is_in (spot y) n)) → IsTrue (c.cut x y)
      → (n : ℕ) × (IsTrue (is_in (spot x) n) × IsTrue (is_in (spot y) n))
  cut_stays spot x y first second cut = let was = formed.cut_within x y cut in (was.0, (first was.0 was.1.0, second was.0 was.1.1))

  -- the cuts of who leaves are forgotten
  pub cut_of_staying : (leaves : Termination → Bool) (spot : Termination → Spot) → ((t : Termination) → leaves t ≡ false → spot t ≡ c.spot t)
      → (x y : Termination) → IsTrue (without_cuts_of leaves c.cut x y) → (n : ℕ) × (IsTrue (is_in (spot x) n) × IsTrue (is_in (spot y) n))
  cut_of_staying leaves spot stays x y = by_test (leaves x) (leaves y) refl refl
    where
      there : (t : Termination) → leaves t ≡ false → (n : ℕ) → IsTrue (is_in (c.spot t) n) → IsTrue (is_in (spot t) n)
      there t staying n = subst (λ (s : Spot). IsTrue (is_in s n)) (sym (stays t staying))

      by_test : (a b : Bool) → leaves x ≡ a → leaves y ≡ b → IsTrue (if a || b then false else c.cut x y)
          → (n : ℕ) × (IsTrue (is_in (spot x) n) × IsTrue (is_in (spot y) n))
      by_test true b first second cut = absurd (false_not_true cut)
      by_test false true first second cut = absurd (false_not_true cut)
      by_test false false first second cut = cut_stays spot x y (there x first) (there y second) cut

  -- ---- one is put in a context

  pub put_live : (t : Termination) (j n : ℕ)
      → is_live (value_of (if n == j then Live else c.context n) (stands_in (with_of c.spot t (In j)) n)) ≡ stands_in (with_of c.spot t (In j)) n
  put_live t j n = by_test (n == j) refl
    where
      fewer : (n == j) ≡ false → (u : Termination) (b : Bool) → is_in (if b then In j else c.spot u) n ≡ true → is_in (c.spot u) n ≡ true
      fewer elsewhere u true is = absurd (not_both (same_turned n j ∙ is) elsewhere)
      fewer elsewhere u false is = is

      by_test : (b : Bool) → (n == j) ≡ b
          → is_live (value_of (if b then Live else c.context n) (stands_in (with_of c.spot t (In j)) n)) ≡ stands_in (with_of c.spot t (In j)) n
      by_test true here = bound_where_stood (stands_in (with_of c.spot t (In j)) n)
      by_test false elsewhere = live_kept (with_of c.spot t (In j)) n (λ u. fewer elsewhere u (is_same u t))

  -- one that comes from no context is in no pair that is cut
  pub put_cut : (t : Termination) (j : ℕ) → ((n : ℕ) → is_in (c.spot t) n ≡ false) → (x y : Termination) → IsTrue (c.cut x y)
      → (n : ℕ) × (IsTrue (is_in (with_of c.spot t (In j) x) n) × IsTrue (is_in (with_of c.spot t (In j) y) n))
  put_cut t j nowhere x y = cut_stays (with_of c.spot t (In j)) x y (λ n. there n x (is_same x t) refl) (λ n. there n y (is_same y t) refl)
    where
      there : (n : ℕ) (u : Termination) (b : Bool) → is_same u t ≡ b → IsTrue (is_in (c.spot u) n) → IsTrue (is_in (if b then In j else c.spot u) n)
      there n u true same is = absurd (not_both is (ap (λ (s : Termination). is_in (c.spot s) n) (is_same_is u t same) ∙ nowhere n))
      there n u false same is = is

  -- one that moves leaves its cuts behind
  pub moved_cut : (t : Termination) (j : ℕ) (x y : Termination) → IsTrue (without_cuts_of (is_same t) c.cut x y)
      → (n : ℕ) × (IsTrue (is_in (with_of c.spot t (In j) x) n) × IsTrue (is_in (with_of c.spot t (In j) y) n))
  moved_cut t j = cut_of_staying (is_same t) (with_of c.spot t (In j))
      (λ u staying. where_false (is_same u t) (In j) (c.spot u) (is_same_turned u t ∙ staying))

  -- ---- some leave

  module _ (leaves : Termination → Bool) where
    abbrev after : Termination → Spot
    after t = if leaves t then spot_after t else c.spot t

    pub left_live : (n : ℕ) → is_live (value_of (c.context n) (stands_in after n)) ≡ stands_in after n
    left_live n = live_kept after n (λ t. fewer t (leaves t))
      where
        fewer : (t : Termination) (b : Bool) → is_in (if b then spot_after t else c.spot t) n ≡ true → is_in (c.spot t) n ≡ true
        fewer t true is = absurd (not_both is (left_nowhere t n))
        fewer t false is = is

    pub left_mode : (k : ℕ) → after (Ephemeral k) ≡ Absent → (if leaves (Ephemeral k) then Inactive else c.mode (Ephemeral k)) ≡ Inactive
    left_mode k = by_test (leaves (Ephemeral k))
      where
        by_test : (b : Bool) → (if b then Absent else c.spot (Ephemeral k)) ≡ Absent → (if b then Inactive else c.mode (Ephemeral k)) ≡ Inactive
        by_test true absent = refl
        by_test false absent = formed.absent_mode k absent

    pub left_unset : (k : ℕ) → after (Ephemeral k) ≡ Absent → remote_after leaves k (c.remote k) ≡ Unset
    left_unset k = by_test (leaves (Ephemeral k)) refl
      where
        by_test : (b : Bool) → leaves (Ephemeral k) ≡ b → (if b then Absent else c.spot (Ephemeral k)) ≡ Absent → remote_after leaves k (c.remote k) ≡ Unset
        by_test true left absent = left_remote leaves k (c.remote k) left
        by_test false stays absent = ap (remote_after leaves k) (formed.absent_remote k absent)

    pub left_named : (k m : ℕ) → remote_after leaves k (c.remote k) ≡ To m → IsTrue (is_present (after (Ephemeral m)))
    left_named k m is =
        let still = still_named leaves k m (c.remote k) is in
        subst (λ (s : Spot). IsTrue (is_present s)) (sym (where_false (leaves (Ephemeral m)) Absent (c.spot (Ephemeral m)) still.1))
        (formed.named k m still.0)

    pub left_cut : (x y : Termination) → IsTrue (without_cuts_of leaves c.cut x y) → (n : ℕ) × (IsTrue (is_in (after x) n) × IsTrue (is_in (after y) n))
    left_cut = cut_of_staying leaves after (λ t stays. where_false (leaves t) (spot_after t) (c.spot t) stays)

  -- all of a context leave, and its name is free
  pub emptied_live : (j n : ℕ)
      → is_live (value_of (if n == j then Free else c.context n) (stands_in (after (λ t. is_in (c.spot t) j)) n))
      ≡ stands_in (after (λ t. is_in (c.spot t) j)) n
  emptied_live j n = by_test (n == j) refl
    where
      spot : Termination → Spot
      spot = after (λ t. is_in (c.spot t) j)

      by_test : (b : Bool) → (n == j) ≡ b → is_live (value_of (if b then Free else c.context n) (stands_in spot n)) ≡ stands_in spot n
      by_test true here = sym (ap (λ (m : ℕ). stands_in spot m) (eqb-true n j here) ∙ all_left c.spot j)
      by_test false elsewhere = left_live (λ t. is_in (c.spot t) j) n
