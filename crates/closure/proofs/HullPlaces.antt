-- Which contexts exist after a command, in the whole hull of some configurations.
use Rattle.std.proofs.Common.{◌≡◌, ◌∙◌, ℕ, zero, suc, ◌≤◌, ◌==◌, ◌||◌, Bool, true, false, if◌then◌else◌, List, [], ◌∷◌, map, refl, sym, ap, subst, arith, IsTrue, Contains, not, Result}
use Rattle.std.specs.Prelude.{IfOk}
use Rattle.std.proofs.lemmas.Result.{IfOk-weaker}
use Rattle.std.specs.List.{list_any}
use Rattle.std.proofs.Math.Path.{fun_ext}
use Rattle.mg_names.specs.declared.context_values.ContextValue.{ContextValue}
use Rattle.mg_names.specs.declared.context_values.ContextValue.TheVariants.{Free, Live, Stale}
use Rattle.mg_model.specs.declared.commands.Command.{Command}
use Rattle.mg_model.specs.declared.commands.Command.TheVariants.{AddLine, AddEphemeral, ModifyLine, ModifyEphemeral, MoveLine, MoveEphemeral, Subtract, SubtractAll, SetTopology}
use Rattle.mg_model.specs.declared.commands.Termination.{Termination}
use Rattle.mg_model.specs.declared.commands.Termination.TheVariants.{Line, Ephemeral}
use Rattle.mg_model.specs.declared.components.Spot.{Spot}
use Rattle.mg_model.specs.declared.components.Spot.TheVariants.{Absent, Null, In}
use Rattle.mg_model.specs.Script.{Script}
use Rattle.mg_model.specs.Configuration.{Configuration, IsWellFormed, is_free, is_in, is_live, is_null, is_present, is_same, settled, stands_in, terminations, value_of, with_of}
use Rattle.mg_model.specs.Effects.{effect, is_legal, spot_after}
use Rattle.mg_model.specs.Updates.{with_at}
use Rattle.mg_model.proofs.Cases.{and_second, where_false}
use Rattle.mg_model.proofs.Terminations.{is_in_is, is_same_is}
use Rattle.configuration.specs.Config.{configuration_of}
use Rattle.configuration.specs.Packed.{Words}
use Rattle.configuration.proofs.SlotLemmas.{free_past_four}
use Rattle.closure.specs.Elementwise.{settled_at}
use Rattle.closure.specs.Hulls.{HasOne, IsInHull}
use Rattle.closure.specs.Emptying.{AreMade}
use Rattle.closure.specs.Placing.{AddsAbsent, AreLed, IsNowhere, IsSettledAt, IsUniform, LeavesAlone, unsettled, valued_at}
use Rattle.closure.proofs.ByComponent.{hull_by, valued_by}
use Rattle.closure.proofs.GivenValues.{same_number}
use Rattle.closure.proofs.FormedPlaces.{left_nowhere, null_nowhere, settles_itself, stands_alike}
use Rattle.closure.proofs.NamedHulls.{each_config, stays_past}
use Rattle.closure.proofs.SettleLemmas.{settled_all}

-- ---- who stands in a context

or_first : (a b : Bool) → a ≡ true → (a || b) ≡ true
or_first true b e = refl
or_first false b e = absurd (cc (e))

or_second : (a b : Bool) → b ≡ true → (a || b) ≡ true
or_second true b e = refl
or_second false b e = e

-- where one passes a test, some do
pub one_passes : {X : Type 0} (test : X → Bool) (xs : List X) (x : X) → Contains xs x → test x ≡ true → list_any test xs ≡ true
one_passes test [] x has passes = absurd (omega (arith, has.1))
one_passes test (y ∷ xs) x (zero, lt, is) passes = or_first (test y) (list_any test xs) (ap test is ∙ passes)
one_passes test (y ∷ xs) x (suc k, lt, is) passes =
    or_second (test y) (list_any test xs) (one_passes test xs x (k, omega (arith, lt), is) passes)

-- where none passes it, one doesn't; and where each fails it none passes it
none_first : (a b : Bool) → (a || b) ≡ false → a ≡ false
none_first true b e = absurd (cc (e))
none_first false b e = refl

none_second : (a b : Bool) → (a || b) ≡ false → b ≡ false
none_second true b e = absurd (cc (e))
none_second false b e = e

one_fails : {X : Type 0} (test : X → Bool) (xs : List X) (x : X) → Contains xs x → list_any test xs ≡ false → test x ≡ false
one_fails test [] x has none = absurd (omega (arith, has.1))
one_fails test (y ∷ xs) x (zero, lt, is) none = ap test (sym is) ∙ none_first (test y) (list_any test xs) none
one_fails test (y ∷ xs) x (suc k, lt, is) none = one_fails test xs x (k, omega (arith, lt), is) (none_second (test y) (list_any test xs) none)

all_fail : {X : Type 0} (test : X → Bool) (xs : List X) → ((x : X) → Contains xs x → test x ≡ false) → list_any test xs ≡ false
all_fail test [] each = refl
all_fail test (y ∷ xs) each =
    rw (each y (0, omega arith, refl)) (all_fail test xs (λ x has. each x (suc has.0, omega (arith, has.1), has.2)))

module _ (some : List Configuration) (n : ℕ) (c : Configuration) (inside : IsInHull some c) where
  pub one_stands : (t : Termination) → Contains terminations t → ((d : Configuration) → Contains some d → IsTrue (is_in (d.spot t) n))
      → IsTrue (stands_in c.spot n)
  one_stands t among each = let at = inside.spot t in
      one_passes (λ (u : Termination). is_in (c.spot u) n) terminations t among (ap (λ (spot : Spot). is_in spot n) (sym at.1.1) ∙ each at.0 at.1.0)

  pub none_stands : ((d : Configuration) → Contains some d → stands_in d.spot n ≡ false) → stands_in c.spot n ≡ false
  none_stands each = all_fail (λ (u : Termination). is_in (c.spot u) n) terminations (λ t among. let at = inside.spot t in
      ap (λ (spot : Spot). is_in spot n) (sym at.1.1) ∙ one_fails (λ (u : Termination). is_in (at.0.spot u) n) terminations t among (each at.0 at.1.0))

-- ---- a context name says whether its context exists

-- it is known whether it does
pub valued_in_hull : (some : List Configuration) (n : ℕ) (exists : Bool) (c : Configuration) → IsInHull some c → stands_in c.spot n ≡ exists
    → IsInHull (map (valued_at n exists) some) (settled_at c n)
valued_in_hull some n exists c inside stands =
    subst (λ (b : Bool). IsInHull (map (valued_at n exists) some) (valued_at n b c)) (sym stands)
    (hull_by some (valued_at n exists) c (valued_by n exists) inside)

-- the other components of one with another context name
module _ (some : List Configuration) (n : ℕ) (v : ContextValue) (c : Configuration) (inside : IsInHull some c) where
  name_in_hull : HasOne some (λ d. d.context n) v → IsInHull some (record c { context = with_at c.context n v })
  name_in_hull one = record {
    state = inside.state;
    link = inside.link;
    spot = inside.spot;
    mode = inside.mode;
    events = inside.events;
    plays = inside.plays;
    context = λ m. by_number m (m == n) refl;
    remote = inside.remote;
    cut = inside.cut;
  }
    where
      by_number : (m : ℕ) (b : Bool) → (m == n) ≡ b → HasOne some (λ d. d.context m) (if b then v else c.context m)
      by_number m true here = subst (λ (k : ℕ). HasOne some (λ d. d.context k) v) (sym (same_number m n here)) one
      by_number m false there = inside.context m

-- it is as it was
pub name_stays : (some : List Configuration) (n : ℕ) (c : Configuration) → IsInHull some c → value_of (c.context n) (stands_in c.spot n) ≡ c.context n
    → IsInHull some (settled_at c n)
name_stays some n c inside same =
    subst (λ (v : ContextValue). IsInHull some (record c { context = with_at c.context n v })) (sym same) (name_in_hull some n (c.context n) c inside (inside.context n))

-- a name that isn't bound, and an ephemeral that isn't there
pub not_bound : (v : ContextValue) → not (is_free v) ≡ false → v ≡ Free
not_bound Free e = refl
not_bound Live e = absurd (cc (e))
not_bound Stale e = absurd (cc (e))

pub not_there : (spot : Spot) → is_present spot ≡ false → spot ≡ Absent
not_there Absent e = refl
not_there Null e = absurd (cc (e))
not_there (In j) e = absurd (cc (e))

-- no name that isn't bound stands for anything
pub free_stays : (some : List Configuration) (n : ℕ) (c : Configuration) → IsInHull some c → ((d : Configuration) → Contains some d → d.context n ≡ Free)
    → IsInHull some (settled_at c n)
free_stays some n c inside free =
    let at = inside.context n in
    let unbound : c.context n ≡ Free = sym at.1.1 ∙ free at.0 at.1.0 in
    name_stays some n c inside (ap (λ (v : ContextValue). value_of v (stands_in c.spot n)) unbound ∙ sym unbound)

-- it may stand for what exists and for what doesn't
module _ (some made : List Configuration) (keeps : (d : Configuration) → Contains some d → Contains made d) where
  pub one_more : {A : Type 0} (of : Configuration → A) (v : A) → HasOne some of v → HasOne made of v
  one_more of v one = (one.0, (keeps one.0 one.1.0, one.1.1))

  pub more_in_hull : (c : Configuration) → IsInHull some c → IsInHull made c
  more_in_hull c inside = record {
    state = one_more (λ d. d.state) c.state inside.state;
    link = one_more (λ d. d.link) c.link inside.link;
    spot = λ t. one_more (λ d. d.spot t) (c.spot t) (inside.spot t);
    mode = λ t. one_more (λ d. d.mode t) (c.mode t) (inside.mode t);
    events = λ i. one_more (λ d. d.events i) (c.events i) (inside.events i);
    plays = λ i. one_more (λ d. d.plays i) (c.plays i) (inside.plays i);
    context = λ j. one_more (λ d. d.context j) (c.context j) (inside.context j);
    remote = λ k. one_more (λ d. d.remote k) (c.remote k) (inside.remote k);
    cut = λ t u. one_more (λ d. d.cut t u) (c.cut t u) (inside.cut t u);
  }

  pub either_in_hull : (n : ℕ) → HasOne made (λ d. d.context n) Live → HasOne made (λ d. d.context n) Stale → (c : Configuration) → IsInHull some c
      → IsInHull made (settled_at c n)
  either_in_hull n live stale c inside =
      name_in_hull made n (value_of (c.context n) (stands_in c.spot n)) c (more_in_hull c inside)
      (valued (c.context n) (stands_in c.spot n) (one_more (λ d. d.context n) (c.context n) (inside.context n)))
    where
      valued : (v : ContextValue) (b : Bool) → HasOne made (λ d. d.context n) v → HasOne made (λ d. d.context n) (value_of v b)
      valued Free b one = one
      valued Live true one = live
      valued Live false one = stale
      valued Stale true one = live
      valued Stale false one = stale

-- ---- a context that a command leaves alone

module _ (some : List Configuration) (c : Configuration) (inside : IsInHull some c) (formed : IsWellFormed c) (n : ℕ) where
  -- what stands in it doesn't change, nor does its name
  name_kept : (spot : Termination → Spot) (v : ContextValue) → ((t : Termination) → is_in (spot t) n ≡ is_in (c.spot t) n) → v ≡ c.context n
      → value_of v (stands_in spot n) ≡ v
  name_kept spot v same is =
      ap (λ (w : ContextValue). value_of w (stands_in spot n)) is ∙ ap (value_of (c.context n)) (stands_alike spot c.spot n same)
      ∙ settles_itself c formed n ∙ sym is

  nowhere_too : (t : Termination) → IsNowhere some t n → is_in (c.spot t) n ≡ false
  nowhere_too t never = let at = inside.spot t in ap (λ (spot : Spot). is_in spot n) (sym at.1.1) ∙ never at.0 at.1.0

  -- something is put into another context, and stood in none or elsewhere
  put_elsewhere : (t : Termination) (j : ℕ) → (n == j) ≡ false → is_in (c.spot t) n ≡ false
      → (u : Termination) → is_in (with_of c.spot t (In j) u) n ≡ is_in (c.spot u) n
  put_elsewhere t j apart never u = by_test (is_same u t) refl
    where
      by_test : (b : Bool) → is_same u t ≡ b → is_in (if b then In j else c.spot u) n ≡ is_in (c.spot u) n
      by_test true here = turned j n apart ∙ sym never ∙ ap (λ (x : Termination). is_in (c.spot x) n) (sym (is_same_is u t here))
        where
          turned : (a b : ℕ) → (b == a) ≡ false → (a == b) ≡ false
          turned a b e = grind (arith, e)
      by_test false there = refl

  in_one : (spot : Spot) (j : ℕ) → is_in spot j ≡ true → (n == j) ≡ false → is_in spot n ≡ false
  in_one spot j here apart = ap (λ (s : Spot). is_in s n) (is_in_is spot j here) ∙ turned j n apart
    where
      turned : (a b : ℕ) → (b == a) ≡ false → (a == b) ≡ false
      turned a b e = grind (arith, e)

  -- terminations leave that stood elsewhere
  left_elsewhere : (leaves : Termination → Bool) → ((u : Termination) → leaves u ≡ true → is_in (c.spot u) n ≡ false)
      → (u : Termination) → is_in (if leaves u then spot_after u else c.spot u) n ≡ is_in (c.spot u) n
  left_elsewhere leaves never u = by_test (leaves u) refl
    where
      by_test : (b : Bool) → leaves u ≡ b → is_in (if b then spot_after u else c.spot u) n ≡ is_in (c.spot u) n
      by_test true here = left_nowhere u n ∙ sym (never u here)
      by_test false there = refl

  pub left_alone : (script : Script) (command : Command) → IsTrue (is_legal c command) → AddsAbsent c command → LeavesAlone some command n
      → value_of ((unsettled script command c).context n) (stands_in (unsettled script command c).spot n) ≡ (unsettled script command c).context n
  left_alone script (AddLine create j i options) legal absent apart =
      name_kept (with_of c.spot (Line i) (In j)) (with_at c.context j Live n)
      (put_elsewhere (Line i) j apart (null_nowhere (c.spot (Line i)) (and_second (create || is_live (c.context j)) (is_null (c.spot (Line i))) legal) n))
      (where_false (n == j) Live (c.context n) apart)
  left_alone script (AddEphemeral create j k options) legal absent apart =
      name_kept (with_of c.spot (Ephemeral k) (In j)) (with_at c.context j Live n)
      (put_elsewhere (Ephemeral k) j apart (ap (λ (spot : Spot). is_in spot n) absent)) (where_false (n == j) Live (c.context n) apart)
  left_alone script (ModifyLine place i options) legal absent apart = settles_itself c formed n
  left_alone script (ModifyEphemeral place k options) legal absent apart = settles_itself c formed n
  left_alone script (MoveLine j i options) legal absent apart =
      name_kept (with_of c.spot (Line i) (In j)) (with_at c.context j Live n) (put_elsewhere (Line i) j apart.0 (nowhere_too (Line i) apart.1))
      (where_false (n == j) Live (c.context n) apart.0)
  left_alone script (MoveEphemeral j k options) legal absent apart =
      name_kept (with_of c.spot (Ephemeral k) (In j)) (with_at c.context j Live n)
      (put_elsewhere (Ephemeral k) j apart.0 (nowhere_too (Ephemeral k) apart.1)) (where_false (n == j) Live (c.context n) apart.0)
  left_alone script (Subtract j t) legal absent apart =
      name_kept (λ u. if is_same t u then spot_after u else c.spot u) (c.context n)
      (left_elsewhere (is_same t) (λ u here. ap (λ (x : Termination). is_in (c.spot x) n) (sym (is_same_is t u here))
      ∙ in_one (c.spot t) j (and_second (is_live (c.context j)) (is_in (c.spot t) j) legal) apart)) refl
  left_alone script (SubtractAll j) legal absent apart = by_test (n == j) refl
    where
      by_test : (b : Bool) → (n == j) ≡ b
          → value_of (if b then Free else c.context n) (stands_in (λ u. if is_in (c.spot u) j then spot_after u else c.spot u) n)
          ≡ (if b then Free else c.context n)
      by_test true here = refl
      by_test false there = name_kept (λ u. if is_in (c.spot u) j then spot_after u else c.spot u) (c.context n)
          (left_elsewhere (λ u. is_in (c.spot u) j) (λ u here. in_one (c.spot u) j here there)) refl
  left_alone script (SetTopology j t u topology) legal absent apart = settles_itself c formed n

pub alone_settled : (script : Script) (some made : List Configuration) (command : Command) (surviving : List Bool) (n : ℕ) → LeavesAlone some command n
    → IsSettledAt script some command surviving n made made
alone_settled script some made command surviving n alone c x inside formed legal survive absent spots names before =
    name_stays made n x before
    (ap (λ (v : ContextValue). value_of v (stands_in x.spot n)) names
    ∙ ap (λ (spot : Termination → Spot). value_of ((unsettled script command c).context n) (stands_in spot n)) spots
    ∙ left_alone some c inside formed n script command legal absent alone ∙ sym names)

-- ---- what was made, if there was room

pub all_valued : {E : Type 0} (some : List Configuration) (n : ℕ) (exists : Bool) → ((c : Configuration) → IsInHull some c → stands_in c.spot n ≡ exists)
    → (made : Result (List Words) E) → IfOk made (λ m. map configuration_of m ≡ map (valued_at n exists) some)
    → IfOk made (λ m. (c : Configuration) → IsInHull some c → IsInHull (map configuration_of m) (settled_at c n))
all_valued some n exists stands made =
    IfOk-weaker made (λ m. map configuration_of m ≡ map (valued_at n exists) some)
    (λ m. (c : Configuration) → IsInHull some c → IsInHull (map configuration_of m) (settled_at c n))
    (λ m is c inside. subst (λ (ds : List Configuration). IsInHull ds (settled_at c n)) (sym is) (valued_in_hull some n exists c inside (stands c inside)))

pub all_settled : {E : Type 0} (some before : List Configuration) (command : Command) (surviving : List Bool) (n : ℕ) (made : Result (List Words) E)
    → IfOk made (λ m. (x : Configuration) → IsInHull before x → IsInHull (map configuration_of m) (settled_at x n))
    → IfOk made (λ m. (script : Script) → IsSettledAt script some command surviving n before (map configuration_of m))
all_settled some before command surviving n made =
    IfOk-weaker made (λ m. (x : Configuration) → IsInHull before x → IsInHull (map configuration_of m) (settled_at x n))
    (λ m. (script : Script) → IsSettledAt script some command surviving n before (map configuration_of m))
    (λ m settles script c x inside formed legal survive absent spots names before_x. settles x before_x)

-- ---- the context names of another configuration

abbrev pub named_from : Configuration → ℕ → Configuration → Configuration
named_from other n c = record c { context = with_at c.context n (other.context n) }

-- four slots are all
pub four_contexts : (other c : Configuration) → ((j : ℕ) → 4 ≤ j → c.context j ≡ Free) → ((j : ℕ) → 4 ≤ j → other.context j ≡ Free)
    → named_from other 3 (named_from other 2 (named_from other 1 (named_from other 0 c))) ≡ record c { context = other.context }
four_contexts other c free other_free = ap (λ (names : ℕ → ContextValue). record c { context = names }) (fun_ext at)
  where
    at : (j : ℕ) → (named_from other 3 (named_from other 2 (named_from other 1 (named_from other 0 c)))).context j ≡ other.context j
    at zero = refl
    at (suc zero) = refl
    at (suc (suc zero)) = refl
    at (suc (suc (suc zero))) = refl
    at (suc (suc (suc (suc j)))) =
        stays_past j _ _ _ _ _ ∙ free (suc (suc (suc (suc j)))) (omega arith) ∙ sym (other_free (suc (suc (suc (suc j)))) (omega arith))

-- ---- a command

-- what it makes is as said, once each context name says whether its context exists
settled_effect : (script : Script) (c : Configuration) → IsWellFormed c → (command : Command) → settled (unsettled script command c) ≡ effect script c command
settled_effect script c formed (AddLine create j i options) = refl
settled_effect script c formed (AddEphemeral create j k options) = refl
settled_effect script c formed (ModifyLine place i options) =
    ap (λ (names : ℕ → ContextValue). record (effect script c (ModifyLine place i options)) { context = names }) (fun_ext (settles_itself c formed))
settled_effect script c formed (ModifyEphemeral place k options) =
    ap (λ (names : ℕ → ContextValue). record (effect script c (ModifyEphemeral place k options)) { context = names }) (fun_ext (settles_itself c formed))
settled_effect script c formed (MoveLine j i options) = refl
settled_effect script c formed (MoveEphemeral j k options) = refl
settled_effect script c formed (Subtract j t) = refl
settled_effect script c formed (SubtractAll j) = refl
settled_effect script c formed (SetTopology j t u topology) =
    ap (λ (names : ℕ → ContextValue). record (effect script c (SetTopology j t u topology)) { context = names }) (fun_ext (settles_itself c formed))

-- what a uniform command adds is absent
adds_absent : (some : List Configuration) (c : Configuration) → IsInHull some c → (command : Command) → IsUniform some command → AddsAbsent c command
adds_absent some c inside (AddLine create j i options) uniform = uniform
adds_absent some c inside (AddEphemeral create j k options) uniform = let at = inside.spot (Ephemeral k) in sym at.1.1 ∙ uniform at.0 at.1.0
adds_absent some c inside (ModifyLine place i options) uniform = uniform
adds_absent some c inside (ModifyEphemeral place k options) uniform = uniform
adds_absent some c inside (MoveLine j i options) uniform = uniform
adds_absent some c inside (MoveEphemeral j k options) uniform = uniform
adds_absent some c inside (Subtract j t) uniform = uniform
adds_absent some c inside (SubtractAll j) uniform = tt
adds_absent some c inside (SetTopology j t u topology) uniform = uniform

pub all_led : (script : Script) (some : List Configuration) (command : Command) (surviving : List Bool) → IsUniform some command → (words : List Words)
    → AreMade script some command (map configuration_of words) → (one two three four : List Configuration)
    → IsSettledAt script some command surviving 0 (map configuration_of words) one → IsSettledAt script some command surviving 1 one two
    → IsSettledAt script some command surviving 2 two three → IsSettledAt script some command surviving 3 three four → AreLed script some command surviving four
all_led script some command surviving uniform words makes one two three four first second third fourth c inside formed legal survive =
    let absent = adds_absent some c inside command uniform in
    let x : Configuration = unsettled script command c in
    let at_first : IsInHull (map configuration_of words) x = makes c inside in
    let at_second = first c x inside formed legal survive absent refl refl at_first in
    let at_third = second c (settled_at x 0) inside formed legal survive absent refl refl at_second in
    let at_fourth = third c (settled_at (settled_at x 0) 1) inside formed legal survive absent refl refl at_third in
    let at_last = fourth c (settled_at (settled_at (settled_at x 0) 1) 2) inside formed legal survive absent refl refl at_fourth in (
      absent,
      subst (λ (d : Configuration). IsInHull four d) (settled_all x (free_past at_first) ∙ settled_effect script c formed command) at_last,
    )
  where
    free_past : {x : Configuration} → IsInHull (map configuration_of words) x → (j : ℕ) → 4 ≤ j → x.context j ≡ Free
    free_past made j past = let at = made.context j in
        sym at.1.1 ∙ each_config (λ (d : Configuration). d.context j ≡ Free) (λ w. free_past_four w j past) words at.0 at.1.0
