-- From facts of each number of each entry to facts of each point and of each step; and small laws of configurations: when one is well
-- formed, and that no two of two lines are joined where the second stands in the null context.
use Rattle.std.proofs.Common.{eqb-true, ◌≡◌, ◌∙◌, ◌<◌, ◌==◌, ℕ, zero, suc, Bool, true, false, if◌then◌else◌, List, [], ◌∷◌, length, Option, Some, is_some, refl, sym, ap, subst, arith, true≢false, inl, inr}
use Rattle.std.proofs.lemmas.Bool.{and_parts}
use Rattle.std.proofs.lemmas.Grind.{common_steps}
use Rattle.std.specs.Prelude.{◌⊎◌, slice_get, not, ◌&&◌, IsTrue, unwrap_or}
use Rattle.mg_examples.proofs.Words.{ContextValue, Free, Live, Stale, Inactive, LinkPhase, Termination, Ephemeral, Unset, Spot, Absent, Null, In, Pair}
use Rattle.mg_examples.proofs.Words.{Configuration, IsWellFormed, is_same, is_live, is_in, stands_in, Entry, IsCovered, numbered, size_of, with_pair, AtPoint}
use Rattle.mg_examples.proofs.Words.{JoinedAreMarked, NamesAreLive, Holds, OfPoint, EndedCleared, StepCovered, Step, steps_of, is_marked, state_of, Script}
use Rattle.mg_examples.proofs.Words.{Gone, To}
use Rattle.mg_model.specs.declared.commands.Termination.TheVariants.{Line}
use Rattle.mg_model.specs.declared.components.Remote.{Remote}
use Rattle.mg_model.specs.Paths.{hops, goes_over, is_shared, passes_in, passes_out, crosses, HasPath}
use Rattle.mg_model.proofs.Cases.{three_parts}

-- ---- points

-- the numbers below one and below two
pub below_one : (P : ℕ → Type 0) → P 0 → (n : ℕ) → n < 1 → P n
below_one P first zero within = first
below_one P first (suc n) within = absurd (let out : suc n < 1 = within in omega (arith, out))

pub below_two : (P : ℕ → Type 0) → P 0 → P 1 → (n : ℕ) → n < 2 → P n
below_two P first second zero within = first
below_two P first second (suc zero) within = second
below_two P first second (suc (suc n)) within = absurd (let out : suc (suc n) < 2 = within in omega (arith, out))

-- a fact of each number below n, for what is well formed
unfoldable pub Below : (Configuration → Type 0) → Entry → ℕ → Type 0
Below P entry zero = Unit {0}
Below P entry (suc n) = (IsWellFormed (numbered entry n) → P (numbered entry n)) × Below P entry n

unfoldable pub EachPoint : (Configuration → Type 0) → List Entry → Type 0
EachPoint P [] = Unit {0}
EachPoint P (entry ∷ more) = Below P entry (size_of entry.components) × EachPoint P more

-- a fact of the one point of an entry and of its two points, the last number first, whether they are well formed or not; and then those of more entries
pub one_point : {A B : Type 0} → B → (A → B) × Unit {0}
one_point first = ((λ formed. first), tt)

pub two_points : {A B C D : Type 0} → B → D → (C → D) × ((A → B) × Unit {0})
two_points first second = ((λ formed. second), one_point first)

infixr 5 ◌▹◌
pub ◌▹◌ : {A B : Type 0} → A → B → A × B
its ▹ others = (its, others)

lies_before : (n size : ℕ) → n < suc size → (n == size) ≡ false → n < size
lies_before n size within other = grind (arith, common_steps)

pub at_number : (P : Configuration → Type 0) (entry : Entry) (size number : ℕ) → Below P entry size → number < size
    → IsWellFormed (numbered entry number) → P (numbered entry number)
unfolding Below
at_number P entry zero number h within formed = absurd (let out : number < 0 = within in omega (arith, out))
at_number P entry (suc size) number h within formed =
    by_last (number == size) refl (λ other. at_number P entry size number h.1 (lies_before number size within other) formed)
  where
    by_last : (b : Bool) → (number == size) ≡ b → ((number == size) ≡ false → P (numbered entry number)) → P (numbered entry number)
    by_last true is before =
        let same = eqb-true number size is in
        subst (λ n. P (numbered entry n)) (sym same) (h.0 (subst (λ n. IsWellFormed (numbered entry n)) same formed))
    by_last false is before = before is

pub at_points : (P : Configuration → Type 0) (entries : List Entry) → EachPoint P entries → (e p : ℕ) → AtPoint entries e p P
unfolding EachPoint
at_points P [] h e p entry there c point = absurd (true≢false (sym (ap is_some there)))
at_points P (first ∷ more) h zero p entry there c point =
    let same : first ≡ entry = ap (λ (x : Option Entry). unwrap_or x entry) there in
    let here : Below P entry (size_of entry.components) = subst (λ (x : Entry). Below P x (size_of x.components)) same h.0 in
    subst P (sym point.1) (at_number P entry (size_of entry.components) p here point.0 (subst IsWellFormed point.1 point.2))
at_points P (first ∷ more) h (suc e) p entry there c point = at_points P more h.1 e p entry there c point

-- ---- well formed

-- no ephemeral is in use and nothing is cut
pub record IsPlain (c : Configuration) : Type 0 where
  pub mode : (k : ℕ) → c.mode (Ephemeral k) ≡ Inactive
  pub remote : (k : ℕ) → c.remote k ≡ Unset
  pub uncut : (t u : Termination) → c.cut t u ≡ false

abbrev is_unset : Remote → Bool
is_unset Unset = true
is_unset Gone = false
is_unset (To i) = false

pub plain_formed : (c : Configuration) → ((j : ℕ) → is_live (c.context j) ≡ stands_in c.spot j) → IsPlain c → IsWellFormed c
plain_formed c live plain = record {
  live = live;
  absent_mode = λ k absent. plain.mode k;
  absent_remote = λ k absent. plain.remote k;
  named = λ k i is. absurd (true≢false (ap is_unset (sym (plain.remote k) ∙ is)));
  cut_within = λ t u cut. absurd (true≢false (sym cut ∙ plain.uncut t u));
}

pub pair_uncut : (cut : Termination → Termination → Bool) → ((x y : Termination) → cut x y ≡ false) → (t u x y : Termination)
    → with_pair cut t u false x y ≡ false
pair_uncut cut none t u x y = either (is_same x t && is_same y u) (cut x y) (none x y)
  where
    either : (test was : Bool) → was ≡ false → (if test then false else was) ≡ false
    either true was none = refl
    either false was none = none

-- ---- joined

no_share : (t u : Spot) → (t ≡ Null) ⊎ (u ≡ Null) → is_shared t u ≡ false
no_share t u (inl e) = ap (λ x. is_shared x u) e
no_share Absent u (inr e) = refl
no_share Null u (inr e) = refl
no_share (In j) u (inr e) = ap (λ x. is_in x j) e

no_hop : (c : Configuration) (t u : Termination) → (c.spot t ≡ Null) ⊎ (c.spot u ≡ Null) → IsTrue (hops c t u) → ⊥
no_hop c t u null hop =
    at_once (is_same t u) (is_shared (c.spot t) (c.spot u)) (passes_in (c.mode t)) (passes_out (c.mode u)) (c.cut t u)
    (no_share (c.spot t) (c.spot u) null) hop
  where
    at_once : (same shared inward outward cut : Bool) → shared ≡ false → IsTrue (not same && shared && inward && outward && not cut) → ⊥
    at_once same shared inward outward cut e h = grind (arith, common_steps)

no_path : (c : Configuration) (from to : Termination) (crossings : List (ℕ × ℕ)) → (c.spot from ≡ Null) ⊎ (c.spot to ≡ Null)
    → IsTrue (goes_over c from crossings to) → ⊥
no_path c from to [] null path = no_hop c from to null path
no_path c from to (crossing ∷ more) (inl null) path =
    no_hop c from (Ephemeral crossing.0) (inl null)
    (three_parts (hops c from (Ephemeral crossing.0)) (crosses c crossing.0 crossing.1) (goes_over c (Ephemeral crossing.1) more to) path).0
no_path c from to (crossing ∷ more) (inr null) path =
    no_path c (Ephemeral crossing.1) to more (inr null)
    (three_parts (hops c from (Ephemeral crossing.0)) (crosses c crossing.0 crossing.1) (goes_over c (Ephemeral crossing.1) more to) path).2

-- of two lines that differ, one is the second
one_is_second : (P : ℕ → Type 0) (i j : ℕ) → i < 2 → j < 2 → (i ≡ j → ⊥) → P 1 → P i ⊎ P j
one_is_second P zero zero first second differ at = absurd (differ refl)
one_is_second P (suc zero) j first second differ at = inl at
one_is_second P zero (suc zero) first second differ at = inr at
one_is_second P (suc (suc i)) j first second differ at = absurd (let out : suc (suc i) < 2 = first in omega (arith, out))
one_is_second P i (suc (suc j)) first second differ at = absurd (let out : suc (suc j) < 2 = second in omega (arith, out))

-- where the second of two lines stands in the null context, no two are joined
pub none_joined : (script : Script) (c : Configuration) → length script.lines ≡ 2 → c.spot (Line 1) ≡ Null → JoinedAreMarked script c
none_joined script c two null i j first second joined =
    absurd (either joined (one_is_second (λ n. c.spot (Line n) ≡ Null) i j (subst (λ n. i < n) two first) (subst (λ n. j < n) two second) (differ joined) null))
  where
    differ : HasPath c i j ⊎ HasPath c j i → i ≡ j → ⊥
    differ (inl path) e = path.another e
    differ (inr path) e = path.another (sym e)

    either : HasPath c i j ⊎ HasPath c j i → (c.spot (Line i) ≡ Null) ⊎ (c.spot (Line j) ≡ Null) → ⊥
    either (inl path) one = no_path c (Line i) (Line j) path.crossings one path.goes
    either (inr path) (inl e) = no_path c (Line j) (Line i) path.crossings (inr e) path.goes
    either (inr path) (inr e) = no_path c (Line j) (Line i) path.crossings (inl e) path.goes

-- two lines that differ are the first and the second
pair_marked : (talk : List Pair) → IsTrue (is_marked talk 0 1 && is_marked talk 1 0) → (i j : ℕ) → i < 2 → j < 2 → (i ≡ j → ⊥) → IsTrue (is_marked talk i j)
pair_marked talk both zero zero first second differ = absurd (differ refl)
pair_marked talk both zero (suc zero) first second differ = (and_parts (is_marked talk 0 1) (is_marked talk 1 0) both).0
pair_marked talk both (suc zero) zero first second differ = (and_parts (is_marked talk 0 1) (is_marked talk 1 0) both).1
pair_marked talk both (suc zero) (suc zero) first second differ = absurd (differ refl)
pair_marked talk both (suc (suc i)) j first second differ = absurd (let out : suc (suc i) < 2 = first in omega (arith, out))
pair_marked talk both i (suc (suc j)) first second differ = absurd (let out : suc (suc j) < 2 = second in omega (arith, out))

-- so a state that marks them, either way round, marks all that can be joined in a script of two lines
pub two_marked : (script : Script) (c : Configuration) → length script.lines ≡ 2
    → IsTrue (is_marked (state_of script c.state).talk 0 1 && is_marked (state_of script c.state).talk 1 0) → JoinedAreMarked script c
two_marked script c two both i j first second joined =
    pair_marked (state_of script c.state).talk both i j (subst (λ n. i < n) two first) (subst (λ n. j < n) two second) (differ joined)
  where
    differ : HasPath c i j ⊎ HasPath c j i → i ≡ j → ⊥
    differ (inl path) e = path.another e
    differ (inr path) e = path.another (sym e)

-- ---- names

abbrev pub is_stale : ContextValue → Bool
is_stale Stale = true
is_stale Free = false
is_stale Live = false

abbrev is_gone : Remote → Bool
is_gone Gone = true
is_gone Unset = false
is_gone (To i) = false

one_of_two : (first : Bool) (value : ContextValue) → is_stale value ≡ false → is_stale (if first then value else Free) ≡ false
one_of_two true value e = e
one_of_two false value e = refl

-- where the first context has a value that is not stale, no other is bound, and no ephemeral has a Remote
pub first_stands : (c : Configuration) (value : ContextValue) → is_stale value ≡ false → ((j : ℕ) → c.context j ≡ (if j == 0 then value else Free))
    → ((k : ℕ) → c.remote k ≡ Unset) → NamesAreLive c
first_stands c value stands contexts unset link = record {
  contexts = λ j stale. absurd (true≢false (sym (ap is_stale stale) ∙ ap is_stale (contexts j) ∙ one_of_two (j == 0) value stands));
  remotes = λ k gone. absurd (true≢false (sym (ap is_gone gone) ∙ ap is_gone (unset k)));
}

-- where no context is bound
pub none_bound : (c : Configuration) → ((j : ℕ) → c.context j ≡ Free) → ((k : ℕ) → c.remote k ≡ Unset) → NamesAreLive c
none_bound c contexts unset link = record {
  contexts = λ j stale. absurd (true≢false (sym (ap is_stale stale) ∙ ap is_stale (contexts j)));
  remotes = λ k gone. absurd (true≢false (sym (ap is_gone gone) ∙ ap is_gone (unset k)));
}

-- ---- steps

-- each step leads to a configuration that is covered
unfoldable pub EachCovered : List Entry → List Step → Type 0
EachCovered entries [] = Unit {0}
EachCovered entries (step ∷ more) = IsCovered entries step.1 × EachCovered entries more

pub step_covered : (entries : List Entry) (steps : List Step) → EachCovered entries steps → (s : ℕ) (step : Step) → slice_get steps s ≡ Some step
    → IsCovered entries step.1
unfolding EachCovered
step_covered entries [] h s step there = absurd (true≢false (sym (ap is_some there)))
step_covered entries (first ∷ more) h zero step there =
    subst (λ (x : Step). IsCovered entries x.1) (ap (λ (x : Option Step). unwrap_or x step) there) h.0
step_covered entries (first ∷ more) h (suc s) step there = step_covered entries more h.1 s step there

pub steps_covered : (script : Script) (entries : List Entry) → EachPoint (λ c. EachCovered entries (steps_of script c)) entries → (e p s : ℕ)
    → Holds script entries (OfPoint e p (StepCovered s))
steps_covered script entries h e p s entry there c point step is =
    step_covered entries (steps_of script c) (at_points (λ c. EachCovered entries (steps_of script c)) entries h e p entry there c point) s step is

-- a script with no end state leaves nothing to be cleared
pub nothing_ends : (script : Script) (entries : List Entry) → ((n : ℕ) → (state_of script n).is_end ≡ false) → (e p : ℕ)
    → Holds script entries (OfPoint e p EndedCleared)
nothing_ends script entries none e p entry there c point resting ends = absurd (true≢false (sym ends ∙ none c.state))

-- the state and the link have no part in it
pub still_formed : (c : Configuration) (state : ℕ) (link : LinkPhase) → IsWellFormed c → IsWellFormed (record c { state = state; link = link })
still_formed c state link formed = record {
  live = formed.live;
  absent_mode = formed.absent_mode;
  absent_remote = formed.absent_remote;
  named = formed.named;
  cut_within = formed.cut_within;
}
