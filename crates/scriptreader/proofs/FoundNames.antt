-- What a name stands for is found where the name is known.
use Rattle.std.proofs.Common.{◌≡◌, ◌<◌, ◌≤◌, ℕ, suc, List, [], ◌∷◌, length, Bool, true, false, cond, not, refl, nat_lt, arith, Option, Some, None}
use Rattle.std.specs.Prelude.{◌||◌, ◌+◌, is_some, if◌then◌else◌, codes}
use Rattle.std.specs.List.{list_all, list_any, position_or_len}
use Rattle.std.specs.Str.{bytes_eq}
use Rattle.mg_model.specs.declared.commands.EventsName.TheVariants.{Empty, Armed, Own}
use Rattle.scriptreader.specs.declared.syntax.Options.{Options}
use Rattle.typed_values.specs.Names.{is_among}
use Rattle.typed_values.specs.Shape.{◌>>=◌, each, optional_at}
use Rattle.scriptreader.specs.DeclaredNames.{Scope}
use Rattle.scriptreader.specs.Faults.{is_known, option_passes, is_events_list, is_signals_list, is_remote, line_options_known, ephemeral_options_known, termination_known}
use Rattle.scriptreader.specs.Meaning.{slot_for, number_for, list_place_for, events_for, signals_for, remote_for, termination_for, place_for, line_options_for, ephemeral_options_for}
use Rattle.scriptreader.proofs.BooleanTests.{and_left, and_right}

-- ---- options that are there

pub given : {A B : Type 0} (o : Option A) (f : A → Option B) → is_some o ≡ true → ((x : A) → is_some (f x) ≡ true) → is_some (o >>= f) ≡ true
given None f e h = absurd cc
given (Some x) f e h = h x

-- a predefined name, or another that is found
predefined : {A : Type 0} (b rest : Bool) (x : A) (o : Option A) → (b || rest) ≡ true → (rest ≡ true → is_some o ≡ true) → is_some (if b then Some x else o) ≡ true
predefined true rest x o e h = refl
predefined false rest x o e h = h e

-- of two kinds, the first where its test holds
first_or : {A : Type 0} (b c : Bool) (o p : Option A) → (b || c) ≡ true → (b ≡ true → is_some o ≡ true) → (c ≡ true → is_some p ≡ true) → is_some (if b then o else p) ≡ true
first_or true c o p e h k = h refl
first_or false c o p e h k = k e

pub first_with : {A : Type 0} (b c s t : Bool) (o p : Option A) → (if b then s else if c then t else false) ≡ true
    → (b ≡ true → s ≡ true → is_some o ≡ true) → (c ≡ true → t ≡ true → is_some p ≡ true) → is_some (if b then o else p) ≡ true
first_with true c s t o p e h k = h refl e
first_with false true s t o p e h k = k refl e
first_with false false s t o p e h k = absurd cc

pub both_ways : {A : Type 0} (b s t : Bool) (o p : Option A) → (if b then s else t) ≡ true → (s ≡ true → is_some o ≡ true) → (t ≡ true → is_some p ≡ true) → is_some (if b then o else p) ≡ true
both_ways true s t o p e h k = h e
both_ways false s t o p e h k = k e

pub each_found : {A B : Type 0} (f : A → Option B) (test : A → Bool) → ((x : A) → test x ≡ true → is_some (f x) ≡ true) → (xs : List A) → list_all test xs ≡ true → is_some (each f xs) ≡ true
each_found f test h [] e = refl
each_found f test h (x ∷ xs) e =
    given (f x) _ (h x (and_left _ _ e)) (λ y. given (each f xs) _ (each_found f test h xs (and_right _ _ e)) (λ ys. refl))

-- ---- names

step : (b rest : Bool) (n m : ℕ) → (b || rest) ≡ true → (rest ≡ true → n < m) → cond (not b) (1 + n) 0 < suc m
step true rest n m e h = omega arith
step false rest n m e h = let k : n < m = h e in omega arith

within : {A : Type 0} (p : A → Bool) (xs : List A) → list_any p xs ≡ true → position_or_len p xs < length xs
within p [] e = absurd cc
within p (x ∷ xs) e = step (p x) (list_any p xs) _ _ e (within p xs)

slot_found : (names : List (List ℕ)) (name : List ℕ) → length names ≤ 4 → is_among name names ≡ true → is_some (slot_for names name) ≡ true
slot_found names name few e =
    let place = position_or_len (λ other. bytes_eq name other) names in
    let lt : place < length names = within (λ other. bytes_eq name other) names e in
    let there : nat_lt place (length names) ≡ true = grind (arith, lt) in
    let small : nat_lt place 4 ≡ true = grind (arith, lt, few) in
    rw (there, small) refl

pub number_found : (names : List (List ℕ)) (name : List ℕ) → length names ≤ 64 → is_among name names ≡ true → is_some (number_for names name) ≡ true
number_found names name few e =
    let place = position_or_len (λ other. bytes_eq name other) names in
    let lt : place < length names = within (λ other. bytes_eq name other) names e in
    let there : nat_lt place (length names) ≡ true = grind (arith, lt) in
    let small : nat_lt place 256 ≡ true = grind (arith, lt, few) in
    rw (there, small) refl

list_place_found : (names : List (List ℕ)) (name : List ℕ) → length names ≤ 16 → is_among name names ≡ true → is_some (list_place_for names name) ≡ true
list_place_found names name few e =
    let place = position_or_len (λ other. bytes_eq name other) names in
    let lt : place < length names = within (λ other. bytes_eq name other) names e in
    let there : nat_lt place (length names) ≡ true = grind (arith, lt) in
    let small : nat_lt place 16 ≡ true = grind (arith, lt, few) in
    rw (there, small) refl

-- the names of each kind are within the limits
pub record Fits (k : Scope) : Type 0 where
  pub lines : length k.lines ≤ 4
  pub contexts : length k.contexts ≤ 4
  pub ephemerals : length k.ephemerals ≤ 4
  pub events : length k.events ≤ 16
  pub signals : length k.signals ≤ 64
  pub maps : length k.maps ≤ 64
  pub states : length k.states ≤ 64

module _ (k : Scope) (fits : Fits k) where
  pub line_found : (name : List ℕ) → is_among name k.lines ≡ true → is_some (slot_for k.lines name) ≡ true
  line_found name e = slot_found k.lines name fits.lines e

  pub context_found : (name : List ℕ) → is_among name k.contexts ≡ true → is_some (slot_for k.contexts name) ≡ true
  context_found name e = slot_found k.contexts name fits.contexts e

  pub ephemeral_found : (name : List ℕ) → is_among name k.ephemerals ≡ true → is_some (slot_for k.ephemerals name) ≡ true
  ephemeral_found name e = slot_found k.ephemerals name fits.ephemerals e

  events_found : (o : Option (List ℕ)) → option_passes (is_events_list k) o ≡ true → is_some (optional_at (events_for k) o) ≡ true
  events_found None e = refl
  events_found (Some name) e =
      given (events_for k name) _
      (predefined (bytes_eq name (codes "none")) (bytes_eq name (codes "armed") || is_among name k.events) Empty (if bytes_eq name (codes "armed") then Some Armed else list_place_for k.events name >>= λ place. Some (Own place)) e
      (λ e2. predefined (bytes_eq name (codes "armed")) (is_among name k.events) Armed (list_place_for k.events name >>= λ place. Some (Own place)) e2
      (λ e3. given (list_place_for k.events name) (λ place. Some (Own place)) (list_place_found k.events name fits.events e3) (λ place. refl))))
      (λ x. refl)

  signals_found : (o : Option (List ℕ)) → option_passes (is_signals_list k) o ≡ true → is_some (optional_at (signals_for k) o) ≡ true
  signals_found None e = refl
  signals_found (Some name) e =
      given (signals_for k name) _
      (predefined _ _ _ _ e (λ e2. given (number_for k.signals name) _ (number_found k.signals name fits.signals e2) (λ place. refl)))
      (λ x. refl)

  remote_found : (o : Option (List ℕ)) → option_passes (is_remote k) o ≡ true → is_some (optional_at (remote_for k) o) ≡ true
  remote_found None e = refl
  remote_found (Some name) e =
      given (remote_for k name) _
      (predefined _ _ _ _ e (λ e2. given (slot_for k.ephemerals name) _ (ephemeral_found name e2) (λ place. refl)))
      (λ x. refl)

  pub termination_found : (name : List ℕ) → termination_known k name ≡ true → is_some (termination_for k name) ≡ true
  termination_found name e =
      first_or (is_among name k.lines) (is_among name k.ephemerals) _ _ e
      (λ h. given (slot_for k.lines name) _ (line_found name h) (λ x. refl))
      (λ h. given (slot_for k.ephemerals name) _ (ephemeral_found name h) (λ x. refl))

  pub place_found : (o : Option (List ℕ)) → is_known k.contexts o ≡ true → is_some (place_for k o) ≡ true
  place_found None e = refl
  place_found (Some name) e = given (slot_for k.contexts name) _ (context_found name e) (λ x. refl)

  pub target_found : (o : Option (List ℕ)) → is_known k.states o ≡ true → is_some (optional_at (number_for k.states) o) ≡ true
  target_found None e = refl
  target_found (Some name) e = given (number_for k.states name) _ (number_found k.states name fits.states e) (λ x. refl)

  pub line_options_found : (o : Options) → line_options_known k o ≡ true → is_some (line_options_for k o) ≡ true
  line_options_found o e =
      let r = and_right _ _ e in
      given (optional_at (events_for k) o.events) _ (events_found o.events (and_left _ _ r))
      (λ events. given (optional_at (signals_for k) o.signals) _ (signals_found o.signals (and_right _ _ r)) (λ signals. refl))

  pub ephemeral_options_found : (o : Options) → ephemeral_options_known k o ≡ true → is_some (ephemeral_options_for k o) ≡ true
  ephemeral_options_found o e = given (optional_at (remote_for k) o.remote) _ (remote_found o.remote (and_right _ _ e)) (λ remote. refl)
