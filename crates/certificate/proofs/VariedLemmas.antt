-- A component of one value empties no entry and makes none larger, and where nothing of a key's kind is written the component has one
-- value.
use Rattle.std.proofs.Common.{◌≡◌, ◌∙◌, ◌+◌, ◌*◌, ◌<◌, ◌≤◌, ◌++◌, ℕ, Bool, true, false, List, [], ◌∷◌, length, drop, Option, Some, None, refl, sym, ap, arith, append_assoc, append-nil, true≢false}
use Rattle.std.specs.Prelude.{◌==◌, ◌||◌, option_map, is_some, unwrap_or, nat_lt}
use Rattle.std.specs.List.{list_any, flat_map, slice_index_or}
use Rattle.std.proofs.lemmas.List.{drop_all}
use Rattle.std.proofs.lemmas.Bool.Decides.{nat_tests}
use Rattle.mg_model.specs.declared.commands.Termination.TheVariants.{Line, Ephemeral}
use Rattle.mg_model.specs.Entries.{Component}
use Rattle.mg_model.specs.Script.{Script}
use Rattle.entry_table.specs.Listed.{choices_of, size_of}
use Rattle.typed_values.specs.Shape.{each, only_if, ◌>>=◌}
use Rattle.script_table.specs.Table.{state_named}
use Rattle.certificate.specs.Components.{component_meant, keys_of}
use Rattle.certificate.specs.NamedRows.{are_all_named}
use Rattle.certificate.specs.Outlines.{is_left_out, outline_of, outline_meant, varied}
use Rattle.certificate.specs.Written as written
use Rattle.certificate.specs.declared.key.Key.{Key}
use Rattle.certificate.specs.declared.key.Key.TheVariants as key
use Rattle.certificate.specs.declared.outline.Outline.{Outline}
use Rattle.configuration.proofs.NumberLemmas.{at}

nothing : (n : ℕ) → (n == 0) ≡ true → n ≡ 0
nothing n h = grind (arith, nat_tests, h)

empty : {X : Type 0} (xs : List X) → (length xs == 0) ≡ true → xs ≡ []
empty [] h = refl
empty (x ∷ xs) h = absurd (omega (arith, nothing (length (x ∷ xs)) h))

one : (n : ℕ) → (n == 1) ≡ true → n ≡ 1
one n h = grind (arith, nat_tests, h)

not_empty : (n : ℕ) → n ≡ 1 → (n == 0) ≡ false
not_empty n h = grind (arith, nat_tests, h)

-- ---- what the limits ask

pub same_empty : (components : List Component)
    → list_any (λ component. length (choices_of component) == 0) (flat_map varied components)
    ≡ list_any (λ component. length (choices_of component) == 0) components
same_empty [] = refl
same_empty (component ∷ components) = go (length (choices_of component) == 1) refl (same_empty components)
  where
    go : (b : Bool) → (length (choices_of component) == 1) ≡ b
        → list_any (λ other. length (choices_of other) == 0) (flat_map varied components) ≡ list_any (λ other. length (choices_of other) == 0) components
        → list_any (λ other. length (choices_of other) == 0) (flat_map varied (component ∷ components))
        ≡ list_any (λ other. length (choices_of other) == 0) (component ∷ components)
    go true e more = rw e (rw (not_empty (length (choices_of component)) (one (length (choices_of component)) e)) more)
    go false e more = rw e (ap (λ b. (length (choices_of component) == 0) || b) more)

pub same_size : (components : List Component) → size_of (flat_map varied components) ≡ size_of components
same_size [] = refl
same_size (component ∷ components) = go (length (choices_of component) == 1) refl (same_size components)
  where
    go : (b : Bool) → (length (choices_of component) == 1) ≡ b → size_of (flat_map varied components) ≡ size_of components
        → size_of (flat_map varied (component ∷ components)) ≡ size_of (component ∷ components)
    go true e more =
        let single : length (choices_of component) ≡ 1 = one (length (choices_of component)) e in
        rw e (more ∙ sym (ap (λ n. n * size_of components) single ∙ times (size_of components)))
      where
        times : (n : ℕ) → 1 * n ≡ n
        times n = omega arith
    go false e more = rw e (ap (λ n. length (choices_of component) * n) more)

-- ---- going through the keys

module _ (script : Script) (entry : written.Entry) where
  -- the components of some keys that have another number of values than one
  abbrev pub varied_at : List Key → Option (List Component)
  varied_at keys = option_map (flat_map varied) (each (component_meant script entry) keys)

  -- these are kept of the keys before the place i
  abbrev pub IsKeptTo : List Key → ℕ → List Component → Type 0
  IsKeptTo keys i done = varied_at keys ≡ (varied_at (drop i keys) >>= λ more. Some (done ++ more))

  pub left_out : (key : Key) (done : List Component) → is_left_out entry key ≡ true
      → option_map (λ component. done ++ varied component) (component_meant script entry key) ≡ Some done
  left_out key.Link done h = absurd (true≢false (sym h))
  left_out (key.Spot (Line i)) done h = rw (empty entry.lines h) (ap (λ xs. Some xs) (append-nil done))
  left_out (key.Spot (Ephemeral k)) done h = rw (empty entry.ephemerals h) (ap (λ xs. Some xs) (append-nil done))
  left_out (key.Mode (Line i)) done h = rw (empty entry.lines h) (ap (λ xs. Some xs) (append-nil done))
  left_out (key.Mode (Ephemeral k)) done h = rw (empty entry.ephemerals h) (ap (λ xs. Some xs) (append-nil done))
  left_out (key.Events i) done h = rw (empty entry.lines h) (ap (λ xs. Some xs) (append-nil done))
  left_out (key.Plays i) done h = rw (empty entry.lines h) (ap (λ xs. Some xs) (append-nil done))
  left_out (key.Context j) done h = rw (empty entry.contexts h) (ap (λ xs. Some xs) (append-nil done))
  left_out (key.Remote k) done h = rw (empty entry.ephemerals h) (ap (λ xs. Some xs) (append-nil done))
  left_out (key.Cut source sink) done h = rw (empty entry.cuts h) (ap (λ xs. Some xs) (append-nil done))

  unchanged : (o : Option (List Component)) → o ≡ (o >>= λ more. Some ([] ++ more))
  unchanged None = refl
  unchanged (Some more) = refl

  pub kept_start : (keys : List Key) → IsKeptTo keys 0 []
  kept_start keys = unchanged (varied_at keys)

  moved : (first : Option Component) (rest : Option (List Component)) (done next : List Component)
      → option_map (λ component. done ++ varied component) first ≡ Some next
      → (option_map (flat_map varied) (first >>= λ c. rest >>= λ cs. Some (c ∷ cs)) >>= λ more. Some (done ++ more))
      ≡ (option_map (flat_map varied) rest >>= λ more. Some (next ++ more))
  moved None rest done next gives = absurd (true≢false (sym (ap is_some gives)))
  moved (Some c) None done next gives = refl
  moved (Some c) (Some cs) done next gives = ap (λ xs. Some xs) (sym (append_assoc done (varied c) (flat_map varied cs))) ∙ ap (λ o. o >>= λ xs. Some (xs ++ flat_map varied cs)) gives

  pub kept_next : (keys : List Key) (i : ℕ) (key : Key) (done next : List Component) → i < length keys → key ≡ slice_index_or keys i key
      → option_map (λ component. done ++ varied component) (component_meant script entry key) ≡ Some next
      → IsKeptTo keys i done → IsKeptTo keys (i + 1) next
  kept_next keys i key done next lt is gives kept =
      kept ∙ ap (λ rest. varied_at rest >>= λ more. Some (done ++ more)) (at keys i key lt is)
      ∙ moved (component_meant script entry key) (each (component_meant script entry) (drop (i + 1) keys)) done next gives

  without : (first : Option Component) (rest : Option (List Component)) (done : List Component)
      → option_map (λ component. done ++ varied component) first ≡ None
      → (option_map (flat_map varied) (first >>= λ c. rest >>= λ cs. Some (c ∷ cs)) >>= λ more. Some (done ++ more)) ≡ None
  without None rest done none = refl
  without (Some c) rest done none = absurd (true≢false (ap is_some none))

  pub kept_none : (keys : List Key) (i : ℕ) (key : Key) (done : List Component) → i < length keys → key ≡ slice_index_or keys i key
      → option_map (λ component. done ++ varied component) (component_meant script entry key) ≡ None
      → IsKeptTo keys i done → varied_at keys ≡ None
  kept_none keys i key done lt is none kept =
      kept ∙ ap (λ rest. varied_at rest >>= λ more. Some (done ++ more)) (at keys i key lt is)
      ∙ without (component_meant script entry key) (each (component_meant script entry) (drop (i + 1) keys)) done none

  pub kept_end : (keys : List Key) (i : ℕ) (done : List Component) → length keys ≤ i → IsKeptTo keys i done → varied_at keys ≡ Some done
  kept_end keys i done past kept =
      kept ∙ ap (λ rest. varied_at rest >>= λ more. Some (done ++ more)) (drop_all i keys past) ∙ ap (λ xs. Some xs) (append-nil done)

  -- ---- the outline

  abbrev outlined_as : ℕ → List Component → Outline
  outlined_as state found =
      record { state = state; is_empty = list_any (λ component. length (choices_of component) == 0) found; is_large = nat_lt 65536 (size_of found) }

  -- what is meant of an entry, by whether its names are known, its state and its components
  abbrev of_parts : Bool → Option ℕ → Option (List Component) → Option Outline
  of_parts known state components =
      option_map outline_of (only_if known (state >>= λ s. components >>= λ cs. Some (record { state = s; lines = length script.lines; components = cs })))

  both : (known : Bool) (first : Option ℕ) (components : Option (List Component)) (state : ℕ) (found : List Component)
      → only_if known first ≡ Some state → option_map (flat_map varied) components ≡ Some found
      → of_parts known first components ≡ Some (outlined_as state found)
  both false first components state found e f = absurd (true≢false (sym (ap is_some e)))
  both true None components state found e f = absurd (true≢false (sym (ap is_some e)))
  both true (Some s) None state found e f = absurd (true≢false (sym (ap is_some f)))
  both true (Some s) (Some cs) state found e f =
      let same_state : s ≡ state = ap (λ o. unwrap_or o state) e in
      let same_found : flat_map varied cs ≡ found = ap (λ o. unwrap_or o found) f in
      rw (← same_state, ← same_found, same_empty cs, same_size cs) refl

  pub outlined : (state : ℕ) (found : List Component) → are_all_named script entry ≡ true → state_named entry.state script.states ≡ Some state
      → varied_at (keys_of script) ≡ Some found → outline_meant script entry ≡ Some (outlined_as state found)
  outlined state found known named f =
      both (are_all_named script entry) (state_named entry.state script.states) (each (component_meant script entry) (keys_of script)) state found
      (ap (λ b. only_if b (state_named entry.state script.states)) known ∙ named) f

  no_components : (known : Bool) (first : Option ℕ) (components : Option (List Component)) → option_map (flat_map varied) components ≡ None
      → of_parts known first components ≡ None
  no_components false first components f = refl
  no_components true None components f = refl
  no_components true (Some s) None f = refl
  no_components true (Some s) (Some cs) f = absurd (true≢false (ap is_some f))

  pub unknown_word : varied_at (keys_of script) ≡ None → outline_meant script entry ≡ None
  unknown_word f =
      no_components (are_all_named script entry) (state_named entry.state script.states) (each (component_meant script entry) (keys_of script)) f
