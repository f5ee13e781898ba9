-- The key of each thing of each name that a script declares is one of the script's keys.
use Rattle.std.proofs.Common.{◌≡◌, ◌∙◌, ◌<◌, ◌≤◌, ◌++◌, ℕ, zero, suc, List, [], ◌∷◌, false, length, map, filter, refl, ap, arith, get_or, length-take-le}
use Rattle.std.specs.Prelude.{Contains, not}
use Rattle.std.specs.List.{flat_map}
use Rattle.std.proofs.lemmas.List.{get_or-take}
use Rattle.std.proofs.lemmas.List.Elements.{Contains-append_left, Contains-append_right}
use Rattle.mg_model.specs.declared.commands.Termination.{Termination}
use Rattle.mg_model.specs.declared.commands.Termination.TheVariants.{Line, Ephemeral}
use Rattle.mg_model.specs.Accepted.{IsScript, IsSlot, IsContext}
use Rattle.mg_model.specs.Configuration.{is_same}
use Rattle.mg_model.specs.Script.{Script}
use Rattle.mg_model.proofs.Single.{first_in, later_in}
use Rattle.certificate.specs.Components.{slots, line_keys, ephemeral_keys, line_terminations, ephemeral_terminations, terminations_of, cut_keys, keys_of}
use Rattle.certificate.specs.declared.key.Key.{Key}
use Rattle.certificate.specs.declared.key.Key.TheVariants as key
use Rattle.certificate.proofs.Members.{mapped_in, flat_mapped_in, filtered_in}

abbrev four : List ℕ
four = 0 ∷ 1 ∷ 2 ∷ 3 ∷ []

own_place : (i : ℕ) → i < 4 → get_or four i i ≡ i
own_place zero below = refl
own_place (suc zero) below = refl
own_place (suc (suc zero)) below = refl
own_place (suc (suc (suc zero))) below = refl
own_place (suc (suc (suc (suc i)))) below = absurd (let large : suc (suc (suc (suc i))) < 4 = below in omega (arith, large))

slot_in : (i count : ℕ) → i < count → count ≤ 4 → Contains (slots count) i
slot_in i count below few =
    let size : length (slots count) ≡ count = length-take-le count four few in
    (i, omega (arith, size, below), get_or-take count four i i below ∙ own_place i (omega (arith, below, few)))

module _ (script : Script) (is : IsScript script) where
  abbrev lines : List ℕ
  lines = slots (length script.lines)

  abbrev contexts : List ℕ
  contexts = slots (length script.contexts)

  abbrev ephemerals : List ℕ
  ephemerals = slots (length script.ephemerals)

  line_in : (i : ℕ) → i < length script.lines → Contains lines i
  line_in i below = slot_in i (length script.lines) below is.lines

  ephemeral_in : (k : ℕ) → k < length script.ephemerals → Contains ephemerals k
  ephemeral_in k below = slot_in k (length script.ephemerals) below is.ephemerals

  termination_in : (t : Termination) → IsSlot script t → Contains (terminations_of script) t
  termination_in (Line i) below =
      Contains-append_left (line_terminations lines) (ephemeral_terminations ephemerals) (Line i)
      (mapped_in (λ j. Line j) lines i (line_in i below))
  termination_in (Ephemeral k) below =
      Contains-append_right (line_terminations lines) (ephemeral_terminations ephemerals) (Ephemeral k)
      (mapped_in (λ j. Ephemeral j) ephemerals k (ephemeral_in k below))

  -- ---- the parts of the keys

  abbrev of_lines : List Key
  of_lines = flat_map line_keys lines

  abbrev of_contexts : List Key
  of_contexts = map (λ j. key.Context j) contexts

  abbrev of_ephemerals : List Key
  of_ephemerals = flat_map ephemeral_keys ephemerals

  abbrev of_cuts : List Key
  of_cuts = flat_map (cut_keys (terminations_of script)) (terminations_of script)

  line_part : (k : Key) → Contains of_lines k → Contains (keys_of script) k
  line_part k among =
      later_in key.Link (of_lines ++ of_contexts ++ of_ephemerals ++ of_cuts) k
      (Contains-append_left (of_lines ++ of_contexts ++ of_ephemerals) of_cuts k
      (Contains-append_left (of_lines ++ of_contexts) of_ephemerals k
      (Contains-append_left of_lines of_contexts k among)))

  context_part : (k : Key) → Contains of_contexts k → Contains (keys_of script) k
  context_part k among =
      later_in key.Link (of_lines ++ of_contexts ++ of_ephemerals ++ of_cuts) k
      (Contains-append_left (of_lines ++ of_contexts ++ of_ephemerals) of_cuts k
      (Contains-append_left (of_lines ++ of_contexts) of_ephemerals k
      (Contains-append_right of_lines of_contexts k among)))

  ephemeral_part : (k : Key) → Contains of_ephemerals k → Contains (keys_of script) k
  ephemeral_part k among =
      later_in key.Link (of_lines ++ of_contexts ++ of_ephemerals ++ of_cuts) k
      (Contains-append_left (of_lines ++ of_contexts ++ of_ephemerals) of_cuts k
      (Contains-append_right (of_lines ++ of_contexts) of_ephemerals k among))

  cut_part : (k : Key) → Contains of_cuts k → Contains (keys_of script) k
  cut_part k among =
      later_in key.Link (of_lines ++ of_contexts ++ of_ephemerals ++ of_cuts) k
      (Contains-append_right (of_lines ++ of_contexts ++ of_ephemerals) of_cuts k among)

  -- a key of a line, and one of an ephemeral
  of_line : (i : ℕ) (k : Key) → i < length script.lines → Contains (line_keys i) k → Contains (keys_of script) k
  of_line i k below among = line_part k (flat_mapped_in line_keys lines i k (line_in i below) among)

  of_ephemeral : (i : ℕ) (k : Key) → i < length script.ephemerals → Contains (ephemeral_keys i) k → Contains (keys_of script) k
  of_ephemeral i k below among = ephemeral_part k (flat_mapped_in ephemeral_keys ephemerals i k (ephemeral_in i below) among)

  -- ---- the key of each thing

  pub link_key : Contains (keys_of script) key.Link
  link_key = first_in key.Link (of_lines ++ of_contexts ++ of_ephemerals ++ of_cuts)

  pub spot_key : (t : Termination) → IsSlot script t → Contains (keys_of script) (key.Spot t)
  spot_key (Line i) below = of_line i (key.Spot (Line i)) below (0, omega arith, refl)
  spot_key (Ephemeral k) below = of_ephemeral k (key.Spot (Ephemeral k)) below (0, omega arith, refl)

  pub mode_key : (t : Termination) → IsSlot script t → Contains (keys_of script) (key.Mode t)
  mode_key (Line i) below = of_line i (key.Mode (Line i)) below (1, omega arith, refl)
  mode_key (Ephemeral k) below = of_ephemeral k (key.Mode (Ephemeral k)) below (1, omega arith, refl)

  pub events_key : (i : ℕ) → i < length script.lines → Contains (keys_of script) (key.Events i)
  events_key i below = of_line i (key.Events i) below (2, omega arith, refl)

  pub plays_key : (i : ℕ) → i < length script.lines → Contains (keys_of script) (key.Plays i)
  plays_key i below = of_line i (key.Plays i) below (3, omega arith, refl)

  pub context_key : (j : ℕ) → IsContext script j → Contains (keys_of script) (key.Context j)
  context_key j below =
      context_part (key.Context j) (mapped_in (λ i. key.Context i) contexts j (slot_in j (length script.contexts) below is.contexts))

  pub remote_key : (k : ℕ) → k < length script.ephemerals → Contains (keys_of script) (key.Remote k)
  remote_key k below = of_ephemeral k (key.Remote k) below (2, omega arith, refl)

  pub cut_key : (t u : Termination) → IsSlot script t → IsSlot script u → is_same t u ≡ false → Contains (keys_of script) (key.Cut t u)
  cut_key t u source sink differ =
      let all = terminations_of script in
      let others = filtered_in (λ v. not (is_same t v)) all u (termination_in u sink) (ap not differ) in
      cut_part (key.Cut t u) (flat_mapped_in (cut_keys all) all t (key.Cut t u) (termination_in t source)
      (mapped_in (λ v. key.Cut t v) (filter (λ v. not (is_same t v)) all) u others))
