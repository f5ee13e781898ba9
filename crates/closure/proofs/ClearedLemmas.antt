-- The tests of a configuration whose call has ended.
use Rattle.std.proofs.Common.{◌≡◌, ℕ, ◌<◌, ◌≤◌, nat_lt, Bool, true, false, not, ◌&&◌, [], ◌∷◌, length, refl, arith, IsTrue}
use Rattle.std.specs.List.{list_all}
use Rattle.std.proofs.lemmas.Grind.{common_steps}
use Rattle.std.proofs.lemmas.Bool.{and_parts, not-true}
use Rattle.mg_model.specs.declared.commands.Termination.TheVariants.{Line, Ephemeral}
use Rattle.mg_model.specs.declared.components.Spot.{Spot}
use Rattle.mg_model.specs.declared.components.Spot.TheVariants.{Absent, Null, In}
use Rattle.mg_model.specs.Script.{Script}
use Rattle.mg_model.specs.Tables.{items_of, is_armed_list}
use Rattle.mg_model.specs.Configuration.{Configuration, is_null, is_present}
use Rattle.mg_model.specs.Obligations.{IsCleared}
use Rattle.configuration.specs.Places.{AbsentPastEight}
use Rattle.configuration.proofs.WellFormedLemmas.{at_slot, at_all_slots, slot_cases}
use Rattle.closure.specs.Tests.{line_is_cleared, ephemeral_is_absent}

pub null_is : (s : Spot) → is_null s ≡ true → s ≡ Null
null_is Null h = refl
null_is Absent h = cc
null_is (In j) h = cc

pub absent_is : (s : Spot) → not (is_present s) ≡ true → s ≡ Absent
absent_is Absent h = refl
absent_is Null h = cc
absent_is (In j) h = cc

-- what the test says of a line of the script
pub line_cleared : (script : Script) (c : Configuration) (i : ℕ) → i < length script.lines →
    line_is_cleared script c (length script.lines) i ≡ true →
    (c.spot (Line i) ≡ Null) × ((c.plays i ≡ false) × IsTrue (is_armed_list (items_of script (c.events i))))
line_cleared script c i l h =
    let within : nat_lt i (length script.lines) ≡ true = grind (arith, common_steps) in
    let rest : (is_null (c.spot (Line i)) && not (c.plays i) && is_armed_list (items_of script (c.events i))) ≡ true = rw within at h in
    let outer = and_parts (is_null (c.spot (Line i)) && not (c.plays i)) (is_armed_list (items_of script (c.events i))) rest in
    let inner = and_parts (is_null (c.spot (Line i))) (not (c.plays i)) outer.0 in
    (null_is (c.spot (Line i)) inner.0, (not-true (c.plays i) inner.1, outer.1))

pub tests_cleared : (script : Script) (c : Configuration) → length script.lines ≤ 4 → AbsentPastEight c →
    list_all (line_is_cleared script c (length script.lines)) (0 ∷ 1 ∷ 2 ∷ 3 ∷ []) ≡ true →
    list_all (ephemeral_is_absent c) (0 ∷ 1 ∷ 2 ∷ 3 ∷ []) ≡ true → IsCleared script c
tests_cleared script c few absent ls es = record {
  in_null = λ i l. (line_cleared script c i l (at_slot (line_is_cleared script c (length script.lines)) ls i (omega arith))).0;
  silent = λ i l. (line_cleared script c i l (at_slot (line_is_cleared script c (length script.lines)) ls i (omega arith))).1.0;
  armed = λ i l. (line_cleared script c i l (at_slot (line_is_cleared script c (length script.lines)) ls i (omega arith))).1.1;
  no_ephemeral = λ k. slot_cases k
      (λ l. absent_is (c.spot (Ephemeral k)) (at_slot (ephemeral_is_absent c) es k l))
      (λ l. absent (Ephemeral k) (omega arith));
}

pub cleared_line : (script : Script) (c : Configuration) → IsCleared script c → (i : ℕ) →
    line_is_cleared script c (length script.lines) i ≡ true
cleared_line script c h i = by_test (nat_lt i (length script.lines)) refl
  where
    by_test : (b : Bool) → nat_lt i (length script.lines) ≡ b → line_is_cleared script c (length script.lines) i ≡ true
    by_test false e = rw e refl
    by_test true e =
        let l : i < length script.lines = grind (arith, common_steps) in
        rw (e, h.in_null i l, h.silent i l) (h.armed i l)

pub cleared_ephemeral : (script : Script) (c : Configuration) → IsCleared script c → (k : ℕ) → ephemeral_is_absent c k ≡ true
cleared_ephemeral script c h k = rw (h.no_ephemeral k) refl

pub cleared_lines : (script : Script) (c : Configuration) → IsCleared script c →
    list_all (line_is_cleared script c (length script.lines)) (0 ∷ 1 ∷ 2 ∷ 3 ∷ []) ≡ true
cleared_lines script c h = at_all_slots (line_is_cleared script c (length script.lines)) (cleared_line script c h)

pub cleared_ephemerals : (script : Script) (c : Configuration) → IsCleared script c →
    list_all (ephemeral_is_absent c) (0 ∷ 1 ∷ 2 ∷ 3 ∷ []) ≡ true
cleared_ephemerals script c h = at_all_slots (ephemeral_is_absent c) (cleared_ephemeral script c h)
