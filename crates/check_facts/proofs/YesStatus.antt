-- The status that goes with what a yes is worth.
use Rattle.std.proofs.Common.{◌≡◌, ◌↔◌, ◌&&◌, not, ap, inl, inr, refl, rules, ℕ, Bool, true, false, IsTrue, List, [], ◌∷◌, Option, Some, None}
use Rattle.std.specs.List.{list_all}
use Rattle.program_rim.specs.declared.status.Status.{Status}
use Rattle.program_rim.specs.Statuses.{code_of}
use Rattle.mg_model.specs.Script.{Script}
use Rattle.mg_model.specs.Entries.{Entry}
use Rattle.call_ways.specs.Candidates.{candidates_of}
use Rattle.call_ways.specs.Warnings.{ArePicked}
use Rattle.call_ways.specs.declared.warning.Warning.{Warning}
use Rattle.call_ends.specs.Endings.{IsEnding}
use Rattle.call_ends.specs.declared.ending.Ending.{Ending}
use Rattle.call_ends.specs.declared.ending.Ending.TheVariants as ending
use Rattle.call_ways.specs.Ways.{shown}
use Rattle.check_facts.specs.Forgotten.{SomeIsForgotten}
use Rattle.check_facts.specs.Saying.{EndWell, ends_well}
use Rattle.check_facts.specs.Worth.{IsWorth, IsYesStatus, each_ends, strict_status, yes_status}
use Rattle.check_facts.specs.declared.worth.Worth.{Worth}

module _ (table : Script) (entries : List Entry) where
  well_case : (well forgotten : Bool) (moves : ℕ) (status : Status) → ArePicked table entries (candidates_of table entries) []
      → EndWell table entries well → IsEnding table entries (ending.EachCanEnd moves) → IsTrue forgotten ↔ SomeIsForgotten table entries
      → status ≡ strict_status [] true (well && not forgotten) → IsYesStatus true table entries status
  well_case true true moves status picked ends least says is = inr (ap code_of is, inr (inr (inr (inl (says.0 refl)))))
  well_case true false moves status picked ends least says is =
      inl (
        ap code_of is,
        record {
          warnings = picked;
          well = ends;
          ends = (moves, least);
          remembered = λ some. absurd (let bad : false ≡ true = says.1 some in search rules);
        },
      )
  well_case false forgotten moves status picked ends least says is = inr (ap code_of is, inr (inl ends))

  -- where not each call can be brought to its end, whatever else is so
  no_case : (well : Bool) (status : Status) → status ≡ strict_status [] false well → code_of status ≡ 1
  no_case well status is = ap code_of is

  picked_case : (found : List Warning) (well forgotten : Bool) (told : Ending) (status : Status)
      → ArePicked table entries (candidates_of table entries) found → EndWell table entries well → IsEnding table entries told
      → IsTrue forgotten ↔ SomeIsForgotten table entries → status ≡ strict_status found (each_ends told) (well && not forgotten)
      → IsYesStatus true table entries status
  picked_case [] well forgotten (ending.EachCanEnd moves) status picked ends least says is = well_case well forgotten moves status picked ends least says is
  picked_case [] well forgotten (ending.Stuck way) status picked ends stuck says is =
      inr (no_case (well && not forgotten) status is, inr (inr (inl (shown way.items, stuck))))
  picked_case [] well forgotten ending.TooMany status picked ends many says is =
      inr (no_case (well && not forgotten) status is, inr (inr (inr (inr (inl many)))))
  picked_case (first ∷ more) well forgotten told status picked ends is_told says is = inr (ap code_of is, inl (first, (more, picked)))

pub yes_case : (strict : Bool) (table : Script) (entries : List Entry) (worth : Option Worth) (status : Status) → IsWorth table entries worth
    → status ≡ yes_status strict worth → IsYesStatus strict table entries status
yes_case false table entries worth status of is = ap code_of is
yes_case true table entries None status many is = inr (ap code_of is, inr (inr (inr (inr many))))
yes_case true table entries (Some worth) status are is =
    picked_case table entries worth.warnings.items (list_all ends_well worth.endings.items) worth.is_one_forgotten worth.ending status are.warnings
    (worth.endings.items, (are.endings, refl)) are.ending are.forgotten is
