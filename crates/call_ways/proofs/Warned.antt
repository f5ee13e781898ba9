-- What calls tell of each warning.
use Rattle.std.proofs.Common.{◌≡◌, ◌↔◌, ℕ, ◌<◌, Bool, true, false, not, IsTrue, List, length, Option, None, Result, IfOk, IfSome, IfNone, is_some, sym, subst}
use Rattle.mg_names.specs.declared.kinds.Kind.{Kind}
use Rattle.mg_model.specs.Script.{Script}
use Rattle.mg_model.specs.Tables.{state_of, target_in}
use Rattle.mg_model.specs.Entries.{Entry}
use Rattle.configuration.specs.Packed.{Words}
use Rattle.call_ways.specs.Ways.{AreAll}
use Rattle.call_ways.specs.declared.sights.Sight.TheVariants as sight
use Rattle.call_ways.specs.declared.warning.Warning.{Warning}
use Rattle.call_ways.specs.declared.warning.Warning.TheVariants as warning
use Rattle.call_ways.specs.Points.{HasPoint}
use Rattle.call_ways.specs.Seen.{IsSeen}
use Rattle.call_ways.specs.Told.{Tells, TellsShown, TellsWithout}
use Rattle.call_ways.specs.Warnings.{IsHeldBy, IsWarning}
use Rattle.call_ways.proofs.Below.{found_some, none_then, not_says}
use Rattle.call_ways.proofs.Reaching.{seen_is_shown}
use Rattle.call_ways.proofs.Seeing.{if_ok}

-- what is told of a warning through whatever entries is told through these
pub told_of : {E : Type 0} (script : Script) (entries : List Entry) (configs : List Words) → AreAll script entries configs → (r : Result Bool E)
    (what is : Warning) → is ≡ what → IfOk r (λ holds. Tells script configs holds what) → IfOk r (λ holds. IsTrue holds ↔ IsWarning script entries is)
told_of script entries configs all r what is same told =
    subst (λ (w : Warning). IfOk r (λ holds. IsTrue holds ↔ IsWarning script entries w)) (sym same)
    (if_ok r (λ holds. Tells script configs holds what) (λ holds. IsTrue holds ↔ IsWarning script entries what) (λ holds tells. tells entries all) told)

module _ {E : Type 0} (script : Script) (configs : List Words) (r : Result Bool E) where
  pub never_left : (s : ℕ) → (state_of script s).is_end ≡ false → IfOk r (λ holds. TellsWithout script configs holds (sight.Stands s) (sight.Leaves s))
      → IfOk r (λ holds. Tells script configs holds (warning.StateNeverLeft s))
  never_left s no_end told =
      if_ok r (λ holds. TellsWithout script configs holds (sight.Stands s) (sight.Leaves s))
      (λ holds. Tells script configs holds (warning.StateNeverLeft s))
      (λ holds tells entries all.
      let says = tells entries all in
      ((λ yes. let is = says.0 yes in (no_end, is.0, is.1)), (λ is. says.1 (is.1, is.2)))) told

  pub arrow_unused : (s i : ℕ) (kind : Kind) → IsTrue (is_some (target_in (state_of script s).on i kind))
      → IfOk r (λ holds. TellsWithout script configs holds (sight.Stands s) (sight.Raises s i kind))
      → IfOk r (λ holds. Tells script configs holds (warning.ArrowUnused s i kind))
  arrow_unused s i kind arrow told =
      if_ok r (λ holds. TellsWithout script configs holds (sight.Stands s) (sight.Raises s i kind))
      (λ holds. Tells script configs holds (warning.ArrowUnused s i kind))
      (λ holds tells entries all.
      let says = tells entries all in
      ((λ yes. let is = says.0 yes in (arrow, is.0, is.1)), (λ is. says.1 (is.1, is.2)))) told

  pub note_swallowed : (s i : ℕ) (kind : Kind) → (s ≡ script.start → ⊥) → (state_of script s).is_end ≡ false → target_in (state_of script s).on i kind ≡ None
      → IfOk r (λ holds. TellsShown script configs holds (sight.Raises s i kind))
      → IfOk r (λ holds. Tells script configs holds (warning.NoteSwallowed s i kind))
  note_swallowed s i kind no_start no_end none told =
      if_ok r (λ holds. TellsShown script configs holds (sight.Raises s i kind)) (λ holds. Tells script configs holds (warning.NoteSwallowed s i kind))
      (λ holds tells entries all.
      let says = tells entries all in
      ((λ yes. (no_start, no_end, none, says.0 yes)), (λ is. says.1 is.3))) told

  pub line_deaf : (s i : ℕ) → i < length script.lines → IfOk r (λ holds. IsTrue holds ↔ IsSeen script configs (sight.Deafens s i))
      → IfOk r (λ holds. Tells script configs holds (warning.LineDeaf s i))
  line_deaf s i within told =
      if_ok r (λ holds. IsTrue holds ↔ IsSeen script configs (sight.Deafens s i)) (λ holds. Tells script configs holds (warning.LineDeaf s i))
      (λ holds says entries all.
      let same = seen_is_shown script entries configs all (sight.Deafens s i) in
      ((λ yes. (within, same.0 (says.0 yes))), (λ is. says.1 (same.1 is.1)))) told

pub entry_unreached : (script : Script) (entries : List Entry) (b : Bool) (e : ℕ) → IsTrue b ↔ HasPoint script entries e true
    → IsTrue (not b) ↔ IsWarning script entries (warning.EntryUnreached e)
entry_unreached script entries b e told =
    let says = not_says b (HasPoint script entries e true) told in
    ((λ is p reached. says.0 is (p, reached)), (λ none. says.1 (λ has. none has.0 has.1)))

pub entry_held : (script : Script) (entries : List Entry) (found : Option ℕ) (e : ℕ) → IfSome found (IsHeldBy entries e)
    → IfNone found ((other : ℕ) → IsHeldBy entries e other → ⊥) → IsTrue (is_some found) ↔ IsWarning script entries (warning.EntryHeld e)
entry_held script entries found e some none =
    found_some found (IsHeldBy entries e) (IsWarning script entries (warning.EntryHeld e)) some
    (none_then found ((other : ℕ) → IsHeldBy entries e other → ⊥) (IsWarning script entries (warning.EntryHeld e) → ⊥)
    (λ no held. no held.0 held.1) none)
    (λ other held. (other, held))
