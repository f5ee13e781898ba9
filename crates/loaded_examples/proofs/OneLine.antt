-- Of bytes that are read, one line is the answer: a yes where no obligation is broken, and a no with the first one that is.
use Rattle.std.proofs.Common.{◌≡◌, ◌∙◌, ℕ, List, length, Option, sym, ap, subst, refl, inl, inr}
use Rattle.std.specs.Prelude.{◌⊎◌, option_map}
use Rattle.mg_model.specs.declared.faults.Fault.{Fault}
use Rattle.mg_model.specs.Entries.{Entry}
use Rattle.mg_model.specs.Obligations.{IsFirstFault}
use Rattle.mg_model.specs.Script.{Script}
use Rattle.mg_names.specs.Obligations.{obligation_number}
use Rattle.check_lines.specs.Output.{Line, Text, usage, sections, too_long, script_fault, certificate_fault, plan_fault, run_fault, yes, no, no_memory}
use Rattle.check_lines.specs.VerdictLines.{Judges}
use Rattle.closure.proofs.OneFinding.{one_finding}
use Rattle.closure.specs.Answer.{IsFinding}
use Rattle.closure.specs.declared.first_fault.Finding.{Finding}
use Rattle.closure.specs.declared.first_fault.Finding.TheVariants.{Kept, Broken}
use Rattle.composition.specs.Verdict.{AreRead, IsChecked}
use Rattle.script_table.specs.Words.{words_of}
use Rattle.loaded_examples.specs.Told.{IsTheLine}
use Rattle.loaded_examples.proofs.OneReading.{one_reading, no_script_fault, no_certificate_fault}

abbrev points_of : Finding → ℕ
points_of (Kept points) = points
points_of (Broken fault) = 0

abbrev fault_of : Fault → Finding → Fault
fault_of other (Kept points) = other
fault_of other (Broken fault) = fault

same_yes : (a b c x y z : ℕ) → a ≡ x → b ≡ y → c ≡ z → yes a b c ≡ yes x y z
same_yes a b c x y z first second third = ap (λ n. yes n b c) first ∙ ap (λ n. yes x n c) second ∙ ap (λ n. yes x y n) third

abbrev line_of : Script → Fault → Line
line_of table fault = no (obligation_number fault.obligation) fault.entry fault.point (option_map (words_of table.lines) fault.step)

same_no : (k l : ℕ) (e f p q : Option ℕ) (s t : Option Text) → k ≡ l → e ≡ f → p ≡ q → s ≡ t → no k e p s ≡ no l f q t
same_no k l e f p q s t first second third fourth =
    ap (λ n. no n e p s) first ∙ ap (λ n. no l n p s) second ∙ ap (λ n. no l f n s) third ∙ ap (λ n. no l f q n) fourth

module _ (script certificate : List ℕ) (table : Script) (entries : List Entry) (read : AreRead script certificate table entries) where
  -- what is found of what the bytes are read as, whenever they are, is found of this table and these entries
  found_here : (other : Script) (more : List Entry) → AreRead script certificate other more → (found : Finding) → IsFinding other more found
      → IsFinding table entries found
  found_here other more again found is =
      let same = one_reading script certificate table entries read other more again in
      subst (λ (x : Script). IsFinding x entries found) (sym same.0) (subst (λ (xs : List Entry). IsFinding other xs found) (sym same.1) is)

  pub yes_told : (points : ℕ) → IsChecked table entries points → IsTheLine script certificate (yes (length table.states) (length entries) points)
  yes_told points checked = record {
    answers = record { table = table; entries = entries; read = read; checked = checked; states_are = refl; entries_are = refl };
    alone = alone;
  }
    where
      alone : (other : Line) → Judges script certificate other
          → (other ≡ yes (length table.states) (length entries) points) ⊎ (other ≡ no_memory)
      alone usage told = absurd told
      alone sections told = absurd told
      alone too_long told = absurd told
      alone (script_fault number name) told = absurd (no_script_fault script table read.reads told.fault told.has)
      alone (certificate_fault number name) told = absurd (no_certificate_fault script certificate table entries read told.fault told.has)
      alone (plan_fault number name) told = absurd told
      alone (run_fault number name) told = absurd told
      alone (yes states count number) told =
          let same = one_reading script certificate table entries read told.table told.entries told.read in
          let found = found_here told.table told.entries told.read (Kept number) (told.checked.none_broken, told.checked.counted) in
          let finding = one_finding table entries (Kept number) (Kept points) found (checked.none_broken, checked.counted) in
          inl (same_yes states count number (length table.states) (length entries) points
          (told.states_are ∙ ap (λ (x : Script). length x.states) (sym same.0)) (told.entries_are ∙ ap length (sym same.1)) (ap points_of finding))
      alone (no obligation entry point step) told =
          let first : IsFirstFault table entries told.fault = found_here told.table told.entries told.read (Broken told.fault) told.first in
          absurd (first.broken (checked.none_broken first.claim))
      alone no_memory told = inr refl

  pub no_told : (fault : Fault) → IsFirstFault table entries fault → IsTheLine script certificate (line_of table fault)
  no_told fault first = record {
    answers = record {
      table = table;
      entries = entries;
      fault = fault;
      read = read;
      first = first;
      obligation_is = refl;
      entry_is = refl;
      point_is = refl;
      step_is = refl;
    };
    alone = alone;
  }
    where
      alone : (other : Line) → Judges script certificate other → (other ≡ line_of table fault) ⊎ (other ≡ no_memory)
      alone usage told = absurd told
      alone sections told = absurd told
      alone too_long told = absurd told
      alone (script_fault number name) told = absurd (no_script_fault script table read.reads told.fault told.has)
      alone (certificate_fault number name) told = absurd (no_certificate_fault script certificate table entries read told.fault told.has)
      alone (plan_fault number name) told = absurd told
      alone (run_fault number name) told = absurd told
      alone (yes states count number) told =
          let found = found_here told.table told.entries told.read (Kept number) (told.checked.none_broken, told.checked.counted) in
          absurd (first.broken (found.0 first.claim))
      alone (no obligation entry point step) told =
          let same = one_reading script certificate table entries read told.table told.entries told.read in
          let found = found_here told.table told.entries told.read (Broken told.fault) told.first in
          let is : told.fault ≡ fault = ap (fault_of fault) (one_finding table entries (Broken told.fault) (Broken fault) found first) in
          inl (same_no obligation (obligation_number fault.obligation) entry fault.entry point fault.point step
          (option_map (words_of table.lines) fault.step)
          (told.obligation_is ∙ ap (λ (f : Fault). obligation_number f.obligation) is)
          (told.entry_is ∙ ap (λ (f : Fault). f.entry) is)
          (told.point_is ∙ ap (λ (f : Fault). f.point) is)
          (told.step_is ∙ ap (λ (x : Script). option_map (words_of x.lines) told.fault.step) (sym same.0)
          ∙ ap (λ (f : Fault). option_map (words_of table.lines) f.step) is))
      alone no_memory told = inr refl
