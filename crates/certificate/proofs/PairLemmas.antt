-- What is found of the cuts for a pair of terminations is what the rows give it.
use Rattle.std.proofs.Common.{◌≡◌, ◌∙◌, List, [], ◌∷◌, Bool, true, false, cond, map, Option, Some, None, option_map, refl, sym, ap, true≢false, Result, Ok, Err}
use Rattle.std.specs.Prelude.{◌&&◌, find, is_some, unwrap_or}
use Rattle.std.specs.List.{list_all}
use Rattle.mg_model.specs.declared.commands.Termination.{Termination}
use Rattle.mg_model.specs.Configuration.{is_same}
use Rattle.mg_model.specs.Script.{Script}
use Rattle.certificate.specs.Components.{is_pair}
use Rattle.certificate.specs.FoundRows.{FindsPairs, PairCut, at_pair, cut_of, cut_row, is_cut_of}
use Rattle.certificate.specs.Naming.{pair_named}
use Rattle.certificate.specs.Written.{Text}
use Rattle.certificate.specs.declared.reads.Row.{Row}
use Rattle.certificate.proofs.RowLemmas.{rows_found, rows_tested}
use Rattle.typed_values.specs.Shape.{Gives, each, ◌>>=◌}
use Rattle.typed_values.specs.declared.missing.Missing.{Missing}
use Rattle.typed_values.specs.declared.missing.Missing.TheVariants.{Nothing, Memory}

abbrev CutRow : Type 0
CutRow = Row (List Text)

module _ (script : Script) where
  abbrev words_at : Termination → Termination → List CutRow → Option (List Text)
  words_at source sink rows = option_map (λ (r : CutRow). r.value) (find (λ (r : CutRow). is_pair (pair_named script r.name) source sink) rows)

  one_more : (is_meant : Bool) (row : CutRow) (cut : PairCut) (rows : Option CutRow) (cuts : Option PairCut) → cut.words ≡ row.value
      → option_map (λ (c : PairCut). c.words) cuts ≡ option_map (λ (r : CutRow). r.value) rows
      → option_map (λ (c : PairCut). c.words) (cond is_meant (Some cut) cuts) ≡ option_map (λ (r : CutRow). r.value) (cond is_meant (Some row) rows)
  one_more true row cut rows cuts same rest = ap (λ words. Some words) same
  one_more false row cut rows cuts same rest = rest

  found_at : (rows : List CutRow) (cuts : List PairCut) (source sink : Termination) → each (cut_row script) rows ≡ Some cuts
      → at_pair cuts source sink ≡ words_at source sink rows
  found_at [] cuts source sink is = ap (λ o. at_pair (unwrap_or o cuts) source sink) (sym is)
  found_at (row ∷ rows) cuts source sink is = go (pair_named script row.name) (each (cut_row script) rows) refl (λ more. found_at rows more source sink) is
    where
      go : (o : Option (Termination × Termination)) (rest : Option (List PairCut)) → pair_named script row.name ≡ o
          → ((more : List PairCut) → rest ≡ Some more → at_pair more source sink ≡ words_at source sink rows)
          → (option_map (cut_of row.value) o >>= λ cut. rest >>= λ more. Some (cut ∷ more)) ≡ Some cuts
          → at_pair cuts source sink ≡ words_at source sink (row ∷ rows)
      go None rest named_so found is' = absurd (true≢false (sym (ap is_some is')))
      go (Some (a, b)) None named_so found is' = absurd (true≢false (sym (ap is_some is')))
      go (Some (a, b)) (Some more) named_so found is' =
          ap (λ o. at_pair (unwrap_or o cuts) source sink) (sym is')
          ∙ rw named_so (one_more (is_same a source && is_same b sink) row (cut_of row.value (a, b))
          (find (λ (r : CutRow). is_pair (pair_named script r.name) source sink) rows) (find (is_cut_of source sink) more) refl (found more refl))

  all_named : (rows : List CutRow) (cuts : List PairCut) → each (cut_row script) rows ≡ Some cuts
      → list_all (λ (r : CutRow). is_some (pair_named script r.name)) rows ≡ true
  all_named [] cuts is = refl
  all_named (row ∷ rows) cuts is = go (pair_named script row.name) (each (cut_row script) rows) refl (all_named rows) is
    where
      go : (o : Option (Termination × Termination)) (rest : Option (List PairCut)) → pair_named script row.name ≡ o
          → ((more : List PairCut) → rest ≡ Some more → list_all (λ (r : CutRow). is_some (pair_named script r.name)) rows ≡ true)
          → (option_map (cut_of row.value) o >>= λ cut. rest >>= λ more. Some (cut ∷ more)) ≡ Some cuts
          → list_all (λ (r : CutRow). is_some (pair_named script r.name)) (row ∷ rows) ≡ true
      go None rest named_so found is' = absurd (true≢false (sym (ap is_some is')))
      go (Some pair) None named_so found is' = absurd (true≢false (sym (ap is_some is')))
      go (Some pair) (Some more) named_so found is' = rw named_so (found more refl)

  one_unnamed : (rows : List CutRow) → each (cut_row script) rows ≡ None → list_all (λ (r : CutRow). is_some (pair_named script r.name)) rows ≡ false
  one_unnamed [] is = absurd (true≢false (ap is_some is))
  one_unnamed (row ∷ rows) is = go (pair_named script row.name) (each (cut_row script) rows) refl (one_unnamed rows) is
    where
      go : (o : Option (Termination × Termination)) (rest : Option (List PairCut)) → pair_named script row.name ≡ o
          → (rest ≡ None → list_all (λ (r : CutRow). is_some (pair_named script r.name)) rows ≡ false)
          → (option_map (cut_of row.value) o >>= λ cut. rest >>= λ more. Some (cut ∷ more)) ≡ None
          → list_all (λ (r : CutRow). is_some (pair_named script r.name)) (row ∷ rows) ≡ false
      go None rest named_so found is' = rw named_so refl
      go (Some pair) None named_so found is' = rw named_so (found refl)
      go (Some pair) (Some more) named_so found is' = absurd (true≢false (ap is_some is'))

  -- the rows of an entry
  pub finds_pairs : {C : Type 0} (cuts_of : C → List PairCut) (rows : List CutRow) (found : Result C Missing) → Gives cuts_of found (each (cut_row script) rows)
      → FindsPairs cuts_of script (map (λ (r : CutRow). (r.name, r.value)) rows) found
  finds_pairs cuts_of rows (Err Memory) is = tt
  finds_pairs cuts_of rows (Err Nothing) is = sym (rows_tested (λ name. is_some (pair_named script name)) rows) ∙ one_unnamed rows is
  finds_pairs cuts_of rows (Ok found) is = (
    sym (rows_tested (λ name. is_some (pair_named script name)) rows) ∙ all_named rows (cuts_of found) is,
    λ source sink. found_at rows (cuts_of found) source sink is ∙ rows_found (λ name. is_pair (pair_named script name) source sink) rows,
  )
