use Rattle.std.proofs.Common.{◌≡◌, ◌∙◌, ℕ, Bool, true, false, None, Some, length, map, slice_index_or, rules, arith, ap, refl}
use Rattle.std.specs.Prelude.{Option, if◌then◌else◌}
use Rattle.mg_names.specs.declared.identifiers.LineNo.{LineNo}
use Rattle.mg_model.specs.Agent.{is_listed}
use Rattle.agent.specs.Parts.{read_in, without_lines}
use Rattle.agent.proofs.Fours.{four_of, past_four}
use Rattle.agent.proofs.results.all_expected.Goals as goal

abbrev nothing : Option ℕ
nothing = None

none_either_way : (b : Bool) → (if b then nothing else nothing) ≡ nothing
none_either_way true = refl
none_either_way false = refl

pub returns : goal.returns
returns c =
    let gone = map (λ (l : LineNo). l.0) c.args.gone.now in
    let lines = λ (i : ℕ). slice_index_or c.args.lines i 0 in
    let four : length c.args.expected ≡ 4 = search rules in
    four_of (without_lines gone lines (read_in c.args.expected)) None _ _ _ _ c.still_expected.ensures c.still_expected-2.ensures c.still_expected-3.ensures c.still_expected-4.ensures
    (λ i past. ap (λ (expected : Option ℕ). if is_listed gone (Some (lines i)) then None else expected) (past_four c.args.expected i None (omega arith) past) ∙ none_either_way _)
