-- One state more.
use Rattle.std.proofs.Common.{◌≡◌, ◌∙◌, ◌∷◌, [], ◌+◌, ◌++◌, ℕ, List, ap, sym, rules}
use Rattle.std.specs.List.{flat_map}
use Rattle.std.proofs.lemmas.List.{flat_map_more}
use Rattle.call_ways.specs.declared.warning.Warning.{Warning}
use Rattle.call_ways.specs.Candidates.{of_state}
use Rattle.call_ways.specs.Numbers.{numbers}
use Rattle.call_ways.proofs.candidates.add_states.Goals as goal

one_more : (n : ℕ) → numbers (n + 1) ≡ numbers n ++ n ∷ []
one_more n = search rules

pub loop-state-preserved : goal.loop-state-preserved
loop-state-preserved c =
    let s : ℕ = c.loop-state.state in
    let f : ℕ → List Warning = of_state c.args.script.now in
    c.in_ok-add_state.ensures
    ∙ ap (λ (xs : List Warning). xs ++ f s) c.loop-state.invariant
    ∙ flat_map_more f c.args.list.now.items (numbers s) s
    ∙ ap (λ (ns : List ℕ). c.args.list.now.items ++ flat_map f ns) (sym (one_more s))
