-- One state more.
use Rattle.std.proofs.Common.{◌≡◌, ◌∙◌, ◌∷◌, [], ◌+◌, ◌++◌, ℕ, List, ap, sym, rules}
use Rattle.std.specs.List.{flat_map}
use Rattle.std.proofs.lemmas.List.{flat_map_more}
use Rattle.call_ways.specs.declared.arrows.Arrow.{Arrow}
use Rattle.call_ways.specs.Arrows.{arrows_from}
use Rattle.call_ways.specs.Numbers.{numbers}
use Rattle.call_ways.proofs.arrows.add_from_states.Goals as goal

one_more : (n : ℕ) → numbers (n + 1) ≡ numbers n ++ n ∷ []
one_more n = search rules

pub loop-state-preserved : goal.loop-state-preserved
loop-state-preserved c =
    let s : ℕ = c.loop-state.state in
    let f : ℕ → List Arrow = arrows_from c.args.script.now in
    c.in_ok-add_from.ensures
    ∙ ap (λ (xs : List Arrow). xs ++ f s) c.loop-state.invariant
    ∙ flat_map_more f c.args.list.now.items (numbers s) s
    ∙ ap (λ (ns : List ℕ). c.args.list.now.items ++ flat_map f ns) (sym (one_more s))
