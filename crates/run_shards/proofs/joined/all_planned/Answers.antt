-- One call more is that of the next place.
use Rattle.std.proofs.Common.{◌≡◌, ◌∙◌, ◌++◌, List, [], ◌∷◌, Option, Some, map, sym, ap, arith}
use Rattle.std.proofs.lemmas.List.{append_assoc, map_push}
use Rattle.std.specs.Vec.Iter.{into_iter_items}
use Rattle.planned_calls.specs.declared.planned_call.PlannedCall.{PlannedCall}
use Rattle.run_shards.proofs.joined.all_planned.Goals as goal

one_more : (so_far now : List PlannedCall) (planned : PlannedCall) (before after all : List (Option PlannedCall)) → now ≡ so_far ++ planned ∷ []
    → before ≡ Some planned ∷ after → map (λ (p : PlannedCall). Some p) so_far ++ before ≡ all → map (λ (p : PlannedCall). Some p) now ++ after ≡ all
one_more so_far now planned before after all pushed step was =
    ap (λ (ps : List PlannedCall). map (λ (p : PlannedCall). Some p) ps ++ after) pushed
    ∙ ap (λ (os : List (Option PlannedCall)). os ++ after) (map_push (λ (p : PlannedCall). Some p) so_far planned)
    ∙ append_assoc (map (λ (p : PlannedCall). Some p) so_far) (Some planned ∷ []) after
    ∙ ap (λ (os : List (Option PlannedCall)). map (λ (p : PlannedCall). Some p) so_far ++ os) (sym step) ∙ was

pub loop-place-preserved : goal.loop-place-preserved
loop-place-preserved c = record {
  len = omega (arith, c.in_ok-push.ensures.len, c.in-Some.ensures.steps.1, c.loop-place.invariant.len);
  same = one_more c.loop-place.planned_calls.items c.push.new.self.items c.in-Some-place.planned (into_iter_items c.loop-place.place-iterator)
      (into_iter_items c.next.new.self) c.args.places.items c.in_ok-push.ensures.items
      (c.in-Some.ensures.steps.0 ∙ ap (λ (place : Option PlannedCall). place ∷ into_iter_items c.next.new.self) c.in-Some-place.is)
      c.loop-place.invariant.same;
}
