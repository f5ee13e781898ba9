use Rattle.std.proofs.Common.{◌≡◌, ◌∙◌, Bool, not, ◌||◌, List, [], ◌∷◌, map, filter, cond, true, false, refl, ap, rules}
use Rattle.std.proofs.lemmas.Fn.{filter_same}
use Rattle.mg_names.specs.declared.identifiers.LineNo.{LineNo}
use Rattle.mg_model.specs.RequestRun.{RaisedNote, has_new_events}
use Rattle.mg_model.specs.Members.{is_among}
use Rattle.requests.specs.Views.{line_described, line_note, line_notes}
use Rattle.requests.proofs.progress.keep_standing.Goals as goal

module _ {X Y : Type 0} (f : X → Y) (test : Y → Bool) where
  map-filter : (xs : List X) → map f (filter (λ x. test (f x)) xs) ≡ filter test (map f xs)
  map-filter [] = refl
  map-filter (x ∷ xs) = by_test (test (f x)) (map-filter xs)
    where
      by_test : (b : Bool) → map f (filter (λ y. test (f y)) xs) ≡ filter test (map f xs) →
          map f (cond b (x ∷ filter (λ y. test (f y)) xs) (filter (λ y. test (f y)) xs)) ≡ cond b (f x ∷ filter test (map f xs)) (filter test (map f xs))
      by_test true more = ap (λ ys. f x ∷ ys) more
      by_test false more = more

pub returns : goal.returns
returns c =
    ap line_notes (filter_same _ (λ n. not (is_among (map (λ (line : LineNo). line.0) c.args.gone.now) n.line.0 || has_new_events (line_described c.args.described.now) n.line.0)) _ (λ x b f' k. search rules) _ _ c.retain.ensures.filtered)
    ∙ map-filter line_note (λ (n : RaisedNote). not (is_among (map (λ (line : LineNo). line.0) c.args.gone.now) n.line || has_new_events (line_described c.args.described.now) n.line)) c.args.notes.now.items
