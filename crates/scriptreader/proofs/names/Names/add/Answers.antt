-- The new name has the last place.
use Rattle.std.proofs.Common.{ℕ, List, [], ◌∷◌, ◌++◌, length, Bor, sym, ap, ◌∙◌}
use Rattle.scriptreader.proofs.FoundPlaces.{placed_more}
use Rattle.scriptreader.proofs.names.Names.add.Goals as goal

pub invariant_of-self-2 : goal.invariant_of-self-2
invariant_of-self-2 c =
    placed_more c.self.inside.texts.items c.push.new.self.items c.args.name c.self.inside.places c.insert.new.self (length c.as_slice-place.result.now)
    c.self.invariant (rw c.self.view_is (sym c.has.ensures ∙ c.if-has.false)) (ap (λ (names : List (Bor (List ℕ))). length names) c.as_slice-place.ensures.value)
    c.in_ok-insert.ensures.updates (c.in_ok-push.ensures.items ∙ ap (λ (names : List (Bor (List ℕ))). names ++ c.args.name ∷ []) c.in_ok-reserve.ensures.items)
