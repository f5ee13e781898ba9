-- The test whether two lists of alternatives are equal tells exactly that.
use Rattle.std.proofs.Common.{◌≡◌, List, Bool, refl, ap}
use Rattle.std.specs.Bool.{Decides}
use Rattle.std.specs.Cmp.{booleans_Decides}
use Rattle.std.proofs.lemmas.Slice.Eq.{slice_eq-Decides}
use Rattle.mg_model.specs.declared.positions.Position.{Position}
use Rattle.digits.specs.Equality.{same_position, same_alternatives}

same_position_decides : (p q : Position) → Decides (same_position p q) (p ≡ q)
same_position_decides p q =
    let tells = slice_eq-Decides booleans_Decides p.accepts q.accepts (same_position p q) refl in
    (λ same. ap (λ (accepts : List Bool). record { accepts = accepts }) (tells.0 same), λ e. tells.1 (ap (λ (r : Position). r.accepts) e))

pub same_alternatives_decides : (one other : List (List Position)) → Decides (same_alternatives one other) (one ≡ other)
same_alternatives_decides one other =
    slice_eq-Decides (λ xs ys. slice_eq-Decides same_position_decides xs ys _ refl) one other (same_alternatives one other) refl
