-- What is told of an arrow is so of the calls that enter over it.
use Rattle.std.proofs.Common.{◌≡◌, ◌∙◌, ◌↔◌, ◌++◌, ◌∷◌, [], inl, inr, ℕ, zero, suc, Bool, true, IsTrue, List, Option, None, Some, map, refl, sym, ap, subst, rules}
use Rattle.std.specs.List.{slice_get}
use Rattle.std.proofs.lemmas.Bool.{or_cases, or_left, or_right}
use Rattle.std.proofs.lemmas.Option.{none-some, same_Some}
use Rattle.mg_model.specs.Script.{Script}
use Rattle.mg_model.specs.Configuration.{Configuration}
use Rattle.mg_model.specs.Entries.{Entry}
use Rattle.configuration.specs.Packed.{Words}
use Rattle.call_ways.specs.declared.arrows.Arrow.{Arrow}
use Rattle.call_ways.specs.declared.crossings.Crossing.{Crossing}
use Rattle.call_ways.specs.declared.fates.Fate.{Fate}
use Rattle.call_ways.specs.declared.fates.Fate.TheVariants as fate
use Rattle.call_ways.specs.Arrows.{Enters, arrows_of}
use Rattle.call_ways.specs.Crossed.{entering, is_among, is_at, is_of, same_fate, values_of}
use Rattle.call_ways.specs.Fates.{AreCrossings, HasFate, IsCrossing, arrow_in, fates_in, has, set_at}
use Rattle.call_ways.specs.Passing.{IsAny, IsEmpty, IsSending, IsSoIn, IsTold, SomeIsSo}
use Rattle.call_ways.specs.Ways.{AreAll}
use Rattle.call_ways.proofs.Lists.{in_push}
use Rattle.call_ways.proofs.Members.{IsIn}
use Rattle.call_ways.proofs.Over.{entered_by}

-- ---- fates

same_fates : (a b : Fate) → same_fate a b ≡ true → a ≡ b
same_fates fate.LeftOut fate.LeftOut alike = refl
same_fates fate.NotReached fate.NotReached alike = refl
same_fates fate.Refused fate.Refused alike = refl
same_fates fate.Done fate.Done alike = refl
same_fates a b alike = cc

fate_itself : (a : Fate) → same_fate a a ≡ true
fate_itself fate.LeftOut = refl
fate_itself fate.NotReached = refl
fate_itself fate.Refused = refl
fate_itself fate.Done = refl

of_is : (it : Fate) (found : Option Fate) → IsTrue (is_of it found) ↔ (found ≡ Some it)
of_is it None = ((λ bad. cc), (λ bad. cc))
of_is it (Some other) = (
  (λ yes. ap Some (sym (same_fates it other yes))),
  (λ is. subst (λ (f : Fate). same_fate it f ≡ true) (sym (same_Some other it is)) (fate_itself it)),
)

module _ (script : Script) (place : ℕ) (it : Fate) where
  -- this becomes of the command at the place
  abbrev pub Becomes : Configuration → Type 0
  Becomes c = slice_get (fates_in script c) place ≡ Some it

  among_from : (configs : List Configuration) → IsTrue (is_among script configs place it) → SomeIsSo Becomes configs
  among_from [] bad = cc
  among_from (c ∷ configs) holds =
      elim (or_cases (is_at (fates_in script c) place it) (is_among script configs place it) holds) [
        | inl here ↦ (0, (c, (refl, (of_is it (slice_get (fates_in script c) place)).0 here)))
        | inr rest ↦ (let more = among_from configs rest in (suc more.0, more.1))
      ]

  among_to : (configs : List Configuration) (n : ℕ) → IsSoIn Becomes configs n → IsTrue (is_among script configs place it)
  among_to [] n so = absurd (none-some so.0 so.1.0)
  among_to (c ∷ configs) zero so =
      let same : c ≡ so.0 = same_Some c so.0 so.1.0 in
      or_left (is_at (fates_in script c) place it) (is_among script configs place it)
      ((of_is it (slice_get (fates_in script c) place)).1 (subst Becomes (sym same) so.1.1))
  among_to (c ∷ configs) (suc n) so = or_right (is_at (fates_in script c) place it) (is_among script configs place it) (among_to configs n so)

  among_is : (configs : List Configuration) → IsTrue (is_among script configs place it) ↔ SomeIsSo Becomes configs
  among_is configs = (among_from configs, (λ some. among_to configs some.0 some.1))

-- ---- one arrow

module _ (script : Script) (entries : List Entry) (configs : List Words) (all : AreAll script entries configs) (arrow : Arrow) (found : List Words)
    (found_is : values_of found ≡ entering script (values_of configs) arrow.by arrow.from arrow.to) where
  some_entered : (P : Configuration → Type 0) → SomeIsSo P (values_of found) ↔ ((c : Configuration) × (Enters script entries arrow c × P c))
  some_entered P = (
    λ some.
        let c : Configuration = some.1.0 in
        let there : IsIn (entering script (values_of configs) arrow.by arrow.from arrow.to) c =
        subst (λ (xs : List Configuration). IsIn xs c) found_is (some.0, some.1.1.0) in
        (c, ((entered_by script entries configs all arrow.from arrow.to arrow.by c).0 there, some.1.1.1)),
    λ is.
        let c : Configuration = is.0 in
        let there : IsIn (values_of found) c =
        subst (λ (xs : List Configuration). IsIn xs c) (sym found_is) ((entered_by script entries configs all arrow.from arrow.to arrow.by c).1 is.1.0) in
        (there.0, (c, (there.1, is.1.1))),
  )

  through : (P : Configuration → Type 0) (b : Bool) → IsTrue b ↔ SomeIsSo P (values_of found)
      → IsTrue b ↔ ((c : Configuration) × (Enters script entries arrow c × P c))
  through P b says = ((λ yes. (some_entered P).0 (says.0 yes)), (λ is. says.1 ((some_entered P).1 is)))

  pub crossing_is : (told : Crossing) → told.arrow ≡ arrow → IsTold script arrow (values_of found) told → IsCrossing script entries told
  crossing_is told same is =
      let any = through IsAny told.entered is.any in
      record {
        entered =
            subst (λ (a : Arrow). IsTrue told.entered ↔ ((c : Configuration) × Enters script entries a c)) (sym same)
            ((λ yes. let so = any.0 yes in (so.0, so.1.0)), (λ so. any.1 (so.0, (so.1, search rules))));
        empty =
            subst (λ (a : Arrow). IsTrue told.empty ↔ ((c : Configuration) × (Enters script entries a c × IsEmpty c))) (sym same)
            (through IsEmpty told.empty is.empty);
        sending =
            subst (λ (a : Arrow). IsTrue told.sending ↔ ((c : Configuration) × (Enters script entries a c × IsSending c))) (sym same)
            (through IsSending told.sending is.sending);
        fates = λ place it.
            subst (λ (a : Arrow). IsTrue (has (set_at told.fates.items place) it) ↔ HasFate script entries a place it) (sym same)
            (through (Becomes script place it) (has (set_at told.fates.items place) it)
            (subst (λ (b : Bool). IsTrue b ↔ SomeIsSo (Becomes script place it) (values_of found)) (sym (is.fates place it))
            (among_is script place it (values_of found))));
      }

-- ---- all arrows

-- of so many arrows it was told, and these are left
pub record AreSoFar (script : Script) (reached : List Words) (all left : List Arrow) (list : List Crossing) : Type 0 where
  pub arrows : map arrow_in list ++ left ≡ all
  pub each : (entries : List Entry) → AreAll script entries reached → (place : ℕ) (one : Crossing) → slice_get list place ≡ Some one
      → IsCrossing script entries one

arrows_on : (list : List Crossing) (one : Crossing) (left : List Arrow) (arrow : Arrow) (more : List Arrow) → left ≡ arrow ∷ more → one.arrow ≡ arrow
    → map arrow_in (list ++ one ∷ []) ++ more ≡ map arrow_in list ++ left
arrows_on [] one left arrow more left_is is = ap (λ (a : Arrow). a ∷ more) is ∙ sym left_is
arrows_on (first ∷ list) one left arrow more left_is is = ap (λ (xs : List Arrow). first.arrow ∷ xs) (arrows_on list one left arrow more left_is is)

module _ (script : Script) (reached : List Words) (all : List Arrow) where
  pub none_so_far : (list : List Crossing) → list ≡ [] → AreSoFar script reached all all list
  none_so_far list is = record {
    arrows = ap (λ (xs : List Crossing). map arrow_in xs ++ all) is;
    each = λ entries come place one at. absurd (none-some one (ap (λ (xs : List Crossing). slice_get xs place) (sym is) ∙ at));
  }

  pub one_so_far : (list new : List Crossing) (one : Crossing) (left : List Arrow) (arrow : Arrow) (more : List Arrow) → left ≡ arrow ∷ more
      → one.arrow ≡ arrow → ((entries : List Entry) → AreAll script entries reached → IsCrossing script entries one)
      → new ≡ list ++ one ∷ [] → AreSoFar script reached all left list → AreSoFar script reached all more new
  one_so_far list new one left arrow more left_is is so new_is so_far = record {
    arrows = ap (λ (xs : List Crossing). map arrow_in xs ++ more) new_is ∙ arrows_on list one left arrow more left_is is ∙ so_far.arrows;
    each = λ entries come place other at.
        elim (in_push list one place other (subst (λ (xs : List Crossing). slice_get xs place ≡ Some other) new_is at)) [
          | inl before ↦ so_far.each entries come place other before
          | inr last ↦ subst (IsCrossing script entries) last.1 (so entries come)
        ];
  }

nothing_behind : (xs : List Arrow) → (xs ++ []) ≡ xs
nothing_behind [] = refl
nothing_behind (x ∷ xs) = ap (λ (ys : List Arrow). x ∷ ys) (nothing_behind xs)

pub all_crossings : (script : Script) (reached : List Words) (all : List Arrow) (list : List Crossing) → all ≡ arrows_of script
    → AreSoFar script reached all [] list → (entries : List Entry) → AreAll script entries reached → AreCrossings script entries list
all_crossings script reached all list all_is so_far entries come = record {
  arrows = sym (nothing_behind (map arrow_in list)) ∙ so_far.arrows ∙ all_is;
  each = so_far.each entries come;
}
