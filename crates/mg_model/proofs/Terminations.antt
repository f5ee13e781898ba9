-- What the tests of terminations and spots say: of one script, and of the gateway.
use Rattle.std.proofs.Common.{◌≡◌, ℕ, true, refl, ap}
use Rattle.std.proofs.lemmas.Bool.{eqb-true, eq-eqb}
use Rattle.mg_names.specs.declared.identifiers.TermId.{TermId}
use Rattle.mg_names.specs.declared.identifiers.TermId.TheVariants.{Line, Eph}
use Rattle.mg_model.specs.declared.commands.Termination.{Termination}
use Rattle.mg_model.specs.declared.commands.Termination.TheVariants as termination
use Rattle.mg_model.specs.declared.components.Spot.{Spot}
use Rattle.mg_model.specs.declared.components.Spot.TheVariants.{Absent, Null, In}
use Rattle.mg_model.specs.Board.{same_term}
use Rattle.mg_model.specs.Configuration.{is_same, is_in}
use Rattle.mg_model.proofs.Cases.{false_not_true, same_turned}

-- ---- terminations of a script

pub is_same_is : (t u : Termination) → is_same t u ≡ true → t ≡ u
is_same_is (termination.Line i) (termination.Line j) e = ap (λ n. termination.Line n) (eqb-true i j e)
is_same_is (termination.Line i) (termination.Ephemeral j) e = absurd (false_not_true e)
is_same_is (termination.Ephemeral i) (termination.Line j) e = absurd (false_not_true e)
is_same_is (termination.Ephemeral i) (termination.Ephemeral j) e = ap (λ n. termination.Ephemeral n) (eqb-true i j e)

pub is_same_self : (t : Termination) → is_same t t ≡ true
is_same_self (termination.Line i) = eq-eqb i i refl
is_same_self (termination.Ephemeral k) = eq-eqb k k refl

pub is_same_turned : (s t : Termination) → is_same s t ≡ is_same t s
is_same_turned (termination.Line i) (termination.Line j) = same_turned i j
is_same_turned (termination.Line i) (termination.Ephemeral j) = refl
is_same_turned (termination.Ephemeral i) (termination.Line j) = refl
is_same_turned (termination.Ephemeral i) (termination.Ephemeral j) = same_turned i j

-- ---- terminations of the gateway

pub same_term_is : (t u : TermId) → same_term t u ≡ true → t ≡ u
same_term_is (Line i) (Line j) e = ap (λ n. Line (record { 0 = n })) (eqb-true i.0 j.0 e)
same_term_is (Line i) (Eph j) e = absurd (false_not_true e)
same_term_is (Eph i) (Line j) e = absurd (false_not_true e)
same_term_is (Eph i) (Eph j) e = ap (λ n. Eph n) (eqb-true i j e)

pub same_term_self : (t : TermId) → same_term t t ≡ true
same_term_self (Line i) = eq-eqb i.0 i.0 refl
same_term_self (Eph x) = eq-eqb x x refl

pub same_term_turned : (u v : TermId) → same_term u v ≡ same_term v u
same_term_turned (Line i) (Line j) = same_turned i.0 j.0
same_term_turned (Line i) (Eph j) = refl
same_term_turned (Eph i) (Line j) = refl
same_term_turned (Eph i) (Eph j) = same_turned i j

-- ---- spots

pub is_in_is : (spot : Spot) (j : ℕ) → is_in spot j ≡ true → spot ≡ In j
is_in_is Absent j e = absurd (false_not_true e)
is_in_is Null j e = absurd (false_not_true e)
is_in_is (In i) j e = ap (λ n. In n) (eqb-true i j e)
