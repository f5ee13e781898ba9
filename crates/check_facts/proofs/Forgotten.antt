-- Whether a telephone is forgotten, by what was found of each line.
use Rattle.std.proofs.Common.{◌≡◌, ◌∙◌, ◌↔◌, ◌⊎◌, inl, inr, ℕ, zero, suc, ◌+◌, ◌<◌, ◌≤◌, ◌==◌, ◌||◌, Bool, true, false, if◌then◌else◌, IsTrue, List, [], ◌∷◌, ◌++◌, Some, length, length-append, refl, sym, ap, subst, arith, rules}
use Rattle.std.specs.List.{slice_get, slice_index_or}
use Rattle.std.proofs.lemmas.Option.{none-some, same_Some, slice_get_read, slice_get_within}
use Rattle.mg_model.specs.Script.{Script}
use Rattle.mg_model.specs.Entries.{Entry}
use Rattle.mg_model.specs.Tables.{state_of}
use Rattle.call_ways.proofs.Lists.{in_push}
use Rattle.call_ends.specs.declared.resting_telephones.RestingTelephone.{RestingTelephone}
use Rattle.call_ends.specs.RestingTelephones.{AreRestingTelephones, IsRestingTelephone}
use Rattle.call_ends.specs.Telephones.{IsHeardDownAtRest, IsLiftedAtRest, IsSilentAtRest}
use Rattle.check_facts.specs.declared.telephones.LineTelephones.{LineTelephones}
use Rattle.check_facts.specs.Forgotten.{AreTelephones, AreTelephonesBelow, HasForgotten, HasForgottenAt, HasForgottenIn, IsForgotten, IsForgottenIn, IsLeftLifted, SomeIsForgotten, is_forgotten, is_left_lifted}

has_at : {X : Type 0} (xs : List X) (i : ℕ) → i < length xs → (x : X) × (slice_get xs i ≡ Some x)
has_at [] i within = absurd (omega (arith, within))
has_at (x ∷ xs) zero within = (x, refl)
has_at (x ∷ xs) (suc i) within = has_at xs i (omega (arith, within))

-- ---- one state

choice_says : (is_end is_start lifted silent : Bool) (A B : Type 0) → IsTrue lifted ↔ A → IsTrue silent ↔ B
    → IsTrue (if is_end then lifted else (if is_start then false else silent)) ↔ (((is_end ≡ true) × A) ⊎ ((is_end ≡ false) × ((is_start ≡ false) × B)))
choice_says true is_start lifted silent A B says other = (
  (λ yes. inl (refl, says.0 yes)),
  (λ is. elim is [
    | inl here ↦ says.1 here.1
    | inr there ↦ absurd (let bad : true ≡ false = there.0 in search rules)
  ]),
)
choice_says false true lifted silent A B says other = (
  (λ yes. absurd (let bad : false ≡ true = yes in search rules)),
  (λ is. elim is [
    | inl here ↦ absurd (let bad : false ≡ true = here.0 in search rules)
    | inr there ↦ absurd (let bad : true ≡ false = there.1.0 in search rules)
  ]),
)
choice_says false false lifted silent A B says other = (
  (λ yes. inr (refl, (refl, other.0 yes))),
  (λ is. elim is [
    | inl here ↦ absurd (let bad : false ≡ true = here.0 in search rules)
    | inr there ↦ other.1 there.1.1
  ]),
)

either_says : (one other : Bool) (A B : Type 0) → IsTrue one ↔ A → IsTrue other ↔ B → IsTrue (one || other) ↔ (A ⊎ B)
either_says true other A B says more = ((λ yes. inl (says.0 refl)), (λ is. refl))
either_says false other A B says more = (
  (λ yes. inr (more.0 yes)),
  (λ is. elim is [
    | inl here ↦ absurd (let bad : false ≡ true = says.1 here in search rules)
    | inr there ↦ more.1 there
  ]),
)

one_says : (table : Script) (entries : List Entry) (s i : ℕ) (one : RestingTelephone) → IsRestingTelephone table entries s i one
    → IsTrue (is_forgotten table s one) ↔ IsForgotten table entries s i
one_says table entries s i one is =
    either_says (is_left_lifted table s one) one.is_heard (IsLeftLifted table entries s i) (IsHeardDownAtRest table entries s i)
    (choice_says (state_of table s).is_end (s == table.start) one.is_lifted one.is_silent (IsLiftedAtRest table entries s i) (IsSilentAtRest table entries s i) is.lifted is.silent)
    is.heard

pub past_states : (table : Script) (list : List RestingTelephone) (s : ℕ) → length list ≤ s → IsTrue false ↔ IsForgottenIn table list s
past_states table list s past = (
  (λ bad. absurd (search rules)),
  (λ is. absurd (let within : s < length list = slice_get_within list s is.0 is.1.0 in omega (arith, within, past))),
)

pub state_says : (table : Script) (list : List RestingTelephone) (s : ℕ) (one : RestingTelephone) (result : Bool) → slice_get list s ≡ Some one
    → result ≡ is_forgotten table s one → IsTrue result ↔ IsForgottenIn table list s
state_says table list s one result at says = (
  (λ yes. (one, (at, sym says ∙ yes))),
  (λ is. says ∙ subst (λ (x : RestingTelephone). is_forgotten table s x ≡ true) (same_Some is.0 one (sym is.1.0 ∙ at)) is.1.1),
)

-- ---- one line of some

pub line_here : (table : Script) (telephones : List LineTelephones) (index : ℕ) (of_line : LineTelephones) → index < length telephones
    → of_line ≡ slice_index_or telephones index of_line → (s : ℕ) × HasForgottenIn table of_line.states.items s → HasForgotten table telephones
line_here table telephones index of_line within is so =
    (index, (of_line, (slice_get_read telephones (length telephones) index of_line refl within is, so)))

pub line_not_here : (table : Script) (telephones : List LineTelephones) (index : ℕ) (of_line : LineTelephones) → index < length telephones
    → of_line ≡ slice_index_or telephones index of_line → ((s : ℕ) × HasForgottenIn table of_line.states.items s → ⊥)
    → HasForgottenAt table telephones index → ⊥
line_not_here table telephones index of_line within is otherwise so =
    let same : of_line ≡ so.0 =
    same_Some of_line so.0 (sym (slice_get_read telephones (length telephones) index of_line refl within is) ∙ so.1.0) in
    otherwise (subst (λ (one : LineTelephones). (s : ℕ) × HasForgottenIn table one.states.items s) (sym same) so.1.1)

pub line_within : (table : Script) (telephones : List LineTelephones) (n k : ℕ) → length telephones ≤ n → HasForgottenAt table telephones k → k < n
line_within table telephones n k past so =
    let within : k < length telephones = slice_get_within telephones k so.0 so.1.0 in
    omega (arith, within, past)

-- ---- what was found of each line

pub none_yet : (table : Script) (entries : List Entry) (list : List LineTelephones) → list ≡ [] → AreTelephonesBelow table entries 0 list
none_yet table entries list none = record {
  count = ap length none;
  each = λ i one at. absurd (none-some one (subst (λ (xs : List LineTelephones). slice_get xs i ≡ Some one) none at));
}

pub one_line : (table : Script) (entries : List Entry) (old new : List LineTelephones) (n : ℕ) (one : LineTelephones) → AreTelephonesBelow table entries n old
    → new ≡ old ++ one ∷ [] → one.line ≡ n → AreRestingTelephones table entries n one.states.items → AreTelephonesBelow table entries (n + 1) new
one_line table entries old new n one before longer line are = subst (AreTelephonesBelow table entries (n + 1)) (sym longer) it
  where
    it : AreTelephonesBelow table entries (n + 1) (old ++ one ∷ [])
    it = record {
      count = omega (arith, length-append old (one ∷ []), before.count);
      each = λ i other at. elim (in_push old one i other at) [
        | inl stands ↦ before.each i other stands
        | inr last ↦ (
            let here : n ≡ i = sym before.count ∙ sym last.0 in
            subst (λ (k : ℕ). (other.line ≡ k) × AreRestingTelephones table entries k other.states.items) here
            (subst (λ (x : LineTelephones). (x.line ≡ n) × AreRestingTelephones table entries n x.states.items) last.1 (line, are)))
      ];
    }

-- a slot at a place below four is that place
at_place : (k x : ℕ) → k < 4 → slice_index_or (0 ∷ 1 ∷ 2 ∷ 3 ∷ []) k x ≡ k
at_place zero x below = refl
at_place (suc zero) x below = refl
at_place (suc (suc zero)) x below = refl
at_place (suc (suc (suc zero))) x below = refl
at_place (suc (suc (suc (suc k)))) x below = absurd (omega (arith, below))

pub is_slot : (slots : List ℕ) (k x : ℕ) → slots ≡ 0 ∷ 1 ∷ 2 ∷ 3 ∷ [] → k < 4 → x ≡ slice_index_or slots k x → x ≡ k
is_slot slots k x are below is = is ∙ ap (λ (xs : List ℕ). slice_index_or xs k x) are ∙ at_place k x below

pub some_says : (table : Script) (entries : List Entry) (telephones : List LineTelephones) → AreTelephones table entries telephones
    → HasForgotten table telephones ↔ SomeIsForgotten table entries
some_says table entries telephones are = (
  (λ has.
      let k : ℕ = has.0 in
      let of_line : LineTelephones = has.1.0 in
      let at : slice_get telephones k ≡ Some of_line = has.1.1.0 in
      let found = (are.each k of_line at).1 in
      let s : ℕ = has.1.1.1.0 in
      let within : k < length telephones = slice_get_within telephones k of_line at in (
        s,
        (
          k,
          record {
            state = has.1.1.1.1.0;
            line = omega (arith, within, are.count);
            is = (one_says table entries s k has.1.1.1.1.1.0 (found.each s has.1.1.1.1.1.0 has.1.1.1.1.1.1.0)).0 has.1.1.1.1.1.1.1;
          },
        ),
      )),
  (λ some.
      let s : ℕ = some.0 in
      let i : ℕ = some.1.0 in
      let of_line = has_at telephones i (omega (arith, some.1.1.line, are.count)) in
      let found = (are.each i of_line.0 of_line.1).1 in
      let one = has_at of_line.0.states.items s (omega (arith, some.1.1.state, found.count)) in (
        i,
        (
          of_line.0,
          (of_line.1, (s, (some.1.1.state, (one.0, (one.1, (one_says table entries s i one.0 (found.each s one.0 one.1)).1 some.1.1.is))))),
        ),
      )),
)

pub found_says : (table : Script) (entries : List Entry) (telephones seen : List LineTelephones) → AreTelephones table entries telephones
    → seen ≡ telephones → (result : Bool) → IsTrue result ↔ HasForgotten table seen → IsTrue result ↔ SomeIsForgotten table entries
found_says table entries telephones seen are is result says =
    let both = some_says table entries telephones are in (
      (λ yes. both.0 (subst (HasForgotten table) is (says.0 yes))),
      (λ some. says.1 (subst (HasForgotten table) (sym is) (both.1 some))),
    )
