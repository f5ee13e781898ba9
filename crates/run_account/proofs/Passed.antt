-- What passes a test stands among those that pass it, and nothing else does.
use Rattle.std.proofs.Common.{◌≡◌, ◌∙◌, ◌<◌, ◌⊎◌, inl, inr, ℕ, zero, suc, Bool, true, false, List, [], ◌∷◌, length, if◌then◌else◌, refl, sym, ap, subst, arith}
use Rattle.std.specs.Prelude.{Contains, slice_index_or}
use Rattle.std.specs.List.{filter}
use Rattle.std.proofs.lemmas.Bool.{true≢false}
use Rattle.mg_model.proofs.Single.{first_in, none_in, first_or_later, later_in}
use Rattle.mg_model.specs.declared.events.Event.{Event}

pub passed_among : (test : Event → Bool) (history : List Event) (event : Event) → Contains history event → test event ≡ true
    → Contains (filter test history) event
passed_among test [] event among passes = absurd (none_in event among)
passed_among test (e ∷ more) event among passes =
    by_place (first_or_later e more event among) (test e) refl (passed_among test more event)
  where
    by_place : (e ≡ event) ⊎ Contains more event → (passing : Bool) → test e ≡ passing
        → (Contains more event → test event ≡ true → Contains (filter test more) event)
        → Contains (if passing then e ∷ filter test more else filter test more) event
    by_place (inl is) true passing on = subst (Contains (e ∷ filter test more)) is (first_in e (filter test more))
    by_place (inl is) false passing on = absurd (true≢false (sym passes ∙ ap test (sym is) ∙ passing))
    by_place (inr later) true passing on = later_in e (filter test more) event (on later passes)
    by_place (inr later) false passing on = on later passes

pub passed_in : (test : Event → Bool) (history : List Event) (event : Event) → Contains (filter test history) event → Contains history event
passed_in test [] event among = absurd (none_in event among)
passed_in test (e ∷ more) event among = by_test (test e) (passed_in test more event) among
  where
    by_test : (passes : Bool) → (Contains (filter test more) event → Contains more event)
        → Contains (if passes then e ∷ filter test more else filter test more) event → Contains (e ∷ more) event
    by_test true on among = elim (first_or_later e (filter test more) event among) [
      | inl is ↦ subst (Contains (e ∷ more)) is (first_in e more)
      | inr later ↦ later_in e more event (on later)
    ]
    by_test false on among = later_in e more event (on among)

-- ---- an event of a list among many

pub some_in : (events : List Event) (event : Event) → Contains events event → 0 < length events
some_in [] event among = absurd (none_in event among)
some_in (first ∷ more) event among = omega arith

-- none stands past the last list
pub not_past : (lists : List (List Event)) (number : ℕ) (event : Event) → Contains (slice_index_or lists number []) event → number < length lists
not_past [] number event among = absurd (none_in event among)
not_past (first ∷ more) zero event among = omega arith
not_past (first ∷ more) (suc number) event among = omega (arith, not_past more number event among)
