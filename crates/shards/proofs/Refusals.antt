-- What is refused as not enabled can't happen in the world that is shown.
use Rattle.std.proofs.Common.{◌≡◌, ◌∙◌, ◌==◌, ◌⊎◌, inl, inr, ℕ, Bool, true, false, List, [], ◌∷◌, Option, Some, None, if◌then◌else◌, refl, sym, ap, subst, arith}
use Rattle.std.specs.Prelude.{◌+◌, ◌<◌, Contains, length}
use Rattle.std.specs.List.{find}
use Rattle.std.proofs.lemmas.List.Elements.{Contains-append_cases}
use Rattle.mg_model.proofs.Cases.{not_both, some_is_none, same_itself}
use Rattle.mg_model.proofs.Single.{none_in, only_one}
use Rattle.mg_model.specs.declared.failures.ChosenRefusal.{ChosenRefusal}
use Rattle.mg_model.specs.declared.line_events.LineEvent.{LineEvent}
use Rattle.mg_model.specs.Gateway as gateway
use Rattle.mg_model.specs.Gateway.{Gateway}
use Rattle.mg_model.specs.Messages.{Request}
use Rattle.mg_model.specs.Numbers.{last_number}
use Rattle.mg_model.specs.Reports.{is_of}
use Rattle.mg_model.specs.Script.{Script}
use Rattle.mg_model.specs.World.{IsRequestOf, World, Executes, Occurs, execute, on_a_line}
use Rattle.mg_safety.proofs.Messages.NumberedWorlds.{IsNumbered}
use Rattle.gateway.specs.Answers.{HasNoRoom}
use Rattle.gateway.specs.GatewayValue.{GatewayValue, gateway_of}
use Rattle.shards.proofs.MessageLemmas.{found_in, is_own, own_message}
use Rattle.shards.specs.Shows.{Shows, ShowsCall}
use Rattle.shards.specs.CallRecords.{CannotExecute, CannotHappenOn, request_in}
use Rattle.shards.specs.declared.call_record.CallRecord.{CallRecord}

-- what a test doesn't find isn't there
pub not_found : {A : Type 0} (p : A → Bool) (xs : List A) (x : A) → find p xs ≡ None → Contains xs x → p x ≡ true → ⊥
not_found p [] x none among passes = none_in x among
not_found p (y ∷ more) x none among passes = by_test (not_found p more x) (p y) refl none (Contains-append_cases (y ∷ []) more x among)
  where
    by_test : (find p more ≡ None → Contains more x → p x ≡ true → ⊥) → (test : Bool) → p y ≡ test → (if test then Some y else find p more) ≡ None
        → Contains (y ∷ []) x ⊎ Contains more x → ⊥
    by_test rest true fits is at = some_is_none y is
    by_test rest false other is (inl here) = not_both (ap p (only_one y x here) ∙ passes) other
    by_test rest false other is (inr later) = rest is later passes

-- the one message with this name
module _ (w : World) (g : GatewayValue) (call_record : ℕ → Option CallRecord) (shows : Shows w g call_record) (numbered : IsNumbered w)
    (call : ℕ) (s : CallRecord) (there : call_record call ≡ Some s) where
  abbrev own : ShowsCall w call s
  own = shows.calls call s there

  named : (number : ℕ) (r : Request) → r.call ≡ call → r.number ≡ number → is_of call (Some number) r.call r.number ≡ true
  named number r of_call of_number =
      ap (λ c. is_of call (Some number) c r.number) of_call ∙ is_own call (Some number) r.number ∙ subst (λ n. (r.number == n) ≡ true) of_number (same_itself r.number)

  no_request : (number : ℕ) (r : Request) → request_in s (Some number) ≡ None → Contains w.requests r → r.call ≡ call → r.number ≡ number → ⊥
  no_request number r none among of_call of_number =
      not_found (λ (x : Request). is_of call (Some number) x.call x.number) w.requests r (own.requests (Some number) ∙ none) among (named number r of_call of_number)

  not_executed : (request : Request) (refusal : Option ChosenRefusal) (after : World) → HasNoRoom w.gateway request → Executes w request refusal after → ⊥
  not_executed request refusal after full (inl first) =
      let room = first.executed.room in let over = full.full in omega (arith, room, over)
  not_executed request refusal after full (inr (inl again)) = let offers = full.is_fresh in let kept_before = again.kept in cc
  not_executed request refusal after full (inr (inr (dropped, same))) = let offers = full.is_fresh in cc

  -- the request that was sent has no room
  without_room : (number : ℕ) → CannotExecute g number s → (r : Request) → IsRequestOf w call number r → HasNoRoom w.gateway r
  without_room number (inl none) r sent = absurd (no_request number r none sent.0 sent.1 sent.2)
  without_room number (inr (request, found, full)) r sent =
      let here = found_in (λ (x : Request). is_of call (Some number) x.call x.number) w.requests request (own.requests (Some number) ∙ found) in
      let names = own_message call number request.call request.number here.1 in
      let same : request ≡ r = numbered.requests.once request r here.0 sent.0 (names.0 ∙ sym sent.1) (names.1 ∙ sym sent.2) in
      subst (λ (x : Request). HasNoRoom w.gateway x) same (subst (λ (x : Gateway). HasNoRoom x request) (sym shows.gateway) full)

  pub cannot_execute : (script : Script) (number : ℕ) (refusal : Option ChosenRefusal) (after : World) → CannotExecute g number s
      → Occurs script w (execute call number refusal) after → ⊥
  cannot_execute script number refusal after cannot (r, sent, executes) = not_executed r refusal after (without_room number cannot r sent) executes

  pub no_room : (number : ℕ) → CannotExecute g number s → (r : Request) → IsRequestOf w call number r
      → last_number < (w.gateway.link call).notes + length r.commands
  no_room number cannot r sent =
      subst (λ (c : ℕ). last_number < (w.gateway.link c).notes + length r.commands) sent.1 (without_room number cannot r sent).full

  pub cannot_happen : (script : Script) (line : ℕ) (event : LineEvent) (after : World) → CannotHappenOn g call line event
      → Occurs script w (on_a_line call line event) after → ⊥
  unfolding gateway_of
  cannot_happen script line event after (inl other) (held, occurs) = other (ap (λ (x : Gateway). x.holder line) (sym shows.gateway) ∙ held)
  cannot_happen script line event after (inr cannot) (held, occurs) =
      cannot occurs.gateway occurs.sent (subst (λ (x : Gateway). gateway.Happens x line event occurs.gateway occurs.sent) shows.gateway occurs.happens)
