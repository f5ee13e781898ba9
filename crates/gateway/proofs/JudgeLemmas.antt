-- What is found of a request before it runs, and what its run leaves.
use Rattle.std.proofs.Common.{◌≡◌, ◌∙◌, ℕ, ◌+◌, ◌<◌, ◌≤◌, Bool, true, false, nat_eq, nat_le, not, List, length, Option, Some, None, is_some, refl, sym, ap, subst, arith, true≢false}
use Rattle.std.proofs.lemmas.Bool.Decides.{nat_tests}
use Rattle.std.proofs.lemmas.List.{length-map}
use Rattle.std.proofs.lemmas.Bool.{leb-true}
use Rattle.mg_model.specs.RequestRun.{RaisedNote}
use Rattle.mg_model.specs.declared.failures.ChosenRefusal.{ChosenRefusal}
use Rattle.mg_model.specs.declared.failures.Failure.{Failure}
use Rattle.mg_model.specs.Delivery.{Offer, offer, kept as kept_again, discard, fresh}
use Rattle.mg_model.specs.Numbers.{last_number}
use Rattle.mg_model.specs.Gateway.{IsKept, IsDiscarded, offer_to, sent_notes}
use Rattle.mg_model.specs.Messages.{Request, Reply, SentNote}
use Rattle.mg_model.specs.Items.{Done}
use Rattle.requests.specs.declared.outcome.LineNote.{LineNote}
use Rattle.requests.specs.Connected.{Connected, line_in, start_in, Ends}
use Rattle.requests.specs.Views.{line_notes}
use Rattle.gateway.specs.Answers.{CanExecute, IsAddressed, HasNoRoom}
use Rattle.gateway.specs.Calls.{OpenCall, call_in, delivery_link, link_of}
use Rattle.gateway.specs.Execution.{IsNew, IsRun}
use Rattle.gateway.specs.GatewayValue.{GatewayValue, gateway_of, is_open}
use Rattle.gateway.proofs.NoteLemmas.{notes_at_most}
use Rattle.gateway.proofs.OfferLemmas.{offer_is}

above : (n m : ℕ) → nat_le n m ≡ false → m < n
above n m is = grind (arith, nat_tests)

pub kept_not_fresh : (reply : Reply) → kept_again reply ≡ fresh → ⊥
kept_not_fresh reply e = cc

pub discard_not_fresh : (offered : Offer Reply) → offered ≡ discard → offered ≡ fresh → ⊥
discard_not_fresh offered is e = cc

pub nobody : (w : GatewayValue) (call : ℕ) (request : Request) → call_in w.calls call ≡ None → IsAddressed w call request → ⊥
unfolding is_open
nobody w call request e addressed = true≢false (sym addressed.0 ∙ ap is_some e)

module _ (w : GatewayValue) (call : ℕ) (request : Request) (state : OpenCall) (found : call_in w.calls call ≡ Some state)
    (of_association : state.association ≡ w.association) (ours : request.call ≡ call) where
  pub addressed : IsAddressed w call request
  unfolding is_open
  addressed = (ap is_some found, ours)

  found_request : call_in w.calls request.call ≡ Some state
  found_request = ap (call_in w.calls) ours ∙ found

  -- what holds of the state holds of the link
  pub by_link : (P : Option OpenCall → Type 0) → P (Some state) → P (call_in w.calls request.call)
  by_link P h = subst P (sym found_request) h

  -- the model's link says the same of the request
  asked : offer_to (gateway_of w) request ≡ offer (delivery_link state) request.association request.number
  asked = offer_is w request state found_request of_association

  pub is_discarded : offer (delivery_link state) request.association request.number ≡ discard → IsDiscarded (gateway_of w) request
  is_discarded e = asked ∙ e

  pub is_kept : (reply : Reply) → offer (delivery_link state) request.association request.number ≡ kept_again reply → IsKept (gateway_of w) request reply
  is_kept reply e = asked ∙ e

  pub has_no_room : offer (delivery_link state) request.association request.number ≡ fresh → last_number < state.notes + length request.commands
      → HasNoRoom (gateway_of w) request
  unfolding gateway_of
  has_no_room e full = record {
    is_fresh = asked ∙ e;
    full = by_link (λ (o : Option OpenCall). last_number < (link_of o).notes + length request.commands) full;
  }

  -- only a request that would be executed may find no room
  pub never_full : (o : Offer Reply) → offer (delivery_link state) request.association request.number ≡ o → (o ≡ fresh → ⊥) → CanExecute w call request true
  never_full o e other = λ both. other (sym (asked ∙ e) ∙ both.1.is_fresh)

  pub full_or_not : offer (delivery_link state) request.association request.number ≡ fresh → (count room : ℕ) → count ≡ length request.commands
      → room + state.notes ≡ last_number → (can : Bool) → can ≡ nat_le count room → CanExecute w call request can
  unfolding gateway_of
  full_or_not e count room count_is all true few = λ both.
      let full : last_number < state.notes + length request.commands =
      subst (λ (o : Option OpenCall). last_number < (link_of o).notes + length request.commands) found_request both.1.full in
      let within : count ≤ room = leb-true count room (sym few) in
      absurd (omega (arith, full, within, count_is, all))
  full_or_not e count room count_is all false many =
      let beyond : room < count = above count room (sym many) in
      let full : last_number < state.notes + length request.commands = omega (arith, beyond, count_is, all) in
      (addressed, has_no_room e full)

-- ---- the run

-- there is room for the notes that it raises
pub room_for : (w : GatewayValue) (request : Request) (last : ℕ) (start ended : Connected) (refusal : Option ChosenRefusal) (results : List Done) (notes : List LineNote)
    (failure : Option Failure) → IsNew w request last → Ends start request refusal ended results (line_notes notes) failure → last + length notes ≤ last_number
room_for w request last start ended refusal results notes failure new runs =
    let most : length (line_notes notes) ≤ 0 + length request.commands =
    notes_at_most request.number refusal (start_in start) 0 request.commands (record { board = runs.board; line = line_in ended; results = results; notes = line_notes notes }) failure runs.runs in
    let same : length (line_notes notes) ≡ length notes = rw length-map refl in
    let room : last + length request.commands ≤ last_number = new.room in
    omega arith

pub run_made : (start : Connected) (request : Request) (refusal : Option ChosenRefusal) (last : ℕ) (ended : Connected) (results : List Done) (raised : List RaisedNote)
    (failure : Option Failure) (reply kept : Reply) (notes : List SentNote) (last_after : ℕ) → Ends start request refusal ended results raised failure
    → reply ≡ record { call = request.call; association = request.association; number = request.number; results = results; failure = failure }
    → kept ≡ reply → notes ≡ sent_notes request.call request.association last raised → last_after ≡ last + length raised
    → IsRun start request refusal last ended reply kept notes last_after
run_made start request refusal last ended results raised failure reply kept notes last_after runs reply_is kept_is notes_are last_is =
    let results_are : reply.results ≡ results = ap (λ (r : Reply). r.results) reply_is in
    record {
      raised = raised;
      failure = failure;
      is_end = subst (λ (rs : List Done). Ends start request refusal ended rs raised failure) (sym results_are) runs;
      reply_is = reply_is ∙ ap (λ (rs : List Done). record { call = request.call; association = request.association; number = request.number; results = rs; failure = failure }) (sym results_are);
      kept_is = kept_is;
      notes_are = notes_are;
      last_is = last_is;
    }

-- ---- numbers that are compared

pub equal_numbers : (a b : ℕ) → false ≡ not (nat_eq a b) → a ≡ b
equal_numbers a b e = grind (arith, nat_tests)
