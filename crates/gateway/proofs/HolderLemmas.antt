-- The call that holds a line: when an event of the line can happen, and when it can't.
use Rattle.std.proofs.Common.{◌≡◌, ◌∙◌, ℕ, ◌+◌, ◌≤◌, Bool, true, false, ◌&&◌, length, Option, Some, None, is_some, refl, sym, ap, subst, arith, true≢false}
use Rattle.mg_model.specs.Numbers.{last_number}
use Rattle.mg_model.specs.declared.line_events.LineEvent.{LineEvent}
use Rattle.mg_model.specs.Gateway.{Gateway, outcome_of, notes_from, with_line, with_notes}
use Rattle.mg_model.specs.LineEvents.{Note, Outcome}
use Rattle.line_events.specs.Raising.{is_raised}
use Rattle.requests.specs.Connected.{board_in, line_in, has_line}
use Rattle.gateway.specs.declared.happen.Holder.{Holder}
use Rattle.gateway.specs.Answers.{CanHappen, CanOccur}
use Rattle.gateway.specs.Calls.{OpenCall, call_in, link_of}
use Rattle.gateway.specs.GatewayValue.{GatewayValue, AreTied, gateway_of}
use Rattle.gateway.specs.Holders.{IsHolder}
use Rattle.gateway.proofs.HappenLemmas.{cannot_none, there_held}

module _ (w : GatewayValue) (line : ℕ) (event : LineEvent) (h : Holder) (is : IsHolder w line event h) where
  pub link_last : (link_of (call_in w.calls h.call)).notes ≡ h.last
  link_last = ap (λ (o : Option OpenCall). (link_of o).notes) is.is_state ∙ sym is.last_is

  enough : (note : Option Note) (last : ℕ) → last ≤ last_number → (is_some note ≡ true → last + 1 ≤ last_number)
      → (g : Gateway) → last + length (notes_from g h.call line note) ≤ last_number
  enough None last most room g = omega (arith, most)
  enough (Some note) last most room g = let one : last + 1 ≤ last_number = room refl in omega (arith, one)

  by_outcome : (o : Option Outcome) → outcome_of (line_in w.connected line) event ≡ o → is_some o ≡ true → CanOccur w line event
  unfolding gateway_of
  by_outcome None e there = absurd (true≢false (sym there))
  by_outcome (Some outcome) e there =
      let room : (link_of (call_in w.calls h.call)).notes + length (notes_from (gateway_of w) h.call line outcome.note) ≤ last_number =
      subst (λ (n : ℕ). n + length (notes_from (gateway_of w) h.call line outcome.note) ≤ last_number) (sym link_last)
      (enough outcome.note h.last is.most (λ raised. is.room (ap is_raised e ∙ raised)) (gateway_of w)) in
      record {
        after = with_notes (with_line (gateway_of w) line outcome.row) h.call (length (notes_from (gateway_of w) h.call line outcome.note));
        notes = notes_from (gateway_of w) h.call line outcome.note;
        happens = record {
          call = h.call;
          outcome = outcome;
          held = is.holds;
          happens = e;
          notes_are = refl;
          room = room;
          after_is = refl;
        };
      }

  second_false : (a b : Bool) → a ≡ true → (a && b) ≡ false → b ≡ false
  second_false true b there e = e
  second_false false b there e = absurd (true≢false (sym there))

  first_true : (a b : Bool) → (a && b) ≡ true → b ≡ true
  first_true true b e = e
  first_true false b e = absurd (true≢false (sym e))

  none_of : (o : Option Outcome) → is_some o ≡ false → o ≡ None
  none_of None e = refl
  none_of (Some o) e = absurd (true≢false e)

  pub can_happen : AreTied w → (can : Bool) → can ≡ (has_line (board_in w.connected) line && is_some (outcome_of (line_in w.connected line) event))
      → CanHappen w line event can
  can_happen tied true e = by_outcome (outcome_of (line_in w.connected line) event) refl (first_true _ _ (sym e))
  can_happen tied false e = cannot_none w line event (none_of _ (second_false _ _ (there_held w tied line h.call (sym is.holds)) (sym e)))
