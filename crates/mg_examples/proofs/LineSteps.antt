-- What happens on a line of a call: the world after it, to which any world goes in which the line's row has that outcome.
use Rattle.std.proofs.Common.{◌≡◌, ◌+◌, ◌++◌, ◌≤◌, ℕ, List, length, Some, refl}
use Rattle.mg_model.specs.declared.line_events.LineEvent.{LineEvent}
use Rattle.mg_model.specs.Gateway.{notes_from}
use Rattle.mg_model.specs.LineEvents.{Outcome}
use Rattle.mg_model.specs.Numbers.{last_number}
use Rattle.mg_examples.proofs.Words.{Gateway, LineOccurs, SentNote, World, outcome_of, with_gateway, with_line, with_notes}

module _ (w : World) (call line : ℕ) (outcome : Outcome) where
  abbrev sent : List SentNote
  sent = notes_from w.gateway call line outcome.note

  abbrev gateway_after : Gateway
  gateway_after = with_notes (with_line w.gateway line outcome.row) call (length sent)

  abbrev pub world_after : World
  world_after = record (with_gateway w gateway_after) { notes = sent ++ w.notes }

  pub occurs : (happens : LineEvent) → w.gateway.holder line ≡ Some call → outcome_of (w.gateway.line line) happens ≡ Some outcome
      → (w.gateway.link call).notes + length sent ≤ last_number → (w.gateway.holder line ≡ Some call) × LineOccurs w line happens world_after
  occurs happens held is room = (
    held,
    record {
      gateway = gateway_after;
      sent = sent;
      happens = record { call = call; outcome = outcome; held = held; happens = is; notes_are = refl; room = room; after_is = refl };
      after_is = refl;
    },
  )
