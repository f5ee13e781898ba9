-- Where an event of a line can't happen, though the call holds the line and the row has such an event, no number is left for a note; and one of the two hook
-- events a row always has.
use Rattle.std.proofs.Common.{◌≡◌, ◌∙◌, ◌+◌, ◌<◌, ◌≤◌, ◌++◌, ◌⊎◌, ℕ, Bool, true, false, List, length, Option, Some, None, if◌then◌else◌, refl, ap, arith, inl, inr}
use Rattle.std.specs.List.{list_any}
use Rattle.std.proofs.lemmas.Bool.{cases_lt}
use Rattle.mg_names.specs.declared.identifiers.LineNo.{LineNo}
use Rattle.mg_model.proofs.Cases.{where_false}
use Rattle.mg_model.specs.declared.events.CallEvent.TheVariants as to_call
use Rattle.mg_model.specs.declared.line_events.Hook.{Hook}
use Rattle.mg_model.specs.declared.line_events.Hook.TheVariants.{On, Off}
use Rattle.mg_model.specs.declared.line_events.LineEvent.{LineEvent}
use Rattle.mg_model.specs.declared.line_events.LineEvent.TheVariants as happens
use Rattle.mg_model.specs.Gateway.{Gateway, notes_from, outcome_of, with_line, with_notes}
use Rattle.mg_model.specs.LineEvents.{LineRow, Note, Outcome, detected, is_hook, kind_of, same_hook, stays}
use Rattle.mg_model.specs.Messages.{SentNote}
use Rattle.mg_model.specs.Numbers.{last_number}
use Rattle.mg_model.specs.Script.{Script}
use Rattle.mg_model.specs.World.{OccursTo, World, with_gateway}

-- ---- numbers

module _ (script : Script) (w : World) (call : ℕ) (line : LineNo) (event : LineEvent)
    (never : (after : World) → OccursTo script w call (to_call.OnLine line event) after → ⊥) where
  module _ (held : w.gateway.holder line.0 ≡ Some call) (o : Outcome) (is : outcome_of (w.gateway.line line.0) event ≡ Some o) where
    abbrev sent : List SentNote
    sent = notes_from w.gateway call line.0 o.note

    abbrev later : Gateway
    later = with_notes (with_line w.gateway line.0 o.row) call (length sent)

    one : length sent ≤ 1
    one = at_most o.note
      where
        at_most : (note : Option Note) → length (notes_from w.gateway call line.0 note) ≤ 1
        at_most None = omega arith
        at_most (Some note) = omega arith

    pub no_note_left : last_number < (w.gateway.link call).notes + 1
    no_note_left = elim (cases_lt last_number ((w.gateway.link call).notes + 1)) [
      | inl past ↦ past
      | inr left ↦ absurd (never (record (with_gateway w later) { notes = sent ++ w.notes }) (
        held,
        record {
          gateway = later;
          sent = sent;
          happens = record {
            call = call;
            outcome = o;
            held = held;
            happens = is;
            notes_are = refl;
            room = let few = one in omega (arith, few, left);
            after_is = refl;
          };
          after_is = refl;
        },
      ))
    ]

-- ---- hook events

either : (test : Bool) (x y : Outcome) → (o : Outcome) × ((if test then Some x else Some y) ≡ Some o)
either true x y = (x, refl)
either false x y = (y, refl)

abbrev HasOutcome : LineRow → LineEvent → Type 0
HasOutcome row event = (o : Outcome) × (outcome_of row event ≡ Some o)

changes : (row : LineRow) (hook : Hook) → same_hook row.hook hook ≡ false → HasOutcome row (happens.Hook hook)
changes row hook differs =
    let x = detected (record row { hook = hook }) (kind_of hook) in
    let y = stays (record row { hook = hook }) in
    let one = either (list_any (is_hook hook) row.list) x y in
    (one.0, where_false (same_hook row.hook hook) None (if list_any (is_hook hook) row.list then Some x else Some y) differs ∙ one.1)

pub hook_changes : (row : LineRow) → HasOutcome row (happens.Hook Off) ⊎ HasOutcome row (happens.Hook On)
hook_changes row = by_hook row.hook refl
  where
    by_hook : (hook : Hook) → row.hook ≡ hook → HasOutcome row (happens.Hook Off) ⊎ HasOutcome row (happens.Hook On)
    by_hook On is = inl (changes row Off (ap (λ (h : Hook). same_hook h Off) is))
    by_hook Off is = inr (changes row On (ap (λ (h : Hook). same_hook h On) is))
