-- A receiver is turned: what its line and its gateway are then.
use Rattle.std.proofs.Common.{◌≡◌, ◌∙◌, ◌+◌, ◌≤◌, ◌++◌, ℕ, Bool, true, false, length, Option, Some, None, refl, ap, arith}
use Rattle.std.specs.Prelude.{if◌then◌else◌}
use Rattle.std.specs.List.{list_any}
use Rattle.mg_model.specs.declared.line_events.Hook.{Hook}
use Rattle.mg_model.specs.declared.line_events.Hook.TheVariants.{On, Off}
use Rattle.mg_model.specs.declared.line_events.LineEvent.TheVariants as event
use Rattle.mg_model.specs.Gateway.{CallLink, Gateway, notes_from, with_line, with_notes}
use Rattle.mg_model.specs.LineEvents.{LineRow, Note, Outcome, detected, hooked, is_hook, kind_of, same_hook, stays}
use Rattle.mg_model.specs.Numbers.{last_number}
use Rattle.mg_model.specs.World.{World, LineOccurs, with_gateway}
use Rattle.mg_model.proofs.Cases.{at_one, false_not_true, where_false, where_true}

-- what the gateway and its messages are when a receiver of a line did something that came to this
abbrev pub turned : World → (call l : ℕ) → Outcome → World
turned w call l o =
    record (with_gateway w (with_notes (with_line w.gateway l o.row) call (length (notes_from w.gateway call l o.note)))) {
      notes = notes_from w.gateway call l o.note ++ w.notes;
    }

pub raised_few : (g : Gateway) (call l : ℕ) (o : Option Note) → length (notes_from g call l o) ≤ 1
raised_few g call l None = omega (arith)
raised_few g call l (Some raised) = omega (arith)

pub turns : (w : World) (call l : ℕ) (hook : Hook) (o : Outcome) → w.gateway.holder l ≡ Some call → hooked (w.gateway.line l) hook ≡ Some o
    → (w.gateway.link call).notes + 1 ≤ last_number → (w.gateway.holder l ≡ Some call) × LineOccurs w l (event.Hook hook) (turned w call l o)
turns w call l hook o held is room = (
  held,
  record {
    gateway = with_notes (with_line w.gateway l o.row) call (length (notes_from w.gateway call l o.note));
    sent = notes_from w.gateway call l o.note;
    happens = record {
      call = call;
      outcome = o;
      held = held;
      happens = is;
      notes_are = refl;
      room = (let few = raised_few w.gateway call l o.note in omega (arith, few, room));
      after_is = refl;
    };
    after_is = refl;
  },
)

pub turned_count : (w : World) (call l : ℕ) (o : Outcome)
    → ((turned w call l o).gateway.link call).notes ≡ (w.gateway.link call).notes + length (notes_from w.gateway call l o.note)
turned_count w call l o = ap (λ (x : CallLink). x.notes) (at_one call (record {
  last = (w.gateway.link call).last;
  notes = (w.gateway.link call).notes + length (notes_from w.gateway call l o.note);
}) (w.gateway.link call))

pub turned_few : (w : World) (call l : ℕ) (o : Outcome) → ((turned w call l o).gateway.link call).notes ≤ (w.gateway.link call).notes + 1
turned_few w call l o = let count = turned_count w call l o in let few = raised_few w.gateway call l o.note in omega (arith, count, few)

-- the receiver is in that position then, and the list with its RequestID stays
pub record Hooks (row : LineRow) (hook : Hook) : Type 0 where
  pub outcome : Outcome
  pub is : hooked row hook ≡ Some outcome
  pub hook_is : outcome.row.hook ≡ hook
  pub list_is : outcome.row.list ≡ row.list
  pub request_is : outcome.row.request ≡ row.request

abbrev pub now : LineRow → Hook → LineRow
now row hook = record row { hook = hook }

-- what of it is told apart by whether the list names it
pub hooked_by : (row : LineRow) (hook : Hook) → same_hook row.hook hook ≡ false
    → hooked row hook ≡ (if list_any (is_hook hook) row.list then Some (detected (now row hook) (kind_of hook)) else Some (stays (now row hook)))
hooked_by row hook other = where_false (same_hook row.hook hook) None
    (if list_any (is_hook hook) row.list then Some (detected (now row hook) (kind_of hook)) else Some (stays (now row hook))) other

pub hooks : (row : LineRow) (hook : Hook) → same_hook row.hook hook ≡ false → Hooks row hook
hooks row hook other = by_list (list_any (is_hook hook) row.list) refl
  where
    by_list : (named : Bool) → list_any (is_hook hook) row.list ≡ named → Hooks row hook
    by_list true e = record {
      outcome = detected (now row hook) (kind_of hook);
      is = hooked_by row hook other
          ∙ where_true (list_any (is_hook hook) row.list) (Some (detected (now row hook) (kind_of hook))) (Some (stays (now row hook))) e;
      hook_is = refl;
      list_is = refl;
      request_is = refl;
    }
    by_list false e = record {
      outcome = stays (now row hook);
      is = hooked_by row hook other
          ∙ where_false (list_any (is_hook hook) row.list) (Some (detected (now row hook) (kind_of hook))) (Some (stays (now row hook))) e;
      hook_is = refl;
      list_is = refl;
      request_is = refl;
    }

-- the other position
pub other_hook : Hook → Hook
other_hook On = Off
other_hook Off = On

pub turned_back : (hook : Hook) → same_hook (other_hook hook) hook ≡ false
unfolding other_hook
turned_back On = refl
turned_back Off = refl

pub not_other : (was hook : Hook) → same_hook was hook ≡ true → same_hook was (other_hook hook) ≡ false
unfolding other_hook
not_other On On e = refl
not_other Off Off e = refl
not_other On Off e = absurd (false_not_true e)
not_other Off On e = absurd (false_not_true e)
