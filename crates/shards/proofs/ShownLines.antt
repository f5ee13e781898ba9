-- An event of a line is an event of the world that the records show, and they show the world after it; and so is a restart.
use Rattle.std.proofs.Common.{◌≡◌, ◌∙◌, ◌+◌, ◌++◌, ◌⊎◌, inl, inr, ℕ, List, length, Option, Some, refl, sym, ap, subst}
use Rattle.std.specs.Prelude.{Contains}
use Rattle.std.proofs.lemmas.List.{length-append}
use Rattle.std.proofs.lemmas.List.Elements.{Contains-append_cases, Contains-append_right}
use Rattle.mg_model.proofs.Cases.{at_another, at_one, the_some}
use Rattle.mg_model.specs.declared.line_events.LineEvent.{LineEvent}
use Rattle.mg_model.specs.Gateway as gateway
use Rattle.mg_model.specs.Gateway.{CallLink, Gateway, notes_from}
use Rattle.mg_model.specs.Messages.{SentNote}
use Rattle.mg_model.specs.Script.{Script}
use Rattle.mg_model.specs.World.{World, on_a_line, with_gateway}
use Rattle.mg_safety.proofs.Messages.Numbered.{line_on}
use Rattle.gateway.specs.Answers.{note_listed}
use Rattle.gateway.specs.GatewayValue.{GatewayValue, gateway_of}
use Rattle.shards.specs.Messages.{raising}
use Rattle.shards.proofs.AnsweredReplies.{raising_replies}
use Rattle.shards.proofs.CountedRecords.{counted_shown, notes_in_record, notes_in_world}
use Rattle.shards.proofs.OtherCalls.{stays_shown}
use Rattle.shards.proofs.ShownSteps.{each_record, none_before, same_open}
use Rattle.shards.specs.Shows.{LeadsOn, Shows, ShowsCall, with_record}
use Rattle.shards.specs.CallRecords.{HappensOn}
use Rattle.shards.specs.declared.call_record.CallRecord.{CallRecord}

module _ (script : Script) (w : World) (g h : GatewayValue) (call_record : ℕ → Option CallRecord) (shows : Shows w g call_record)
    (call line : ℕ) (event : LineEvent) (s t : CallRecord) (there : call_record call ≡ Some s) (x : HappensOn g h call line event s t) where
  abbrev own : ShowsCall w call s
  own = shows.calls call s there

  abbrev new : List SentNote
  new = note_listed x.note

  happens : gateway.Happens w.gateway line event (gateway_of h) new
  happens = subst (λ (before : Gateway). gateway.Happens before line event (gateway_of h) new) (sym shows.gateway) x.happens

  held : w.gateway.holder line ≡ Some call
  unfolding gateway_of
  held = ap (λ (before : Gateway). before.holder line) shows.gateway ∙ x.held

  to_call : happens.call ≡ call
  to_call = the_some happens.call call (sym happens.held ∙ held)

  abbrev after : World
  after = record (with_gateway w (gateway_of h)) { notes = new ++ w.notes }

  of_call : (n : SentNote) → Contains new n → n.call ≡ call
  of_call n among =
      (line_on w.gateway happens.call line happens.outcome.note).of_call n (subst (λ notes. Contains notes n) happens.notes_are among) ∙ to_call

  counted_on : ((gateway_of h).link call).notes ≡ length (s.messages.sent.notes ++ new)
  counted_on =
      ap (λ c. ((gateway_of h).link c).notes) (sym to_call) ∙ ap (λ (g : Gateway). (g.link happens.call).notes) happens.after_is
      ∙ ap (λ (l : CallLink). l.notes) (at_one happens.call _ (w.gateway.link happens.call))
      ∙ ap (λ c. (w.gateway.link c).notes + length new) to_call ∙ ap (λ n. n + length new) own.counted
      ∙ sym (length-append s.messages.sent.notes new)

  other_link : (c : ℕ) → (c ≡ call → ⊥) → ((gateway_of h).link c).notes ≡ (w.gateway.link c).notes
  other_link c other =
      ap (λ (g : Gateway). (g.link c).notes) happens.after_is
      ∙ ap (λ (l : CallLink). l.notes) (at_another happens.call c _ (w.gateway.link c) (λ same. other (same ∙ to_call)))

  other_shown : (c : ℕ) (y : CallRecord) → (c ≡ call → ⊥) → call_record c ≡ Some y → ShowsCall after c y
  other_shown c y other is =
      stays_shown w after c y (shows.calls c y is) refl (λ which. refl) (λ which. refl)
      (λ n among. Contains-append_right new w.notes n among) (λ n among of_it. not_added n of_it (Contains-append_cases new w.notes n among)) (other_link c other)
    where
      not_added : (n : SentNote) → n.call ≡ c → Contains new n ⊎ Contains w.notes n → Contains w.notes n
      not_added n of_it (inl here) = absurd (other (sym of_it ∙ of_call n here))
      not_added n of_it (inr old) = old

  pub line_shown : LeadsOn script w (on_a_line call line event) h (with_record call_record call t)
  line_shown = record {
    after = after;
    occurs = (held, record { gateway = gateway_of h; sent = new; happens = happens; after_is = refl });
    shown = record {
      gateway = refl;
      open_calls = λ c. x.open_calls c ∙ shows.open_calls c ∙ same_open call_record call s t there c;
      calls = each_record call_record call t (ShowsCall after) (counted_shown w after call s t (raising s.messages.sent new) own x.counted (record {
        agent = refl;
        requests = refl;
        same = record { first = refl; requests = refl; replies = refl; more = new; notes = refl };
        replies = λ which. own.replies which ∙ sym (raising_replies s.messages.sent new which);
        notes_sent = notes_in_world w call s own new of_call;
        notes_kept = notes_in_record w call s own new of_call;
        counted = counted_on;
      })) other_shown;
      no_others = λ c none. shows.no_others c (none_before call_record call t c none).1;
    };
  }
