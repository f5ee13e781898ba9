-- A request that reaches the gateway is an event of the world that the records show, and they show the world after it.
use Rattle.std.proofs.Common.{◌≡◌, ◌∙◌, ◌+◌, ◌++◌, ◌⊎◌, inl, inr, ℕ, true, true≢false, List, [], ◌∷◌, length, Option, Some, if◌then◌else◌, refl, sym, ap, subst}
use Rattle.std.specs.Prelude.{Contains, is_some}
use Rattle.std.specs.List.{find}
use Rattle.std.proofs.lemmas.List.{append-nil, length-append}
use Rattle.std.proofs.lemmas.List.Elements.{Contains-append_cases, Contains-append_right}
use Rattle.mg_model.proofs.Cases.{at_another, at_one}
use Rattle.mg_model.proofs.Offered.{kept_at}
use Rattle.mg_model.proofs.Single.{only_one}
use Rattle.mg_model.specs.declared.failures.ChosenRefusal.{ChosenRefusal}
use Rattle.mg_model.specs.Gateway.{CallLink, Gateway, IsDiscarded, IsExecutedBy, IsKept}
use Rattle.mg_model.specs.Messages.{Request, Reply, SentNote}
use Rattle.mg_model.specs.Reports.{is_of}
use Rattle.mg_model.specs.Script.{Script}
use Rattle.mg_model.specs.World.{World, IsRequestOf, execute, with_gateway}
use Rattle.mg_safety.proofs.Messages.Numbered.{sent_on}
use Rattle.mg_safety.proofs.Messages.NumberedWorlds.{IsNumbered}
use Rattle.gateway.specs.declared.answer.Answer.{Answer}
use Rattle.gateway.specs.declared.answer.Answer.TheVariants as answer
use Rattle.gateway.specs.Answers.{IsAddressed, IsAnswered, SameOpen}
use Rattle.gateway.specs.GatewayValue.{GatewayValue, gateway_of, is_open}
use Rattle.shards.specs.Messages.{WasSent, answering, fits, raising, reply_for}
use Rattle.shards.proofs.AnsweredReplies.{length_set, raising_replies, replies_answered}
use Rattle.shards.proofs.CountedRecords.{HasSameRequests, counted_shown, notes_in_record, notes_in_world}
use Rattle.shards.proofs.GatewayLemmas.{length_sent, reply_kept, reply_number}
use Rattle.shards.proofs.MessageLemmas.{found_in, is_own, own_message}
use Rattle.shards.proofs.OtherCalls.{others_added, stays_shown}
use Rattle.shards.proofs.ShownSteps.{each_record, none_before, same_open}
use Rattle.shards.proofs.RecordLemmas.{was_sent}
use Rattle.shards.specs.Shows.{LeadsOn, Shows, ShowsCall, with_record}
use Rattle.shards.specs.CallRecords.{Executes, IsCounted, after_answer, is_event, request_in}
use Rattle.shards.specs.declared.call_record.CallRecord.{CallRecord}

module _ (script : Script) (w : World) (g h : GatewayValue) (call_record : ℕ → Option CallRecord) (shows : Shows w g call_record)
    (call number : ℕ) (refusal : Option ChosenRefusal) (s t : CallRecord) (there : call_record call ≡ Some s)
    (request : Request) (sent : request_in s (Some number) ≡ Some request) where
  abbrev own : ShowsCall w call s
  own = shows.calls call s there

  in_world : Contains w.requests request × (is_of call (Some number) request.call request.number ≡ true)
  in_world = found_in (λ (r : Request). is_of call (Some number) r.call r.number) w.requests request (own.requests (Some number) ∙ sent)

  names : (request.call ≡ call) × (request.number ≡ number)
  names = own_message call number request.call request.number in_world.1

  placed : WasSent s.messages.sent number
  placed = (was_sent s own.tied number request sent).1

  -- ---- a reply is sent

  module _ (reply : Reply) (of_call : reply.call ≡ call) (of_request : reply.number ≡ number) where
    was_placed : WasSent s.messages.sent reply.number
    was_placed = subst (WasSent s.messages.sent) (sym of_request) placed

    same_requests : HasSameRequests s.messages.sent (answering s.messages.sent reply)
    same_requests = record {
      first = refl;
      requests = refl;
      replies = length_set s.messages.sent.replies _ (Some reply);
      more = [];
      notes = sym (append-nil s.messages.sent.notes);
    }

    replies_shown : (which : Option ℕ) → find (λ (r : Reply). is_of call which r.call r.number) (reply ∷ w.replies) ≡ reply_for (answering s.messages.sent reply) which
    replies_shown which =
        ap (λ test. if test then Some reply else find (λ (r : Reply). is_of call which r.call r.number) w.replies)
        (ap (λ c. is_of call which c reply.number) of_call ∙ is_own call which reply.number)
        ∙ ap (λ o. if fits which reply.number then Some reply else o) (own.replies which)
        ∙ sym (replies_answered s.messages.sent reply was_placed which)

    other_replies : (c : ℕ) → (c ≡ call → ⊥) → (which : Option ℕ)
        → find (λ (r : Reply). is_of c which r.call r.number) (reply ∷ w.replies) ≡ find (λ (r : Reply). is_of c which r.call r.number) w.replies
    other_replies c other which = others_added (λ (r : Reply). r.call) (λ (r : Reply). r.number) c which (reply ∷ []) w.replies
        (λ r among of_it. other (sym of_it ∙ ap (λ (x : Reply). x.call) (sym (only_one reply r among)) ∙ of_call))

    -- once more
    abbrev repeated : World
    repeated = record w { replies = reply ∷ w.replies }

    other_repeated : (c : ℕ) (x : CallRecord) → (c ≡ call → ⊥) → call_record c ≡ Some x → ShowsCall repeated c x
    other_repeated c x other is =
        stays_shown w repeated c x (shows.calls c x is) refl (λ which. refl) (other_replies c other) (λ n among. among) (λ n among of_it. among) refl

    pub repeated_shown : h ≡ g → IsCounted s t (answering s.messages.sent reply) → Shows repeated h (with_record call_record call t)
    repeated_shown same counted = record {
      gateway = shows.gateway ∙ ap gateway_of (sym same);
      open_calls = λ c. ap (λ x. is_open x c) same ∙ shows.open_calls c ∙ same_open call_record call s t there c;
      calls = each_record call_record call t (ShowsCall repeated) (counted_shown w repeated call s t (answering s.messages.sent reply) own counted (record {
        agent = refl;
        requests = refl;
        same = same_requests;
        replies = replies_shown;
        notes_sent = own.notes_sent;
        notes_kept = own.notes_kept;
        counted = own.counted;
      })) other_repeated;
      no_others = λ c none. shows.no_others c (none_before call_record call t c none).1;
    }

    -- the first time
    module _ (notes : List SentNote) (e : IsExecutedBy w.gateway request refusal (gateway_of h) reply notes) where
      abbrev executed : World
      executed = record (with_gateway w (gateway_of h)) { replies = reply ∷ w.replies; notes = notes ++ w.notes }

      notes_of_call : (n : SentNote) → Contains notes n → n.call ≡ call
      notes_of_call n among =
          (sent_on request.call request.association (w.gateway.link request.call).notes e.end.notes).of_call n (subst (λ sent. Contains sent n) e.notes_are among) ∙ names.0

      length_notes : length e.end.notes ≡ length notes
      length_notes = sym (ap length e.notes_are ∙ length_sent request.call request.association (w.gateway.link request.call).notes e.end.notes)

      counted_on : ((gateway_of h).link call).notes ≡ length (s.messages.sent.notes ++ notes)
      counted_on =
          ap (λ c. ((gateway_of h).link c).notes) (sym names.0) ∙ ap (λ (x : Gateway). (x.link request.call).notes) e.after_is
          ∙ ap (λ (l : CallLink). l.notes) (at_one request.call _ (w.gateway.link request.call))
          ∙ ap (λ c. (w.gateway.link c).notes + length e.end.notes) names.0 ∙ ap (λ n. n + length e.end.notes) own.counted
          ∙ ap (λ n. length s.messages.sent.notes + n) length_notes ∙ sym (length-append s.messages.sent.notes notes)

      other_link : (c : ℕ) → (c ≡ call → ⊥) → ((gateway_of h).link c).notes ≡ (w.gateway.link c).notes
      other_link c other =
          ap (λ (x : Gateway). (x.link c).notes) e.after_is
          ∙ ap (λ (l : CallLink). l.notes) (at_another request.call c _ (w.gateway.link c) (λ same. other (same ∙ names.0)))

      other_executed : (c : ℕ) (x : CallRecord) → (c ≡ call → ⊥) → call_record c ≡ Some x → ShowsCall executed c x
      other_executed c x other is =
          stays_shown w executed c x (shows.calls c x is) refl (λ which. refl) (other_replies c other)
          (λ n among. Contains-append_right notes w.notes n among) (λ n among of_it. not_added n of_it (Contains-append_cases notes w.notes n among)) (other_link c other)
        where
          not_added : (n : SentNote) → n.call ≡ c → Contains notes n ⊎ Contains w.notes n → Contains w.notes n
          not_added n of_it (inl new) = absurd (other (sym of_it ∙ notes_of_call n new))
          not_added n of_it (inr old) = old

      pub executed_shown : SameOpen g h → IsCounted s t (raising (answering s.messages.sent reply) notes) → Shows executed h (with_record call_record call t)
      executed_shown open_calls counted = record {
        gateway = refl;
        open_calls = λ c. open_calls c ∙ shows.open_calls c ∙ same_open call_record call s t there c;
        calls = each_record call_record call t (ShowsCall executed) (counted_shown w executed call s t (raising (answering s.messages.sent reply) notes) own counted (record {
          agent = refl;
          requests = refl;
          same = record { first = refl; requests = refl; replies = length_set s.messages.sent.replies _ (Some reply); more = notes; notes = refl };
          replies = λ which. replies_shown which ∙ sym (raising_replies (answering s.messages.sent reply) notes which);
          notes_sent = notes_in_world w call s own notes notes_of_call;
          notes_kept = notes_in_record w call s own notes notes_of_call;
          counted = counted_on;
        })) other_executed;
        no_others = λ c none. shows.no_others c (none_before call_record call t c none).1;
      }

  -- ---- what the gateway answers

  is_addressed : IsAddressed g call request
  is_addressed = (shows.open_calls call ∙ ap is_some there, names.0)

  sent_request : IsRequestOf w call number request
  sent_request = (in_world.0, names.0, names.1)

  -- nothing is sent
  discarded_shown : h ≡ g → IsCounted s t s.messages.sent → Shows w h (with_record call_record call t)
  discarded_shown same counted = record {
    gateway = shows.gateway ∙ ap gateway_of (sym same);
    open_calls = λ c. ap (λ x. is_open x c) same ∙ shows.open_calls c ∙ same_open call_record call s t there c;
    calls = each_record call_record call t (ShowsCall w) (counted_shown w w call s t s.messages.sent own counted (record {
      agent = refl;
      requests = refl;
      same = record { first = refl; requests = refl; replies = refl; more = []; notes = sym (append-nil s.messages.sent.notes) };
      replies = own.replies;
      notes_sent = own.notes_sent;
      notes_kept = own.notes_kept;
      counted = own.counted;
    })) (λ c x other is. shows.calls c x is);
    no_others = λ c none. shows.no_others c (none_before call_record call t c none).1;
  }

  answered_shown : IsNumbered w → (told : Answer) → is_event told ≡ true → IsAnswered g call request refusal h told → IsCounted s t (after_answer s.messages.sent told)
      → LeadsOn script w (execute call number refusal) h (with_record call_record call t)
  answered_shown numbered (answer.Executed reply notes) happens is counted =
      let e = subst (λ (x : Gateway). IsExecutedBy x request refusal (gateway_of h) reply notes.items) (sym shows.gateway) is.1.0 in
      let of_call = ap (λ (r : Reply). r.call) e.reply_is ∙ names.0 in
      let of_request = reply_number w.gateway (gateway_of h) request refusal reply notes.items e ∙ names.1 in
      record {
        after = executed reply of_call of_request notes.items e;
        occurs = (request, sent_request, inl (record { gateway = gateway_of h; answer = reply; sent = notes.items; executed = e; after_is = refl }));
        shown = executed_shown reply of_call of_request notes.items e is.1.1 counted;
      }
  answered_shown numbered (answer.Kept reply) happens is counted =
      let kept = subst (λ (x : Gateway). IsKept x request reply) (sym shows.gateway) is.1.0 in
      let of_call = (numbered.replies.kept request.call reply (kept_at w.gateway request reply kept)).0 ∙ names.0 in
      let of_request = reply_kept w.gateway request reply kept ∙ names.1 in
      record {
        after = repeated reply of_call of_request;
        occurs = (request, sent_request, inr (inl (record { answer = reply; kept = kept; after_is = refl })));
        shown = repeated_shown reply of_call of_request is.1.1 counted;
      }
  answered_shown numbered answer.Discarded happens is counted =
      record { after = w; occurs = (request, sent_request, inr (inr (dropped is.0, refl))); shown = discarded_shown is.1 counted }
    where
      dropped : (IsAddressed g call request → ⊥) ⊎ IsDiscarded (gateway_of g) request → IsDiscarded w.gateway request
      dropped (inl not_addressed) = absurd (not_addressed is_addressed)
      dropped (inr discards) = subst (λ (x : Gateway). IsDiscarded x request) (sym shows.gateway) discards
  answered_shown numbered answer.CannotHappen happens is counted = absurd (true≢false (sym happens))
  answered_shown numbered answer.NoMemory happens is counted = absurd (true≢false (sym happens))

-- a request that reaches the gateway, as the records and the gateway take it
pub execute_shown : (script : Script) (w : World) (g h : GatewayValue) (call_record : ℕ → Option CallRecord) → Shows w g call_record → IsNumbered w
    → (call number : ℕ) (refusal : Option ChosenRefusal) (s t : CallRecord) → call_record call ≡ Some s → Executes g h call number refusal s t
    → LeadsOn script w (execute call number refusal) h (with_record call_record call t)
execute_shown script w g h call_record shows numbered call number refusal s t there x =
    answered_shown script w g h call_record shows call number refusal s t there x.request x.sent numbered x.told x.happens x.answered x.counted
