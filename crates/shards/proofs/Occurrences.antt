-- Whether an event can occur in a shard: where the gateway or the record says no, it occurs in no world that is shown.
use Rattle.std.specs.Prelude.{is_some}
use Rattle.std.proofs.Common.{◌≡◌, ◌∙◌, inl, inr, ℕ, Bool, true, false, true≢false, Option, Some, None, Ok, refl, sym}
use Rattle.mg_names.specs.declared.identifiers.LineNo.{LineNo}
use Rattle.mg_model.specs.declared.events.CallEvent.{CallEvent}
use Rattle.mg_model.specs.declared.events.CallEvent.TheVariants as to_call
use Rattle.mg_model.specs.declared.events.Event.TheVariants.{OfCall}
use Rattle.mg_model.specs.declared.failures.ChosenRefusal.{ChosenRefusal}
use Rattle.mg_model.specs.declared.line_events.LineEvent.{LineEvent}
use Rattle.mg_model.specs.Agent.{Agent}
use Rattle.mg_model.specs.Messages.{Request}
use Rattle.mg_model.specs.Reports.{is_of}
use Rattle.mg_model.specs.Script.{Script}
use Rattle.gateway.specs.Answers.{IsAddressed}
use Rattle.gateway.specs.Beginnings.{CanBegin}
use Rattle.agent.specs.AgentValue.{agent_of}
use Rattle.agent.specs.Preparing.{stepped_by}
use Rattle.agent.specs.declared.delivered.Delivery.{Delivery}
use Rattle.shards.proofs.MessageLemmas.{found_in, own_message}
use Rattle.shards.proofs.Refusals.{cannot_execute, cannot_happen, no_room}
use Rattle.shards.proofs.RefusedSteps.{not_brought, not_stepped}
use Rattle.shards.proofs.ShardLemmas.{world_numbered}
use Rattle.shards.proofs.TakenSteps.{never_told, stands}
use Rattle.shards.specs.Beginnings.{has_ended}
use Rattle.shards.specs.CanOccur.{HasNoRoomFor, IsOccurrence, IsTakeable, NeverOccurs}
use Rattle.shards.specs.CouldHappen.{IsExecutable, IsPossibleOn, IsPossibleRequest}
use Rattle.shards.specs.Shards.{IsShard, ShardValue}
use Rattle.shards.specs.Shows.{is_told}
use Rattle.shards.specs.CallTable.{record_in}
use Rattle.shards.specs.CallRecords.{IsDelivered}
use Rattle.shards.specs.Stepping.{IsAtAgent}
use Rattle.shards.specs.declared.call_record.CallRecord.{CallRecord}

-- ---- what is asked of a record

nothing : (o : Option Agent) → is_some o ≡ false → o ≡ None
nothing None none = refl
nothing (Some a) none = absurd (true≢false none)

pub takeable : (script : Script) (event : CallEvent) (s : CallRecord) (brought : Delivery) (can : Bool) → IsDelivered s.messages.sent event (Some brought)
    → can ≡ is_some (stepped_by script (agent_of s.agent) brought) → IsTakeable script event s can
takeable script event s brought true delivered is = record { brought = brought; delivered = delivered; takes = sym is }
takeable script event s brought false delivered is = inr (brought, (delivered, nothing _ (sym is)))

-- of what reaches the agent no room is asked
pub no_request_of : (v : ShardValue) (call : ℕ) (event : CallEvent) → IsAtAgent event → HasNoRoomFor v call event
no_request_of v call (to_call.OnLine line happens) none = tt
no_request_of v call (to_call.Execute number chosen) none = absurd none
no_request_of v call (to_call.Reply number) of_agent = tt
no_request_of v call to_call.Pass of_agent = tt
no_request_of v call (to_call.Note number) of_agent = tt
no_request_of v call to_call.Timer of_agent = tt
no_request_of v call (to_call.Hear association) of_agent = tt
no_request_of v call (to_call.Begin old) none = tt

-- ---- what it comes to

module _ (v : ShardValue) (was : IsShard v) (call : ℕ) (s : CallRecord) where
  module _ (held : record_in v.call_table call ≡ Some s) where
    pub line_occurs : (line : LineNo) (event : LineEvent) (can : Bool) → IsPossibleOn v.gateway call line.0 event can
        → IsOccurrence v call (to_call.OnLine line event) can
    line_occurs line event true is = record { call_record = s; held = held; could = is }
    line_occurs line event false is = (
      λ w shown world occurs.
          cannot_happen w v.gateway (record_in v.call_table) shown.shows (world_numbered v w shown) call s held v.script line.0 event world is occurs,
      tt,
    )

    addressed : (number : ℕ) (x : IsExecutable v.gateway call number s) → IsAddressed v.gateway call x.request
    addressed number x =
        let shows = was.is_world.shows.calls call s held in
        let here = found_in (λ (r : Request). is_of call (Some number) r.call r.number) was.world.requests x.request (shows.requests (Some number) ∙ x.sent) in
        (stands v was call s held, (own_message call number x.request.call x.request.number here.1).0)

    pub request_occurs : (number : ℕ) (chosen : Option ChosenRefusal) (can : Bool) → IsPossibleRequest v.gateway call number s can
        → IsOccurrence v call (to_call.Execute number chosen) can
    request_occurs number chosen true x = record {
      call_record = s;
      held = held;
      could = record { request = x.request; sent = x.sent; room = λ full. x.can (addressed number x, full) };
    }
    request_occurs number chosen false is = (
      λ w shown world occurs.
          cannot_execute w v.gateway (record_in v.call_table) shown.shows (world_numbered v w shown) call s held v.script number chosen world is occurs,
      λ w shown request sent. no_room w v.gateway (record_in v.call_table) shown.shows (world_numbered v w shown) call s held number is request sent,
    )

    never_taken : (event : CallEvent) → IsAtAgent event → IsTakeable v.script event s false → NeverOccurs v (OfCall (record { 0 = call }) event)
    never_taken event of_agent (inl none) w shown after occurs =
        not_brought v.script w v.gateway (record_in v.call_table) shown.shows (world_numbered v w shown) call s held event after of_agent none occurs
    never_taken event of_agent (inr (brought, (delivered, none))) w shown after occurs =
        not_stepped v.script w v.gateway (record_in v.call_table) shown.shows (world_numbered v w shown) call s held event brought after delivered none occurs

    pub taken_occurs : (event : CallEvent) → IsAtAgent event → is_told v.gateway.association event ≡ true → (can : Bool) → IsTakeable v.script event s can
        → IsOccurrence v call event can
    taken_occurs (to_call.OnLine line happens) none told can is = absurd none
    taken_occurs (to_call.Execute number chosen) none told can is = absurd none
    taken_occurs (to_call.Begin old) none told can is = absurd none
    taken_occurs (to_call.Reply number) of_agent told true is = record { call_record = s; held = held; could = (told, is) }
    taken_occurs to_call.Pass of_agent told true is = record { call_record = s; held = held; could = (told, is) }
    taken_occurs (to_call.Note number) of_agent told true is = record { call_record = s; held = held; could = (told, is) }
    taken_occurs to_call.Timer of_agent told true is = record { call_record = s; held = held; could = (told, is) }
    taken_occurs (to_call.Hear association) of_agent told true is = record { call_record = s; held = held; could = (told, is) }
    taken_occurs (to_call.Reply number) of_agent told false is = (never_taken (to_call.Reply number) of_agent is, tt)
    taken_occurs to_call.Pass of_agent told false is = (never_taken to_call.Pass of_agent is, tt)
    taken_occurs (to_call.Note number) of_agent told false is = (never_taken (to_call.Note number) of_agent is, tt)
    taken_occurs to_call.Timer of_agent told false is = (never_taken to_call.Timer of_agent is, tt)
    taken_occurs (to_call.Hear association) of_agent told false is = (never_taken (to_call.Hear association) of_agent is, tt)

    pub untold_never : (event : CallEvent) → IsAtAgent event → is_told v.gateway.association event ≡ false → IsOccurrence v call event false
    untold_never event of_agent told = (λ w shown after occurs. never_told v call event told w shown after occurs, no_request_of v call event of_agent)

  pub begins : (held : record_in v.call_table call ≡ Some s) (new : ℕ) → has_ended v.script (agent_of s.agent) v.gateway.association ≡ true
      → CanBegin v.gateway call new (Ok tt) → IsOccurrence v new (to_call.Begin (record { 0 = call })) true
  begins held new ended may = record { call_record = s; held = held; could = (ended, may) }
