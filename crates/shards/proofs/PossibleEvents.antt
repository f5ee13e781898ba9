-- Whether an event could happen: where the gateway, the record or the call that is handed in says no, it can't happen in any world that is shown.
use Rattle.std.specs.Prelude.{is_some}
use Rattle.std.proofs.Common.{◌≡◌, ◌∙◌, ◌⊎◌, inl, inr, ℕ, Bool, true, false, true≢false, Option, Some, None, Ok, Err, refl, sym, ap, subst}
use Rattle.mg_names.specs.declared.identifiers.LineNo.{LineNo}
use Rattle.mg_model.specs.declared.events.CallEvent.{CallEvent}
use Rattle.mg_model.specs.declared.events.CallEvent.TheVariants as to_call
use Rattle.mg_model.specs.declared.events.Event.TheVariants.{OfCall}
use Rattle.mg_model.specs.declared.failures.ChosenRefusal.{ChosenRefusal}
use Rattle.mg_model.specs.declared.line_events.LineEvent.{LineEvent}
use Rattle.mg_model.specs.Agent.{Agent}
use Rattle.mg_model.specs.Messages.{Request}
use Rattle.mg_model.specs.Reports.{is_of}
use Rattle.mg_model.specs.Script.{Script}
use Rattle.mg_model.specs.World.{begin}
use Rattle.gateway.specs.declared.fault.BeginFault.{BeginFault}
use Rattle.gateway.specs.declared.fault.BeginFault.TheVariants as fault
use Rattle.gateway.specs.Answers.{CanExecute, CanHappen, IsAddressed}
use Rattle.gateway.specs.Beginnings.{CanBegin, IsBegun}
use Rattle.gateway.specs.GatewayValue.{GatewayValue, holder_in}
use Rattle.agent.specs.Advancing.{advancing}
use Rattle.agent.specs.AgentValue.{agent_of}
use Rattle.agent.specs.CallValue.{CallValue}
use Rattle.agent.specs.Calls.{is_of_gateway, variant_of}
use Rattle.agent.specs.Preparing.{stepped_by}
use Rattle.agent.specs.declared.delivered.Delivery.{Delivery}
use Rattle.agent.specs.declared.call.Next.{Next}
use Rattle.agent.specs.declared.call.Next.TheVariants as next
use Rattle.shards.proofs.BegunShards.{cannot}
use Rattle.shards.proofs.MessageLemmas.{found_in, own_message}
use Rattle.shards.proofs.Refusals.{cannot_execute, cannot_happen}
use Rattle.shards.proofs.RefusedSteps.{cannot_step}
use Rattle.shards.proofs.ShardLemmas.{world_numbered}
use Rattle.shards.proofs.TakenSteps.{of_another, stands}
use Rattle.shards.proofs.ValueSteps.{value_cannot}
use Rattle.shards.specs.Beginnings.{has_ended}
use Rattle.shards.specs.CouldHappen.{CouldHappen, HasOwnRecord, IsExecutable, IsPossibleOn, IsPossibleRequest, IsPossibleStep}
use Rattle.shards.specs.Shards.{IsShard, ShardValue}
use Rattle.shards.specs.Shows.{is_told}
use Rattle.shards.specs.CallTable.{record_in}
use Rattle.shards.specs.CallRecords.{CannotStep, IsDelivered, request_in}
use Rattle.shards.specs.Stepping.{CannotOccur, IsAtAgent, IsNotEnabled, IsPossible, call_in, is_ended}
use Rattle.shards.specs.declared.call_record.CallRecord.{CallRecord}

-- ---- what is asked

pub possible_on : (g : GatewayValue) (call line : ℕ) (event : LineEvent) (can : Bool) → holder_in g line ≡ Some call → CanHappen g line event can
    → IsPossibleOn g call line event can
possible_on g call line event true held is = record { held = held; can = is }
possible_on g call line event false held is = inr is

pub possible_request : (g : GatewayValue) (call number : ℕ) (s : CallRecord) (request : Request) (can : Bool) → request_in s (Some number) ≡ Some request
    → CanExecute g call request can → IsPossibleRequest g call number s can
possible_request g call number s request true sent is = record { request = request; sent = sent; can = is }
possible_request g call number s request false sent is = inr (request, sent, is.1)

nothing : (o : Option Agent) → is_some o ≡ false → o ≡ None
nothing None none = refl
nothing (Some a) none = absurd (true≢false none)

pub record_cannot : (script : Script) (next : Next) (event : CallEvent) (s : CallRecord) (brought : Delivery) → IsDelivered s.messages.sent event (Some brought)
    → is_some (stepped_by script (agent_of s.agent) brought) ≡ false → IsPossibleStep script next event s false
record_cannot script next event s brought delivered none = inr (brought, delivered, inl (nothing _ none))

pub possible_step : (script : Script) (next : Next) (event : CallEvent) (s : CallRecord) (brought : Delivery) → IsDelivered s.messages.sent event (Some brought)
    → is_some (stepped_by script (agent_of s.agent) brought) ≡ true → (can : Bool) → can ≡ is_some (advancing next brought) → IsPossibleStep script next event s can
possible_step script next event s brought delivered by_record true is = record { brought = brought; delivered = delivered; by_record = by_record; by_call = sym is }
possible_step script next event s brought delivered by_record false is = inr (brought, delivered, inr (nothing _ (sym is)))

pub own_or_none : (v : ShardValue) (next : Next) (call : ℕ) (o : Option CallRecord) → call ≡ call_in next → o ≡ record_in v.call_table call → HasOwnRecord v next call o
own_or_none v next call None same is = inr (ap (record_in v.call_table) (sym same) ∙ sym is)
own_or_none v next call (Some s) same is = (same, sym is)

-- ---- what it comes to

-- it is of another call, or the call isn't held
pub none_own : (v : ShardValue) (next : Next) (call : ℕ) (event : CallEvent) → IsAtAgent event ⊎ (is_of_gateway event ≡ true) → HasOwnRecord v next call None
    → IsNotEnabled v next (OfCall (record { 0 = call }) event)
none_own v next call event may (inl other) = inl (of_another v next call event may (λ same. other (sym same)))
none_own v next call event may (inr none) = inr none

module _ (v : ShardValue) (was : IsShard v) (next : Next) (call : ℕ) where
  module _ (s : CallRecord) (own : HasOwnRecord v next call (Some s)) where
    held : record_in v.call_table (call_in next) ≡ Some s
    held = ap (record_in v.call_table) (sym own.0) ∙ own.1

    -- ---- an event of a line

    pub line_possible : (line : LineNo) (event : LineEvent) (can : Bool) → IsPossibleOn v.gateway call line.0 event can
        → IsPossible v next (OfCall (record { 0 = call }) (to_call.OnLine line event)) can
    line_possible line event true is = record { call_record = s; held = held; could = (own.0, is) }
    line_possible line event false is = inl (λ w shown world a occurs goes.
        cannot_happen w v.gateway (record_in v.call_table) shown.shows (world_numbered v w shown) call s own.1 v.script line.0 event world is occurs)

    -- ---- a request

    addressed : (number : ℕ) (x : IsExecutable v.gateway call number s) → IsAddressed v.gateway call x.request
    addressed number x =
        let shows = was.is_world.shows.calls call s own.1 in
        let here = found_in (λ (r : Request). is_of call (Some number) r.call r.number) was.world.requests x.request (shows.requests (Some number) ∙ x.sent) in
        (stands v was call s own.1, (own_message call number x.request.call x.request.number here.1).0)

    pub request_possible : (number : ℕ) (chosen : Option ChosenRefusal) (can : Bool) → IsPossibleRequest v.gateway call number s can
        → IsPossible v next (OfCall (record { 0 = call }) (to_call.Execute number chosen)) can
    request_possible number chosen true x = record {
      call_record = s;
      held = held;
      could = (own.0, record { request = x.request; sent = x.sent; room = λ full. x.can (addressed number x, full) });
    }
    request_possible number chosen false is = inl (λ w shown world a occurs goes.
        cannot_execute w v.gateway (record_in v.call_table) shown.shows (world_numbered v w shown) call s own.1 v.script number chosen world is occurs)

    -- ---- at the agent

    cannot_reach : (event : CallEvent) → IsAtAgent event → CannotStep v.script next event s → CannotOccur v next (OfCall (record { 0 = call }) event)
    cannot_reach event of_agent is w shown world a occurs goes =
        elim (cannot_step v.script w v.gateway (record_in v.call_table) shown.shows (world_numbered v w shown) call s own.1 next event of_agent is) [
          | inl none ↦ none world occurs
          | inr stuck ↦ value_cannot w call s (shown.shows.calls call s own.1) next own.0 (world_numbered v w shown) event stuck.0 a stuck.1 stuck.2 goes
        ]

    pub step_possible : (event : CallEvent) → IsAtAgent event → is_told v.gateway.association event ≡ true → (can : Bool) → IsPossibleStep v.script next event s can
        → IsPossible v next (OfCall (record { 0 = call }) event) can
    step_possible (to_call.OnLine line happens) none told can is = absurd none
    step_possible (to_call.Execute number chosen) none told can is = absurd none
    step_possible (to_call.Begin old) none told can is = absurd none
    step_possible (to_call.Reply number) of_agent told true is = record { call_record = s; held = held; could = (own.0, told, is) }
    step_possible to_call.Pass of_agent told true is = record { call_record = s; held = held; could = (own.0, told, is) }
    step_possible (to_call.Note number) of_agent told true is = record { call_record = s; held = held; could = (own.0, told, is) }
    step_possible to_call.Timer of_agent told true is = record { call_record = s; held = held; could = (own.0, told, is) }
    step_possible (to_call.Hear association) of_agent told true is = record { call_record = s; held = held; could = (own.0, told, is) }
    step_possible (to_call.Reply number) of_agent told false is = inl (cannot_reach (to_call.Reply number) of_agent is)
    step_possible to_call.Pass of_agent told false is = inl (cannot_reach to_call.Pass of_agent is)
    step_possible (to_call.Note number) of_agent told false is = inl (cannot_reach (to_call.Note number) of_agent is)
    step_possible to_call.Timer of_agent told false is = inl (cannot_reach to_call.Timer of_agent is)
    step_possible (to_call.Hear association) of_agent told false is = inl (cannot_reach (to_call.Hear association) of_agent is)

-- ---- the same of what a shard shows

module _ (u v : ShardValue) (is : u ≡ v) (was : IsShard u) (next : Next) (call : ℕ) (s : CallRecord) (own : HasOwnRecord v next call (Some s)) where
  pub line_shown_possible : (line : LineNo) (event : LineEvent) (can : Bool) → IsPossibleOn u.gateway call line.0 event can
      → IsPossible v next (OfCall (record { 0 = call }) (to_call.OnLine line event)) can
  line_shown_possible line event can possible =
      line_possible v (subst IsShard is was) next call s own line event can (subst (λ (x : ShardValue). IsPossibleOn x.gateway call line.0 event can) is possible)

  pub request_shown_possible : (number : ℕ) (chosen : Option ChosenRefusal) (can : Bool) → IsPossibleRequest u.gateway call number s can
      → IsPossible v next (OfCall (record { 0 = call }) (to_call.Execute number chosen)) can
  request_shown_possible number chosen can possible =
      request_possible v (subst IsShard is was) next call s own number chosen can (subst (λ (x : ShardValue). IsPossibleRequest x.gateway call number s can) is possible)

  pub step_shown_possible : (event : CallEvent) → IsAtAgent event → is_told u.gateway.association event ≡ true → (can : Bool) → IsPossibleStep u.script next event s can
      → IsPossible v next (OfCall (record { 0 = call }) event) can
  step_shown_possible event of_agent told can possible =
      step_possible v (subst IsShard is was) next call s own event of_agent (subst (λ (x : ShardValue). is_told x.gateway.association event ≡ true) is told) can
      (subst (λ (x : ShardValue). IsPossibleStep x.script next event s can) is possible)

-- ---- a beginning

-- only a call that has ended is one on whose lines another begins
pub none_begins : (v : ShardValue) (next : Next) (new old : ℕ) → is_ended (variant_of next) ≡ false → CannotOccur v next (begin new old)
none_begins v next new old other w shown after a occurs goes = true≢false (sym goes.0 ∙ other)

module _ (v : ShardValue) (was : IsShard v) (value : CallValue) (new old : ℕ) where
  stays : (why : BeginFault) → CanBegin v.gateway old new (Err why) → IsBegun v.gateway old new v.gateway (Err why)
  stays fault.UnknownCall is = (is, refl)
  stays fault.Taken is = (is.0, is.1, refl)
  stays fault.CannotHappen is = (is.0, is.1, is.2, refl)
  stays fault.NoMemory is = absurd is

  pub not_begun : (why : BeginFault) → CanBegin v.gateway old new (Err why) → IsNotEnabled v (next.Ended value) (begin new old)
  not_begun fault.UnknownCall is = cannot v was value new old v.gateway fault.UnknownCall (stays fault.UnknownCall is)
  not_begun fault.Taken is = cannot v was value new old v.gateway fault.Taken (stays fault.Taken is)
  not_begun fault.CannotHappen is = cannot v was value new old v.gateway fault.CannotHappen (stays fault.CannotHappen is)
  not_begun fault.NoMemory is = absurd is

  pub begun_possible : (own : value.agent.call ≡ old) (s : CallRecord) → record_in v.call_table old ≡ Some s → has_ended v.script (agent_of s.agent) v.gateway.association ≡ true
      → CanBegin v.gateway old new (Ok tt) → CouldHappen v (next.Ended value) (begin new old)
  begun_possible own s there ended may = record {
    call_record = s;
    held = ap (record_in v.call_table) own ∙ there;
    could = (sym own, record { kind = refl; ended = ended; may = may });
  }
