-- Where a call can't begin on the lines of another: its beginning occurs in no world that is shown.
use Rattle.std.proofs.Common.{◌≡◌, ◌∙◌, inl, inr, ℕ, false, true≢false, Some, Err, sym, ap, subst}
use Rattle.mg_model.proofs.Cases.{none_is_some, none_of, some_is_none, some_of, the_some}
use Rattle.mg_model.specs.Agent.{Agent}
use Rattle.mg_model.specs.Gateway.{Gateway, MayBegin}
use Rattle.mg_model.specs.World.{begin}
use Rattle.gateway.specs.declared.fault.BeginFault.{BeginFault}
use Rattle.gateway.specs.declared.fault.BeginFault.TheVariants as fault
use Rattle.gateway.specs.Beginnings.{CanBegin}
use Rattle.gateway.specs.GatewayValue.{gateway_of}
use Rattle.agent.specs.AgentValue.{agent_of}
use Rattle.shards.proofs.ShownBegins.{ended_so, used_number}
use Rattle.shards.specs.Beginnings.{has_ended}
use Rattle.shards.specs.CanOccur.{NeverOccurs}
use Rattle.shards.specs.Shards.{ShardValue}
use Rattle.shards.specs.CallTable.{record_in}
use Rattle.shards.specs.declared.call_record.CallRecord.{CallRecord}

module _ (v : ShardValue) (new old : ℕ) where
  -- the call of the record hasn't ended
  pub never_ended : (s : CallRecord) → record_in v.call_table old ≡ Some s → has_ended v.script (agent_of s.agent) v.gateway.association ≡ false
      → NeverOccurs v (begin new old)
  unfolding gateway_of
  never_ended s there none w shown after occurs =
      let shows = shown.shows.calls old s there in
      let same : agent_of s.agent ≡ occurs.before = the_some (agent_of s.agent) occurs.before (sym shows.agent ∙ occurs.open_call) in
      true≢false (sym (ended_so v.script w occurs.before v.gateway.association (ap (λ (g : Gateway). g.association) shown.shows.gateway) occurs.ended)
      ∙ ap (λ (x : Agent). has_ended v.script x v.gateway.association) (sym same) ∙ none)

  -- the gateway doesn't let the new one begin
  pub never_begun : (why : BeginFault) → CanBegin v.gateway old new (Err why) → NeverOccurs v (begin new old)
  never_begun fault.UnknownCall closed w shown after occurs =
      none_is_some occurs.before (sym (shown.shows.no_others old (none_of (record_in v.call_table old) (sym (shown.shows.open_calls old) ∙ closed))) ∙ occurs.open_call)
  never_begun fault.Taken is w shown after occurs = elim (used_number v.gateway new is.1) [
    | inl stands ↦ (let call_record = some_of (record_in v.call_table new) (sym (shown.shows.open_calls new) ∙ stands) in
        some_is_none (agent_of call_record.0.agent) (sym (shown.shows.calls new call_record.0 call_record.1).agent ∙ occurs.unused))
    | inr gone ↦ true≢false (sym gone ∙ ap (λ (g : Gateway). g.retired new) (sym shown.shows.gateway) ∙ occurs.not_retired)
  ]
  never_begun fault.CannotHappen is w shown after occurs = is.2 (subst (λ (g : Gateway). MayBegin g old) shown.shows.gateway occurs.may)
  never_begun fault.NoMemory never w shown after occurs = never
