-- The call holds the line, or sent the request, and the gateway can take it; or one of these isn't so.
use Rattle.std.proofs.Common.{◌∙◌, sym, ap, subst}
use Rattle.mg_model.specs.declared.events.CallEvent.{CallEvent}
use Rattle.mg_model.specs.declared.events.CallEvent.TheVariants as to_call
use Rattle.shards.proofs.Occurrences.{line_occurs, request_occurs}
use Rattle.shards.specs.CanOccur.{IsOccurrence}
use Rattle.shards.specs.Shards.{ShardValue}
use Rattle.shards.specs.CallTable.{record_in}
use Rattle.shards.proofs.shard.Shard.can_reach_gateway.Goals as goal

pub returns-in-OnLine : goal.returns-in-OnLine
returns-in-OnLine c =
    subst (λ (e : CallEvent). IsOccurrence c.args.self.now c.args.call.0 e c.could_happen_on.result) (sym c.in-OnLine.is)
    (subst (λ (v : ShardValue). IsOccurrence v c.args.call.0 (to_call.OnLine c.in-OnLine.line c.in-OnLine.event) c.could_happen_on.result) c.self.view_is
    (line_occurs _ c.self.invariant c.args.call.0 c.args.call_record.now (ap (λ (v : ShardValue). record_in v.call_table c.args.call.0) c.self.view_is ∙ c.requires.held)
    c.in-OnLine.line c.in-OnLine.event c.could_happen_on.result c.could_happen_on.ensures))

pub returns-in-Execute : goal.returns-in-Execute
returns-in-Execute c =
    subst (λ (e : CallEvent). IsOccurrence c.args.self.now c.args.call.0 e c.could_execute.result) (sym c.in-Execute.is)
    (subst (λ (v : ShardValue). IsOccurrence v c.args.call.0 (to_call.Execute c.in-Execute.number c.in-Execute.chosen) c.could_execute.result) c.self.view_is
    (request_occurs _ c.self.invariant c.args.call.0 c.args.call_record.now (ap (λ (v : ShardValue). record_in v.call_table c.args.call.0) c.self.view_is ∙ c.requires.held)
    c.in-Execute.number c.in-Execute.chosen c.could_execute.result c.could_execute.ensures))
