-- The call holds the line, or sent the request, and the gateway can take it; or one of these isn't so.
use Rattle.std.proofs.Common.{inr, sym, subst}
use Rattle.std.specs.Prelude.{option_map}
use Rattle.mg_model.specs.declared.events.CallEvent.{CallEvent}
use Rattle.mg_model.specs.declared.events.Event.TheVariants.{OfCall}
use Rattle.shards.proofs.PossibleEvents.{line_shown_possible, none_own, request_shown_possible}
use Rattle.shards.specs.CouldHappen.{HasOwnRecord}
use Rattle.shards.specs.Stepping.{IsPossible}
use Rattle.shards.proofs.shard.Shard.could_reach_gateway.Goals as goal

pub returns-in_default : goal.returns-in_default
returns-in_default c =
    none_own c.args.self.now c.args.next.now c.args.call.0 c.args.event (inr c.requires)
    (subst (λ o. HasOwnRecord c.args.self.now c.args.next.now c.args.call.0 (option_map (λ s. s.now) o)) c.in_default.is c.own_record.ensures)

pub returns-in-OnLine : goal.returns-in-OnLine
returns-in-OnLine c =
    subst (λ (e : CallEvent). IsPossible c.args.self.now c.args.next.now (OfCall c.args.call e) c.could_happen_on.result) (sym c.in-OnLine.is)
    (line_shown_possible _ c.args.self.now c.self.view_is c.self.invariant c.args.next.now c.args.call.0 c.in-Some.call_record.now
    (subst (λ o. HasOwnRecord c.args.self.now c.args.next.now c.args.call.0 (option_map (λ s. s.now) o)) c.in-Some.is c.own_record.ensures)
    c.in-OnLine.line c.in-OnLine.event c.could_happen_on.result c.could_happen_on.ensures)

pub returns-in-Execute : goal.returns-in-Execute
returns-in-Execute c =
    subst (λ (e : CallEvent). IsPossible c.args.self.now c.args.next.now (OfCall c.args.call e) c.could_execute.result) (sym c.in-Execute.is)
    (request_shown_possible _ c.args.self.now c.self.view_is c.self.invariant c.args.next.now c.args.call.0 c.in-Some.call_record.now
    (subst (λ o. HasOwnRecord c.args.self.now c.args.next.now c.args.call.0 (option_map (λ s. s.now) o)) c.in-Some.is c.own_record.ensures)
    c.in-Execute.number c.in-Execute.chosen c.could_execute.result c.could_execute.ensures)
