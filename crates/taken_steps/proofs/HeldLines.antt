-- A call holds a line where an event of it could happen there.
use Rattle.std.proofs.Common.{◌≡◌, ◌∙◌, ℕ, Bool, true, false, Option, Some, None, ap, subst}
use Rattle.std.specs.Prelude.{IfSome}
use Rattle.mg_names.specs.declared.identifiers.LineNo.{LineNo}
use Rattle.mg_model.specs.declared.events.CallEvent.{CallEvent}
use Rattle.mg_model.specs.declared.events.CallEvent.TheVariants as to_call
use Rattle.mg_model.specs.declared.line_events.Hook.TheVariants.{On, Off}
use Rattle.mg_model.specs.declared.line_events.LineEvent.{LineEvent}
use Rattle.mg_model.specs.declared.line_events.LineEvent.TheVariants as happens
use Rattle.mg_model.specs.Gateway.{Gateway}
use Rattle.mg_model.specs.World.{on_a_line}
use Rattle.gateway.specs.GatewayValue.{gateway_of}
use Rattle.shards.specs.CanOccur.{CouldOccur, IsOccurrence, NeverOccurs, TellsOccurrence}
use Rattle.shards.specs.Shards.{ShardValue}
use Rattle.taken_steps.specs.Findings.{TellsHolder}

module _ (v : ShardValue) (call : ℕ) (line : LineNo) where
  holds : (event : LineEvent) → CouldOccur v call (to_call.OnLine line event) → TellsHolder v call line.0 true
  unfolding gateway_of
  holds event could w shown = ap (λ (g : Gateway). g.holder line.0) shown.shows.gateway ∙ could.could.held

  -- what was asked is of the line
  asked : (event : LineEvent) (asked_of : CallEvent) (told : Option Bool) → asked_of ≡ to_call.OnLine line event → TellsOccurrence v call asked_of told
      → TellsOccurrence v call (to_call.OnLine line event) told
  asked event asked_of told is tells = subst (λ (x : CallEvent). TellsOccurrence v call x told) is tells

  answered : (event : LineEvent) (told : Option Bool) (can : Bool) → TellsOccurrence v call (to_call.OnLine line event) told → told ≡ Some can
      → IsOccurrence v call (to_call.OnLine line event) can
  answered event told can tells is = subst (TellsOccurrence v call (to_call.OnLine line event)) is tells

  -- it can happen
  pub holds_so : (event : LineEvent) (asked_of : CallEvent) (told : Option Bool) (can : Bool) → asked_of ≡ to_call.OnLine line event
      → TellsOccurrence v call asked_of told → told ≡ Some can → can ≡ true → TellsHolder v call line.0 true
  holds_so event asked_of told can is tells was was_so =
      holds event (subst (IsOccurrence v call (to_call.OnLine line event)) was_so (answered event told can (asked event asked_of told is tells) was))

  tells_holder : NeverOccurs v (on_a_line call line.0 (happens.Hook Off)) → (told : Option Bool)
      → TellsOccurrence v call (to_call.OnLine line (happens.Hook On)) told → IfSome told (λ holds. TellsHolder v call line.0 holds)
  tells_holder off None is = tt
  tells_holder off (Some true) is = holds (happens.Hook On) is
  tells_holder off (Some false) is = (off, is.0)

  -- the one hook event can't happen, and of the other it was asked
  pub tells_so : (one other : CallEvent) (told : Option Bool) (can : Bool) (last : Option Bool) → one ≡ to_call.OnLine line (happens.Hook Off)
      → TellsOccurrence v call one told → told ≡ Some can → can ≡ false → other ≡ to_call.OnLine line (happens.Hook On)
      → TellsOccurrence v call other last → IfSome last (λ holds. TellsHolder v call line.0 holds)
  tells_so one other told can last is tells was not_so also tells_too =
      tells_holder (subst (IsOccurrence v call (to_call.OnLine line (happens.Hook Off))) not_so
      (answered (happens.Hook Off) told can (asked (happens.Hook Off) one told is tells) was)).0 last (asked (happens.Hook On) other last also tells_too)
