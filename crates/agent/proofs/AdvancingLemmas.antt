-- A step of a call of one kind is a step of a call that is handed in with its kind.
use Rattle.std.proofs.Common.{◌≡◌, ◌∙◌, true, Option, Result, Ok, Err, refl, sym, ap, subst}
use Rattle.mg_model.specs.Agent.{Agent}
use Rattle.mg_model.specs.declared.events.Event.TheVariants.{OfCall}
use Rattle.agent.specs.AgentValue.{agent_of}
use Rattle.agent.specs.CallValue.{CallValue}
use Rattle.agent.specs.Calls.{IsLonger, IsTaken, IsRefused, value_of, variant_of}
use Rattle.agent.specs.Preparing.{stepped_by}
use Rattle.agent.specs.declared.call.Next.{Next}
use Rattle.agent.specs.declared.call.Refused.{Refused}
use Rattle.agent.specs.declared.delivered.Delivery.{Delivery}
use Rattle.agent.specs.declared.refusal.Refusal.{Refusal}
use Rattle.agent.specs.declared.refusal.Refusal.TheVariants.{NotEnabled, Behind, NoMemory}
use Rattle.agent.specs.Advancing.{IsAdvanced, IsHanded, advancing, event_of, takes}

module _ (of : CallValue → Next) (old : CallValue) (delivery : Delivery)
    (same : value_of (of old) ≡ old) (may : takes (variant_of (of old)) delivery ≡ true) where
  abbrev stepped : Option Agent
  stepped = stepped_by old.script (agent_of old.agent) delivery

  is_step : advancing (of old) delivery ≡ stepped
  is_step = rw (may, same) refl

  refused_as : (why other : Refusal) (new : Next) → other ≡ why → new ≡ of old → IsRefused stepped why → IsAdvanced (of old) delivery new (Err other)
  refused_as why NotEnabled new is back refused = (is_step ∙ subst (IsRefused stepped) (sym is) refused, back)
  refused_as why NoMemory new is back refused = back
  refused_as why (Behind slot_count) new is back refused = subst (IsRefused stepped) (sym is) refused

  pub advanced : {S : Type 0} (done : Result Next (Refused S)) (new : Next) (told : Result (Unit {0}) Refusal)
      → IsTaken stepped (OfCall (record { 0 = old.agent.call }) (event_of delivery)) old done → IsHanded of done new told
      → IsAdvanced (of old) delivery new told
  advanced (Ok answer) new (Ok _) taken handed =
      subst (λ (n : Next). IsAdvanced (of old) delivery n (Ok tt)) (sym handed) (
        taken.0,
        is_step ∙ taken.1,
        subst (λ (v : CallValue). IsLonger (OfCall (record { 0 = v.agent.call }) (event_of delivery)) v (value_of answer)) (sym same) taken.2,
      )
  advanced (Err refused) new (Err why) taken handed = refused_as refused.why why new handed.1 (handed.0 ∙ ap of taken.0) taken.1
  advanced (Ok answer) new (Err why) taken handed = absurd handed
  advanced (Err refused) new (Ok _) taken handed = absurd handed
