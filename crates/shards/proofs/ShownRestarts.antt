-- A restart is an event of the world that the records show, and they show the world after it: no agent knows of it yet, and nothing that was sent is lost.
use Rattle.std.proofs.Common.{◌∙◌, ℕ, Option, refl, sym, ap, subst}
use Rattle.std.specs.Prelude.{◌<◌}
use Rattle.mg_model.specs.declared.events.Event.TheVariants.{Restart}
use Rattle.mg_model.specs.Gateway.{Gateway, restarted}
use Rattle.mg_model.specs.Numbers.{last_association}
use Rattle.mg_model.specs.Script.{Script}
use Rattle.mg_model.specs.World.{World, with_gateway}
use Rattle.gateway.specs.Answers.{IsNext}
use Rattle.gateway.specs.GatewayValue.{GatewayValue, gateway_of}
use Rattle.shards.proofs.OtherCalls.{stays_shown}
use Rattle.shards.specs.Shows.{LeadsOn, Shows}
use Rattle.shards.specs.declared.call_record.CallRecord.{CallRecord}

pub restart_shown : (script : Script) (w : World) (g h : GatewayValue) (call_record : ℕ → Option CallRecord) (association : ℕ) → Shows w g call_record → IsNext g h association
    → LeadsOn script w Restart h call_record
unfolding gateway_of
restart_shown script w g h call_record association shows next = record {
  after = with_gateway w (restarted w.gateway);
  occurs = (subst (λ (x : Gateway). x.association < last_association) (sym shows.gateway) next.room, refl);
  shown = record {
    gateway = ap restarted shows.gateway ∙ sym next.restarts;
    open_calls = λ call. next.open_calls call ∙ shows.open_calls call;
    calls = λ call s is. stays_shown w (with_gateway w (restarted w.gateway)) call s (shows.calls call s is) refl (λ which. refl) (λ which. refl)
        (λ n among. among) (λ n among of_it. among) refl;
    no_others = shows.no_others;
  };
}
