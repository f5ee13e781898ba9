use Rattle.std.proofs.Common.{◌≡◌, ◌∙◌, ℕ, ◌||◌, ◌==◌, Ok, refl, sym, ap, subst}
use Rattle.requests.specs.Connected.{Connected, board_in}
use Rattle.gateway.specs.Calls.{new_call}
use Rattle.gateway.specs.Openings.{opened, opening_on}
use Rattle.gateway.specs.Standby.{ShowsOpened}
use Rattle.gateway.specs.GatewayValue.{GatewayValue, gateway_of, holder_in, is_open, is_taken}
use Rattle.gateway.proofs.StartLemmas.{IsOpened, opened_is, open_after}
use Rattle.gateway.proofs.OpenTieLemmas.{tied_opened}
use Rattle.gateway.proofs.gateway.Gateway.open_free.Goals as goal

-- the gateway before, and after
abbrev before : goal.After-change_places_opened → GatewayValue
before c = record { association = c.self.inside.association.0; connected = c.self.inside.connections; holders = c.self.inside.holders.entries; calls = c.self.inside.calls.entries; creators = c.self.inside.creators.entries }

abbrev after : goal.After-change_places_opened → GatewayValue
after c = record { association = c.self.inside.association.0; connected = c.change_places_opened.new.self; holders = c.hold.new.holders.entries; calls = c.open.new.calls.entries; creators = c.self.inside.creators.entries }

done : (c : goal.After-change_places_opened) → IsOpened (before c) (after c) c.args.call.0 c.args.lines.now
done c = record {
  association = refl;
  shows = subst (λ (x : Connected). ShowsOpened (before c).connected c.args.lines.now x) (sym c.change_places_opened.ensures) c.in-Ok.ensures.opened;
  holders = c.hold.ensures;
  state = c.new-state.result;
  state_is = c.new-state.ensures ∙ ap (new_call (before c).association) c.in_ok-held.ensures;
  calls = c.in-Ok-open.ensures.ok;
  creators = refl;
}

can : (c : goal.After-change_places_opened) → opening_on (board_in (before c).connected) (holder_in (before c)) (is_taken (before c) c.args.call.0) c.args.lines.now ≡ Ok tt
can c = subst (λ (w : GatewayValue). opening_on (board_in w.connected) (holder_in w) (is_taken w c.args.call.0) c.args.lines.now ≡ Ok tt) (sym c.self.view_is) c.requires

pub invariant_of-self-2 : goal.invariant_of-self-2
invariant_of-self-2 c = tied_opened (before c) (after c) c.args.call.0 c.args.lines.now c.self.invariant (can c) (done c)

pub returns-clause-opened : goal.returns-clause-opened
returns-clause-opened c = subst (λ (w : GatewayValue). gateway_of (after c) ≡ opened (gateway_of w) c.args.call.0 c.args.lines.now) c.self.view_is
    (opened_is (before c) (after c) c.args.call.0 c.args.lines.now c.self.invariant (can c) (done c))

pub returns-clause-open_calls : goal.returns-clause-open_calls
returns-clause-open_calls c = subst (λ (w : GatewayValue). (other : ℕ) → is_open (after c) other ≡ ((other == c.args.call.0) || is_open w other)) c.self.view_is
    (open_after (before c) (after c) c.args.call.0 c.new-state.result c.in-Ok-open.ensures.ok)
