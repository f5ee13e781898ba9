use Rattle.std.proofs.Common.{◌≡◌, ◌∙◌, ℕ, ◌&&◌, true, false, if◌then◌else◌, List, Some, None, is_some, refl, ap, subst}
use Rattle.mg_names.specs.declared.identifiers.LineNo.{LineNo}
use Rattle.mg_model.specs.Gateway.{begun}
use Rattle.contexts.specs.BoardValue.{names_line}
use Rattle.gateway.specs.Beginnings.{OpenBegun}
use Rattle.gateway.specs.Calls.{call_entry, call_in, is_taken_in, line_entry, new_call}
use Rattle.gateway.specs.GatewayValue.{GatewayValue, gateway_of, is_open, is_taken}
use Rattle.gateway.proofs.BeginLemmas.{IsHandedOver, not_gone, was_there, handed, begun_is, open_begun, tied_begun}
use Rattle.gateway.proofs.StartLemmas.{not_taken}
use Rattle.gateway.proofs.gateway.Gateway.hand_over.Goals as goal

-- what is required, of the entries
opened_in : (v w : GatewayValue) (call : ℕ) → v ≡ w → is_open w call ≡ true → is_some (call_in v.calls call) ≡ true
unfolding is_open
opened_in v w call e h = ap (λ (x : GatewayValue). is_some (call_in x.calls call)) e ∙ h

free_in : (v w : GatewayValue) (call : ℕ) → v ≡ w → is_taken w call ≡ false → is_taken_in v.calls call ≡ false
unfolding is_taken
free_in v w call e h = ap (λ (x : GatewayValue). is_taken_in x.calls call) e ∙ h

nothing_there : (c : goal.In_default-retire) → ⊥
nothing_there c =
    let v : GatewayValue = record { association = c.self.inside.association.0; connected = c.self.inside.connections; holders = c.self.inside.holders.entries; calls = c.self.inside.calls.entries; creators = c.self.inside.creators.entries } in
    not_gone (call_entry v.calls) (call_entry c.reserve.new.calls.entries) c.args.old.0 c.args.new.0 (opened_in v _ c.args.old.0 c.self.view_is c.requires.open)
    (free_in v _ c.args.new.0 c.self.view_is c.requires.free) c.in-Ok.ensures.ok c.in_default-retire.ensures.state

pub invariant_of-self-in_default-retire : goal.invariant_of-self-in_default-retire
invariant_of-self-in_default-retire c = absurd (nothing_there c)

pub returns-in_default-retire-clause-begun : goal.returns-in_default-retire-clause-begun
returns-in_default-retire-clause-begun c = absurd (nothing_there c)

pub returns-in_default-retire-clause-open_calls : goal.returns-in_default-retire-clause-open_calls
returns-in_default-retire-clause-open_calls c = absurd (nothing_there c)

-- the gateway before, and after
abbrev before : goal.After-fill → GatewayValue
before c = record { association = c.self.inside.association.0; connected = c.self.inside.connections; holders = c.self.inside.holders.entries; calls = c.self.inside.calls.entries; creators = c.self.inside.creators.entries }

abbrev after : goal.After-fill → GatewayValue
after c = record { association = c.self.inside.association.0; connected = c.self.inside.connections; holders = c.hold.new.holders.entries; calls = c.fill.new.calls.entries; creators = c.self.inside.creators.entries }

was : (c : goal.After-fill) → call_entry (before c).calls c.args.old.0 ≡ Some (Some c.in-Some.state)
was c = was_there (call_entry (before c).calls) (call_entry c.reserve.new.calls.entries) c.args.old.0 c.args.new.0 (opened_in (before c) _ c.args.old.0 c.self.view_is c.requires.open)
    (free_in (before c) _ c.args.new.0 c.self.view_is c.requires.free) c.in-Ok.ensures.ok c.in-Some.state c.in-Some.ensures.state

free : (c : goal.After-fill) → call_entry (before c).calls c.args.new.0 ≡ None
free c = not_taken (call_entry (before c).calls c.args.new.0) (free_in (before c) _ c.args.new.0 c.self.view_is c.requires.free)

done : (c : goal.After-fill) → IsHandedOver (before c) (after c) c.args.old.0 c.args.new.0
done c = record {
  before = c.in-Some.state;
  was = was c;
  free = free c;
  state = c.new-begun.result;
  state_is = c.new-begun.ensures ∙ ap (new_call (before c).association) c.into_lines-lines.ensures;
  holders = λ l. c.hold.ensures l
      ∙ ap (λ (lines : List LineNo). if names_line lines l && is_some (line_entry (before c).holders l) then Some (Some c.args.new.0) else line_entry (before c).holders l)
      (c.as_slice.ensures.value ∙ c.into_lines-lines.ensures);
  calls = handed (call_entry (before c).calls) (call_entry c.reserve.new.calls.entries) (call_entry c.retire.new.calls.entries) (call_entry c.fill.new.calls.entries)
      c.args.old.0 c.args.new.0 c.in-Some.state c.new-begun.result (was c) (free c) c.in-Ok.ensures.ok c.retire.ensures.retired c.fill.ensures;
  rest = refl;
}

pub invariant_of-self-2 : goal.invariant_of-self-2
invariant_of-self-2 c = tied_begun (before c) (after c) c.args.old.0 c.args.new.0 c.self.invariant (done c)

pub returns-clause-begun : goal.returns-clause-begun
returns-clause-begun c = subst (λ (w : GatewayValue). gateway_of (after c) ≡ begun (gateway_of w) c.args.old.0 c.args.new.0) c.self.view_is
    (begun_is (before c) (after c) c.args.old.0 c.args.new.0 c.self.invariant (done c))

pub returns-clause-open_calls : goal.returns-clause-open_calls
returns-clause-open_calls c = subst (λ (w : GatewayValue). OpenBegun w c.args.old.0 c.args.new.0 (after c)) c.self.view_is
    (open_begun (before c) (after c) c.args.old.0 c.args.new.0 c.self.invariant (done c))
