use Rattle.std.proofs.Common.{◌≡◌, ℕ, true, inl, refl, sym, subst}
use Rattle.requests.specs.Connected.{board_in}
use Rattle.gateway.specs.Answers.{IsSame}
use Rattle.gateway.specs.Execution.{AreNew}
use Rattle.gateway.specs.GatewayValue.{GatewayValue, is_open}
use Rattle.gateway.proofs.NotedLemmas.{tied_created, tied_both, same_noted}
use Rattle.gateway.proofs.gateway.Gateway.note_creators.Goals as goal

pub invariant_of-self : goal.invariant_of-self
invariant_of-self c =
    let v : GatewayValue = record { association = c.self.inside.association.0; connected = c.self.inside.connections; holders = c.self.inside.holders.entries; calls = c.self.inside.calls.entries; creators = c.self.inside.creators.entries } in
    let opened : is_open v c.call-call.result.0 ≡ true =
    subst (λ (n : ℕ). is_open v n ≡ true) (sym c.call-call.ensures) (subst (λ (w : GatewayValue). is_open w c.args.request.now.call ≡ true) (sym c.self.view_is) c.requires.open) in
    tied_created v c.call-call.result.0 c.args.results.now c.note_created.new.calls.entries c.self.invariant opened _ c.in_err-note_created.ensures.noted

pub returns-in_err-note_created-clause-unchanged : goal.returns-in_err-note_created-clause-unchanged
returns-in_err-note_created-clause-unchanged c =
    let v : GatewayValue = record { association = c.self.inside.association.0; connected = c.self.inside.connections; holders = c.self.inside.holders.entries; calls = c.self.inside.calls.entries; creators = c.self.inside.creators.entries } in
    let opened : is_open v c.call-call.result.0 ≡ true =
    subst (λ (n : ℕ). is_open v n ≡ true) (sym c.call-call.ensures) (subst (λ (w : GatewayValue). is_open w c.args.request.now.call ≡ true) (sym c.self.view_is) c.requires.open) in
    let new : AreNew (board_in v.connected) c.args.results.now = subst (λ (w : GatewayValue). AreNew (board_in w.connected) c.args.results.now) (sym c.self.view_is) c.requires.new in
    subst (λ (w : GatewayValue). IsSame w (record { association = v.association; connected = v.connected; holders = v.holders; calls = c.note_created.new.calls.entries; creators = v.creators })) c.self.view_is
    (same_noted v c.call-call.result.0 c.args.results.now c.note_created.new.calls.entries c.self.invariant opened _ v.creators new c.in_err-note_created.ensures.noted (λ k. inl refl))

pub invariant_of-self-2 : goal.invariant_of-self-2
invariant_of-self-2 c =
    let v : GatewayValue = record { association = c.self.inside.association.0; connected = c.self.inside.connections; holders = c.self.inside.holders.entries; calls = c.self.inside.calls.entries; creators = c.self.inside.creators.entries } in
    let opened : is_open v c.call-call.result.0 ≡ true =
    subst (λ (n : ℕ). is_open v n ≡ true) (sym c.call-call.ensures) (subst (λ (w : GatewayValue). is_open w c.args.request.now.call ≡ true) (sym c.self.view_is) c.requires.open) in
    tied_both v c.call-call.result.0 c.args.results.now c.note_created.new.calls.entries c.self.invariant opened c.note.new.creators.entries c.in_ok-note_created.ensures.noted c.note.ensures.some

pub returns-clause-unchanged : goal.returns-clause-unchanged
returns-clause-unchanged c =
    let v : GatewayValue = record { association = c.self.inside.association.0; connected = c.self.inside.connections; holders = c.self.inside.holders.entries; calls = c.self.inside.calls.entries; creators = c.self.inside.creators.entries } in
    let opened : is_open v c.call-call.result.0 ≡ true =
    subst (λ (n : ℕ). is_open v n ≡ true) (sym c.call-call.ensures) (subst (λ (w : GatewayValue). is_open w c.args.request.now.call ≡ true) (sym c.self.view_is) c.requires.open) in
    let new : AreNew (board_in v.connected) c.args.results.now = subst (λ (w : GatewayValue). AreNew (board_in w.connected) c.args.results.now) (sym c.self.view_is) c.requires.new in
    subst (λ (w : GatewayValue). IsSame w (record { association = v.association; connected = v.connected; holders = v.holders; calls = c.note_created.new.calls.entries; creators = c.note.new.creators.entries })) c.self.view_is
    (same_noted v c.call-call.result.0 c.args.results.now c.note_created.new.calls.entries c.self.invariant opened _ c.note.new.creators.entries new c.in_ok-note_created.ensures.noted c.note.ensures.some)
