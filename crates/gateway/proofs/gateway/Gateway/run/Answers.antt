use Rattle.std.proofs.Common.{◌≡◌, ◌+◌, ◌≤◌, length, refl, subst, arith}
use Rattle.std.proofs.lemmas.List.{length-map}
use Rattle.mg_model.specs.Numbers.{last_number}
use Rattle.mg_model.specs.Messages.{Request}
use Rattle.requests.specs.Views.{line_notes}
use Rattle.requests.specs.Connected.{Ends}
use Rattle.gateway.specs.GatewayValue.{GatewayValue}
use Rattle.gateway.proofs.JudgeLemmas.{room_for, run_made}
use Rattle.gateway.proofs.gateway.Gateway.run.Goals as goal

pub numbered-requires : goal.numbered-requires
numbered-requires c = room_for c.args.self.now c.args.request.now c.args.last _ _ _ _ c.in_ok-connections.outcome.notes.items _ c.requires c.in_ok-connections.ensures.runs

pub overflow_cast-count : goal.overflow_cast-count
overflow_cast-count c =
    let room : c.args.last + length c.in_ok-connections.outcome.notes.items ≤ last_number =
    room_for c.args.self.now c.args.request.now c.args.last _ _ _ _ c.in_ok-connections.outcome.notes.items _ c.requires c.in_ok-connections.ensures.runs in
    omega (arith, c.in_ok-connections.outcome.notes.ok)

pub overflow_add-result : goal.overflow_add-result
overflow_add-result c =
    let room : c.args.last + length c.in_ok-connections.outcome.notes.items ≤ last_number =
    room_for c.args.self.now c.args.request.now c.args.last _ _ _ _ c.in_ok-connections.outcome.notes.items _ c.requires c.in_ok-connections.ensures.runs in
    omega (arith, c.in_ok-connections.outcome.notes.ok)

pub returns-clause-runs : goal.returns-clause-runs
returns-clause-runs c =
    let request : Request = c.args.request.now in
    run_made c.args.self.now.connected request c.args.chosen c.args.last c.in_ok-connections.connections
    c.in_ok-connections.outcome.results.items (line_notes c.in_ok-connections.outcome.notes.items) c.in_ok-connections.outcome.failure
    c.new-reply.result c.in_ok-kept.kept c.in_ok-notes.notes.items (c.args.last + c.len-count.result)
    (subst (λ (w : GatewayValue). Ends w.connected request c.args.chosen c.in_ok-connections.connections
    c.in_ok-connections.outcome.results.items (line_notes c.in_ok-connections.outcome.notes.items) c.in_ok-connections.outcome.failure) c.self.view_is c.in_ok-connections.ensures.runs)
    (rw (c.new-reply.ensures, c.id.ensures.call, c.id.ensures.association, c.id.ensures.number) refl)
    c.in_ok-kept.ensures
    c.in_ok-notes.ensures
    (let same : length (line_notes c.in_ok-connections.outcome.notes.items) ≡ length c.in_ok-connections.outcome.notes.items = rw length-map refl in
    omega (arith, c.in_ok-connections.outcome.notes.ok))
