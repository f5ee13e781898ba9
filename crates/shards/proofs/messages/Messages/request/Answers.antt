use Rattle.std.proofs.Common.{◌∙◌}
use Rattle.shards.specs.Messages.{request_for, AreNumberedFrom}
use Rattle.shards.proofs.messages.Messages.request.Goals as goal
use Rattle.shards.proofs.NumberLemmas.{request_found}
use Rattle.shards.specs.Messages.{MessagesValue, request_numbers}
use Rattle.std.proofs.Common.{sym, subst, ap}

-- each stands at the place of its number
pub returns-in-Some : goal.returns-in-Some
returns-in-Some c =
    c.request_numbered.ensures
    ∙ sym (request_found c.args.self.now.sent.first c.in-Some.number c.args.self.now.sent.requests
    (subst (λ (v : MessagesValue). AreNumberedFrom v.sent.first (request_numbers v.sent.requests)) c.self.view_is c.self.invariant.0))
    ∙ ap (request_for c.args.self.now.sent) (sym c.in-Some.is)
