use Rattle.std.proofs.Common.{[], ◌∷◌, List}
use Rattle.shards.specs.Messages.{AreNumberedFrom, IsNextOver}
use Rattle.shards.proofs.messages.Messages.keep.Goals as goal
use Rattle.shards.proofs.NumberLemmas.{numbered_on}
use Rattle.shards.specs.Messages.{Messages, MessagesValue, request_numbers}
use Rattle.mg_model.specs.Messages.{Request}
use Rattle.std.proofs.Common.{Some, sym, subst, ap}

-- it has the number after the others
pub invariant_of-self : goal.invariant_of-self
invariant_of-self c = (
  subst (λ (requests : List Request). AreNumberedFrom c.self.inside.first (request_numbers requests)) (sym c.push_reserved.ensures.items)
      (numbered_on (λ (r : Request). r.number) c.self.inside.first c.self.inside.requests.items (c.in-Some.request ∷ []) c.self.invariant.0
      (subst (λ (m : Messages). IsNextOver m (Some c.in-Some.request)) (ap (λ (v : MessagesValue). v.sent) (sym c.self.view_is))
      (subst (IsNextOver c.args.self.now.sent) c.in-Some.is c.requires.next))),
  c.self.invariant.1,
)
