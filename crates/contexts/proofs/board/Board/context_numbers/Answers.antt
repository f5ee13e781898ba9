use Rattle.std.proofs.Common.{◌≡◌, ◌∙◌, map}
use Rattle.mg_names.specs.declared.identifiers.ContextId.{ContextId}
use Rattle.contexts.specs.BoardValue.{board_of}
use Rattle.contexts.proofs.StockLemmas.{held_iff}
use Rattle.contexts.proofs.board.Board.context_numbers.Goals as goal

pub returns-clause-exactly : goal.returns-clause-exactly
unfolding board_of
returns-clause-exactly c n =
    let there = held_iff _ c.self.inside.members _ c.self.invariant.0 n in
    let listed = c.in_ok-numbers.ensures.exactly n in
    let same : map (λ (x : ContextId). x.0) c.in_ok-found.found.items ≡ c.in_ok-numbers.numbers.items = c.in_ok-found.ensures ∙ c.as_slice.ensures.value in
    rw (← c.self.view_is, same) (λ h. there.0 (listed.0 h), λ h. listed.1 (there.1 h))
