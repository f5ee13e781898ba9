use Rattle.std.proofs.Common.{◌≡◌, refl, ap, ◌∙◌}
use Rattle.std.specs.List.{list_any}
use Rattle.mg_names.specs.declared.identifiers.TermId.{TermId}
use Rattle.mg_model.specs.Board.{same_term, place_of}
use Rattle.terminations.specs.Table.{row_of}
use Rattle.contexts.specs.TiedBoard.{board_of, stands_in}
use Rattle.contexts.proofs.FoundLemmas.{overfull, spread_more, spread_to_end, spread_all}
use Rattle.contexts.proofs.wiring.Wiring.spread.Goals as goal

pub loop-t-preserved : goal.loop-t-preserved
loop-t-preserved c = spread_more (board_of c.args.self.now) c.args.from.now c.of_context-t-items.result.now c.loop-t.t-index _ c.args.found.now c.loop-t.found c.spread_by.new.found c.loop-t-test.true c.loop-t.invariant c.in_ok-spread_by.ensures.noted

pub returns-clause-spread : goal.returns-clause-spread
unfolding board_of
returns-clause-spread c =
    let members : (u : TermId) → list_any (same_term u) c.of_context-t-items.result.now ≡ stands_in (board_of c.args.self.now).row (place_of (board_of c.args.self.now) c.args.from.now) u =
    λ u. ap (λ group. list_any (same_term u) group) c.of_context-t-items.ensures ∙ c.self.invariant.stands c.place_of.result u
    ∙ ap (λ n. stands_in (row_of c.self.inside.terms.now) n u) c.place_of.ensures ∙ (rw (← c.self.view_is) refl) in
    spread_all (board_of c.args.self.now) c.args.from.now c.of_context-t-items.result.now c.args.found.now c.loop-t.found members
    (spread_to_end (board_of c.args.self.now) c.args.from.now c.of_context-t-items.result.now c.loop-t.t-index c.args.found.now c.loop-t.found c.loop-t-test.false c.loop-t.invariant)

pub returns-in_err-spread_by-clause-full : goal.returns-in_err-spread_by-clause-full
returns-in_err-spread_by-clause-full c h = overfull (board_of c.args.self.now) 4096 c.args.from.now _ _ c.args.found.now c.loop-t.found c.loop-t.invariant (c.in_err-spread_by.ensures.full refl)
