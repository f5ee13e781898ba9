use Rattle.std.proofs.Common.{◌≡◌, refl, sym, ap, ◌∙◌, arith, rules, ◌∷◌}
use Rattle.std.specs.List.{list_any}
use Rattle.mg_names.specs.declared.identifiers.TermId.{TermId}
use Rattle.mg_model.specs.Board.{same_term, place_of}
use Rattle.terminations.specs.Table.{row_of}
use Rattle.contexts.specs.Paths.{arrived}
use Rattle.contexts.specs.TiedBoard.{board_of, stands_in}
use Rattle.contexts.proofs.PathLemmas.{leads_from, leads_by_one, trail_grows, trail_fits, none_left}
use Rattle.contexts.proofs.wiring.Wiring.+leads.Goals as goal

pub leads-requires : goal.leads-requires
unfolding board_of row_of
leads-requires t c =
    let grown = trail_grows (board_of c.args.self.now) (arrived c.args.trail.now) c.args.from.now _ c.in-Some.next c.requires (sym c.arrival.ensures ∙ c.in-Some.is) in
    let fits = trail_fits (board_of c.args.self.now) c.args.self.now.table.ephemerals (c.in-Some.next ∷ arrived c.args.trail.now) (λ k. refl) grown in
    (omega (arith, fits, c.decreases), grown)

pub returns-then-leads : goal.returns-then-leads
returns-then-leads t c =
    (λ h. leads_from (board_of c.args.self.now) (arrived c.args.trail.now) c.args.from.now c.args.to.now _ (c.in-Some.next, sym c.arrival.ensures ∙ c.in-Some.is, c.leads.ensures.0 c.if-leads.true), λ h. search rules)

pub returns : goal.returns
unfolding board_of
returns t c =
    let members : (u : TermId) → list_any (same_term u) c.of_context-t-items.result.now ≡ stands_in (board_of c.args.self.now).row (place_of (board_of c.args.self.now) c.args.from.now) u =
    λ u. ap (λ group. list_any (same_term u) group) c.of_context-t-items.ensures ∙ c.self.invariant.stands c.place_of.result u
    ∙ ap (λ n. stands_in (row_of c.self.inside.terms.now) n u) c.place_of.ensures ∙ (rw (← c.self.view_is) refl) in (
      λ h. absurd (search rules),
      λ leads. absurd (none_left (board_of c.args.self.now) (arrived c.args.trail.now) c.args.from.now c.args.to.now _ c.loop-t.t-index c.loop-t-test.false (c.loop-t.invariant
          (leads_by_one (board_of c.args.self.now) (arrived c.args.trail.now) c.args.from.now c.args.to.now c.of_context-t-items.result.now members (sym c.hops.ensures ∙ c.if-hops.false) leads))),
    )
