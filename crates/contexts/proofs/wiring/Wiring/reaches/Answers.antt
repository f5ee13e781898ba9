use Rattle.std.proofs.Common.{refl, sym, ◌∙◌, rules}
use Rattle.contexts.specs.TiedBoard.{board_of}
use Rattle.contexts.proofs.FoundLemmas.{closed_start, closed_step, found_leads, closed_misses, more_from_start, more_further}
use Rattle.contexts.proofs.wiring.Wiring.reaches.Goals as goal

pub loop-number-init : goal.loop-number-init
loop-number-init c = closed_start (board_of c.args.self.now) c.args.from.now c.args.to.now c.spread.new.found (sym c.hops.ensures ∙ c.if-hops.false) (rw (← c.new-found.ensures) c.in_ok-spread.ensures.spread)

pub returns-then-hops-2-clause-answer : goal.returns-then-hops-2-clause-answer
returns-then-hops-2-clause-answer c =
    (λ h. found_leads (board_of c.args.self.now) c.args.from.now c.args.to.now c.in-Some.number c.loop-number.found c.take_next.new.self c.loop-number.invariant c.in-Some.ensures.taken (sym c.hops-in-Some.ensures ∙ c.if-hops-2.true), λ h. search rules)

pub loop-number-preserved : goal.loop-number-preserved
loop-number-preserved c =
    closed_step (board_of c.args.self.now) c.args.from.now c.args.to.now c.in-Some.number c.loop-number.found c.take_next.new.self c.spread-in-Some.new.found c.loop-number.invariant c.in-Some.ensures.taken (sym c.hops-in-Some.ensures ∙ c.if-hops-2.false) c.in_ok-spread-2.ensures.spread

pub returns-clause-answer : goal.returns-clause-answer
returns-clause-answer c = (
  λ h. absurd (search rules),
  λ leads. absurd (closed_misses (board_of c.args.self.now) c.args.from.now c.args.to.now c.loop-number.found c.loop-number.invariant c.in_default.ensures.taken.0 leads),
)

pub returns-in_err-spread-clause-full : goal.returns-in_err-spread-clause-full
returns-in_err-spread-clause-full c h = more_from_start (board_of c.args.self.now) 4096 c.args.from.now (rw (← c.new-found.ensures) (c.in_err-spread.ensures.full refl))

pub returns-in_err-spread-2-clause-full : goal.returns-in_err-spread-2-clause-full
returns-in_err-spread-2-clause-full c h = more_further (board_of c.args.self.now) 4096 c.args.from.now c.args.to.now c.in-Some.number c.loop-number.found c.take_next.new.self c.loop-number.invariant c.in-Some.ensures.taken (c.in_err-spread-2.ensures.full refl)
