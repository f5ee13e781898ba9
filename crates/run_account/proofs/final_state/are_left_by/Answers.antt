-- One line more is as the run leaves its call, or tells otherwise.
use Rattle.std.proofs.Common.{◌≡◌, ◌∙◌, List, length, rules, arith, refl, sym, ap, subst}
use Rattle.std.proofs.lemmas.Bool.{leb-false, leb-true}
use Rattle.std.proofs.lemmas.List.{take_all}
use Rattle.run_shards.specs.Taking.{trail_of}
use Rattle.run_account.specs.OtherLines.{a_line_is, events_told, goes_on, of_no_call}
use Rattle.run_shards.specs.Line.{Line}
use Rattle.run_account.proofs.FinalLines.{AreLeftSoFar, all_have_lines, all_left, left_next, none_left}
use Rattle.run_account.proofs.OtherLine.{below_next, below_none, interrupted, last_one, not_rising, otherwise, told_next, unlike_at}
use Rattle.run_account.proofs.final_state.are_left_by.Goals as goal
use Rattle.run_account.proofs.final_state.are_left_by.Goals.{then-number-least-via-then-number-least, then-number-least-via-else-number-least+then-not-is_left}

pub loop-line-init : goal.loop-line-init
loop-line-init c = record {
  left = none_left c.args.script.now c.args.shard.now (trail_of c.args.planned.now) c.args.call;
  told = refl;
  below = below_none;
}

pub loop-line-preserved : goal.loop-line-preserved
loop-line-preserved c = record {
  left = left_next c.args.script.now c.args.shard.now (trail_of c.args.planned.now) c.args.call c.loop-line.place c.loop-line.least
      c.in-Some-place_behind.next c.in-Some.number.0 c.in-Some-checked_add.above c.loop-line.line-index c.args.lines.now _ c.loop-line-test.true
      c.loop-line.invariant.left c.in-Some.ensures.own c.in-Some.ensures.number c.if-number-least.false c.in-Some-place_behind.ensures.all
      (c.if-not-is_left.ensures.yes (search rules)) (sym c.in-Some-checked_add.ensures.1);
  told = c.in-Some-place_behind.ensures.next
      ∙ told_next c.args.lines.now c.loop-line.line-index c.loop-line.place _ c.loop-line-test.true c.loop-line.invariant.told;
  below = below_next c.args.lines.now c.loop-line.line-index c.in-Some.number.0 c.in-Some-checked_add.above _ c.loop-line-test.true
      c.in-Some.ensures.number (sym c.in-Some-checked_add.ensures.1);
}

pub returns-in_default-clause-no : goal.returns-in_default-clause-no
returns-in_default-clause-no c told =
    a_line_is (unlike_at c.args.script.now c.args.shard.now (trail_of c.args.planned.now) c.args.call c.args.lines.now c.loop-line.line-index _
    c.loop-line-test.true (of_no_call c.in_default.ensures.none))

pub returns-in_default-place_behind-clause-no : goal.returns-in_default-place_behind-clause-no
returns-in_default-place_behind-clause-no c told =
    interrupted c.args.script.now c.args.shard.now (trail_of c.args.planned.now) c.args.call c.args.lines.now c.loop-line.line-index c.loop-line.place
    c.in-Some.number.0 _ c.loop-line-test.true c.in-Some.ensures.number c.loop-line.invariant.told c.in_default-place_behind.ensures.none

pub returns-in_default-checked_add-clause-no : goal.returns-in_default-checked_add-clause-no
returns-in_default-checked_add-clause-no c told =
    last_one c.args.script.now c.args.shard.now (trail_of c.args.planned.now) c.args.call c.args.lines.now c.loop-line.line-index c.loop-line.place
    c.in-Some.number.0 _ c.loop-line-test.true c.in-Some.ensures.number c.loop-line.invariant.told (omega (arith, c.in_default-checked_add.ensures))

pub returns-then-number-least-clause-no : goal.returns-then-number-least-clause-no
returns-then-number-least-clause-no c told =
    elim c.then-number-least.branch [
      | then-number-least-via-then-number-least w ↦
          not_rising c.args.script.now c.args.shard.now (trail_of c.args.planned.now) c.args.call c.args.lines.now c.loop-line.line-index c.loop-line.place
          c.in-Some.number.0 _ c.loop-line-test.true c.in-Some.ensures.number c.loop-line.invariant.told c.loop-line.least c.loop-line.invariant.below
          w.if-number-least.true
      | then-number-least-via-else-number-least+then-not-is_left w ↦
          otherwise c.args.script.now c.args.shard.now (trail_of c.args.planned.now) c.args.call c.args.lines.now c.loop-line.line-index c.loop-line.place
          c.in-Some.number.0 _ c.loop-line-test.true c.in-Some.ensures.number c.loop-line.invariant.told c.in-Some-place_behind.next
          c.in-Some-place_behind.ensures.next (w.if-not-is_left.ensures.no (search rules))
    ]

pub returns-clause-left : goal.returns-clause-left
returns-clause-left c at_end =
    let script = c.args.script.now in
    let v = c.args.shard.now in
    let trail = trail_of c.args.planned.now in
    let lines = c.args.lines.now in
    all_left script v trail c.args.call c.loop-line.place c.loop-line.least lines
    (subst (λ (ls : List Line). AreLeftSoFar script v trail c.args.call c.loop-line.place c.loop-line.least ls)
    (take_all c.loop-line.line-index lines c.loop-line-test.false) c.loop-line.invariant.left)
    (leb-true (length trail) c.loop-line.place (sym c.ends_at.ensures ∙ at_end))

pub returns-clause-all : goal.returns-clause-all
returns-clause-all c at_end =
    let script = c.args.script.now in
    let v = c.args.shard.now in
    let trail = trail_of c.args.planned.now in
    let lines = c.args.lines.now in
    all_have_lines script v trail c.args.call c.loop-line.place c.loop-line.least lines
    (subst (λ (ls : List Line). AreLeftSoFar script v trail c.args.call c.loop-line.place c.loop-line.least ls)
    (take_all c.loop-line.line-index lines c.loop-line-test.false) c.loop-line.invariant.left)
    (leb-true (length trail) c.loop-line.place (sym c.ends_at.ensures ∙ at_end))

pub returns-clause-no : goal.returns-clause-no
returns-clause-no c told =
    let trail = trail_of c.args.planned.now in
    let lines = c.args.lines.now in
    let all : c.loop-line.place ≡ events_told lines =
    c.loop-line.invariant.told ∙ ap events_told (take_all c.loop-line.line-index lines c.loop-line-test.false) in
    goes_on (omega (arith, all, leb-false (length trail) c.loop-line.place (sym c.ends_at.ensures ∙ told)))
