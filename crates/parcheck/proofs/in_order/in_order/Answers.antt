-- What no job has walked over comes before each run, and then the run; at last what is left after all.
use Rattle.std.proofs.Common.{◌+◌, ◌^◌, ◌≤◌, ℕ, List, length, drop, refl, subst, arith}
use Rattle.closure.specs.Runs.{IsOfRun}
use Rattle.configuration.proofs.NumberLemmas.{at}
use Rattle.parcheck.specs.declared.walked.Walked.{Walked}
use Rattle.parcheck.specs.Pieces.{AreWalked}
use Rattle.parcheck.proofs.PieceLemmas.{none_of_none, walked_rise}
use Rattle.parcheck.proofs.in_order.in_order.Goals as goal

pub loop-walked-init : goal.loop-walked-init
loop-walked-init c = record {
  left = c.requires;
  found = none_of_none c.args.script.now c.args.cert.now 0 0 refl;
}

pub loop-walked-preserved : goal.loop-walked-preserved
loop-walked-preserved c =
    let script = c.args.script.now in
    let entries = c.args.cert.now in
    let all = c.args.all.now in
    let i = c.loop-walked.walked-index in
    let walked = c.walked-item.result in
    let here = at all i walked c.loop-walked-test.true c.walked-item.is in
    let left = subst (λ (more : List Walked). AreWalked script entries c.loop-walked.reached more (length entries)) here c.loop-walked.invariant.left in
    let rise = walked_rise script entries walked.last (drop (i + 1) all) (length entries) left.3 in
    let small : walked.last ≤ 2 ^ 64 = omega (arith, rise, c.entries_of-entries.ensures, c.entries_of-entries.type_inv) in
    let before = c.gone_on-before.ensures 0 (omega arith) left.0 (omega (arith, left.1, small)) c.loop-walked.invariant.found in
    record {
      left = left.3;
      found = c.joined-found.ensures script entries 0 walked.first walked.last (omega arith) left.1 small before left.2;
    }

pub returns : goal.returns
returns c =
    let script = c.args.script.now in
    let entries = c.args.cert.now in
    let i = c.loop-walked.walked-index in
    let rise = walked_rise script entries c.loop-walked.reached (drop i c.args.all.now) (length entries) c.loop-walked.invariant.left in
    subst (λ (last : ℕ). IsOfRun script entries 0 last c.gone_on.result) c.entries_of-entries.ensures
    (c.gone_on.ensures 0 (omega arith) (omega (arith, rise, c.entries_of-entries.ensures)) (omega (arith, c.entries_of-entries.type_inv))
    c.loop-walked.invariant.found)
