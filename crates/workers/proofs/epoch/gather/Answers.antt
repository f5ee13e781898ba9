-- The places of one worker more are back.
use Rattle.std.proofs.Common.{[], ◌∷◌, sym}
use Rattle.std.specs.List.{All}
use Rattle.std.specs.Vec.Iter.{into_iter_items}
use Rattle.std.proofs.lemmas.List.Elements.{All-cons, All-head, All-nil, All-rest, All-same}
use Rattle.call_queues.specs.Passing.{IsWorkersAt}
use Rattle.workers.specs.Working.{PassesUntroubled}
use Rattle.workers.specs.declared.worker.Worked.{Worked}
use Rattle.workers.proofs.epoch.gather.Goals as goal

pub loop-worked-init : goal.loop-worked-init
loop-worked-init c =
    let workers = λ (worked : Worked). All (IsWorkersAt c.args.queues.now) worked.worker_queues.items in record {
      owners = c.requires.owners;
      left = All-same workers _ c.args.all.items c.into_iter-worked-iterator.ensures.into_iter_gives.0 c.requires.workers;
      back = λ test before all. (before, All-same (PassesUntroubled test) _ c.args.all.items c.into_iter-worked-iterator.ensures.into_iter_gives.0 all);
    }

pub loop-worked-preserved : goal.loop-worked-preserved
loop-worked-preserved c =
    let before = into_iter_items c.loop-worked.worked-iterator in
    let after = into_iter_items c.next.new.self in
    let worked = c.in-Some.worked in record {
      owners = c.in_ok-absorb.ensures.owners;
      left = All-rest (λ (worked : Worked). All (IsWorkersAt c.args.queues.now) worked.worker_queues.items) worked after before c.in-Some.ensures.steps.0
          c.loop-worked.invariant.left;
      back = λ test owners all.
          let was = c.loop-worked.invariant.back test owners all in
          let both = All-same (PassesUntroubled test) (worked ∷ after) before (sym c.in-Some.ensures.steps.0) was.1 in (
            c.in_ok-absorb.ensures.back test was.0
                (All-cons (PassesUntroubled test) worked [] (All-head (PassesUntroubled test) worked after both) (All-nil (PassesUntroubled test))),
            All-rest (PassesUntroubled test) worked after before c.in-Some.ensures.steps.0 was.1,
          );
    }
