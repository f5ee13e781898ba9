-- Where there was no trouble, all places were served at.
use Rattle.std.proofs.Common.{◌≡◌, ◌∙◌, Result, Ok, Err, None, OnOk, sym, subst, arith}
use Rattle.std.proofs.lemmas.List.{with_items_is}
use Rattle.std.specs.Result.{result_err}
use Rattle.call_queues.specs.Passing.{WorkersPass}
use Rattle.run_shards.specs.RunFault.{RunFault}
use Rattle.workers.specs.PlanSteps.{item_is_over}
use Rattle.workers.proofs.worker.work.Goals as goal

untroubled : (r : Result (Unit {0}) RunFault) (P : Type 0) → result_err r ≡ None → OnOk r P → P
untroubled (Ok x) P none holds = holds
untroubled (Err fault) P none holds = absurd (cc)

pub returns-clause-over : goal.returns-clause-over
returns-clause-over g c = λ before none.
    let over = item_is_over c.args.job.workplace.now.plan.now.calls c.args.job.workplace.now.epoch in
    subst (WorkersPass over)
    (sym (with_items_is c.args.job.worker_queues c.serve_all.new.worker_queues (omega (arith, c.serve_all.auto.worker_queues, c.as_mut_slice.ensures.len))))
    (untroubled c.serve_all.result _ (sym c.err-trouble.ensures.value ∙ none) c.serve_all.ensures.over
    (subst (WorkersPass over) (sym c.as_mut_slice.ensures.value) before))
