-- The shards so far have taken all steps.
use Rattle.std.proofs.Common.{◌≡◌, take}
use Rattle.run_account.specs.TakenAll.{HaveTakenAll}
use Rattle.run_account.proofs.taken_all.have_taken_all.Given as goal

abbrev pub invariant-loop-count : goal.invariant-loop-count
invariant-loop-count l = record { numbered : l.number ≡ l.count-index; taken : HaveTakenAll l.totals 0 (take l.count-index l.counts) }
