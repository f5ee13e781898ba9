-- Where no shard answers no, all histories agree; where one does, they differ.
use Rattle.std.proofs.Common.{◌∙◌, ◌<◌, length, map, arith}
use Rattle.std.proofs.lemmas.List.{length-map}
use Rattle.run_account.specs.Comparing.{trails_of}
use Rattle.run_account.proofs.ComparedShards.{no_noes, some_no}
use Rattle.run_account.proofs.compare.agree.Goals as goal

pub returns-clause-agree : goal.returns-clause-agree
returns-clause-agree g c = λ agrees.
    let shards = c.args.shards.now in
    let some : 0 < c.args.count = grind (arith, c.requires) in
    no_noes c.args.count (map (λ v. v.history) shards) (trails_of c.args.planned_calls.now) (length-map shards (λ v. v.history) ∙ c.requires) some
    (length shards) c.requires c.in_ok-answers.answers.items c.in_ok-answers.ensures (grind (arith, c.contains.ensures.value, agrees))

pub returns-clause-differ : goal.returns-clause-differ
returns-clause-differ g c = λ differs.
    some_no c.args.count (map (λ v. v.history) c.args.shards.now) (trails_of c.args.planned_calls.now) (length c.args.shards.now) c.in_ok-answers.answers.items
    c.in_ok-answers.ensures (grind (arith, c.contains.ensures.value, differs))
