use Rattle.std.proofs.Common.{◌≡◌, ℕ, None, length, rules, arith, ap}
use Rattle.agent.specs.Parts.{read_in, without_listed}
use Rattle.mg_model.specs.Agent.{is_listed}
use Rattle.std.specs.Prelude.{Option, if◌then◌else◌}
use Rattle.agent.proofs.Fours.{four_of, past_four}
use Rattle.agent.proofs.results.all_kept.Goals as goal

pub returns : goal.returns
returns c =
    let gone = c.args.gone.now in
    let four : length c.args.bound ≡ 4 = search rules in
    four_of (without_listed gone (read_in c.args.bound)) None _ _ _ _ c.kept.ensures c.kept-2.ensures c.kept-3.ensures c.kept-4.ensures
    (λ k past. ap (λ (bound : Option ℕ). if is_listed gone bound then None else bound) (past_four c.args.bound k None (omega arith) past))
