-- A request is no longer than the list that it is built of.
use Rattle.std.proofs.Common.{arith}
use Rattle.built_request.specs.Known.{names_of}
use Rattle.built_request.proofs.request.Request.new.Goals as goal
use Rattle.mg_model.proofs.Built.{built_no_more}

pub returns-clause-few : goal.returns-clause-few
returns-clause-few c =
    let short = built_no_more (names_of c.args.names) c.commands_of-commands.result.now in
    omega (arith, short, c.commands_of-commands.type_inv)
