-- The status is as what was found of the script and the certificate asks.
use Rattle.std.proofs.Common.{subst}
use Rattle.mg_model.specs.Script.{Script}
use Rattle.mg_model.specs.Entries.{Entry}
use Rattle.std.specs.Prelude.{List}
use Rattle.check_facts.specs.Worth.{IsYesStatus}
use Rattle.check_facts.proofs.YesStatus.{yes_case}
use Rattle.check_facts.proofs.told.yes_told.Goals as goal

pub returns-clause-status : goal.returns-clause-status
returns-clause-status c =
    subst (λ (table : Script). IsYesStatus c.args.is_strict table c.args.checked.now.entries c.yes_status-status.result) c.script.ensures.table
    (subst (λ (entries : List Entry). IsYesStatus c.args.is_strict c.script.result.now entries c.yes_status-status.result) c.cert.ensures
    (yes_case c.args.is_strict c.script.result.now c.cert.result.now c.in_ok-worth.worth c.yes_status-status.result c.in_ok-worth.ensures
    c.yes_status-status.ensures))
