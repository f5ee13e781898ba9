use Rattle.std.proofs.Common.{◌≡◌, Some, None, ap, refl, sym, ◌∙◌}
use Rattle.scriptreader.specs.declared.fault.ScriptFault.{ScriptFault}
use Rattle.scriptreader.specs.Faults.{fault_of}
use Rattle.scriptreader.proofs.FaultlessDocuments.{uses_next}
use Rattle.scriptreader.proofs.Readings.{is_toml, fault_answers}
use Rattle.scriptreader.proofs.reader.in_scope.Goals as goal

pub returns-in-Some : goal.returns-in-Some
returns-in-Some c =
    let e : fault_of c.args.document.now ≡ Some c.in-Some.fault = uses_next c.args.document.now c.requires.names ∙ sym c.in_ok-fault.ensures ∙ c.in-Some.is in
    fault_answers c.in-Some.fault _ (λ is. is_toml c.args.document.now (e ∙ ap (λ (fault : ScriptFault). Some fault) is)) (rw e refl)

pub script-requires-clause-faultless : goal.script-requires-clause-faultless
script-requires-clause-faultless c = uses_next c.args.document.now c.requires.names ∙ sym c.in_ok-fault.ensures ∙ c.in_default.is

pub returns : goal.returns
returns c =
    let none : fault_of c.args.document.now ≡ None = uses_next c.args.document.now c.requires.names ∙ sym c.in_ok-fault.ensures ∙ c.in_default.is in
    rw none (rw c.in_ok-script.ensures refl)
