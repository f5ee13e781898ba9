use Rattle.std.proofs.Common.{◌≡◌, Some, ap, refl, sym, ◌∙◌}
use Rattle.scriptreader.specs.declared.fault.ScriptFault.{ScriptFault}
use Rattle.scriptreader.specs.Faults.{fault_of}
use Rattle.scriptreader.proofs.FaultlessDocuments.{names_first, none_twice}
use Rattle.scriptreader.proofs.Readings.{is_toml, fault_answers}
use Rattle.scriptreader.proofs.reader.of_document.Goals as goal

pub returns-in-Some : goal.returns-in-Some
returns-in-Some c =
    let e : fault_of c.args.document.now ≡ Some c.in-Some.fault = names_first c.args.document.now _ (sym c.in_ok-fault.ensures ∙ c.in-Some.is) in
    fault_answers c.in-Some.fault _ (λ is. is_toml c.args.document.now (e ∙ ap (λ (fault : ScriptFault). Some fault) is)) (rw e refl)

pub scope-requires : goal.scope-requires
scope-requires c = none_twice c.args.document.now (sym c.in_ok-fault.ensures ∙ c.in_default.is)

pub in_scope-answer-requires-clause-names : goal.in_scope-answer-requires-clause-names
in_scope-answer-requires-clause-names c = sym c.in_ok-fault.ensures ∙ c.in_default.is
