-- The first fault is that of the example, so the line names it.
use Rattle.std.proofs.Common.{[], Some, None}
use Rattle.mg_examples.specs.CreatedTwice.{created_twice, created_twice_entries}
use Rattle.mg_examples.specs.NamesKept.{name_kept, name_kept_entries}
use Rattle.mg_examples.specs.TalkEntries.{after_a_restart, at_rest, in_idle, reachable}
use Rattle.mg_examples.specs.TwoLines.{calling, recovering}
use Rattle.mg_examples.specs.Unarmed.{unarmed, unarmed_entries}
use Rattle.mg_names.specs.declared.kinds.Kind.TheVariants.{Of}
use Rattle.mg_names.specs.declared.obligations.Obligation.TheVariants as obligation
use Rattle.mg_model.specs.declared.steps.StepName.TheVariants.{Observe}
use Rattle.mg_examples.specs.Needed.{fault_at, whole_fault}
use Rattle.loaded_examples.specs.Certificates as certificates
use Rattle.loaded_examples.specs.Scripts as scripts
use Rattle.loaded_examples.proofs.CertificatesRead as listed
use Rattle.loaded_examples.proofs.OneLine.{no_told}
use Rattle.loaded_examples.proofs.ScriptsRead as tables
use Rattle.loaded_examples.proofs.told.needed_are_told.Goals as goal

pub returns-clause-opening : goal.returns-clause-opening
returns-clause-opening c =
    no_told scripts.unmarked certificates.after_a_restart (calling []) after_a_restart (record { reads = tables.unmarked_read; lists = listed.after_a_restart_read })
    (whole_fault obligation.OpeningCovered) c.each_obligation_is_needed.ensures.opening.breaks.first

pub returns-clause-steps : goal.returns-clause-steps
returns-clause-steps c =
    no_told scripts.unmarked certificates.in_idle (calling []) in_idle (record { reads = tables.unmarked_read; lists = listed.in_idle_read })
    (fault_at obligation.StepsCovered 1 0 (Some (Observe 0 Of))) c.each_obligation_is_needed.ensures.steps.breaks.first

pub returns-clause-marks : goal.returns-clause-marks
returns-clause-marks c =
    no_told scripts.unmarked certificates.reachable (calling []) reachable (record { reads = tables.unmarked_read; lists = listed.unmarked_reachable_read })
    (fault_at obligation.JoinedMarked 4 0 None) c.each_obligation_is_needed.ensures.marks.breaks.first

pub returns-clause-cleared : goal.returns-clause-cleared
returns-clause-cleared c =
    no_told scripts.unarmed certificates.unarmed unarmed unarmed_entries (record { reads = tables.unarmed_read; lists = listed.unarmed_read })
    (fault_at obligation.EndedCleared 1 1 None) c.each_obligation_is_needed.ensures.cleared.breaks.first

pub returns-clause-unbound : goal.returns-clause-unbound
returns-clause-unbound c =
    no_told scripts.created_twice certificates.created_twice created_twice created_twice_entries (record { reads = tables.created_twice_read; lists = listed.created_twice_read })
    (fault_at obligation.CreatedUnbound 3 0 None) c.each_obligation_is_needed.ensures.unbound.breaks.first

pub returns-clause-reset : goal.returns-clause-reset
returns-clause-reset c =
    no_told scripts.recovering certificates.at_rest recovering at_rest (record { reads = tables.recovering_read; lists = listed.at_rest_read })
    (whole_fault obligation.ResetCovered) c.each_obligation_is_needed.ensures.reset.breaks.first

pub returns-clause-live : goal.returns-clause-live
returns-clause-live c =
    no_told scripts.name_kept certificates.name_kept name_kept name_kept_entries (record { reads = tables.name_kept_read; lists = listed.name_kept_read })
    (fault_at obligation.NamesLive 5 0 None) c.each_obligation_is_needed.ensures.live.breaks.first
