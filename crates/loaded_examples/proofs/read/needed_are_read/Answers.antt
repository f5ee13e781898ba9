-- Both are computed, for each obligation.
use Rattle.loaded_examples.proofs.CertificatesRead as certificates
use Rattle.loaded_examples.proofs.ScriptsRead as scripts
use Rattle.loaded_examples.proofs.read.needed_are_read.Goals as goal

pub returns-clause-opening : goal.returns-clause-opening
returns-clause-opening c = record { reads = scripts.unmarked_read; lists = certificates.after_a_restart_read }

pub returns-clause-steps : goal.returns-clause-steps
returns-clause-steps c = record { reads = scripts.unmarked_read; lists = certificates.in_idle_read }

pub returns-clause-marks : goal.returns-clause-marks
returns-clause-marks c = record { reads = scripts.unmarked_read; lists = certificates.unmarked_reachable_read }

pub returns-clause-cleared : goal.returns-clause-cleared
returns-clause-cleared c = record { reads = scripts.unarmed_read; lists = certificates.unarmed_read }

pub returns-clause-unbound : goal.returns-clause-unbound
returns-clause-unbound c = record { reads = scripts.created_twice_read; lists = certificates.created_twice_read }

pub returns-clause-reset : goal.returns-clause-reset
returns-clause-reset c = record { reads = scripts.recovering_read; lists = certificates.at_rest_read }

pub returns-clause-live : goal.returns-clause-live
returns-clause-live c = record { reads = scripts.name_kept_read; lists = certificates.name_kept_read }
