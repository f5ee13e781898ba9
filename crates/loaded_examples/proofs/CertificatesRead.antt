-- The bytes of each certificate are read as its entries, for its script: the reader's definitions compute it.
use Rattle.std.proofs.Common.{Ok, refl, []}
use Rattle.mg_examples.specs.BegunTalk.{renewing, renewing_entries}
use Rattle.mg_examples.specs.CreatedTwice.{created_twice, created_twice_entries}
use Rattle.mg_examples.specs.Dials.{dial_entries, dials}
use Rattle.mg_examples.specs.NamesKept.{name_kept, name_kept_entries}
use Rattle.mg_examples.specs.TalkEntries.{reachable, after_a_restart, at_rest, in_idle}
use Rattle.mg_examples.specs.TwoLines.{calling, recovering}
use Rattle.mg_examples.specs.TwoTalks.{both_lines}
use Rattle.mg_examples.specs.Unarmed.{unarmed, unarmed_entries}
use Rattle.certificate.specs.Certificate.{ReadsCertificate}
use Rattle.loaded_examples.specs.Certificates as bytes
use Rattle.loaded_examples.proofs.OnTexts.{certificates_on_texts, certificate_read}

pub reachable_read : ReadsCertificate (calling both_lines) bytes.reachable (Ok reachable)
unfolding certificates_on_texts
reachable_read = certificate_read (calling both_lines) bytes.reachable reachable refl refl

pub unmarked_reachable_read : ReadsCertificate (calling []) bytes.reachable (Ok reachable)
unfolding certificates_on_texts
unmarked_reachable_read = certificate_read (calling []) bytes.reachable reachable refl refl

pub after_a_restart_read : ReadsCertificate (calling []) bytes.after_a_restart (Ok after_a_restart)
unfolding certificates_on_texts
after_a_restart_read = certificate_read (calling []) bytes.after_a_restart after_a_restart refl refl

pub in_idle_read : ReadsCertificate (calling []) bytes.in_idle (Ok in_idle)
unfolding certificates_on_texts
in_idle_read = certificate_read (calling []) bytes.in_idle in_idle refl refl

pub at_rest_read : ReadsCertificate recovering bytes.at_rest (Ok at_rest)
unfolding certificates_on_texts
at_rest_read = certificate_read recovering bytes.at_rest at_rest refl refl

pub renewing_read : ReadsCertificate renewing bytes.renewing (Ok renewing_entries)
unfolding certificates_on_texts
renewing_read = certificate_read renewing bytes.renewing renewing_entries refl refl

pub unarmed_read : ReadsCertificate unarmed bytes.unarmed (Ok unarmed_entries)
unfolding certificates_on_texts
unarmed_read = certificate_read unarmed bytes.unarmed unarmed_entries refl refl

pub created_twice_read : ReadsCertificate created_twice bytes.created_twice (Ok created_twice_entries)
unfolding certificates_on_texts
created_twice_read = certificate_read created_twice bytes.created_twice created_twice_entries refl refl

pub name_kept_read : ReadsCertificate name_kept bytes.name_kept (Ok name_kept_entries)
unfolding certificates_on_texts
name_kept_read = certificate_read name_kept bytes.name_kept name_kept_entries refl refl

pub dials_read : ReadsCertificate dials bytes.dials (Ok dial_entries)
unfolding certificates_on_texts
dials_read = certificate_read dials bytes.dials dial_entries refl refl
