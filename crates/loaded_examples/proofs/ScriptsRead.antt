-- The bytes of each script are read as its table: the reader's definitions compute it.
use Rattle.std.proofs.Common.{Ok, refl, []}
use Rattle.mg_examples.specs.Basic.{basic}
use Rattle.mg_examples.specs.BegunTalk.{renewing}
use Rattle.mg_examples.specs.CreatedTwice.{created_twice}
use Rattle.mg_examples.specs.Dials.{dials}
use Rattle.mg_examples.specs.NameStays.{name_stays}
use Rattle.mg_examples.specs.NamesKept.{name_kept}
use Rattle.mg_examples.specs.TwoLines.{calling, recovering}
use Rattle.mg_examples.specs.TwoTalks.{both_lines}
use Rattle.mg_examples.specs.Unarmed.{unarmed}
use Rattle.scriptreader.specs.Reading.{ReadsScript}
use Rattle.loaded_examples.specs.Scripts as bytes
use Rattle.loaded_examples.proofs.OnTexts.{scripts_on_texts, script_read}

pub basic_read : ReadsScript bytes.basic (Ok (basic both_lines))
unfolding scripts_on_texts
basic_read = script_read bytes.basic (basic both_lines) refl refl

pub calling_read : ReadsScript bytes.calling (Ok (calling both_lines))
unfolding scripts_on_texts
calling_read = script_read bytes.calling (calling both_lines) refl refl

pub unmarked_read : ReadsScript bytes.unmarked (Ok (calling []))
unfolding scripts_on_texts
unmarked_read = script_read bytes.unmarked (calling []) refl refl

pub recovering_read : ReadsScript bytes.recovering (Ok recovering)
unfolding scripts_on_texts
recovering_read = script_read bytes.recovering recovering refl refl

pub renewing_read : ReadsScript bytes.renewing (Ok renewing)
unfolding scripts_on_texts
renewing_read = script_read bytes.renewing renewing refl refl

pub unarmed_read : ReadsScript bytes.unarmed (Ok unarmed)
unfolding scripts_on_texts
unarmed_read = script_read bytes.unarmed unarmed refl refl

pub created_twice_read : ReadsScript bytes.created_twice (Ok created_twice)
unfolding scripts_on_texts
created_twice_read = script_read bytes.created_twice created_twice refl refl

pub name_kept_read : ReadsScript bytes.name_kept (Ok name_kept)
unfolding scripts_on_texts
name_kept_read = script_read bytes.name_kept name_kept refl refl

pub name_stays_read : ReadsScript bytes.name_stays (Ok name_stays)
unfolding scripts_on_texts
name_stays_read = script_read bytes.name_stays name_stays refl refl

pub dials_read : ReadsScript bytes.dials (Ok dials)
unfolding scripts_on_texts
dials_read = script_read bytes.dials dials refl refl
