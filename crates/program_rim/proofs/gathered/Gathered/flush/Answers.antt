-- A front of what is gathered was written.
use Rattle.std.proofs.Common.{◌∙◌, take, subst}
use Rattle.std.proofs.lemmas.Result.{err_from_is_err_and}
use Rattle.std.specs.Io.KnownBytes.{Appends}
use Rattle.program_rim.proofs.Gathering.{failed}
use Rattle.program_rim.proofs.gathered.Gathered.flush.Goals as goal

pub returns-in_err-write_all-clause-bytes : goal.returns-in_err-write_all-clause-bytes
returns-in_err-write_all-clause-bytes g c =
    let p = err_from_is_err_and c.from_residual.result c.from_residual.ensures.1 in
    let old = g.W.Sink.contents c.args.sink.now in
    let new = g.W.Sink.contents c.write_all.new.sink in
    let sent = c.in_err-write_all.ensures.bytes in
    let appends = subst (λ text. Appends old new (take sent.0 text)) (c.as_bytes.ensures.value ∙ c.as_str.ensures.value ∙ c.self.view_is) sent.1 in
    let told = failed (Unit {0}) old new c.args.self.now c.args.self.now sent.0 tt appends in
    rw (p.1) (told.0, told.1, told.2, told.3, tt)
