-- There are no three sections.
use Rattle.std.proofs.Common.{refl, subst}
use Rattle.engine.specs.Engine.{IsRunOutput}
use Rattle.check_lines.specs.Output.{line, sections}
use Rattle.program_rim.specs.Sections.{sections_of, triple_of}
use Rattle.check_lines.proofs.Told.{serves}
use Rattle.engine.proofs.program.serve_run.Goals as goal

pub returns-in-None-clause-output : goal.returns-in-None-clause-output
returns-in-None-clause-output g c =
    let contents = g.W.Sink.contents in
    serves (IsRunOutput c.args.workers (triple_of (sections_of c.args.input.now))) sections (contents c.args.sink.now) (contents c.write_reply.new.sink) c.write_reply.result
    (subst (λ parts. IsRunOutput c.args.workers parts (line sections)) c.in-None.ensures refl) c.write_reply.ensures.line
