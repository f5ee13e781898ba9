-- The line of a check is its output.
use Rattle.std.proofs.Common.{sym, subst}
use Rattle.engine.specs.Engine.{IsOutputOf}
use Rattle.check_lines.specs.Writing.{Serves}
use Rattle.check_lines.specs.Replies.{line_of}
use Rattle.program_rim.specs.declared.words.Request.{Request}
use Rattle.program_rim.specs.declared.words.Request.TheVariants.{Check}
use Rattle.check_lines.proofs.Told.{serves}
use Rattle.engine.proofs.program.serve_input.Goals as goal

pub returns-in-Check-clause-output : goal.returns-in-Check-clause-output
returns-in-Check-clause-output g c =
    let contents = g.W.Sink.contents in
    let old = contents c.args.sink.now in
    let new = contents c.write_reply.new.sink in
    subst (λ (request : Request). Serves (IsOutputOf request c.args.input.now) old new c.write_reply.result) (sym c.in-Check.is)
    (serves (IsOutputOf (Check c.in-Check.pieces) c.args.input.now) (line_of c.reply_to_check.result) old new c.write_reply.result c.reply_to_check.ensures c.write_reply.ensures.line)
