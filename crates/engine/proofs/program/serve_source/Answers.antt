-- An input that is too long, and one for which there is no memory.
use Rattle.std.proofs.Common.{◌≡◌, ◌+◌, Option, length, refl, arith, lt-ltb, inl}
use Rattle.program_rim.specs.declared.input.TheConstants.{INPUT_LIMIT}
use Rattle.program_rim.specs.declared.words.Request.{Request}
use Rattle.engine.specs.Engine.{IsOutputOfInput}
use Rattle.check_lines.specs.Output.{Text, line, too_long}
use Rattle.check_lines.proofs.Told.{serves, serves_none}
use Rattle.engine.proofs.program.serve_source.Goals as goal

past_limit : (request : Request) (input : Text) (left : Option Text) → length input ≡ INPUT_LIMIT + 1 → IsOutputOfInput request input left (line too_long)
past_limit request input left is = rw (lt-ltb INPUT_LIMIT (length input) (omega (arith, is))) (is, refl)

pub returns-in-TooLong-clause-output : goal.returns-in-TooLong-clause-output
returns-in-TooLong-clause-output g c =
    let contents = g.W.Sink.contents in
    let taken = c.in-TooLong.ensures.bytes in
    let left = g.S.Source.remaining c.read_all.new.source in
    inl (
      taken.0,
      taken.1,
      serves (IsOutputOfInput c.args.request taken.0 left) too_long (contents c.args.sink.now) (contents c.write_reply.new.sink) c.write_reply.result
          (past_limit c.args.request taken.0 left taken.2) c.write_reply.ensures.line,
    )

pub returns-in-NoMemory-clause-output : goal.returns-in-NoMemory-clause-output
returns-in-NoMemory-clause-output g c =
    let contents = g.W.Sink.contents in
    let taken = c.in-NoMemory.ensures.bytes in
    let left = g.S.Source.remaining c.read_all.new.source in
    inl (
      taken.0,
      taken.1,
      serves_none (IsOutputOfInput c.args.request taken.0 left) (contents c.args.sink.now) (contents c.write_reply-in-NoMemory.new.sink)
          c.write_reply-in-NoMemory.result c.write_reply-in-NoMemory.ensures.line,
    )
