-- Words that ask for nothing, and words for which there is no memory.
use Rattle.std.proofs.Common.{◌≡◌, Option, None, [], map, string_bytes, refl, sym, subst, inl}
use Rattle.std.proofs.KnownBytes.{Consumes-nil}
use Rattle.program_rim.specs.Words.{MatchFault, request_of}
use Rattle.program_rim.specs.declared.words.Request.{Request}
use Rattle.engine.specs.Engine.{IsOutputOfRequest}
use Rattle.check_lines.specs.Output.{line, usage}
use Rattle.check_lines.proofs.Told.{serves, serves_none}
use Rattle.engine.proofs.program.engine.Goals as goal

pub returns-in-Err-Refused-clause-output : goal.returns-in-Err-Refused-clause-output
returns-in-Err-Refused-clause-output g c =
    let contents = g.W.Sink.contents in
    let left = g.S.Source.remaining c.args.source.now in
    let words = map string_bytes c.args.words.now in
    let none : request_of words ≡ None = subst (λ fault. MatchFault fault (request_of words ≡ None)) c.in-Err-Refused.field-0-is c.in-Err-Refused.ensures in
    inl (
      [],
      Consumes-nil left,
      serves (IsOutputOfRequest (request_of words) [] left) usage (contents c.args.sink.now) (contents c.write_reply.new.sink) c.write_reply.result
          (subst (λ (request : Option Request). IsOutputOfRequest request [] left (line usage)) (sym none) (refl, refl)) c.write_reply.ensures.line,
    )

pub returns-in-Err-NoMemory-clause-output : goal.returns-in-Err-NoMemory-clause-output
returns-in-Err-NoMemory-clause-output g c =
    let contents = g.W.Sink.contents in
    let left = g.S.Source.remaining c.args.source.now in
    let words = map string_bytes c.args.words.now in
    inl (
      [],
      Consumes-nil left,
      serves_none (IsOutputOfRequest (request_of words) [] left) (contents c.args.sink.now) (contents c.write_reply-in-Err-NoMemory.new.sink)
          c.write_reply-in-Err-NoMemory.result c.write_reply-in-Err-NoMemory.ensures.line,
    )
