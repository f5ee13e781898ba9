-- The line of the reply, or that there is no memory.
use Rattle.std.proofs.Common.{◌≡◌, ◌∙◌, refl, inl, inr}
use Rattle.check_lines.specs.Output.{line, no_memory, written}
use Rattle.check_lines.specs.Replies.{line_of}
use Rattle.check_lines.proofs.Told.{told}
use Rattle.check_lines.proofs.telling.write_reply.Goals as goal

pub returns-in-Ok-clause-line : goal.returns-in-Ok-clause-line
returns-in-Ok-clause-line g c =
    let said = line_of c.args.reply.now in
    let is : c.as_bytes.result.now ≡ written (line said) = c.as_bytes.ensures.value ∙ c.in-Ok.ensures.ok in
    (said, inl refl, told _ _ _ (line said) _ _ is c.status.ensures c.send.ensures.line)

pub returns-in-Err-clause-line : goal.returns-in-Err-clause-line
returns-in-Err-clause-line g c =
    (no_memory, inr refl, told _ _ (written (line no_memory)) (line no_memory) _ _ refl refl c.send-in-Err.ensures.line)
