-- The value is one with this status and these members.
use Rattle.check_lines.specs.Replies.{line_of}
use Rattle.check_facts.proofs.Saying.{of_value}
use Rattle.check_facts.proofs.said.in_value.Goals as goal

pub returns : goal.returns
returns c = of_value (line_of c.args.reply.now) c.args.code c.args.members.now c.value_of.result c.value_of.ensures
