-- Which line each reply of the code is.
use Rattle.std.specs.Prelude.{string_bytes}
use Rattle.std.specs.Option.{option_map}
use Rattle.check_lines.specs.declared.answer.Broken.{Broken}
use Rattle.check_lines.specs.declared.answer.Answer.{Answer}
use Rattle.check_lines.specs.declared.answer.Answer.TheVariants as answer
use Rattle.check_lines.specs.declared.reply.InputFault.{InputFault}
use Rattle.check_lines.specs.declared.reply.InputFault.TheVariants as input
use Rattle.check_lines.specs.declared.reply.Reply.{Reply}
use Rattle.check_lines.specs.declared.reply.Reply.TheVariants as reply
use Rattle.check_lines.specs.Output.{Line, usage, sections, too_long, script_fault, certificate_fault, plan_fault, run_fault, yes, no, no_memory}

abbrev pub broken_line : Broken → Line
broken_line broken =
    no broken.obligation broken.entry broken.point (option_map string_bytes broken.step)

abbrev pub answer_line : Answer → Line
answer_line (answer.Yes states entries points) = yes states entries points
answer_line (answer.No broken) = broken_line broken
answer_line (answer.ScriptFault number name) = script_fault number name.now
answer_line (answer.CertificateFault number name) = certificate_fault number name.now
answer_line answer.NoMemory = no_memory

abbrev pub input_line : InputFault → Line
input_line input.Sections = sections
input_line input.TooLong = too_long

abbrev pub line_of : Reply → Line
line_of reply.Usage = usage
line_of (reply.Input fault) = input_line fault
line_of (reply.Checked answer) = answer_line answer
line_of (reply.PlanFault number name) = plan_fault number name.now
line_of (reply.RunFault number name) = run_fault number name.now
