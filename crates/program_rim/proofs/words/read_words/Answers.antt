-- The words have a fault exactly where `clap` gives one.
use Rattle.std.proofs.Common.{◌≡◌, ◌∙◌, map, string_bytes, sym, ap, ap₂, inl, inr}
use Rattle.clap.specs.Words.{App, app_of, fault_of, is_simple, is_simple_and_free, subcommand_of}
use Rattle.program_rim.specs.Words.{mgcall_app, request_in, unless_faulty}
use Rattle.program_rim.proofs.Command.{mgcall_is_free, mgcall_is_simple, refused, accepted}
use Rattle.program_rim.proofs.words.read_words.Goals as goal

pub returns-in-Ok : goal.returns-in-Ok
returns-in-Ok c =
    let words = map string_bytes c.args.words.now in
    let app_is : app_of c.in_ok-command.command ≡ mgcall_app = c.in_ok-command.ensures in
    let none = c.in-Ok.ensures.kinds (ap is_simple_and_free app_is ∙ mgcall_is_free) in
    let met = c.in-Ok.ensures.matches (ap is_simple app_is ∙ mgcall_is_simple) in
    let met_here = met.1 ∙ ap (λ (a : App). subcommand_of a words) app_is in
    let none_here = sym (ap (λ (a : App). fault_of a words) app_is) ∙ none in
    rw c.ok_or.ensures.value (accepted words c.request_among.result
    (c.request_among.ensures ∙ ap₂ unless_faulty (sym none_here) (ap request_in met_here)))

pub returns : goal.returns
returns c =
    let words = map string_bytes c.args.words.now in
    let app_is : app_of c.in_ok-command.command ≡ mgcall_app = c.in_ok-command.ensures in
    let kinds = c.in-Err.ensures.kinds (ap is_simple_and_free app_is ∙ mgcall_is_free) in
    elim kinds [
      | inl memory ↦ absurd (c.in_default.not-OutOfMemory (c.kind.ensures ∙ memory))
      | inr among ↦ ap (λ (a : App). unless_faulty (fault_of a words) (request_in (subcommand_of mgcall_app words))) (sym app_is)
          ∙ refused _ _ _ among
    ]
