use Rattle.std.proofs.Common.{length, arith, ap, sym, ◌∙◌}
use Rattle.scriptreader.specs.Meaning.{events_list_for, state_for}
use Rattle.scriptreader.proofs.SmallDocuments.{small}
use Rattle.scriptreader.proofs.Lengths.{each_length}
use Rattle.scriptreader.proofs.build.script_in.Goals as goal

pub new-requires-clause-lines : goal.new-requires-clause-lines
new-requires-clause-lines c =
    let few = small c.args.document.now (sym c.is_too_large.ensures ∙ c.if-is_too_large.false) in
    omega (arith, few.lines, ap (λ ts. length ts) c.in_ok-lines.ensures, ap (λ ts. length ts) c.as_slice-5.ensures.value, ap (λ d. length d.lines) c.document.view_is)

pub new-requires-clause-contexts : goal.new-requires-clause-contexts
new-requires-clause-contexts c =
    let few = small c.args.document.now (sym c.is_too_large.ensures ∙ c.if-is_too_large.false) in
    omega (arith, few.contexts, ap (λ ts. length ts) c.in_ok-contexts.ensures, ap (λ ts. length ts) c.as_slice-6.ensures.value, ap (λ d. length d.contexts) c.document.view_is)

pub new-requires-clause-ephemerals : goal.new-requires-clause-ephemerals
new-requires-clause-ephemerals c =
    let few = small c.args.document.now (sym c.is_too_large.ensures ∙ c.if-is_too_large.false) in
    omega (arith, few.ephemerals, ap (λ ts. length ts) c.in_ok-ephemerals.ensures, ap (λ ts. length ts) c.as_slice-7.ensures.value, ap (λ d. length d.ephemerals) c.document.view_is)

pub new-requires-clause-lists : goal.new-requires-clause-lists
new-requires-clause-lists c =
    let few = small c.args.document.now (sym c.is_too_large.ensures ∙ c.if-is_too_large.false) in
    omega (arith, few.events, each_length (events_list_for c.args.scope.now) _ _ c.in_ok-lists.ensures, ap (λ ts. length ts) c.as_slice.ensures.value, ap (λ d. length d.events) c.document.view_is)

pub new-requires-clause-states : goal.new-requires-clause-states
new-requires-clause-states c =
    let few = small c.args.document.now (sym c.is_too_large.ensures ∙ c.if-is_too_large.false) in
    omega (arith, few.states, each_length (state_for c.args.scope.now) _ _ c.in_ok-states.ensures, ap (λ ts. length ts) c.as_slice-3.ensures.value, ap (λ d. length d.states) c.document.view_is)
