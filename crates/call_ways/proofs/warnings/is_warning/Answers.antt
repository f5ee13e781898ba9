-- Each warning by what the calls of its case tell.
use Rattle.std.proofs.Common.{◌↔◌, Bool, not, IsTrue, sym, subst}
use Rattle.call_ways.specs.declared.warning.Warning.{Warning}
use Rattle.call_ways.specs.declared.warning.Warning.TheVariants as warning
use Rattle.call_ways.specs.Warnings.{IsWarning}
use Rattle.call_ways.proofs.Warned.{entry_held, entry_unreached, told_of}
use Rattle.call_ways.proofs.warnings.is_warning.Goals as goal

pub returns-in-StateNeverLeft : goal.returns-in-StateNeverLeft
returns-in-StateNeverLeft c =
    told_of c.args.script.now c.args.cert.now c.args.reached.now c.requires.all c.is_never_left.result (warning.StateNeverLeft c.in-StateNeverLeft.state)
    c.args.warning.now c.in-StateNeverLeft.is c.is_never_left.ensures

pub returns-in-ArrowUnused : goal.returns-in-ArrowUnused
returns-in-ArrowUnused c =
    let arrow = c.in-ArrowUnused in
    told_of c.args.script.now c.args.cert.now c.args.reached.now c.requires.all c.is_arrow_unused.result
    (warning.ArrowUnused arrow.state arrow.line arrow.kind) c.args.warning.now arrow.is c.is_arrow_unused.ensures

pub returns-in-NoteSwallowed : goal.returns-in-NoteSwallowed
returns-in-NoteSwallowed c =
    let note = c.in-NoteSwallowed in
    told_of c.args.script.now c.args.cert.now c.args.reached.now c.requires.all c.is_note_swallowed.result
    (warning.NoteSwallowed note.state note.line note.kind) c.args.warning.now note.is c.is_note_swallowed.ensures

pub returns-in-MarkUnneeded : goal.returns-in-MarkUnneeded
returns-in-MarkUnneeded c =
    let mark = c.in-MarkUnneeded in
    told_of c.args.script.now c.args.cert.now c.args.reached.now c.requires.all c.is_shown_without.result (warning.MarkUnneeded mark.state mark.pair)
    c.args.warning.now mark.is c.is_shown_without.ensures

pub returns-in-LineDeaf : goal.returns-in-LineDeaf
returns-in-LineDeaf c =
    let deaf = c.in-LineDeaf in
    told_of c.args.script.now c.args.cert.now c.args.reached.now c.requires.all c.is_line_deaf.result (warning.LineDeaf deaf.state deaf.line)
    c.args.warning.now deaf.is c.is_line_deaf.ensures

pub returns-in-EntryUnreached : goal.returns-in-EntryUnreached
returns-in-EntryUnreached c =
    subst (λ (w : Warning). IsTrue (not c.has_point.result) ↔ IsWarning c.args.script.now c.args.cert.now w) (sym c.in-EntryUnreached.is)
    (entry_unreached c.args.script.now c.args.cert.now c.has_point.result c.in-EntryUnreached.place
    (c.has_point.ensures c.args.script.now c.requires.all))

pub returns-in-EntryHeld : goal.returns-in-EntryHeld
returns-in-EntryHeld c =
    subst (λ (w : Warning). IsTrue c.is_some.result ↔ IsWarning c.args.script.now c.args.cert.now w) (sym c.in-EntryHeld.is)
    (subst (λ (b : Bool). IsTrue b ↔ IsWarning c.args.script.now c.args.cert.now (warning.EntryHeld c.in-EntryHeld.place)) (sym c.is_some.ensures)
    (entry_held c.args.script.now c.args.cert.now c.find_holder.result c.in-EntryHeld.place c.find_holder.ensures.some c.find_holder.ensures.none))

pub returns-in-CommandUnsent : goal.returns-in-CommandUnsent
returns-in-CommandUnsent c =
    subst (λ (w : Warning). IsTrue c.is_unsent.result ↔ IsWarning c.args.script.now c.args.cert.now w) (sym c.in-CommandUnsent.is)
    (c.is_unsent.ensures c.args.script.now c.args.cert.now c.requires.crossings)

pub returns-in-CommandRefused : goal.returns-in-CommandRefused
returns-in-CommandRefused c =
    subst (λ (w : Warning). IsTrue c.is_refused.result ↔ IsWarning c.args.script.now c.args.cert.now w) (sym c.in-CommandRefused.is)
    (c.is_refused.ensures c.args.script.now c.args.cert.now c.requires.crossings)

pub returns-in-RequestEmpty : goal.returns-in-RequestEmpty
returns-in-RequestEmpty c =
    subst (λ (w : Warning). IsTrue c.is_request_empty.result ↔ IsWarning c.args.script.now c.args.cert.now w) (sym c.in-RequestEmpty.is)
    (c.is_request_empty.ensures c.args.cert.now c.requires.crossings)
