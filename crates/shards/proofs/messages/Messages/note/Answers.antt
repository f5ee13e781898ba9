use Rattle.std.proofs.Common.{◌≡◌, ◌∙◌}
use Rattle.shards.specs.Messages.{placed, note_numbers, AreNumberedFrom}
use Rattle.shards.proofs.messages.Messages.note.Goals as goal
use Rattle.shards.proofs.NumberLemmas.{note_found}
use Rattle.shards.specs.Messages.{MessagesValue}
use Rattle.std.proofs.Common.{sym, subst, ap}

-- each stands at the place of its number
pub returns : goal.returns
returns c =
    c.numbered.ensures ∙ ap (λ notes. placed 1 notes c.args.number) same ∙ sym (note_found c.args.number c.args.self.now.sent.notes
    (subst (λ (v : MessagesValue). AreNumberedFrom 1 (note_numbers v.sent.notes)) c.self.view_is c.self.invariant.1))
  where
    same : c.as_slice.result.now ≡ c.args.self.now.sent.notes
    same = c.as_slice.ensures.value ∙ ap (λ (v : MessagesValue). v.sent.notes) c.self.view_is
