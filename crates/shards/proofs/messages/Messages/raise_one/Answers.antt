use Rattle.std.proofs.Common.{◌∙◌, ◌+◌, [], ◌∷◌, length, List}
use Rattle.shards.specs.Messages.{note_numbers, AreNumberedFrom}
use Rattle.shards.proofs.messages.Messages.raise_one.Goals as goal
use Rattle.shards.proofs.NumberLemmas.{numbered_on}
use Rattle.shards.specs.Messages.{MessagesValue}
use Rattle.mg_model.specs.Messages.{SentNote}
use Rattle.std.proofs.Common.{sym, subst, ap, arith}

-- it has the number after the others
pub invariant_of-self : goal.invariant_of-self
invariant_of-self c = (
  c.self.invariant.0,
  subst (λ (notes : List SentNote). AreNumberedFrom 1 (note_numbers notes)) (sym c.push_reserved.ensures.items)
      (numbered_on (λ (n : SentNote). n.number) 1 c.self.inside.notes.items (c.args.note ∷ []) c.self.invariant.1
      (c.requires.numbered ∙ ap (λ (v : MessagesValue). length v.sent.notes + 1) (sym c.self.view_is) ∙ omega arith, tt)),
)
