use Rattle.std.proofs.Common.{sym, ◌∙◌, arith, take}
use Rattle.contexts.proofs.FoundLemmas.{differ_set, together}
use Rattle.contexts.proofs.found.Found.note.Goals as goal

pub invariant_of-self : goal.invariant_of-self
invariant_of-self c = (
  omega arith,
  omega arith,
  differ_set c.args.ephemeral c.self.inside.count c.self.inside.numbers (omega arith) c.self.invariant.2
      (together c.self.inside.next (take c.self.inside.count c.self.inside.numbers) c.args.ephemeral (rw (← c.self.view_is) at (sym c.has.ensures ∙ c.if-has.false))),
)
