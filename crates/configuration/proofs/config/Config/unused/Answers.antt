-- Line by line, what is made is the unused configuration.
use Rattle.configuration.proofs.UnusedLemmas.{made_unused}
use Rattle.configuration.proofs.config.Config.unused.Goals as goal

pub returns : goal.returns
returns c = made_unused _ _ _ _ _ _ _ _ _ _ _ c.requires c.blank-config.ensures c.set_state.ensures c.set_link.ensures
    (rw c.all-slots.ensures at c.set_unused_line.ensures) (rw c.all-slots.ensures at c.set_unused_line-2.ensures)
    (rw c.all-slots.ensures at c.set_unused_line-3.ensures) (rw c.all-slots.ensures at c.set_unused_line-4.ensures)
