-- An ephemeral has the mode that its field says.
use Rattle.configuration.proofs.EphemeralSetLemmas.{ephemeral_mode-set}
use Rattle.configuration.proofs.config.Config.set_ephemeral_mode.Goals as goal

pub returns : goal.returns
returns c =
    let put = rw (c.ephemeral_place-place.ensures.value, c.ephemerals_word.ensures.value) at c.put-word.ensures in
    rw c.set_ephemerals_word.ensures (ephemeral_mode-set c.args.self.now c.put-word.result c.args.ephemeral _ c.args.mode c.ephemeral_place-place.ensures.slot put (rw c.mode_code.ensures.value c.mode_code.ensures.back))
