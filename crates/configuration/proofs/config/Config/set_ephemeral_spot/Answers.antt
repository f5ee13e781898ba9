-- An ephemeral stands where its field says.
use Rattle.configuration.proofs.EphemeralSetLemmas.{ephemeral_spot-set}
use Rattle.configuration.proofs.config.Config.set_ephemeral_spot.Goals as goal

pub returns : goal.returns
returns c =
    let put = rw (c.ephemeral_place-place.ensures.value, c.ephemerals_word.ensures.value) at c.put-word.ensures in
    rw c.set_ephemerals_word.ensures (ephemeral_spot-set c.args.self.now c.put-word.result c.args.ephemeral _ c.args.spot c.ephemeral_place-place.ensures.slot put (rw c.ephemeral_spot_code.ensures.value c.ephemeral_spot_code.ensures.back))
