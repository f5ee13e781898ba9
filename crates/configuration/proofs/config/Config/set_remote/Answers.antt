-- An ephemeral has the Remote that its field says.
use Rattle.configuration.proofs.EphemeralSetLemmas.{remote-set}
use Rattle.configuration.proofs.config.Config.set_remote.Goals as goal

pub returns : goal.returns
returns c =
    let put = rw (c.ephemeral_place-place.ensures.value, c.ephemerals_word.ensures.value) at c.put-word.ensures in
    rw c.set_ephemerals_word.ensures (remote-set c.args.self.now c.put-word.result c.args.ephemeral _ c.args.remote c.ephemeral_place-place.ensures.slot put (rw c.remote_code.ensures.value c.remote_code.ensures.back))
