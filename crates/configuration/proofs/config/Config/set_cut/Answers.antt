-- A pair is cut where its bit is set.
use Rattle.configuration.proofs.CutSetLemmas.{cut-set}
use Rattle.configuration.proofs.config.Config.set_cut.Goals as goal

pub returns : goal.returns
returns c =
    let put = rw (c.pair_place-place.ensures.value, c.place_of.ensures.value, c.place_of-2.ensures.value, c.cuts_word.ensures.value) at c.put-word.ensures in
    rw c.set_cuts_word.ensures (cut-set c.args.self.now c.put-word.result _ c.args.source c.args.sink c.args.cut
    (rw c.place_of.ensures.value at c.place_of.ensures.small) (rw c.place_of-2.ensures.value at c.place_of-2.ensures.small)
    put (rw c.flag_code.ensures.value c.flag_code.ensures.back))
