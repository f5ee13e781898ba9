-- One entry more narrows its list; at the end, all have.
use Rattle.std.proofs.Common.{◌∙◌, length, refl}
use Rattle.std.specs.List.{slice_index_or}
use Rattle.std.proofs.lemmas.Option.{slice_get-get_or, slice_get_read}
use Rattle.entry_table.proofs.SievedLemmas.{one_sieved, all_sieved, same_sieved}
use Rattle.entry_table.proofs.sieved.sieves_for.Goals as goal

pub loop-number-preserved : goal.loop-number-preserved
loop-number-preserved c =
    let entries = c.args.entries.now in
    let places = c.args.places.now in
    let i = c.loop-number.number in
    let place = slice_index_or places i 0 in
    let within = c.loop-number-test.true in
    let entry = c.index-entries-place.result in
    record {
      count = c.narrow_by.ensures.count ∙ c.loop-number.invariant.count;
      sieved = one_sieved entries places c.loop-number.sieves c.narrow_by.new.sieves i place entry (slice_get-get_or places i 0 within)
          (slice_get_read entries (length entries) place entry refl (c.requires i 0 within) c.index-entries-place.is)
          c.in_ok-narrow_by.ensures.here c.in_ok-narrow_by.ensures.others c.loop-number.invariant.sieved;
    }

pub returns : goal.returns
returns c =
    let entries = c.args.entries.now in
    let places = c.args.places.now in
    same_sieved entries places c.loop-number.sieves c.settle.new.self c.settle.ensures.left c.settle.ensures.count
    (all_sieved entries places c.loop-number.sieves c.loop-number.number c.loop-number-test.false c.loop-number.invariant.count c.loop-number.invariant.sieved)
