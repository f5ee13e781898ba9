-- No bit of the mask differs.
use Rattle.std.proofs.Common.{refl}
use Rattle.configuration.specs.Regions.{agrees}
use Rattle.entry_table.proofs.fixed_bits.FixedBits.agrees.Goals as goal

pub returns : goal.returns
unfolding agrees
returns c = refl
