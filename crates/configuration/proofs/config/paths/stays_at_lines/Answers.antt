-- Four fields without a bit.
use Rattle.configuration.proofs.WayLemmas.{four_stay}
use Rattle.configuration.proofs.config.paths.stays_at_lines.Goals as goal

pub returns : goal.returns
returns c holds i k hi hk =
    four_stay c.args.rows c.field.result c.field-2.result c.field-3.result c.field-4.result c.field.ensures.value c.field-2.ensures.value c.field-3.ensures.value
    c.field-4.ensures.value holds i k hi hk
