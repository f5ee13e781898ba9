-- No line lets media in; or media stays at lines; or it crosses.
use Rattle.configuration.specs.Config.{configuration_of}
use Rattle.configuration.proofs.SlotLemmas.{absent_past_eight}
use Rattle.configuration.proofs.WayLemmas.{no_ways, rows_are_ways, uncrossed_ways}
use Rattle.configuration.proofs.config.paths.Ways.of.Goals as goal

pub returns-then-not-lets_media_in : goal.returns-then-not-lets_media_in
returns-then-not-lets_media_in c = no_ways (configuration_of c.args.config.now) (c.lets_media_in.ensures c.if-not-lets_media_in.true)

pub returns-then-stays_at_lines : goal.returns-then-stays_at_lines
returns-then-stays_at_lines c =
    rows_are_ways (configuration_of c.args.config.now) c.line_rows-lines.result c.line_rows-lines.ensures (absent_past_eight c.args.config.now)
    (λ i hi k hk. c.stays_at_lines.ensures c.if-stays_at_lines.true i k hi hk)

pub returns-then-crossings-eq0 : goal.returns-then-crossings-eq0
returns-then-crossings-eq0 c =
    uncrossed_ways (configuration_of c.args.config.now) c.line_rows-lines.result c.line_rows-lines.ensures (absent_past_eight c.args.config.now)
    c.crossings-crossings.result c.crossings-crossings.ensures c.if-crossings-eq0.true

pub returns : goal.returns
returns c =
    c.all_heard.ensures (configuration_of c.args.config.now) c.rows.ensures c.crossings-crossings.ensures (absent_past_eight c.args.config.now)
