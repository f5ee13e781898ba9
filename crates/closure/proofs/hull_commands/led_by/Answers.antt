-- The four context names are settled one after another.
use Rattle.std.proofs.Common.{map}
use Rattle.configuration.specs.Config.{configuration_of}
use Rattle.closure.proofs.HullPlaces.{all_led}
use Rattle.closure.proofs.hull_commands.led_by.Goals as goal

pub returns : goal.returns
returns c =
    all_led c.args.script.now (map configuration_of c.args.hull.now) c.args.command.now c.args.surviving.now (c.is_uniform.ensures c.if-not-is_uniform.false) c.in-Ok.made
    c.in-Ok.ensures (map configuration_of c.in-Ok-settled_at.one) (map configuration_of c.in-Ok-settled_at-2.two)
    (map configuration_of c.in-Ok-settled_at-3.three) (map configuration_of c.in-Ok-settled_at-4.four)
    (rw c.all.ensures at (c.in-Ok-settled_at.ensures c.args.script.now))
    (rw c.all.ensures at (c.in-Ok-settled_at-2.ensures c.args.script.now))
    (rw c.all.ensures at (c.in-Ok-settled_at-3.ensures c.args.script.now))
    (rw c.all.ensures at (c.in-Ok-settled_at-4.ensures c.args.script.now))
