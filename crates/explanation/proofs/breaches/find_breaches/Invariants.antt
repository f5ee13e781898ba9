-- What was found so far, with what is picked of what is left, is what is picked of all.
use Rattle.std.proofs.Common.{drop}
use Rattle.configuration.specs.Config.{configuration_of}
use Rattle.explanation.proofs.Picked.{ArePickedWith}
use Rattle.explanation.proofs.breaches.find_breaches.Given as goal

abbrev pub invariant-loop-breach : goal.invariant-loop-breach
invariant-loop-breach l =
    ArePickedWith l.script (configuration_of l.config) l.breach-items (drop l.breach-index l.breach-items) l.found.items
