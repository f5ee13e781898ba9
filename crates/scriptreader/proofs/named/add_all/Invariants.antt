use Rattle.std.proofs.Common.{◌≡◌, ◌++◌, map, drop}
use Rattle.typed_values.specs.Names.{repeats_after}
use Rattle.scriptreader.proofs.named.add_all.Given as goal

abbrev pub invariant-loop-item : goal.invariant-loop-item
invariant-loop-item g l =
    record {
      repeats : repeats_after l.names (map g.T.Named.called (drop l.item-index l.items)) ≡ repeats_after l.initial.names (map g.T.Named.called l.items);
      names : l.names ++ map g.T.Named.called (drop l.item-index l.items) ≡ l.initial.names ++ map g.T.Named.called l.items;
    }
