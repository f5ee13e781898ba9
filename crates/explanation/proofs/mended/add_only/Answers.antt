-- It is one more.
use Rattle.std.proofs.Common.{List, ◌∙◌, sym, subst, ap}
use Rattle.configuration.specs.Config.{configuration_of}
use Rattle.entry_table.specs.Shown.{shown_all}
use Rattle.entry_table.specs.declared.component.Component.{Component}
use Rattle.explanation.specs.Alone.{AreOnly, bare_all}
use Rattle.explanation.proofs.Bared.{bare_more}
use Rattle.explanation.proofs.Single.{only_more}
use Rattle.explanation.proofs.mended.add_only.Goals as goal

pub returns : goal.returns
returns c =
    let C = configuration_of c.args.config.now in
    record {
      only = subst (λ (xs : List Component). AreOnly C (shown_all xs)) (sym c.in_ok-push.ensures.items)
          (only_more C c.args.components.now.items c.args.component c.requires.so_far c.requires.only);
      adds = ap bare_all c.in_ok-push.ensures.items ∙ bare_more c.args.components.now.items c.args.component;
    }
