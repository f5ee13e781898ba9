use Rattle.std.proofs.Common.{◌≡◌, map, drop}
use Rattle.scriptreader.specs.Texts.{options_from, no_options}
use Rattle.scriptreader.proofs.commands.options.Given as goal

abbrev pub invariant-loop-word : goal.invariant-loop-word
invariant-loop-word l = options_from l.options (map (λ w. w.now) (drop l.word-index l.words)) ≡ options_from no_options (map (λ w. w.now) l.words)
