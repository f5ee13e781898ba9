use Rattle.std.proofs.Common.{None, Bool, List, ℕ, sym, ap, lit<}
use Rattle.std.proofs.lemmas.Str.Pattern.{strip_prefix_char}
use Rattle.scriptreader.proofs.Signs.{unmarked}
use Rattle.scriptreader.proofs.texts.marked.Goals as goal

pub returns-in-None-clause-mark : goal.returns-in-None-clause-mark
returns-in-None-clause-mark c =
    let never = strip_prefix_char 36 c.args.text.now None c.in-None.ensures.cases (lit< tt) in
    sym (ap (λ (p : Bool × List ℕ). p.0) (unmarked c.args.text.now never))

pub returns-in-None-clause-rest : goal.returns-in-None-clause-rest
returns-in-None-clause-rest c =
    let never = strip_prefix_char 36 c.args.text.now None c.in-None.ensures.cases (lit< tt) in
    sym (ap (λ (p : Bool × List ℕ). p.1) (unmarked c.args.text.now never))
