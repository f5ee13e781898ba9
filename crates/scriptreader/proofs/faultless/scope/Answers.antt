use Rattle.scriptreader.proofs.Scopes.{scope_is}
use Rattle.scriptreader.proofs.faultless.scope.Goals as goal

pub returns : goal.returns
returns c = scope_is c.args.document.now _ c.in_ok-scope.ensures c.requires
