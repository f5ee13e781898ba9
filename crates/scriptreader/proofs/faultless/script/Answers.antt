use Rattle.scriptreader.proofs.Meanings.{never_lacks, lacks_none}
use Rattle.scriptreader.proofs.faultless.script.Goals as goal

pub unreachable-requires : goal.unreachable-requires
unreachable-requires c =
    never_lacks c.args.document.now c.requires.faultless c.args.scope.now c.requires.scope (lacks_none c.in-Err-Nothing.field-0 _ c.in-Err-Nothing.field-0-is c.in-Err-Nothing.ensures)
