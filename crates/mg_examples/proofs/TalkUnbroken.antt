-- Where `talk` marks its two lines, the script in which line a goes off hook and the entries that hold all that is reachable break no
-- obligation.
use Rattle.std.specs.Prelude.{refl}
use Rattle.mg_examples.proofs.Words.{NoneBroken}
use Rattle.mg_examples.specs.TalkEntries.{reachable}
use Rattle.mg_examples.specs.TwoLines.{calling}
use Rattle.mg_examples.specs.TwoTalks.{both_lines}
use Rattle.mg_examples.proofs.Duties.{all_hold}
use Rattle.mg_examples.proofs.TalkEntries.{closed}

pub none_broken : NoneBroken (calling both_lines) reachable
none_broken = all_hold (calling both_lines) reachable (closed both_lines) refl refl refl refl
