-- Whether a telephone is forgotten is told by what was found of each line.
use Rattle.std.proofs.Common.{rules}
use Rattle.check_facts.proofs.Forgotten.{found_says}
use Rattle.check_facts.proofs.worth.find_worth.Goals as goal

pub returns : goal.returns
returns c =
    let are = rw c.in-Some-3.is at c.in_ok-telephones.ensures.some in
    record {
      warnings = search rules;
      endings = search rules;
      ending = search rules;
      telephones = are;
      forgotten = found_says c.args.script.now c.args.cert.now c.in-Some-3.telephones.items c.as_slice.result.now are c.as_slice.ensures.value
          c.has_forgotten-is_one_forgotten.result c.has_forgotten-is_one_forgotten.ensures;
    }
