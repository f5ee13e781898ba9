-- An object's keys are checked one by one.
use Rattle.std.proofs.Common.{◌∙◌, ap, map}
use Rattle.std.specs.Prelude.{false}
use Rattle.std.specs.Option.{option_map_or}
use Rattle.certificate.specs.Keys.{are_keys}
use Rattle.certificate.proofs.Trees.{keys_checked}
use Rattle.certificate.proofs.reads.has_only.Goals as goal

pub returns-in-Some : goal.returns-in-Some
returns-in-Some c =
    let keys = map (λ k. k.now) c.args.keys.now in
    c.are_keys.ensures ∙ keys_checked keys c.in-Some.object.now.entries
    ∙ ap (λ o. option_map_or (are_keys keys) o false) c.in-Some.ensures
