-- As the arrow tells; or there is no such arrow, or no command.
use Rattle.std.proofs.Common.{◌≡◌, List, Some, length, refl, rules}
use Rattle.std.specs.List.{slice_get}
use Rattle.std.proofs.lemmas.Option.{slice_get_read}
use Rattle.closure.proofs.FindingLemmas.{refuted}
use Rattle.call_ways.specs.declared.crossings.Crossing.{Crossing}
use Rattle.call_ways.proofs.Telling.{bare_is_none, empty_is, none_past}
use Rattle.call_ways.proofs.commands.is_request_empty.Goals as goal

pub returns-in_default : goal.returns-in_default
returns-in_default c = λ entries are. (
  λ bad. absurd (search rules),
  λ each. absurd (none_past c.args.script.now entries c.args.crossings.now are c.args.arrow each.arrow c.in_default.ensures.lookup.3 each.at_place),
)

pub returns-then-is_bare : goal.returns-then-is_bare
returns-then-is_bare c = λ entries are.
    let list : List Crossing = c.args.crossings.now in
    let told : Crossing = c.in-Some.crossing.now in
    let there : slice_get list c.args.arrow ≡ Some told =
    slice_get_read list (length list) c.args.arrow told refl c.in-Some.ensures.lookup.3.0 c.in-Some.ensures.lookup.1 in (
      λ bad. absurd (search rules),
      λ each. absurd (bare_is_none c.args.script.now entries list are c.args.arrow told there (c.is_bare.ensures.0 c.if-is_bare.true) each),
    )

pub returns : goal.returns
returns c = λ entries are.
    let list : List Crossing = c.args.crossings.now in
    let told : Crossing = c.in-Some.crossing.now in
    let there : slice_get list c.args.arrow ≡ Some told =
    slice_get_read list (length list) c.args.arrow told refl c.in-Some.ensures.lookup.3.0 c.in-Some.ensures.lookup.1 in
    empty_is c.args.script.now entries list are c.args.arrow told there c.is_first_alone.result
    (λ none. refuted c.is_bare.result c.if-is_bare.false (c.is_bare.ensures.1 none)) c.is_first_alone.ensures
