-- What is seen is shown, and the other way round.
use Rattle.std.proofs.Common.{List, rules, subst, sym}
use Rattle.closure.proofs.FindingLemmas.{refuted}
use Rattle.configuration.specs.Packed.{Words}
use Rattle.call_ways.specs.Ways.{AreAll}
use Rattle.call_ways.specs.Seen.{IsSeen}
use Rattle.call_ways.proofs.Below.{not_says}
use Rattle.call_ways.proofs.Reaching.{seen_is_shown}
use Rattle.call_ways.proofs.warnings.is_shown_without.Goals as goal

pub returns-then-not-branch : goal.returns-then-not-branch
returns-then-not-branch c = λ entries all.
    let script = c.args.script.now in
    let configs : List Words = c.configs.result.now in
    let these = subst (AreAll script entries) (sym c.configs.ensures) all in (
      (λ bad. absurd (search rules)),
      (λ is. absurd (refuted c.in_ok-is_seen.field-0 c.if-not-branch.true
          (c.in_ok-is_seen.ensures.1 ((seen_is_shown script entries configs these c.args.one.now).1 is.0)))),
    )

pub returns : goal.returns
returns c = λ entries all.
    let script = c.args.script.now in
    let one_of : List Words = c.configs.result.now in
    let these = subst (AreAll script entries) (sym c.configs.ensures) all in
    let one = (seen_is_shown script entries one_of these c.args.one.now).0 (c.in_ok-is_seen.ensures.0 c.if-not-branch.false) in
    let configs : List Words = c.configs-2.result.now in
    let those = subst (AreAll script entries) (sym c.configs-2.ensures) all in
    let same = seen_is_shown script entries configs those c.args.other.now in
    let says = not_says c.in_ok-is_other.is_other (IsSeen script configs c.args.other.now) c.in_ok-is_other.ensures in
    ((λ told. (one, (λ shown. says.0 told (same.1 shown)))), (λ is. says.1 (λ seen. is.1 (same.0 seen))))
