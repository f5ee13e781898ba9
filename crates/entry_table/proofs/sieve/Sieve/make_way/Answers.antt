-- Where no member is kept apart, the numbers don't matter.
use Rattle.std.proofs.Common.{◌∙◌, ap}
use Rattle.entry_table.specs.Sieves.{Sieve, passes}
use Rattle.entry_table.proofs.SieveLemmas.{any_allowed}
use Rattle.entry_table.proofs.sieve.Sieve.make_way.Goals as goal

pub returns-clause-same : goal.returns-clause-same
returns-clause-same c member w below =
    let inside = c.self-2.inside in
    any_allowed (record { word = inside.word; at = inside.at; bits = inside.bits; rows = inside.rows; members = inside.members; allowed = inside.allowed })
    c.args.allowed member w (ap (λ (s : Sieve). s.members) c.self-2.view_is ∙ c.flush.ensures.none)
    ∙ ap (λ (s : Sieve). passes s member w) c.self-2.view_is ∙ c.flush.ensures.same member w below
