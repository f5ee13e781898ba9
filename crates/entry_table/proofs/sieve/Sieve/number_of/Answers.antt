-- The number's row has all of the members, and the other rows have none.
use Rattle.std.proofs.Common.{◌∙◌, ◌==◌, ap, sym}
use Rattle.entry_table.specs.Sieves.{Sieve, number_in, passes}
use Rattle.entry_table.proofs.SieveLemmas.{same_number, wants_number}
use Rattle.entry_table.proofs.sieve.Sieve.number_of.Goals as goal

pub returns-clause-alone : goal.returns-clause-alone
returns-clause-alone c member w below has_member =
    let inside = c.whole.inside in
    let number = c.in_ok-number.number in
    sym (c.whole-whole.ensures.same member w below) ∙ sym (ap (λ (s : Sieve). passes s member w) c.whole.view_is)
    ∙ wants_number (record { word = inside.word; at = inside.at; bits = inside.bits; rows = inside.rows; members = inside.members; allowed = inside.allowed })
    c.args.members number member w c.in_ok-number.ensures.all (c.is_alone.ensures c.if-not-is_alone.false)
    (ap (λ (s : Sieve). s.members) c.whole.view_is ∙ c.whole-whole.ensures.none) has_member
    ∙ ap (λ n. n == number) (ap (λ (s : Sieve). number_in s w) c.whole.view_is ∙ same_number c.whole-whole.result c.args.self.now w c.whole-whole.ensures.field)
