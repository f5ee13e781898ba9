-- One member more is kept apart with the set's numbers.
use Rattle.std.proofs.Common.{◌∙◌, ◌==◌, ◌&&◌, ◌||◌, not, ap}
use Rattle.configuration.specs.Regions.{is_in}
use Rattle.entry_table.specs.Sieves.{Sieve, passes}
use Rattle.entry_table.proofs.SieveLemmas.{one_more_member}
use Rattle.entry_table.proofs.sieve.Sieve.narrow.Goals as goal

pub returns : goal.returns
returns c other w below =
    let inside = c.self.inside in
    let set = c.args.set.now in
    let more = not (other == c.args.member) || is_in set w in
    let way = c.make_way.ensures in
    one_more_member (record { word = inside.word; at = inside.at; bits = inside.bits; rows = inside.rows; members = inside.members; allowed = inside.allowed })
    c.args.member other w set c.requires.member (ap (λ (s : Sieve). s.allowed) c.self.view_is ∙ way.allowed ∙ c.allowed.ensures) (record {
      word = ap (λ (s : Sieve). s.word) c.self.view_is ∙ way.field.word ∙ c.requires.field.word;
      at = ap (λ (s : Sieve). s.at) c.self.view_is ∙ way.field.at ∙ c.requires.field.at;
      bits = ap (λ (s : Sieve). s.bits) c.self.view_is ∙ way.field.bits ∙ c.requires.field.bits;
    })
    ∙ ap (λ b. b && more) (ap (λ (s : Sieve). passes s other w) c.self.view_is ∙ way.same other w below)
