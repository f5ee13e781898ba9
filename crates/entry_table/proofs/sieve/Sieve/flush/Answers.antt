-- The rows tell what the members allow.
use Rattle.std.proofs.Common.{◌∙◌, ap, refl}
use Rattle.entry_table.specs.Sieves.{Sieve, passes}
use Rattle.entry_table.proofs.SieveLemmas.{flushed}
use Rattle.entry_table.proofs.sieve.Sieve.flush.Goals as goal

pub returns : goal.returns
returns c = record {
  same = λ member w below.
      let inside = c.self.inside in
      flushed (record { word = inside.word; at = inside.at; bits = inside.bits; rows = inside.rows; members = inside.members; allowed = inside.allowed })
      c.narrow_rows.new.rows member w below c.narrow_rows.ensures ∙ ap (λ (s : Sieve). passes s member w) c.self.view_is;
  none = refl;
  field = record {
    word = ap (λ (s : Sieve). s.word) c.self.view_is;
    at = ap (λ (s : Sieve). s.at) c.self.view_is;
    bits = ap (λ (s : Sieve). s.bits) c.self.view_is;
  };
}
