use Rattle.std.proofs.Common.{◌≡◌, ap, ◌∙◌, refl}
use Rattle.identifiers.specs.Class.{number_at}
use Rattle.identifiers.proofs.ClassLemmas.{within_iff, is_number-number_at, key_of-number_at}
use Rattle.identifiers.proofs.identifiers.Identifiers.next.Goals as goal

pub returns-in-Some-clause-next : goal.returns-in-Some-clause-next
returns-in-Some-clause-next g c =
    let class = c.self.inside.class in
    let key = c.vacant_key.result in
    let is : c.in-Some.number ≡ number_at class key = c.in-Some.ensures.number in
    let is_class = c.self.invariant.is_class in
    rw (← c.self.view_is) (record {
      next = is ∙ ap (number_at class) c.vacant_key.ensures.value;
      number = rw is (is_number-number_at class key is_class);
      within = rw is ((within_iff class key is_class).0 c.in-Some.ensures.within);
      fresh = rw (is, is_number-number_at class key is_class, key_of-number_at class key is_class, c.vacant_key.ensures.vacant) refl;
      absent = rw (is, is_number-number_at class key is_class, key_of-number_at class key is_class, c.vacant_key.ensures.vacant) refl;
    })
