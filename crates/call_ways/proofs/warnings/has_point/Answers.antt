-- A point that was found; or there is no such entry.
use Rattle.std.proofs.Common.{◌≡◌, ◌↔◌, ℕ, Bool, IsTrue, List, Some, length, refl, sym, ap, subst, arith, rules}
use Rattle.std.specs.List.{slice_get}
use Rattle.std.proofs.lemmas.Option.{slice_get_read}
use Rattle.mg_model.specs.Entries.{Entry as Listed}
use Rattle.call_ways.specs.Points.{HasPoint, IsFirst}
use Rattle.call_ways.proofs.Below.{found_some, none_then}
use Rattle.call_ways.proofs.Reaching.{at_so, no_entry, so_at}
use Rattle.call_ways.proofs.warnings.has_point.Goals as goal

pub returns-in-Some : goal.returns-in-Some
returns-in-Some c = λ script all.
    let entries : List Listed = c.args.cert.now in
    let configs = c.args.reached.now in
    let e : ℕ = c.args.place in
    let wanted : Bool = c.args.wanted in
    let one : Listed = c.in-Some.entry.now in
    let there : slice_get entries e ≡ Some one =
    slice_get_read entries (length entries) e one refl (rw c.entries.ensures at c.in-Some.ensures.lookup.3.0)
    (rw c.entries.ensures at c.in-Some.ensures.lookup.1) in
    subst (λ (b : Bool). IsTrue b ↔ HasPoint script entries e wanted) (sym c.is_some.ensures)
    (found_some c.first_point.result (IsFirst one configs wanted) (HasPoint script entries e wanted) c.first_point.ensures.some
    (none_then c.first_point.result _ (HasPoint script entries e wanted → ⊥)
    (λ none has. none has.0 (at_so script entries configs all e one there wanted has.0 has.1)) c.first_point.ensures.none)
    (λ p first. (p, so_at script entries configs all e one there wanted p first.0)))

pub returns-in-None : goal.returns-in-None
returns-in-None c = λ script all. (
  λ bad. absurd (search rules),
  λ has. absurd (no_entry script c.args.cert.now c.args.place c.args.wanted has.0
      (omega (arith, c.in-None.ensures.lookup, ap length c.entries.ensures)) has.1),
)
