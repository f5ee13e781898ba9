-- The contexts that are there, counted.
use Rattle.std.proofs.Common.{ℕ, IsTrue, Option, List, Vec}
use Rattle.mg_names.specs.declared.identifiers.TermId.{TermId}
use Rattle.mg_model.specs.declared.rows.Row.{Row}
use Rattle.identifiers.specs.Count.{IsCount}
use Rattle.identifiers.specs.Stock.{Stock, is_held}
use Rattle.contexts.specs.declared.cuts.Cut.{Cut}
use Rattle.contexts.specs.Groups.{members_at}
use Rattle.contexts.specs.TiedBoard.{IsTied}
use Rattle.contexts.proofs.StockLemmas.{held_iff}
use Rattle.contexts.proofs.TieLemmas.{StandsSome}

pub counts : {Z : Type 0} (rows : TermId → Option Row) (s : Stock (Vec TermId Z)) (k : ℕ → Option (List Cut)) → IsTied rows (members_at s) k → (count : ℕ) →
    IsCount (λ n. IsTrue (is_held s n)) count → IsCount (StandsSome rows) count
counts rows s k tied count counted = record {
  numbers = counted.numbers;
  rising = counted.rising;
  exactly = λ c. let there = held_iff rows s k tied c in (λ h. there.0 ((counted.exactly c).0 h), λ h. (counted.exactly c).1 (there.1 h));
  is = counted.is;
}
