-- The inbox that a list of numbers is.
use Rattle.std.specs.Prelude.{ℕ, ◌==◌, List}
use Rattle.delivery.specs.declared.inbox.Arrival.{Arrival}
use Rattle.delivery.specs.declared.inbox.Arrival.TheVariants.{New, Seen, Old}
use Rattle.mg_model.specs.Delivery as model
use Rattle.mg_model.specs.Delivery.{arrives_new, was_seen, is_old}
use Rattle.mg_model.specs.Members.{is_among}

-- the numbers of the notes that were accepted, and their association
pub record Accepted : Type 0 where
  pub association : ℕ
  pub numbers : List ℕ

abbrev pub inbox_of : Accepted → model.Inbox
inbox_of a = record { association = a.association; accepted = is_among a.numbers }

abbrev pub arrived : Arrival → model.Arrival
arrived New = arrives_new
arrived Seen = was_seen
arrived Old = is_old
