-- What is brought to an agent is of the kind of its event: the cases that there are, once for all.
use Rattle.std.proofs.Common.{◌≡◌, ◌==◌, Some, ℕ, sym, subst}
use Rattle.std.specs.Borrow.{Bor}
use Rattle.std.specs.List.{find}
use Rattle.mg_names.specs.declared.identifiers.Assoc.{Assoc}
use Rattle.mg_model.specs.declared.events.CallEvent.{CallEvent}
use Rattle.mg_model.specs.declared.events.CallEvent.TheVariants as to_call
use Rattle.mg_model.specs.Messages.{Reply, SentNote}
use Rattle.agent.specs.declared.delivered.Delivery.{Delivery}
use Rattle.agent.specs.declared.delivered.Delivery.TheVariants as delivery
use Rattle.shards.specs.Messages.{Messages, reply_for}
use Rattle.shards.specs.CallRecords.{IsDelivered}

-- what holds of each of the five holds of whatever is brought
pub record HoldsOfEach (m : Messages) (P : CallEvent → Delivery → Type 0) : Type 0 where
  pub of_reply : (number : ℕ) (answer : Bor Reply) → reply_for m (Some number) ≡ Some answer.now → P (to_call.Reply number) (delivery.Reply answer)
  pub of_pass : P to_call.Pass delivery.Pass
  pub of_note : (number : ℕ) (note : Bor SentNote) → find (λ (n : SentNote). n.number == number) m.notes ≡ Some note.now
      → P (to_call.Note number) (delivery.Note note)
  pub of_timer : P to_call.Timer delivery.Timer
  pub of_hear : (association : Assoc) → P (to_call.Hear association) (delivery.Hear association)

pub of_delivered : (m : Messages) (P : CallEvent → Delivery → Type 0) → HoldsOfEach m P → (event : CallEvent) (brought : Delivery)
    → IsDelivered m event (Some brought) → P event brought
of_delivered m P each (to_call.OnLine line happens) brought is = absurd is
of_delivered m P each (to_call.Execute number chosen) brought is = absurd is
of_delivered m P each (to_call.Begin old) brought is = absurd is
of_delivered m P each (to_call.Reply number) (delivery.Reply answer) is = each.of_reply number answer is
of_delivered m P each (to_call.Reply number) delivery.Pass is = absurd is
of_delivered m P each (to_call.Reply number) (delivery.Note note) is = absurd is
of_delivered m P each (to_call.Reply number) delivery.Timer is = absurd is
of_delivered m P each (to_call.Reply number) (delivery.Hear heard_of) is = absurd is
of_delivered m P each to_call.Pass (delivery.Reply answer) is = absurd is
of_delivered m P each to_call.Pass delivery.Pass is = each.of_pass
of_delivered m P each to_call.Pass (delivery.Note note) is = absurd is
of_delivered m P each to_call.Pass delivery.Timer is = absurd is
of_delivered m P each to_call.Pass (delivery.Hear heard_of) is = absurd is
of_delivered m P each (to_call.Note number) (delivery.Reply answer) is = absurd is
of_delivered m P each (to_call.Note number) delivery.Pass is = absurd is
of_delivered m P each (to_call.Note number) (delivery.Note note) is = each.of_note number note is
of_delivered m P each (to_call.Note number) delivery.Timer is = absurd is
of_delivered m P each (to_call.Note number) (delivery.Hear heard_of) is = absurd is
of_delivered m P each to_call.Timer (delivery.Reply answer) is = absurd is
of_delivered m P each to_call.Timer delivery.Pass is = absurd is
of_delivered m P each to_call.Timer (delivery.Note note) is = absurd is
of_delivered m P each to_call.Timer delivery.Timer is = each.of_timer
of_delivered m P each to_call.Timer (delivery.Hear heard_of) is = absurd is
of_delivered m P each (to_call.Hear association) (delivery.Reply answer) is = absurd is
of_delivered m P each (to_call.Hear association) delivery.Pass is = absurd is
of_delivered m P each (to_call.Hear association) (delivery.Note note) is = absurd is
of_delivered m P each (to_call.Hear association) delivery.Timer is = absurd is
of_delivered m P each (to_call.Hear association) (delivery.Hear told) is = subst (λ (a : Assoc). P (to_call.Hear association) (delivery.Hear a)) (sym is) (each.of_hear association)
