-- That a message is named by its call and its number: so an event, which names it by these, can happen in one way but for what the gateway chooses. A
-- reader should check that nothing is asked of the script or of a certificate.
use Rattle.std.specs.Prelude.{◌≡◌, ℕ, List, Contains}
use Rattle.mg_model.specs.declared.events.Event.{Event}
use Rattle.mg_model.specs.Messages.{Request, Reply, SentNote}
use Rattle.mg_model.specs.Script.{Script}
use Rattle.mg_model.specs.World.{World, Opened, IsOpening, Runs}

-- no two of these that differ are of one call and have one number
abbrev pub AreOnce : {A : Type 0} → (of number : A → ℕ) → List A → Type 0
AreOnce of number messages = (one other : _) → Contains messages one → Contains messages other → of one ≡ of other → number one ≡ number other → one ≡ other

pub record AreNamedByNumber (w : World) : Type 0 where
  pub requests : AreOnce (λ (r : Request). r.call) (λ (r : Request). r.number) w.requests
  pub replies : AreOnce (λ (r : Reply). r.call) (λ (r : Reply). r.number) w.replies
  pub notes : AreOnce (λ (n : SentNote). n.call) (λ (n : SentNote). n.number) w.notes

abbrev pub MessagesAreNamedByNumber : Type 0
MessagesAreNamedByNumber =
    (script : Script) (calls : List Opened) (events : List Event) (opening end : World) → IsOpening script calls opening
    → Runs script events opening end → AreNamedByNumber end
