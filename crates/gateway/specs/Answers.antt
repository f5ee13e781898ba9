-- What a gateway answers to a request, an event and a restart, and what becomes of it. A reader should check that each answer but
-- that of an execution leaves the gateway as it was, and when each one comes.
use Rattle.std.specs.Prelude.{◌≡◌, ℕ, ◌+◌, ◌<◌, Bool, true, false, List, [], ◌∷◌, length, Option, Some, None, Result, Ok, Err, ◌⊎◌}
use Rattle.mg_model.specs.declared.failures.ChosenRefusal.{ChosenRefusal}
use Rattle.mg_names.specs.declared.identifiers.Assoc.{Assoc}
use Rattle.mg_model.specs.Numbers.{last_number, last_association}
use Rattle.mg_model.specs.declared.line_events.LineEvent.{LineEvent}
use Rattle.mg_model.specs.Gateway.{Gateway, offer_to, IsExecutedBy, IsKept, IsDiscarded, Happens, restarted}
use Rattle.mg_model.specs.Delivery.{fresh}
use Rattle.mg_model.specs.Messages.{Request, Reply, SentNote}
use Rattle.gateway.specs.declared.answer.Answer.{Answer}
use Rattle.gateway.specs.declared.answer.Answer.TheVariants.{Executed, Kept, Discarded, CannotHappen, NoMemory}
use Rattle.gateway.specs.declared.fault.CannotHappen as fault
use Rattle.gateway.specs.GatewayValue.{GatewayValue, gateway_of, is_open}

-- the same calls are open
abbrev pub SameOpen : GatewayValue → GatewayValue → Type 0
SameOpen old new = (call : ℕ) → is_open new call ≡ is_open old call

-- the gateway of the model is the same, and the same calls are open
abbrev pub IsSame : GatewayValue → GatewayValue → Type 0
IsSame old new = (gateway_of new ≡ gateway_of old) × SameOpen old new

-- ---- a request

-- the call is open, and it is the request's
abbrev pub IsAddressed : GatewayValue → ℕ → Request → Type 0
IsAddressed old call request = (is_open old call ≡ true) × (request.call ≡ call)

-- the request is executed
abbrev pub IsExecution : GatewayValue → Request → Option ChosenRefusal → GatewayValue → Reply → List SentNote → Type 0
IsExecution old request refusal new reply notes = IsExecutedBy (gateway_of old) request refusal (gateway_of new) reply notes

-- it would be executed, but the numbers of notes could run out
pub record HasNoRoom (g : Gateway) (request : Request) : Type 0 where
  pub is_fresh : offer_to g request ≡ fresh
  pub full : last_number < (g.link request.call).notes + length request.commands

abbrev pub IsAnswered : GatewayValue → ℕ → Request → Option ChosenRefusal → GatewayValue → Answer → Type 0
IsAnswered old call request refusal new (Executed reply notes) =
    IsAddressed old call request × (IsExecution old request refusal new reply notes.items × SameOpen old new)
IsAnswered old call request refusal new (Kept reply) =
    IsAddressed old call request × (IsKept (gateway_of old) request reply × (new ≡ old))
IsAnswered old call request refusal new Discarded =
    ((IsAddressed old call request → ⊥) ⊎ IsDiscarded (gateway_of old) request) × (new ≡ old)
IsAnswered old call request refusal new CannotHappen =
    IsAddressed old call request × (HasNoRoom (gateway_of old) request × (new ≡ old))
IsAnswered old call request refusal new NoMemory = IsSame old new

-- whether it can reach the gateway: what is false gives just what is answered where it can't
abbrev pub CanExecute : GatewayValue → ℕ → Request → Bool → Type 0
CanExecute old call request true = IsAddressed old call request × HasNoRoom (gateway_of old) request → ⊥
CanExecute old call request false = IsAddressed old call request × HasNoRoom (gateway_of old) request

-- ---- an event of a line

abbrev pub note_listed : Option SentNote → List SentNote
note_listed None = []
note_listed (Some note) = note ∷ []

abbrev pub CannotOccur : GatewayValue → ℕ → LineEvent → Type 0
CannotOccur old line event =
    (after : Gateway) (notes : List SentNote) → Happens (gateway_of old) line event after notes → ⊥

-- it leads to a gateway, with these notes
pub record CanOccur (old : GatewayValue) (line : ℕ) (event : LineEvent) : Type 0 where
  pub after : Gateway
  pub notes : List SentNote
  pub happens : Happens (gateway_of old) line event after notes

-- whether it can happen
abbrev pub CanHappen : GatewayValue → ℕ → LineEvent → Bool → Type 0
CanHappen old line event true = CanOccur old line event
CanHappen old line event false = CannotOccur old line event

-- it happens, or it can't
abbrev pub IsHappened : GatewayValue → ℕ → LineEvent → GatewayValue → Result (Option SentNote) fault.CannotHappen → Type 0
IsHappened old line event new (Ok note) =
    Happens (gateway_of old) line event (gateway_of new) (note_listed note) × SameOpen old new
IsHappened old line event new (Err _) = CannotOccur old line event × IsSame old new

-- ---- a restart

-- the next association begins; only after the last one none can
pub record IsNext (old new : GatewayValue) (association : ℕ) : Type 0 where
  pub restarts : gateway_of new ≡ restarted (gateway_of old)
  pub answered : association ≡ new.association
  pub room : old.association < last_association
  pub open_calls : SameOpen old new

abbrev pub IsRestarted : GatewayValue → GatewayValue → Result Assoc fault.CannotHappen → Type 0
IsRestarted old new (Ok association) = IsNext old new association.0
IsRestarted old new (Err _) = (old.association ≡ last_association) × (new ≡ old)
