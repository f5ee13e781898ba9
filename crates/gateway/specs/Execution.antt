-- What is found of a request before it runs, and what its run leaves to be put in place. A reader should check each variant against
-- the answer that it leads to.
use Rattle.std.specs.Prelude.{◌≡◌, ℕ, ◌+◌, ◌≤◌, true, false, if◌then◌else◌, List, length, Option, Some, ◌⊎◌, Result, OnOk, option_map}
use Rattle.std.specs.declared.alloc.AllocError.{AllocError}
use Rattle.mg_model.specs.Board.{Board}
use Rattle.mg_model.specs.Items.{Done}
use Rattle.mg_model.specs.RequestRun.{RaisedNote}
use Rattle.mg_model.specs.declared.failures.ChosenRefusal.{ChosenRefusal}
use Rattle.mg_model.specs.declared.failures.Failure.{Failure}
use Rattle.mg_model.specs.Delivery.{offer, fresh}
use Rattle.mg_model.specs.Numbers.{last_number}
use Rattle.mg_model.specs.Gateway.{IsKept, IsDiscarded, reply_of, sent_notes}
use Rattle.mg_model.specs.Messages.{Request, Reply, SentNote}
use Rattle.requests.specs.Connected.{Connected, Ends, end_in}
use Rattle.gateway.specs.declared.execute.Judged.{Judged}
use Rattle.gateway.specs.declared.execute.Judged.TheVariants.{New, Again, Nothing, Full, NoMemory}
use Rattle.gateway.specs.Answers.{IsAddressed, HasNoRoom}
use Rattle.gateway.specs.Creators.{creator_at, any_created}
use Rattle.gateway.specs.Calls.{OpenCall, call_entry, call_in, open_entry, with_call, creating, delivery_link}
use Rattle.mg_model.specs.Members.{is_among}
use Rattle.gateway.specs.GatewayValue.{GatewayValue, gateway_of}

-- the request is new to its call, whose last note has this number, and there is room for its notes
pub record IsNew (w : GatewayValue) (request : Request) (last : ℕ) : Type 0 where
  pub state : OpenCall
  pub is_state : call_in w.calls request.call ≡ Some state
  pub of_association : state.association ≡ w.association
  pub is_fresh : offer (delivery_link state) request.association request.number ≡ fresh
  pub last_is : last ≡ state.notes
  pub room : last + length request.commands ≤ last_number

abbrev pub IsJudged : GatewayValue → ℕ → Request → Judged → Type 0
IsJudged w call request (New last) = IsNew w request last × (request.call ≡ call)
IsJudged w call request (Again reply) = IsAddressed w call request × IsKept (gateway_of w) request reply
IsJudged w call request Nothing =
    (IsAddressed w call request → ⊥) ⊎ IsDiscarded (gateway_of w) request
IsJudged w call request Full = IsAddressed w call request × HasNoRoom (gateway_of w) request
IsJudged w call request NoMemory = Unit {0}

-- where a request ended that ran from a start, with its reply twice, its notes and the number of the last one
pub record IsRun (start : Connected) (request : Request) (refusal : Option ChosenRefusal) (last : ℕ) (ended : Connected) (reply kept : Reply)
    (notes : List SentNote) (last_after : ℕ) : Type 0 where
  pub raised : List RaisedNote
  pub failure : Option Failure
  pub is_end : Ends start request refusal ended reply.results raised failure
  pub reply_is : reply ≡ reply_of request (end_in ended reply.results raised) failure
  pub kept_is : kept ≡ reply
  pub notes_are : notes ≡ sent_notes request.call request.association last raised
  pub last_is : last_after ≡ last + length raised

-- what commands created had numbers that weren't used
abbrev pub AreNew : Board → List Done → Type 0
AreNew b results = (k : ℕ) → any_created results k ≡ true → b.used_ephemeral k ≡ false

-- the numbers of what commands created are noted in the entry of a call, where the call is open; where memory runs out some may be
pub record HasNoted (old new : Option OpenCall) (results : List Done) (result : Result (Unit {0}) AllocError) : Type 0 where
  pub created : List ℕ
  pub entry : new ≡ option_map (creating created) old
  pub kept : (c : OpenCall) (k : ℕ) → old ≡ Some c → is_among c.created k ≡ true → is_among created k ≡ true
  pub noted : (c : OpenCall) → old ≡ Some c → OnOk result ((k : ℕ) → any_created results k ≡ true → is_among created k ≡ true)

-- the numbers of what commands created are noted of a call, where it is open; where memory runs out some may be
pub record HasCreated (old new : ℕ → Option (Option OpenCall)) (call : ℕ) (results : List Done) (result : Result (Unit {0}) AllocError) : Type 0 where
  pub created : List ℕ
  pub entries : (n : ℕ) → new n ≡ with_call old call (creating created) n
  pub kept : (c : OpenCall) (k : ℕ) → open_entry (old call) ≡ Some c → is_among c.created k ≡ true → is_among created k ≡ true
  pub noted : (c : OpenCall) → open_entry (old call) ≡ Some c → OnOk result ((k : ℕ) → any_created results k ≡ true → is_among created k ≡ true)

-- a call is noted as the creator of what commands created, and those numbers are noted of the call; nothing else is changed
pub record IsNoted (call : ℕ) (results : List Done) (old new : GatewayValue) : Type 0 where
  pub created : List ℕ
  pub rest : new ≡ record old { calls = new.calls; creators = new.creators }
  pub calls : (n : ℕ) → call_entry new.calls n ≡ with_call (call_entry old.calls) call (creating created) n
  pub creators : (k : ℕ) → creator_at new.creators k ≡ (if any_created results k then Some call else creator_at old.creators k)
