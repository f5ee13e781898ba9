-- What a gateway shows, and from it the gateway of the model. A reader should check that each part of the gateway of the model is read from the part of that name.
use Rattle.std.specs.Prelude.{◌≡◌, ℕ, ◌==◌, Bool, true, false, List, Option, Some, None, is_some}
use Rattle.mg_names.specs.declared.identifiers.TermId.TheVariants.{Eph}
use Rattle.mg_model.specs.Board.{exists}
use Rattle.mg_model.specs.Gateway.{Gateway}
use Rattle.requests.specs.Connected.{Connected, board_in, line_in, has_line}
use Rattle.contexts.specs.BoardValue.{names_line}
use Rattle.gateway.specs.Calls.{OpenCall, call_entry, call_in, is_retired_in, is_taken_in, line_entry, link_of, holder_of}
use Rattle.mg_model.specs.Members.{is_among}
use Rattle.gateway.specs.Creators.{creator_at, creator_on}

pub record GatewayValue : Type 0 where
  pub association : ℕ
  pub connected : Connected
  -- each line, with the call that holds it
  pub holders : List (ℕ × Option ℕ)
  -- each call that was opened, with its state; nothing is left of one that was retired
  pub calls : List (ℕ × Option OpenCall)
  -- the call that created an ephemeral, by its number
  pub creators : List (ℕ × ℕ)

-- the call that holds a line
abbrev pub holder_in : GatewayValue → ℕ → Option ℕ
holder_in w l = holder_of (line_entry w.holders l)

unfoldable pub gateway_of : GatewayValue → Gateway
gateway_of w = record {
  association = w.association;
  board = board_in w.connected;
  line = line_in w.connected;
  holder = holder_in w;
  creator = creator_on (board_in w.connected) w.creators;
  link = λ call. link_of (call_in w.calls call);
  retired = is_retired_in w.calls;
}

unfoldable pub is_open : GatewayValue → ℕ → Bool
is_open w call = is_some (call_in w.calls call)

-- a call of this number was opened: it is open, or was retired
unfoldable pub is_taken : GatewayValue → ℕ → Bool
is_taken w call = is_taken_in w.calls call

-- whether a line that this call holds, if one does, is held by a call
abbrev pub is_held_by : Option ℕ → ℕ → Bool
is_held_by None call = false
is_held_by (Some holder) call = holder == call

-- whether a line is among those of a call
abbrev pub has_line_among : Option OpenCall → ℕ → Bool
has_line_among None l = false
has_line_among (Some c) l = names_line c.lines l

-- the call that was noted as the creator of an ephemeral was opened, and where it is open it has its number among those that it created
abbrev pub IsCreatedBy : Option (Option OpenCall) → ℕ → Type 0
IsCreatedBy None k = ⊥
IsCreatedBy (Some None) k = Unit {0}
IsCreatedBy (Some (Some c)) k = is_among c.created k ≡ true

-- every link is of the gateway's association, each line of the board has an entry, a line is held by a call exactly where that call is
-- open and has it among its lines, whoever was noted as a creator knows what it created, and of ephemerals the numbers are used of
-- those that exist, and no others
pub record AreTied (w : GatewayValue) : Type 0 where
  pub links : (call : ℕ) (c : OpenCall) → call_in w.calls call ≡ Some c → c.association ≡ w.association
  pub lines : (l : ℕ) → has_line (board_in w.connected) l ≡ is_some (line_entry w.holders l)
  pub holders : (l call : ℕ) → is_held_by (holder_in w l) call ≡ has_line_among (call_in w.calls call) l
  pub created : (k call : ℕ) → creator_at w.creators k ≡ Some call → IsCreatedBy (call_entry w.calls call) k
  pub settled : (k : ℕ) → (board_in w.connected).used_ephemeral k ≡ exists (board_in w.connected) (Eph k)
