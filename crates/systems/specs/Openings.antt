-- A new gateway, and calls of a script that are opened on it, one after the other. A reader should check that a call is opened on the gateway and
-- entered with the script, on the same lines, in their order, as many as it has.
use Rattle.std.specs.Prelude.{◌≡◌, ℕ, ◌==◌, ◌||◌, Bool, false, List, [], ◌∷◌, length, map, slice_index_or, Option, None, Ok}
use Rattle.mg_names.specs.declared.identifiers.LineNo.{LineNo}
use Rattle.mg_model.specs.Agent as model
use Rattle.mg_model.specs.Script.{Script}
use Rattle.mg_model.specs.World.{Opened}
use Rattle.gateway.specs.GatewayValue.{gateway_of, is_open, is_taken}
use Rattle.gateway.specs.Openings.{first_gateway, opened, opening}
use Rattle.agent.specs.CallValue.{CallValue}
use Rattle.systems.specs.Systems.{System, agent_in, with_call}

-- a new gateway for some lines, which gives numbers of some class; there is no call, and nothing was sent
pub record Starts (s : System) : Type 0 where
  pub class : ℕ → Bool
  pub lines : List LineNo
  pub gateway : gateway_of s.gateway ≡ first_gateway class lines
  pub no_call : (call : ℕ) → is_open s.gateway call ≡ false
  pub calls : s.call ≡ (λ n. None)
  pub requests : s.requests ≡ []
  pub replies : s.replies ≡ []
  pub notes : s.notes ≡ []

-- the line of a call by its place
abbrev pub line_at : List LineNo → ℕ → ℕ
line_at lines i = slice_index_or (map (λ (l : LineNo). l.0) lines) i 0

-- a call is opened on the gateway, and entered on the same lines
pub record Opens (script : Script) (one : Opened) (s t : System) : Type 0 where
  pub lines : List LineNo
  pub all_lines : length lines ≡ length script.lines
  pub lines_are : one.lines ≡ line_at lines
  pub may : opening (gateway_of s.gateway) (is_taken s.gateway one.call) lines ≡ Ok tt
  pub gateway : gateway_of t.gateway ≡ opened (gateway_of s.gateway) one.call lines
  pub open_calls : (other : ℕ) → is_open t.gateway other ≡ ((other == one.call) || is_open s.gateway other)
  pub call : CallValue
  pub of_script : call.script ≡ script
  pub entered : agent_in call ≡ model.opened script one.call (line_at lines)
  pub calls : t.call ≡ with_call s.call one.call call
  pub requests : t.requests ≡ s.requests
  pub replies : t.replies ≡ s.replies
  pub notes : t.notes ≡ s.notes

-- these calls were opened, the latest of them first
abbrev pub AreOpened : Script → List Opened → System → Type 0
AreOpened script [] t = Starts t
AreOpened script (one ∷ earlier) t = (s : System) × (AreOpened script earlier s × Opens script one s t)
