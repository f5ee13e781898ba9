-- Which events are steps of an agent alone; and what holds of the board stays so in a run where a request that is executed and a restart keep it, since no
-- other event changes the board.
use Rattle.std.proofs.Common.{◌≡◌, ◌∙◌, ℕ, List, [], ◌∷◌, Option, sym, ap, subst, inl, inr}
use Rattle.mg_merge.proofs.Words.{Agent, AgentSteps, Board, CallEvent, ChosenRefusal, Event, Gateway, IsFirst, OccursTo, OfCall, Request, Restart, Runs, Script}
use Rattle.mg_merge.proofs.Words.{World, board_restarted, heard, line_places, noted, passed, replied, timed}
use Rattle.mg_model.specs.declared.events.CallEvent.TheVariants as to_call

-- ---- steps of an agent

abbrev pub IsStep : CallEvent → Type 0
IsStep (to_call.OnLine line event) = ⊥
IsStep (to_call.Execute number chosen) = ⊥
IsStep (to_call.Begin old) = ⊥
IsStep _ = Unit {0}

pub step_of : (script : Script) (w after : World) (call : ℕ) (happens : CallEvent) → IsStep happens → OccursTo script w call happens after
    → (step : Agent → Option Agent) × AgentSteps w call step after
step_of script w after call (to_call.Reply number) is (answer, of, s) = (λ a. replied script a answer, s)
step_of script w after call to_call.Pass is s = (passed script, s)
step_of script w after call (to_call.Note number) is (sent, of, s) = (λ a. noted script a (line_places script) sent, s)
step_of script w after call to_call.Timer is s = (timed script, s)
step_of script w after call (to_call.Hear association) is (past, s) = (λ a. heard script a association.0, s)
step_of script w after call _ is occurs = absurd is

-- ---- what holds of the board

module _ (script : Script) (P : Board → Type 0)
    (executed : (w after : World) (request : Request) (chosen : Option ChosenRefusal) → IsFirst w request chosen after → P w.gateway.board
    → P after.gateway.board)
    (restart : (b : Board) → P b → P (board_restarted b)) where
  moved : (x after : World) → after ≡ x → P x.gateway.board → P after.gateway.board
  moved x after is holds = subst (λ (y : World). P y.gateway.board) (sym is) holds

  call_keeps : (w after : World) (call : ℕ) (happens : CallEvent) → OccursTo script w call happens after → P w.gateway.board → P after.gateway.board
  call_keeps w after call (to_call.OnLine line event) (held, o) holds =
      subst P (sym (ap (λ (x : World). x.gateway.board) o.after_is ∙ ap (λ (g : Gateway). g.board) o.happens.after_is)) holds
  call_keeps w after call (to_call.Execute number chosen) (request, of, inl f) holds = executed w after request chosen f holds
  call_keeps w after call (to_call.Execute number chosen) (request, of, inr (inl f)) holds = moved _ after f.after_is holds
  call_keeps w after call (to_call.Execute number chosen) (request, of, inr (inr f)) holds = moved w after f.1 holds
  call_keeps w after call (to_call.Begin old) b holds = moved _ after b.after_is holds
  call_keeps w after call happens occurs holds = moved _ after (step_of script w after call happens tt occurs).1.after_is holds

  pub boards_keep : (events : List Event) (w end : World) → P w.gateway.board → Runs script events w end → P end.gateway.board
  unfolding Runs
  boards_keep [] w end holds runs = moved w end runs holds
  boards_keep (OfCall call happens ∷ more) w end holds (next, (occurs, runs)) = boards_keep more next end (call_keeps w next call.0 happens occurs holds) runs
  boards_keep (Restart ∷ more) w end holds (next, (occurs, runs)) = boards_keep more next end (moved _ next occurs.1 (restart w.gateway.board holds)) runs
