-- What an event of one call leaves alone: it changes rows and cuts by a request alone, and that changes what its call owns.
use Rattle.mg_safety.proofs.Words.{◌≡◌, ◌∙◌, ℕ, Bool, true, false, Option, inl, inr, refl, sym, ap, eq-eqb, TermId, Line, Eph, CallEvent, ChosenRefusal, IsCovered}
use Rattle.mg_safety.proofs.Words.{Row, IsScript, Agent, Board, Gateway, after_request, Request, Script, World, AgentSteps, Executes, IsFirst}
use Rattle.mg_safety.proofs.Words.{IsRequestOf, OccursTo}
use Rattle.mg_model.specs.declared.events.CallEvent.TheVariants as to_call
use Rattle.mg_safety.proofs.Invariant.Sound.{Listed}
use Rattle.mg_safety.proofs.InvariantWords.{owned_at, IsSound, is_call, owned_in, owner_of, IsClosed, IsOwnChange}
use Rattle.mg_safety.specs.Others.{IsLeftAlone, IsOwnedBy, OthersAreKept, OthersAreLeftAlone}
use Rattle.mg_safety.proofs.Certificate.Closed.{closed}
use Rattle.mg_safety.proofs.Events.ExecuteSound.{has_run}
use Rattle.mg_safety.proofs.Events.Executing.{run_changes}
use Rattle.mg_safety.proofs.Events.Others.{apart_at, created_only}
use Rattle.mg_safety.proofs.GoodWorlds.Beginning.{reached}
use Rattle.mg_safety.proofs.GoodWorlds.EveryRun.{commands_carry}
use Rattle.mg_safety.proofs.Messages.NamedMessages.{opening_numbered, runs_numbered}
use Rattle.mg_safety.proofs.Requests.Run.{requests_run}
use Rattle.mg_safety.proofs.SmallLaws.CallLaws.{events_keep}

-- what a call owns is its own in the gateway
owned : (w : World) (call : ℕ) (t : TermId) → IsOwnedBy w call t → owned_in w.gateway call t ≡ true
owned w call (Line l) holds = ap (λ (o : Option ℕ). is_call o call) holds ∙ eq-eqb call call refl
owned w call (Eph x) created =
    created_only (is_call (w.gateway.creator x) call) (w.gateway.board.used_ephemeral x)
    ∙ ap (λ (o : Option ℕ). is_call o call) created ∙ eq-eqb call call refl

-- the board is the same
untouched : (w after : World) (call : ℕ) → after.gateway.board ≡ w.gateway.board → IsLeftAlone w after call
untouched w after call same = record { row = λ t its. ap (λ (b : Board). b.row t) same; cut = λ t u its also. ap (λ (b : Board). b.cut t u) same }

steps_alone : (w after : World) (call other : ℕ) (step : Agent → Option Agent) → AgentSteps w call step after → IsLeftAlone w after other
steps_alone w after call other step s = untouched w after other (ap (λ (v : World). v.gateway.board) s.after_is)

module _ (script : Script) (Among : Listed) (is_script : IsScript script) (closes : IsClosed script Among) (w after : World)
    (sound : IsSound script Among w) where
  executed_alone : (call other : ℕ) (number : ℕ) (request : Request) (chosen : Option ChosenRefusal) → IsRequestOf w call number request
      → IsFirst w request chosen after → (call ≡ other → ⊥) → IsLeftAlone w after other
  executed_alone call other number request chosen of_call f differ = record {
    row = λ t its. rows t ∙ ap (λ (rows : TermId → Option Row). rows t) own.settled.row ∙ own.changes.row t (not_its t its);
    cut = λ t u its also. cuts t u ∙ ap (λ (cuts : TermId → TermId → Bool). cuts t u) own.settled.cut ∙ own.changes.cut t u (not_its t its) (not_its u also);
  }
    where
      own : IsOwnChange w.gateway f.executed.end.board (after_request w.gateway request f.executed.end f.executed.settled f.executed.failure) request.call
      own = run_changes script Among w request f.executed.end f.executed.settled f.executed.failure sound.floor sound.gateway
          (has_run (requests_run commands_carry) script Among is_script closes w request chosen f.gateway f.answer f.sent sound of_call.0 f.executed)
          f.executed.is_settled

      rows : (t : TermId) → after.gateway.board.row t ≡ (after_request w.gateway request f.executed.end f.executed.settled f.executed.failure).board.row t
      rows t = ap (λ (v : World). v.gateway.board.row t) f.after_is ∙ ap (λ (g : Gateway). g.board.row t) f.executed.after_is

      cuts : (t u : TermId) → after.gateway.board.cut t u ≡ (after_request w.gateway request f.executed.end f.executed.settled f.executed.failure).board.cut t u
      cuts t u = ap (λ (v : World). v.gateway.board.cut t u) f.after_is ∙ ap (λ (g : Gateway). g.board.cut t u) f.executed.after_is

      not_its : (t : TermId) → IsOwnedBy w other t → owned_at (owner_of w.gateway request.call) f.executed.end.board t ≡ false
      not_its t its = apart_at w.gateway f.executed.end.board (after_request w.gateway request f.executed.end f.executed.settled f.executed.failure)
          request.call other own (λ same. differ (sym of_call.1 ∙ same)) t (owned w other t its) f.executed.end.board

  event_alone : (call other : ℕ) (happens : CallEvent) → OccursTo script w call happens after → (call ≡ other → ⊥) → IsLeftAlone w after other
  event_alone call other (to_call.OnLine line event) (held, occurs) differ =
      untouched w after other (ap (λ (v : World). v.gateway.board) occurs.after_is ∙ ap (λ (g : Gateway). g.board) occurs.happens.after_is)
  event_alone call other (to_call.Execute number chosen) (request, of_call, executes) differ = by_case executes
    where
      by_case : Executes w request chosen after → IsLeftAlone w after other
      by_case (inl first) = executed_alone call other number request chosen of_call first differ
      by_case (inr (inl again)) = untouched w after other (ap (λ (v : World). v.gateway.board) again.after_is)
      by_case (inr (inr dropped)) = untouched w after other (ap (λ (v : World). v.gateway.board) dropped.1)
  event_alone call other (to_call.Reply number) (answer, of_call, steps) differ = steps_alone w after call other _ steps
  event_alone call other to_call.Pass steps differ = steps_alone w after call other _ steps
  event_alone call other (to_call.Note number) (sent, of_call, steps) differ = steps_alone w after call other _ steps
  event_alone call other to_call.Timer steps differ = steps_alone w after call other _ steps
  event_alone call other (to_call.Begin old) begins differ = untouched w after other (ap (λ (v : World). v.gateway.board) begins.after_is)
  event_alone call other (to_call.Hear association) (past, steps) differ = steps_alone w after call other _ steps

pub left_alone : OthersAreLeftAlone
left_alone script entries is_script listed none_broken calls events opening end after opens runs call other happens occurs differ =
    event_alone script (IsCovered entries) is_script (closed script entries is_script listed none_broken) end after
    (reached script entries is_script listed none_broken calls events opening end opens runs) call other happens occurs differ

pub others_kept : OthersAreKept
others_kept script calls events opening end after opens runs call other happens occurs differ not_retired =
    let numbered = runs_numbered script events opening end (opening_numbered script calls opening opens) runs in
    events_keep script end after call other happens
    (record { agents = numbered.agents; replies = λ c answer kept. (numbered.replies.kept c answer kept).0 }) occurs differ not_retired
