-- A call that has ended is released, so another may begin on its lines where nothing is set on them; the lines of a lost call report nothing, so
-- none may begin there.
use Rattle.mg_safety.proofs.Words.{◌≡◌, ◌∙◌, ◌<◌, ◌⊎◌, ℕ, List, [], ◌∷◌, length, Some, sym, ap, subst, arith, inl, inr, true≢false, All, Line, Exact, Event, IsCovered}
use Rattle.mg_safety.proofs.Words.{OffHook, IsScript, IsEntryOf, Agent, null_row, Entry, MayBegin, ListItem, silent, NoneBroken, Script, is_empty, World}
use Rattle.mg_safety.proofs.Words.{Opened, IsOpening, IsReleased, not_both, the_some}
use Rattle.mg_model.specs.World.{Runs}
use Rattle.mg_safety.proofs.Invariant.Sound.{Listed}
use Rattle.mg_safety.proofs.InvariantWords.{IsCurrent, IsLost, IsSound}
use Rattle.mg_safety.specs.Beginnings.{EndedCallsMayBegin, LostCallsMayNotBegin, LinesAreIdle}
use Rattle.mg_safety.proofs.Certificate.Closed.{closed}
use Rattle.mg_safety.proofs.Events.Openings.{openings_sound}
use Rattle.mg_safety.proofs.GoodWorlds.EveryRun.{runs_sound}
use Rattle.mg_safety.proofs.GoodWorlds.Good.{sound_good}

pub reached : (script : Script) (entries : List Entry) → IsScript script → All (IsEntryOf script) entries → NoneBroken script entries
    → (calls : List Opened) (events : List Event) (opening end : World) → IsOpening script calls opening → Runs script events opening end
    → IsSound script (IsCovered entries) end
reached script entries is_script listed none_broken calls events opening end opens runs =
    let closes = closed script entries is_script listed none_broken in
    runs_sound script (IsCovered entries) is_script closes events opening end (openings_sound script (IsCovered entries) is_script closes calls opening opens) runs

module _ (script : Script) (Among : Listed) (w : World) (sound : IsSound script Among w) (call : ℕ) (a : Agent) (there : w.agent call ≡ Some a) where
  -- a line that the call holds is one of its own
  own_line : (l : ℕ) → w.gateway.holder l ≡ Some call → (i : ℕ) × (i < length script.lines) × (a.lines i ≡ l)
  own_line l held =
      let its = sound.gateway.held l call held in
      (its.1, its.3, ap (λ (b : Agent). b.lines its.1) (the_some a its.0 (sym there ∙ its.2)) ∙ its.4)

  may_begin : IsReleased script w call a → LinesAreIdle script w a → MayBegin w.gateway call
  may_begin released idle = record {
    rows = λ l held. let own = own_line l held in
        subst (λ n. w.gateway.board.row (Line (record { 0 = n })) ≡ Some null_row) own.2 (idle own.0 own.1);
    playing = λ l held. let own = own_line l held in subst (λ n. (w.gateway.line n).playing ≡ silent) own.2 (released.is_silent own.0 own.1);
    list = λ l held. let own = own_line l held in subst (λ n. (w.gateway.line n).list ≡ OffHook Exact ∷ []) own.2 (released.is_armed own.0 own.1);
    no_ephemeral = λ k created. not_both (sound.gateway.creator_stands k call created) (released.no_ephemeral k created);
  }

  may_not : a.association < w.gateway.association → 0 < length script.lines → MayBegin w.gateway call → ⊥
  may_not older within may = by_part (sound.calls call a there).part
    where
      by_part : IsCurrent script Among w.gateway a ⊎ IsLost script w.gateway a → ⊥
      by_part (inl current) = let now = current.association in omega (arith, older, now)
      by_part (inr lost) =
          let armed : (w.gateway.line (a.lines 0)).list ≡ OffHook Exact ∷ [] = may.list (a.lines 0) ((sound.calls call a there).held 0 within) in
          true≢false (ap (λ (list : List ListItem). is_empty list) (sym (lost.list 0 within) ∙ armed))

pub ended_may_begin : EndedCallsMayBegin
ended_may_begin script entries is_script listed none_broken calls events opening end opens runs call a there ended idle =
    let sound = reached script entries is_script listed none_broken calls events opening end opens runs in
    let good = sound_good script (IsCovered entries) is_script (closed script entries is_script listed none_broken) end sound in
    may_begin script (IsCovered entries) end sound call a there (good.ended call a there ended) idle

pub lost_may_not_begin : LostCallsMayNotBegin
lost_may_not_begin script entries is_script listed none_broken calls events opening end opens runs call a there older within may =
    may_not script (IsCovered entries) end (reached script entries is_script listed none_broken calls events opening end opens runs) call a there older within may
