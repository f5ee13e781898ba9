-- A call of a run of any calls, with those that begin on its lines, goes at each moment as it would go alone.
use Rattle.mg_model.specs.Accepted.{HasFewCommands}
use Rattle.std.proofs.Common.{◌≡◌, ◌∙◌, ◌<◌, ◌++◌, ℕ, Bool, true, false, List, [], ◌∷◌, refl, sym, ap, subst, ◌==◌, ◌||◌, if◌then◌else◌}
use Rattle.mg_merge.proofs.Words.{All, Begins, CallEvent, Entry, Event, HasIdentifiersLeft, IsEntryOf, IsOpening, IsScript, NoneBroken, Occurs, OccursTo}
use Rattle.mg_merge.proofs.Words.{OfCall, Opened, Restart, Runs, RunsWithin, Script, World, eqb-false, eqb-true, last_association, not_both, only_here}
use Rattle.mg_merge.proofs.Words.{restarted, with_gateway}
use Rattle.mg_alike.proofs.Words.{AreReached, CallsAreIsolatedThroughout, CallsWithHeirsAreIsolated, HappensAlone, HasEnoughNumbers, RunsBeside}
use Rattle.mg_alike.proofs.Words.{TreatAlike, begins_on, events_with_heirs, heir_of}
use Rattle.mg_alike.proofs.Alone.Heirs.{begun_on, stays_open, none_retired, has_left, unused_alone, not_retired_alone, kept_begun}
use Rattle.mg_alike.proofs.Events.Alone.{runs_on, not_beginning, event_retired, reached_both}
use Rattle.mg_alike.proofs.Events.Begun.{beginnings_alike, beginnings_happen}
use Rattle.mg_alike.proofs.Events.Every.{events_alike, restarts_alike}
use Rattle.mg_alike.proofs.Events.Happening.{events_happen}
use Rattle.mg_alike.proofs.Events.Others.{others_alike, openings_alike}

-- ---- a run beside a run of the call alone

module _ (script : Script) (entries : List Entry) (is_script : IsScript script) (listed : All (IsEntryOf script) entries) (none_broken : NoneBroken script entries)
    (few : HasFewCommands script) (calls : List Opened) (one : Opened) (start lone : World) (opens : IsOpening script calls start)
    (also_opens : IsOpening script (one ∷ []) lone) (enough : HasEnoughNumbers lone.gateway.board.class) where
  at_both : (past history : List Event) (w v : World) → Runs script past start w → Runs script history lone v → AreReached script w v
  at_both = reached_both script entries is_script listed none_broken calls (one ∷ []) start lone opens also_opens

  left_alone : (history : List Event) (v : World) → Runs script history lone v → HasIdentifiersLeft v
  left_alone = has_left script entries is_script listed none_broken few calls one start lone opens also_opens enough

  throughout : (rest : List Event) (call : ℕ) (w v end : World) (past history : List Event) → Runs script past start w → Runs script history lone v → TreatAlike w v call
      → ((c : ℕ) → v.gateway.retired c ≡ true → w.gateway.retired c ≡ true) → RunsWithin script rest w end → RunsBeside script call rest w v end
  unfolding RunsWithin RunsBeside
  throughout [] call w v end past history runs also_runs treat kept within = (within, treat)
  throughout (Restart ∷ more) call w v end past history runs also_runs treat kept (left, (next, (occurs, rest))) =
      let restarts : Occurs script v Restart (with_gateway v (restarted v.gateway)) =
      (subst (λ (n : ℕ). n < last_association) (sym treat.alike.association) occurs.0, refl) in (
        treat,
        (
          next,
          (
            occurs,
            (
              with_gateway v (restarted v.gateway),
              (
                restarts,
                throughout more call next (with_gateway v (restarted v.gateway)) end (past ++ Restart ∷ []) (history ++ Restart ∷ []) (runs_on script past start w next Restart runs occurs)
                    (runs_on script history lone v (with_gateway v (restarted v.gateway)) Restart also_runs restarts)
                    (restarts_alike script w v call treat next (with_gateway v (restarted v.gateway)) occurs restarts)
                    (λ c is. event_retired script w next c Restart occurs (kept c is)) rest,
              ),
            ),
          ),
        ),
      )
  throughout (OfCall who happens ∷ more) call w v end past history runs also_runs treat kept (left, (next, (occurs, rest))) =
      (treat, (next, (occurs, by_begins (begins_on call happens) refl (throughout more who.0 next) (throughout more call next))))
    where
      at : AreReached script w v
      at = at_both past history w v runs also_runs

      on : Runs script (past ++ OfCall who happens ∷ []) start next
      on = runs_on script past start w next (OfCall who happens) runs occurs

      by_call : (test : Bool) → (who.0 == call) ≡ test → begins_on call happens ≡ false
          → ((v end : World) (past history : List Event) → Runs script past start next → Runs script history lone v → TreatAlike next v call
          → ((k : ℕ) → v.gateway.retired k ≡ true → next.gateway.retired k ≡ true) → RunsWithin script more next end → RunsBeside script call more next v end)
          → (too : World) × (HappensAlone test script (OfCall who happens) v too × RunsBeside script call more next too end)
      by_call true e goes later =
          let is : who.0 ≡ call = eqb-true who.0 call e in
          let own : OccursTo script w call happens next = subst (λ (n : ℕ). OccursTo script w n happens next) is occurs in
          let goes_on = not_beginning script w next call treat.one treat.alike.open_one happens own in
          let too = events_happen script w v at left (left_alone history v also_runs) call happens goes_on treat next own in
          let also : Occurs script v (OfCall who happens) too.0 = subst (λ (n : ℕ). OccursTo script v n happens too.0) (sym is) too.1 in (
            too.0,
            (
              also,
              later too.0 end (past ++ OfCall who happens ∷ []) (history ++ OfCall who happens ∷ []) on
                  (runs_on script history lone v too.0 (OfCall who happens) also_runs also)
                  (events_alike script w v at left (left_alone history v also_runs) call happens goes_on treat next too.0 own too.1)
                  (λ c gone. event_retired script w next c (OfCall who happens) occurs
                  (kept c (sym (ap (λ (retired : ℕ → Bool). retired c) (none_retired script v too.0 call happens goes_on too.1)) ∙ gone))) rest,
            ),
          )
      by_call false e goes later = (
        v,
        (
          refl,
          later v end (past ++ OfCall who happens ∷ []) history on also_runs
              (others_alike script w v at call who.0 happens (eqb-false who.0 call e) (stays_open call happens goes) treat next occurs)
              (λ c gone. event_retired script w next c (OfCall who happens) occurs (kept c gone)) rest,
        ),
      )

      by_begins : (test : Bool) → begins_on call happens ≡ test
          → ((v end : World) (past history : List Event) → Runs script past start next → Runs script history lone v → TreatAlike next v who.0
          → ((k : ℕ) → v.gateway.retired k ≡ true → next.gateway.retired k ≡ true) → RunsWithin script more next end → RunsBeside script who.0 more next v end)
          → ((v end : World) (past history : List Event) → Runs script past start next → Runs script history lone v → TreatAlike next v call
          → ((k : ℕ) → v.gateway.retired k ≡ true → next.gateway.retired k ≡ true) → RunsWithin script more next end → RunsBeside script call more next v end)
          → (too : World) × (HappensAlone (test || who.0 == call) script (OfCall who happens) v too × RunsBeside script (if test then who.0 else call) more next too end)
      by_begins true e heir later =
          let it = begun_on call happens e in
          let begins : Begins script w who.0 it.0.0 next = subst (λ (h : CallEvent). OccursTo script w who.0 h next) it.1 occurs in
          let b : Begins script w who.0 call next = subst (λ (n : ℕ). Begins script w who.0 n next) it.2 begins in
          let too = beginnings_happen script w v at who.0 call treat next b
          (unused_alone script entries is_script listed none_broken few calls one start lone opens also_opens enough history w v also_runs call who.0 treat b.unused)
          (not_retired_alone script entries is_script listed none_broken few calls one start lone opens also_opens enough w v who.0 kept b.not_retired) in
          let back : Begins script v who.0 it.0.0 too.0 = subst (λ (n : ℕ). Begins script v who.0 n too.0) (sym it.2) too.1 in
          let also : Occurs script v (OfCall who happens) too.0 = subst (λ (h : CallEvent). OccursTo script v who.0 h too.0) (sym it.1) back in (
            too.0,
            (
              also,
              heir too.0 end (past ++ OfCall who happens ∷ []) (history ++ OfCall who happens ∷ []) on
                  (runs_on script history lone v too.0 (OfCall who happens) also_runs also)
                  (beginnings_alike script w v at who.0 call treat next too.0 b too.1)
                  (kept_begun script entries is_script listed none_broken few calls one start lone opens also_opens enough w v next too.0 who.0 call kept b too.1) rest,
            ),
          )
      by_begins false e heir later = by_call (who.0 == call) refl e later

pub isolated_throughout : CallsAreIsolatedThroughout
unfolding Runs
isolated_throughout script entries is_script listed none_broken few calls one events start end lone among opens also_opens within enough =
    throughout script entries is_script listed none_broken few calls one start lone opens also_opens enough events one.call start lone end [] [] refl refl
    (openings_alike script calls (one ∷ []) one start lone opens also_opens among (only_here one))
    (λ c gone. absurd (not_both gone (ap (λ (retired : ℕ → Bool). retired c) also_opens.gateway.none_retired))) within

-- ---- and so at its end

at_end : (script : Script) (events : List Event) (call : ℕ) (w v end : World) → RunsBeside script call events w v end
    → (last : World) × (Runs script (events_with_heirs call events) v last × TreatAlike end last (heir_of call events))
unfolding Runs RunsBeside
at_end script [] call w v end (is, treat) = (v, (refl, subst (λ (x : World). TreatAlike x v call) (sym is) treat))
at_end script (Restart ∷ more) call w v end (treat, (next, (occurs, (too, (alone, beside))))) =
    let it = at_end script more call next too end beside in (it.0, ((too, (alone, it.1.0)), it.1.1))
at_end script (OfCall one happens ∷ more) call w v end (treat, (next, (occurs, (too, (alone, beside))))) =
    go (begins_on call happens) (one.0 == call) alone beside (at_end script more one.0 next too end) (at_end script more call next too end)
  where
    go : (begins own : Bool) → HappensAlone (begins || own) script (OfCall one happens) v too
        → RunsBeside script (if begins then one.0 else call) more next too end
        → (RunsBeside script one.0 more next too end
        → (last : World) × (Runs script (events_with_heirs one.0 more) too last × TreatAlike end last (heir_of one.0 more)))
        → (RunsBeside script call more next too end
        → (last : World) × (Runs script (events_with_heirs call more) too last × TreatAlike end last (heir_of call more)))
        → (last : World) × (Runs script (if begins then OfCall one happens ∷ events_with_heirs one.0 more
        else if own then OfCall one happens ∷ events_with_heirs call more else events_with_heirs call more) v last
        × TreatAlike end last (if begins then heir_of one.0 more else heir_of call more))
    go true own alone beside heir same = let it = heir beside in (it.0, ((too, (alone, it.1.0)), it.1.1))
    go false true alone beside heir same = let it = same beside in (it.0, ((too, (alone, it.1.0)), it.1.1))
    go false false alone beside heir same =
        let it = same beside in (it.0, (subst (λ (x : World). Runs script (events_with_heirs call more) x it.0) alone it.1.0, it.1.1))

pub heirs_isolated : CallsWithHeirsAreIsolated
heirs_isolated script entries is_script listed none_broken few calls one events start end lone among opens also_opens within enough =
    let it = at_end script events one.call start lone end
    (isolated_throughout script entries is_script listed none_broken few calls one events start end lone among opens also_opens within enough) in
    record { last = it.0; runs = it.1.0; alike = it.1.1 }
