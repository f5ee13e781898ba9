-- An event of a call that can happen in the one world can happen in the other that treats it alike.
use Rattle.std.proofs.Common.{◌≡◌, ◌∙◌, ◌<◌, ◌≤◌, ◌++◌, ℕ, true, List, ◌∷◌, length, Option, Some, refl, sym, ap, subst, inl, inr}
use Rattle.mg_merge.proofs.Words.{Agent, Board, CallEvent, ChosenRefusal, Command, Entry, Executes, HasIdentifiersLeft, IsFirst, IsRequestOf, IsScript}
use Rattle.mg_merge.proofs.Words.{IsSettled, OccursTo, Offer, Reply, Request, RequestCommand, Running, RunsFrom, Script, SentNote, World, after_request}
use Rattle.mg_merge.proofs.Words.{after_results, built_by, commands_of, discard, fresh, heard, kept, line_places, none_made, noted, offer_to, passed, replied}
use Rattle.mg_merge.proofs.Words.{reply_of, sent_notes, start_of, the_some, timed, with_gateway}
use Rattle.mg_alike.proofs.Words.{AreNamedByNumber, AreReached, CallAlike, EventsHappenAlike, IsBeginning, Renaming, StepAlike, StepsAlike, TreatAlike}
use Rattle.mg_model.specs.Entries.{IsCovered}
use Rattle.mg_model.specs.declared.events.CallEvent.TheVariants as to_call
use Rattle.mg_safety.proofs.Agents.EffectiveAgent.{results_keep}
use Rattle.mg_safety.proofs.Certificate.Closed.{closed}
use Rattle.mg_safety.proofs.Events.Executing.{due_runs}
use Rattle.mg_safety.proofs.Events.Others.{is_call_of}
use Rattle.mg_safety.proofs.GoodWorlds.Beginning.{reached}
use Rattle.mg_safety.proofs.GoodWorlds.EveryRun.{commands_carry}
use Rattle.mg_safety.proofs.Invariant.Shown.{naming, Shown, ChangesOwned, owned_at}
use Rattle.mg_safety.proofs.Invariant.Sound.{is_call, owner_of, IsSound}
use Rattle.mg_safety.proofs.Invariant.Statements.{IsClosed, IsRunOf}
use Rattle.mg_safety.proofs.Messages.NamedMessages.{named_by_number}
use Rattle.mg_safety.proofs.Requests.Run.{requests_run}
use Rattle.mg_alike.proofs.Agents.Steps.{agents_step}
use Rattle.mg_alike.proofs.Events.Every.{taken_is_awaited}
use Rattle.mg_alike.proofs.Events.LineEvents.{lines_too}
use Rattle.mg_alike.proofs.Events.Offers.{OffersAlike}
use Rattle.mg_alike.proofs.Events.Requests.{IsStarted, numbers, offers, one, other, own_line, built, begins}
use Rattle.mg_alike.proofs.Events.Settled.{opening_settled, runs_settled}
use Rattle.mg_alike.proofs.Events.Settling.{board_settled, is_settled}
use Rattle.mg_alike.proofs.Events.Steps.{steps_too}
use Rattle.mg_alike.proofs.Requests.Runs.{runs_too}
use Rattle.mg_alike.proofs.Requests.Starting.{by_names}
use Rattle.mg_alike.proofs.Shared.Turned.{treated_mutually}
use Rattle.mg_merge.proofs.Identifiers.FewCommands.{sent_as_many}

-- ---- what a link says

module _ (r : Renaming) where
  fresh_too : (o s : Offer Reply) → o ≡ fresh → OffersAlike r o s → s ≡ fresh
  fresh_too o s is same = go s (subst (λ (x : Offer Reply). OffersAlike r x s) is same)
    where
      go : (s : Offer Reply) → OffersAlike r fresh s → s ≡ fresh
      go fresh same = refl
      go _ same = absurd same

  kept_too : (o s : Offer Reply) (answer : Reply) → o ≡ kept answer → OffersAlike r o s → (also : Reply) × (s ≡ kept also)
  kept_too o s answer is same = go s (subst (λ (x : Offer Reply). OffersAlike r x s) is same)
    where
      go : (s : Offer Reply) → OffersAlike r (kept answer) s → (also : Reply) × (s ≡ kept also)
      go (kept reply) same = (reply, refl)
      go _ same = absurd same

  dropped_too : (o s : Offer Reply) → o ≡ discard → OffersAlike r o s → s ≡ discard
  dropped_too o s is same = go s (subst (λ (x : Offer Reply). OffersAlike r x s) is same)
    where
      go : (s : Offer Reply) → OffersAlike r discard s → s ≡ discard
      go discard same = refl
      go _ same = absurd same

-- ---- a request

module _ (script : Script) (entries : List Entry) (is_script : IsScript script) (closes : IsClosed script (IsCovered entries)) (w v : World) (sound : IsSound script (IsCovered entries) w)
    (also_sound : IsSound script (IsCovered entries) v) (once : AreNamedByNumber v) (left : HasIdentifiersLeft w) (also_left : HasIdentifiersLeft v)
    (settled : IsSettled v.gateway.board v.gateway.board) (call number : ℕ) (chosen : Option ChosenRefusal) (r : Renaming) (a b : Agent) (alike : CallAlike r w v call a b)
    (q p : Request) (of : IsRequestOf w call number q) (its : IsRequestOf v call number p) where
  both : OffersAlike r (offer_to w.gateway q) (offer_to v.gateway p)
  both = offers script entries is_script closes w v sound also_sound once left also_left call number chosen r a b alike q p of its

  module _ (after : World) (f : IsFirst w q chosen after) where
    first : offer_to w.gateway q ≡ fresh
    first = f.executed.is_fresh

    second : offer_to v.gateway p ≡ fresh
    second = fresh_too r (offer_to w.gateway q) (offer_to v.gateway p) first both

    was : IsStarted script entries w call a q
    was = one script entries is_script closes w v sound also_sound once left also_left call number chosen r a b alike q p of its first second

    also : IsStarted script entries v call b p
    also = other script entries is_script closes w v sound also_sound once left also_left call number chosen r a b alike q p of its first second

    same_built : built_by script b b.state ≡ built_by script a a.state
    same_built = built script entries is_script closes w v sound also_sound once left also_left call number chosen r a b alike q p of its first second

    same_number : p.number ≡ q.number
    same_number = numbers script entries is_script closes w v sound also_sound once left also_left call number chosen r a b alike q p of its

    found : (last : Running) × RunsFrom q.number chosen (start_of v.gateway) 0 (commands_of script b none_made 0 (built_by script a a.state)) last f.executed.failure
    found = runs_too script (λ l. is_call (w.gateway.holder l) call) a b
        (own_line script entries is_script closes w v sound also_sound once left also_left call number chosen r a b alike q p of its first second) alike.agents.lines q.number chosen
        (built_by script a a.state) (by_names script a b) (start_of w.gateway) (start_of v.gateway) 0 none_made
        (begins script entries is_script closes w v sound also_sound once left also_left call number chosen r a b alike q p of its first second) f.executed.end f.executed.failure
        (subst (λ (commands : List RequestCommand). RunsFrom q.number chosen (start_of w.gateway) 0 commands f.executed.end f.executed.failure) was.due.outstanding.commands f.executed.runs)

    commands : p.commands ≡ commands_of script b none_made 0 (built_by script a a.state)
    commands = also.due.outstanding.commands ∙ ap (λ (list : List Command). commands_of script b none_made 0 list) same_built

    runs : RunsFrom p.number chosen (start_of v.gateway) 0 p.commands found.0 f.executed.failure
    runs =
        subst (λ (n : ℕ). RunsFrom n chosen (start_of v.gateway) 0 p.commands found.0 f.executed.failure) (sym same_number)
        (subst (λ (list : List RequestCommand). RunsFrom q.number chosen (start_of v.gateway) 0 list found.0 f.executed.failure) (sym commands) found.1)

    run : IsRunOf script (IsCovered entries) v.gateway b p.number found.0 f.executed.failure
    run = due_runs (requests_run commands_carry) script (IsCovered entries) is_script closes v.gateway b p chosen found.0 f.executed.failure also.due also_sound.gateway.accounted runs

    numbered : b.call ≡ call
    numbered = (also_sound.calls call b alike.open_other).numbered

    held_of : (l : ℕ) → is_call (v.gateway.holder l) call ≡ true → (i : ℕ) × (i < length script.lines) × (b.lines i ≡ l)
    held_of l held =
        let it = also_sound.gateway.held l call (is_call_of (v.gateway.holder l) call held) in
        (it.1, it.3, ap (λ (x : Agent). x.lines it.1) (the_some b it.0 (sym alike.open_other ∙ it.2)) ∙ it.4)

    end_shown : Shown script (owned_at (owner_of v.gateway call) found.0.board) (naming (after_results b (built_by script b b.state) found.0.results p.number)) found.0.board run.c
    end_shown = subst (λ (n : ℕ). Shown script (owned_at (owner_of v.gateway n) found.0.board)
        (naming (after_results b (built_by script b b.state) found.0.results p.number)) found.0.board run.c) numbered run.shown

    end_changes : ChangesOwned (owner_of v.gateway call) v.gateway.board found.0.board
    end_changes = subst (λ (n : ℕ). ChangesOwned (owner_of v.gateway n) v.gateway.board found.0.board) numbered run.changes

    lines_keep : (after_results b (built_by script b b.state) found.0.results p.number).lines ≡ b.lines
    lines_keep = (results_keep b (built_by script b b.state) found.0.results p.number).lines

    board : Board
    board = board_settled script v.gateway call (naming b) (naming (after_results b (built_by script b b.state) found.0.results p.number)) also.due.k.c run.c found.0.board
        also.shown end_shown end_changes also_sound.gateway.accounted held_of lines_keep settled

    board_is : IsSettled found.0.board board
    unfolding board
    board_is = is_settled script v.gateway call (naming b) (naming (after_results b (built_by script b b.state) found.0.results p.number)) also.due.k.c run.c found.0.board
        also.shown end_shown end_changes also_sound.gateway.accounted held_of lines_keep settled

    as_long : length p.commands ≡ length q.commands
    as_long =
        ap (λ (list : List RequestCommand). length list) commands ∙ sent_as_many script b none_made 0 (built_by script a a.state)
        ∙ sym (sent_as_many script a none_made 0 (built_by script a a.state))
        ∙ sym (ap (λ (list : List RequestCommand). length list) was.due.outstanding.commands)

    counts : (v.gateway.link p.call).notes ≡ (w.gateway.link q.call).notes
    counts = ap (λ (n : ℕ). (v.gateway.link n).notes) its.1 ∙ alike.count ∙ ap (λ (n : ℕ). (w.gateway.link n).notes) (sym of.1)

    first_too : (next : World) × IsFirst v p chosen next
    first_too = (
      record (with_gateway v (after_request v.gateway p found.0 board f.executed.failure)) {
        replies = reply_of p found.0 f.executed.failure ∷ v.replies;
        notes = sent_notes p.call p.association (v.gateway.link p.call).notes found.0.notes ++ v.notes;
      },
      record {
        gateway = after_request v.gateway p found.0 board f.executed.failure;
        answer = reply_of p found.0 f.executed.failure;
        sent = sent_notes p.call p.association (v.gateway.link p.call).notes found.0.notes;
        executed = record {
          end = found.0;
          settled = board;
          failure = f.executed.failure;
          is_fresh = second;
          room = rw (counts, as_long) f.executed.room;
          runs = runs;
          is_settled = board_is;
          after_is = refl;
          reply_is = refl;
          notes_are = refl;
        };
        after_is = refl;
      },
    )

  executes_too : (after : World) → Executes w q chosen after → (next : World) × Executes v p chosen next
  executes_too after (inl f) = let it = first_too after f in (it.0, inl it.1)
  executes_too after (inr (inl f)) =
      let it = kept_too r (offer_to w.gateway q) (offer_to v.gateway p) f.answer f.kept both in
      (record v { replies = it.0 ∷ v.replies }, inr (inl (record { answer = it.0; kept = it.1; after_is = refl })))
  executes_too after (inr (inr f)) =
      (v, inr (inr (dropped_too r (offer_to w.gateway q) (offer_to v.gateway p) f.0 both, refl)))

-- ---- each event

module _ (script : Script) (w v : World) (at : AreReached script w v) (left : HasIdentifiersLeft w) (also_left : HasIdentifiersLeft v) (call : ℕ) (r : Renaming) (a b : Agent) (alike : CallAlike r w v call a b) where
  each : StepAlike script r a b
  each = agents_step script r a b alike.renaming alike.agents

  execute_too : (number : ℕ) (chosen : Option ChosenRefusal) (after : World) → OccursTo script w call (to_call.Execute number chosen) after
      → (next : World) × OccursTo script v call (to_call.Execute number chosen) next
  execute_too number chosen after (q, of, executes) =
      let it = alike.requests.onward q of.0 of.1 in
      let its : IsRequestOf v call number it.0 = (it.1, it.2.call ∙ of.1, it.2.number ∙ of.2) in
      let next = executes_too script at.entries at.is_script (closed script at.entries at.is_script at.listed at.none_broken) w v
      (reached script at.entries at.is_script at.listed at.none_broken at.calls at.events at.start w at.opens at.runs)
      (reached script at.entries at.is_script at.listed at.none_broken at.others at.history at.first v at.also_opens at.also_runs)
      (named_by_number script at.others at.history at.first v at.also_opens at.also_runs) left also_left
      (runs_settled script at.history at.first v (opening_settled script at.others at.first at.also_opens) at.also_runs) call number chosen r a b alike q it.0 of its after executes in
      (next.0, (it.0, its, next.1))

  reply_too : (number : ℕ) (after : World) → OccursTo script w call (to_call.Reply number) after → (next : World) × OccursTo script v call (to_call.Reply number) next
  reply_too number after (answer, of, s) =
      let it = alike.replies.onward answer of.0 of.1 in
      let taken : replied script a answer ≡ Some s.agent =
      ap (λ (x : Agent). replied script x answer) (the_some a s.before (sym alike.open_one ∙ s.open_call)) ∙ s.steps in
      let same = it.2.awaited (taken_is_awaited script a s.agent a.phase answer taken) in
      let next = steps_too w v call r a b alike (λ x. replied script x answer) (λ x. replied script x it.0) (each.replied answer it.0 same) after s in
      (next.0, (it.0, (it.1, it.2.shape.call ∙ of.1, it.2.shape.number ∙ of.2), next.1))

  note_too : (number : ℕ) (after : World) → OccursTo script w call (to_call.Note number) after → (next : World) × OccursTo script v call (to_call.Note number) next
  note_too number after (sent, of, s) =
      let it = alike.notes.onward sent of.0 of.1 in
      let next = steps_too w v call r a b alike (λ x. noted script x (line_places script) sent) (λ x. noted script x (line_places script) it.0)
      (subst (λ (x : SentNote). StepsAlike r (noted script a (line_places script) sent) (noted script b (line_places script) x)) it.2 (each.noted (line_places script) sent)) after s in
      (next.0, (it.0, (it.1, sym (ap (λ (x : SentNote). x.call) it.2) ∙ of.1, sym (ap (λ (x : SentNote). x.number) it.2) ∙ of.2), next.1))

  each_too : (happens : CallEvent) → (IsBeginning happens → ⊥) → (after : World) → OccursTo script w call happens after → (next : World) × OccursTo script v call happens next
  each_too (to_call.OnLine line event) open_call after (held, o) = lines_too w v call r a b alike line.0 held event after o
  each_too (to_call.Execute number chosen) open_call after o = execute_too number chosen after o
  each_too (to_call.Reply number) open_call after o = reply_too number after o
  each_too to_call.Pass open_call after s = steps_too w v call r a b alike (passed script) (passed script) each.passed after s
  each_too (to_call.Note number) open_call after o = note_too number after o
  each_too to_call.Timer open_call after s = steps_too w v call r a b alike (timed script) (timed script) each.timed after s
  each_too (to_call.Begin old) open_call after o = absurd (open_call tt)
  each_too (to_call.Hear association) open_call after (past, s) =
      let next = steps_too w v call r a b alike (λ x. heard script x association.0) (λ x. heard script x association.0) (each.heard association.0) after s in
      (next.0, (subst (λ (n : ℕ). association.0 ≤ n) (sym alike.association) past, next.1))

pub events_happen : (script : Script) (w v : World) → AreReached script w v → HasIdentifiersLeft w → HasIdentifiersLeft v → (call : ℕ) (happens : CallEvent)
    → (IsBeginning happens → ⊥) → TreatAlike w v call → (after : World) → OccursTo script w call happens after → (next : World) × OccursTo script v call happens next
events_happen script w v at left also_left call happens open_call treat after o =
    each_too script w v at left also_left call treat.renaming treat.one treat.other treat.alike happens open_call after o

-- ---- the other way round

turned : (script : Script) (w v : World) → AreReached script w v → AreReached script v w
turned script w v at = record {
  entries = at.entries;
  is_script = at.is_script;
  listed = at.listed;
  none_broken = at.none_broken;
  calls = at.others;
  others = at.calls;
  events = at.history;
  history = at.events;
  start = at.first;
  first = at.start;
  opens = at.also_opens;
  also_opens = at.opens;
  runs = at.also_runs;
  also_runs = at.runs;
}

pub events_happen_exactly : EventsHappenAlike
events_happen_exactly script w v at left also_left call happens open_call treat = (
  λ o. events_happen script w v at left also_left call happens open_call treat o.0 o.1,
  λ o. events_happen script v w (turned script w v at) also_left left call happens open_call (treated_mutually w v call treat) o.0 o.1,
)
