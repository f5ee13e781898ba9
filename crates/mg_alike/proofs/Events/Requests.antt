-- A request of a call that reaches both gateways: both execute it, or both send its reply once more, or both drop it.
use Rattle.std.proofs.Common.{◌≡◌, ◌∙◌, ◌<◌, ◌++◌, ℕ, true, List, ◌∷◌, length, Option, Some, refl, sym, ap, subst, arith, inl, inr, ◌==◌, ◌&&◌, Contains}
use Rattle.mg_merge.proofs.Words.{Agent, AreLeft, ChosenRefusal, Command, Entry, Executes, Gateway, HasIdentifiersLeft, IsContextLeft, IsEphemeralLeft, IsFirst}
use Rattle.mg_merge.proofs.Words.{IsLive, IsRepeat, IsRequestOf, IsScript, Offer, Phase, Reply, Request, RequestCommand, RunsFrom, Script, SentNote, TermId}
use Rattle.mg_merge.proofs.Words.{World, after_results, and_first, and_second, answers, awaits_reply, built_by, commands_of, creator_after, discard, eq-eqb}
use Rattle.mg_merge.proofs.Words.{eqb-true, fresh, kept, last_executed, none_made, offer_to, start_of, the_some, with_gateway}
use Rattle.mg_alike.proofs.Words.{AgentsAlike, AreNamedByNumber, CallAlike, CommandsAlike, ExecutesAlike, OptionsAlike, OwnAlike, Pairwise, PhasesAlike}
use Rattle.mg_alike.proofs.Words.{Renaming, RequestsAlike, TreatAlike, is_awaited}
use Rattle.mg_model.specs.Entries.{IsCovered}
use Rattle.mg_model.proofs.Offered.{fresh_at, number_of}
use Rattle.mg_merge.proofs.Commands.IdentifiersLeft.{Remain}
use Rattle.mg_safety.proofs.Events.Executing.{IsDue, due_runs, is_due}
use Rattle.mg_safety.proofs.Events.ExecutedCalls.{world_after}
use Rattle.mg_safety.proofs.Events.Others.{is_call_of}
use Rattle.mg_safety.proofs.Invariant.Shown.{naming, Seen, Shown}
use Rattle.mg_safety.proofs.Invariant.Sound.{is_call, owned_in, IsSound, IsReplySound, CallIsSound}
use Rattle.mg_safety.proofs.Invariant.Statements.{IsClosed, IsRunOf}
use Rattle.mg_safety.proofs.GoodWorlds.EveryRun.{commands_carry}
use Rattle.mg_safety.proofs.Requests.Run.{requests_run}
use Rattle.mg_safety.proofs.Requests.Starting.{shown_at_start}
use Rattle.mg_safety.proofs.GoodWorlds.Beginning.{reached}
use Rattle.mg_safety.proofs.Certificate.Closed.{closed}
use Rattle.mg_safety.proofs.Messages.NamedMessages.{named_by_number}
use Rattle.mg_alike.proofs.Agents.Requests.{built_same, commands_alike}
use Rattle.mg_alike.proofs.Agents.Steps.{results_alike}
use Rattle.mg_alike.proofs.Events.Created.{named_of, created_of}
use Rattle.mg_alike.proofs.Events.Executed.{one_more, after_alike}
use Rattle.mg_alike.proofs.Events.Offers.{OffersAlike, offers_alike}
use Rattle.mg_alike.proofs.Requests.Runs.{IsUnderway, HaveEnded, runs_alike}
use Rattle.mg_alike.proofs.Requests.Starting.{by_names, partner, partner_back, small_contexts, small_ephemerals, starts_alike}
use Rattle.mg_alike.proofs.Shared.Options.{options_more}
use Rattle.mg_merge.proofs.Identifiers.FewCommands.{sent_as_many}

-- a world in which a request was executed, written out
executed_world : World → Gateway → Reply → List SentNote → World
executed_world w g answer sent = record (with_gateway w g) { replies = answer ∷ w.replies; notes = sent ++ w.notes }

same_world : (w : World) (g h : Gateway) (answer other : Reply) (sent more : List SentNote) → g ≡ h → answer ≡ other → sent ≡ more
    → executed_world w g answer sent ≡ executed_world w h other more
same_world w g h answer other sent more first second third = cc

first_is : (w : World) (q : Request) (chosen : Option ChosenRefusal) (after : World) (f : IsFirst w q chosen after)
    → after ≡ world_after w q f.executed.end f.executed.settled f.executed.failure
unfolding executed_world
first_is w q chosen after f = f.after_is ∙ same_world w f.gateway _ f.answer _ f.sent _ f.executed.after_is f.executed.reply_is f.executed.notes_are

-- what one world has of a call of which it executes a request
pub record IsStarted (script : Script) (entries : List Entry) (w : World) (call : ℕ) (a : Agent) (q : Request) : Type 0 where
  pub due : IsDue script (IsCovered entries) w.gateway a q
  pub shown : Shown script (owned_in w.gateway call) (naming a) w.gateway.board due.k.c
  pub live : IsLive due.k.c
  pub remain : Remain w.gateway.board (length (built_by script a a.state))

module _ (script : Script) (entries : List Entry) (closes : IsClosed script (IsCovered entries)) (w : World) (sound : IsSound script (IsCovered entries) w) (left : HasIdentifiersLeft w)
    (call : ℕ) (a : Agent) (open_call : w.agent call ≡ Some a) (q : Request) (there : Contains w.requests q) (of : q.call ≡ call) (is_fresh : offer_to w.gateway q ≡ fresh) where
  own : CallIsSound script (IsCovered entries) w call a
  own = sound.calls call a open_call

  offered : (q.association ≡ w.gateway.association) × (last_executed w.gateway q.call < q.number)
  offered = fresh_at w.gateway q is_fresh

  due_now : IsDue script (IsCovered entries) w.gateway a q
  due_now = is_due script (IsCovered entries) w q a (subst (λ (n : ℕ). CallIsSound script (IsCovered entries) w n a) (sym of) own) (own.requests q there of) offered.0 offered.1

  seen_now : Seen script (owned_in w.gateway call) (naming a) w.gateway.board due_now.k.c
  seen_now =
      subst (λ (n : ℕ). Seen script (owned_in w.gateway n) (naming a) w.gateway.board due_now.k.c) own.numbered
      (subst (λ (x : Agent). Seen script (owned_in w.gateway a.call) (naming x) w.gateway.board due_now.k.c) due_now.effective due_now.k.shown)

  live_now : IsLive due_now.k.c
  live_now = closes.live due_now.k.c due_now.k.stands (inl due_now.link)

  counted : length q.commands ≡ length (built_by script a a.state)
  counted = ap (λ (commands : List RequestCommand). length commands) due_now.outstanding.commands
      ∙ sent_as_many script a none_made 0 (built_by script a a.state)

  started : IsStarted script entries w call a q
  started = record {
    due = due_now;
    shown = shown_at_start script (owned_in w.gateway call) (naming a) w.gateway.board due_now.k.c seen_now due_now.k.stands.covered.1.1.1 due_now.k.stands.of_script
        sound.gateway.accounted live_now;
    live = live_now;
    remain = record {
      contexts = subst (λ (n : ℕ). AreLeft (IsContextLeft w.gateway.board) n) counted (left.contexts q there);
      ephemerals = subst (λ (n : ℕ). AreLeft (IsEphemeralLeft w.gateway.board) n) counted (left.ephemerals q there);
    };
  }

  -- no reply to it was sent
  unanswered : (x : Reply) → Contains w.replies x → x.call ≡ call → is_awaited a.phase x ≡ true → ⊥
  unanswered x sent its e =
      let answered : answers x q ≡ true = subst (λ (phase : Phase). is_awaited phase x ≡ true) due_now.outstanding.phase e in
      let same = and_second (x.call == q.call) ((x.association == q.association) && x.number == q.number) answered in
      let now : x.association ≡ q.association = eqb-true x.association q.association (and_first (x.association == q.association) (x.number == q.number) same) in
      let number : x.number ≡ q.number = eqb-true x.number q.number (and_second (x.association == q.association) (x.number == q.number) same) in
      let is_sound : IsReplySound w.gateway x = (sound.gateway.replies x sent).1 (a, ap w.agent its ∙ open_call) in
      let newer : last_executed w.gateway x.call < q.number = subst (λ (n : ℕ). last_executed w.gateway n < q.number) (of ∙ sym its) offered.1 in
      elim (is_sound.kept (now ∙ offered.0)) [
        | inl last ↦ (let kept : last_executed w.gateway x.call ≡ x.number = ap number_of last in omega (arith, kept, number, newer))
        | inr older ↦ omega (arith, older, number, newer)
      ]

module _ (script : Script) (entries : List Entry) (is_script : IsScript script) (closes : IsClosed script (IsCovered entries)) (w v : World) (sound : IsSound script (IsCovered entries) w)
    (also_sound : IsSound script (IsCovered entries) v) (once : AreNamedByNumber v) (left : HasIdentifiersLeft w) (also_left : HasIdentifiersLeft v) (call number : ℕ) (chosen : Option ChosenRefusal)
    (r : Renaming) (a b : Agent) (alike : CallAlike r w v call a b) (q p : Request) (of : IsRequestOf w call number q) (its : IsRequestOf v call number p) where
  its_call : p.call ≡ call
  its_call = its.1

  pub numbers : p.number ≡ q.number
  numbers = its.2 ∙ sym of.2

  pub associations : p.association ≡ q.association
  associations =
      let other = alike.requests.onward q of.0 of.1 in
      let same : other.0 ≡ p = once.requests other.0 p other.1 its.0 (other.2.call ∙ of.1 ∙ sym its.1) (other.2.number ∙ sym numbers) in
      sym (ap (λ (x : Request). x.association) same) ∙ other.2.association

  pub offers : OffersAlike r (offer_to w.gateway q) (offer_to v.gateway p)
  offers = offers_alike r w.gateway v.gateway q p
      (ap v.gateway.retired its.1 ∙ also_sound.gateway.retired call b alike.open_other ∙ sym (ap w.gateway.retired of.1 ∙ sound.gateway.retired call a alike.open_one))
      associations alike.association
      (rw (of.1, its.1) alike.kept) numbers

  -- what can't be said of the two at once
  clash : (o s : Offer Reply) → offer_to w.gateway q ≡ o → offer_to v.gateway p ≡ s → OffersAlike r o s
  clash o s first second = subst (λ (x : Offer Reply). OffersAlike r x s) first (subst (λ (x : Offer Reply). OffersAlike r (offer_to w.gateway q) x) second offers)

  -- ---- both execute it

  module _ (first : offer_to w.gateway q ≡ fresh) (second : offer_to v.gateway p ≡ fresh) where
    pub one : IsStarted script entries w call a q
    one = started script entries closes w sound left call a alike.open_one q of.0 of.1 first

    pub other : IsStarted script entries v call b p
    other = started script entries closes v also_sound also_left call b alike.open_other p its.0 its.1 second

    pub held_of : (l : ℕ) → is_call (w.gateway.holder l) call ≡ true → (i : ℕ) × (i < length script.lines) × (a.lines i ≡ l)
    held_of l held =
        let it = sound.gateway.held l call (is_call_of (w.gateway.holder l) call held) in
        (it.1, it.3, ap (λ (x : Agent). x.lines it.1) (the_some a it.0 (sym alike.open_one ∙ it.2)) ∙ it.4)

    pub own_line : (i : ℕ) → i < length script.lines → is_call (w.gateway.holder (a.lines i)) call ≡ true
    own_line i within = ap (λ (o : Option ℕ). is_call o call) ((sound.calls call a alike.open_one).held i within) ∙ eq-eqb call call refl

    pub built : built_by script b b.state ≡ built_by script a a.state
    built = ap (λ (n : ℕ). built_by script b n) alike.agents.state ∙ built_same script r a b alike.agents a.state

    pub begins : IsUnderway script (λ l. is_call (w.gateway.holder l) call) a b (by_names script a b) (start_of w.gateway) (start_of v.gateway) 0 (built_by script a a.state) none_made
    begins = starts_alike script is_script w v call r a b alike one.due.k.c other.due.k.c one.shown other.shown one.due.k.stands.of_script one.live
        sound.gateway.accounted also_sound.gateway.accounted held_of a.state one.remain
        (subst (λ (commands : List Command). Remain v.gateway.board (length commands)) built other.remain)

    module _ (after next : World) (f : IsFirst w q chosen after) (g : IsFirst v p chosen next) where
      ended : HaveEnded (λ l. is_call (w.gateway.holder l) call) (by_names script a b) f.executed.end g.executed.end f.executed.failure g.executed.failure
      ended = runs_alike script (λ l. is_call (w.gateway.holder l) call) a b own_line alike.agents.lines q.number chosen (built_by script a a.state) (by_names script a b)
          (start_of w.gateway) (start_of v.gateway) 0 none_made begins f.executed.end g.executed.end f.executed.failure g.executed.failure
          (subst (λ (commands : List RequestCommand). RunsFrom q.number chosen (start_of w.gateway) 0 commands f.executed.end f.executed.failure) one.due.outstanding.commands f.executed.runs)
          (subst (λ (n : ℕ). RunsFrom n chosen (start_of v.gateway) 0 (commands_of script b none_made 0 (built_by script a a.state)) g.executed.end g.executed.failure) numbers
          (subst (λ (commands : List RequestCommand). RunsFrom p.number chosen (start_of v.gateway) 0 commands g.executed.end g.executed.failure)
          (other.due.outstanding.commands ∙ ap (λ (list : List Command). commands_of script b none_made 0 list) built) g.executed.runs))

      contexts_wide : (j : ℕ) → OptionsAlike ended.wide.contexts (a.contexts j) (b.contexts j)
      contexts_wide j = options_more (by_names script a b).contexts ended.wide.contexts ended.wider.contexts (a.contexts j) (b.contexts j)
          (small_contexts script is_script w v call r a b alike one.due.k.c other.due.k.c one.shown other.shown one.due.k.stands.of_script one.live
          sound.gateway.accounted also_sound.gateway.accounted held_of j)

      ephemerals_wide : (k : ℕ) → OptionsAlike ended.wide.ephemerals (a.ephemerals k) (b.ephemerals k)
      ephemerals_wide k = options_more (by_names script a b).ephemerals ended.wide.ephemerals ended.wider.ephemerals (a.ephemerals k) (b.ephemerals k)
          (small_ephemerals script is_script w v call r a b alike one.due.k.c other.due.k.c one.shown other.shown one.due.k.stands.of_script one.live
          sound.gateway.accounted also_sound.gateway.accounted held_of k)

      outstanding_wide : RequestsAlike ended.wide q p
      outstanding_wide = assumption (
        its.1 ∙ sym of.1,
        associations,
        numbers,
        subst (λ (commands : List RequestCommand). Pairwise (CommandsAlike ended.wide) commands p.commands) (sym one.due.outstanding.commands)
            (subst (λ (commands : List RequestCommand). Pairwise (CommandsAlike ended.wide) (commands_of script a none_made 0 (built_by script a a.state)) commands)
            (sym (other.due.outstanding.commands ∙ ap (λ (list : List Command). commands_of script b none_made 0 list) built))
            (commands_alike script ended.wide a b alike.agents.lines contexts_wide ephemerals_wide none_made 0 (built_by script a a.state))),
      )

      phases_wide : PhasesAlike ended.wide a.phase b.phase
      phases_wide =
          subst (λ (phase : Phase). PhasesAlike ended.wide phase b.phase) (sym one.due.outstanding.phase)
          (subst (λ (phase : Phase). PhasesAlike ended.wide (awaits_reply q) phase) (sym other.due.outstanding.phase) outstanding_wide)

      -- the agents as they will be once they have taken their replies
      run_one : IsRunOf script (IsCovered entries) w.gateway a q.number f.executed.end f.executed.failure
      run_one = due_runs (requests_run commands_carry) script (IsCovered entries) is_script closes w.gateway a q chosen f.executed.end f.executed.failure one.due sound.gateway.accounted f.executed.runs

      run_other : IsRunOf script (IsCovered entries) v.gateway b p.number g.executed.end g.executed.failure
      run_other = due_runs (requests_run commands_carry) script (IsCovered entries) is_script closes v.gateway b p chosen g.executed.end g.executed.failure other.due also_sound.gateway.accounted
          g.executed.runs

      agents_wide : AgentsAlike ended.wide a b
      agents_wide = assumption (phases_wide, contexts_wide, ephemerals_wide)

      taken_wide : AgentsAlike ended.wide (after_results a (built_by script a a.state) f.executed.end.results q.number)
          (after_results b (built_by script b b.state) g.executed.end.results p.number)
      taken_wide =
          subst (λ (n : ℕ). AgentsAlike ended.wide (after_results a (built_by script a a.state) f.executed.end.results q.number)
          (after_results b (built_by script b b.state) g.executed.end.results n)) (sym numbers)
          (rw built (results_alike script ended.wide ended.running.renaming (built_by script a a.state) f.executed.end.results g.executed.end.results
          ended.running.results q.number a b agents_wide))

      created_wide : (x : ℕ) → creator_after w.gateway q f.executed.end x ≡ Some call
          → (y : ℕ) × (ended.wide.ephemerals x y ≡ true) × (creator_after v.gateway p g.executed.end y ≡ Some call)
      created_wide x made =
          let k = named_of script w.gateway q a (after_results a (built_by script a a.state) f.executed.end.results q.number) call of.1
          (sound.calls call a alike.open_one).numbered f.executed.end run_one.c run_one.shown run_one.changes sound.gateway.accounted run_one.accounted x made in
          let its = partner ended.wide.ephemerals ((after_results a (built_by script a a.state) f.executed.end.results q.number).ephemerals k.0)
          ((after_results b (built_by script b b.state) g.executed.end.results p.number).ephemerals k.0) x k.1 (taken_wide.ephemerals k.0) in (
            its.0,
            its.2,
            created_of script v.gateway p b (after_results b (built_by script b b.state) g.executed.end.results p.number) call its_call
                (also_sound.calls call b alike.open_other).numbered g.executed.end run_other.c run_other.shown run_other.changes also_sound.gateway.accounted run_other.accounted k.0 its.0 its.1,
          )

      created_back : (y : ℕ) → creator_after v.gateway p g.executed.end y ≡ Some call
          → (x : ℕ) × (ended.wide.ephemerals x y ≡ true) × (creator_after w.gateway q f.executed.end x ≡ Some call)
      created_back y made =
          let k = named_of script v.gateway p b (after_results b (built_by script b b.state) g.executed.end.results p.number) call its_call
          (also_sound.calls call b alike.open_other).numbered g.executed.end run_other.c run_other.shown run_other.changes also_sound.gateway.accounted run_other.accounted y made in
          let it = partner_back ended.wide.ephemerals ((after_results a (built_by script a a.state) f.executed.end.results q.number).ephemerals k.0)
          ((after_results b (built_by script b b.state) g.executed.end.results p.number).ephemerals k.0) y k.1 (taken_wide.ephemerals k.0) in (
            it.0,
            it.2,
            created_of script w.gateway q a (after_results a (built_by script a a.state) f.executed.end.results q.number) call of.1
                (sound.calls call a alike.open_one).numbered f.executed.end run_one.c run_one.shown run_one.changes sound.gateway.accounted run_one.accounted k.0 it.0 it.1,
          )

      both_first : TreatAlike after next call
      both_first = record {
        renaming = ended.wide;
        one = a;
        other = b;
        alike = subst (λ (x : World). CallAlike ended.wide x next call a b) (sym (first_is w q chosen after f))
            (subst (λ (x : World). CallAlike ended.wide (world_after w q f.executed.end f.executed.settled f.executed.failure) x call a b)
            (sym (first_is v p chosen next g))
            (after_alike script w v call r a b alike q p of.1 its.1 associations numbers f.executed.end g.executed.end f.executed.settled g.executed.settled
            f.executed.failure g.executed.failure f.executed.is_settled g.executed.is_settled ended.wide ended.running ended.same contexts_wide ephemerals_wide created_wide created_back phases_wide
            (unanswered script entries closes w sound left call a alike.open_one q of.0 of.1 first)));
      }

  -- ---- both send the reply once more

  abbrev again : World → Reply → World
  again x answer = record x { replies = answer ∷ x.replies }

  both_repeat : (after next : World) → IsRepeat w q after → IsRepeat v p next → TreatAlike after next call
  both_repeat after next f g = record {
    renaming = r;
    one = a;
    other = b;
    alike = subst (λ (x : World). CallAlike r x next call a b) (sym f.after_is)
        (subst (λ (x : World). CallAlike r (again w f.answer) x call a b) (sym g.after_is) (assumption (
          λ (t u : TermId) (own : OwnAlike r (again w f.answer) (again v g.answer) call t u). alike.rows t u own,
          λ (t u s x : TermId) (first : OwnAlike r (again w f.answer) (again v g.answer) call t u)
              (second : OwnAlike r (again w f.answer) (again v g.answer) call s x). alike.cuts t u s x first second,
          one_more r r a.phase a.phase call f.answer g.answer w.replies v.replies (clash (kept f.answer) (kept g.answer) f.kept g.kept)
              (λ x y there its same. same) alike.replies,
        )));
  }

  by_case : (after next : World) → Executes w q chosen after → Executes v p chosen next → TreatAlike after next call
  by_case after next (inl f) (inl g) = both_first f.executed.is_fresh g.executed.is_fresh after next f g
  by_case after next (inr (inl f)) (inr (inl g)) = both_repeat after next f g
  by_case after next (inr (inr f)) (inr (inr g)) = record {
    renaming = r;
    one = a;
    other = b;
    alike = subst (λ (x : World). CallAlike r x next call a b) (sym f.1) (subst (λ (x : World). CallAlike r w x call a b) (sym g.1) alike);
  }
  by_case after next (inl f) (inr (inl g)) = absurd (clash fresh (kept g.answer) f.executed.is_fresh g.kept)
  by_case after next (inl f) (inr (inr g)) = absurd (clash fresh discard f.executed.is_fresh g.0)
  by_case after next (inr (inl f)) (inl g) = absurd (clash (kept f.answer) fresh f.kept g.executed.is_fresh)
  by_case after next (inr (inl f)) (inr (inr g)) = absurd (clash (kept f.answer) discard f.kept g.0)
  by_case after next (inr (inr f)) (inl g) = absurd (clash discard fresh f.0 g.executed.is_fresh)
  by_case after next (inr (inr f)) (inr (inl g)) = absurd (clash discard (kept g.answer) f.0 g.kept)

pub executes_alike : ExecutesAlike
executes_alike script w v at left also_left call number chosen treat after next (q, of, executes) (p, its, also) =
    by_case script at.entries at.is_script (closed script at.entries at.is_script at.listed at.none_broken) w v
    (reached script at.entries at.is_script at.listed at.none_broken at.calls at.events at.start w at.opens at.runs)
    (reached script at.entries at.is_script at.listed at.none_broken at.others at.history at.first v at.also_opens at.also_runs)
    (named_by_number script at.others at.history at.first v at.also_opens at.also_runs) left also_left call number chosen treat.renaming treat.one treat.other treat.alike
    q p of its after next executes also
