-- The request that a call waits for reaches its gateway, which chooses no refusal: it is executed, or its kept reply is sent once more.
use Rattle.std.proofs.Common.{◌≡◌, ◌∙◌, ◌+◌, ◌<◌, ◌≤◌, ℕ, Bool, true, false, List, [], ◌∷◌, length, Option, Some, None, refl, sym, ap, subst, arith, inl, inr}
use Rattle.std.specs.Prelude.{◌==◌, Contains, if◌then◌else◌, nat_lt}
use Rattle.std.proofs.lemmas.Bool.{eq-eqb}
use Rattle.std.proofs.lemmas.Bool.Decides.{nat_tests}
use Rattle.mg_model.specs.declared.commands.Command.{Command}
use Rattle.mg_model.specs.declared.events.CallEvent.TheVariants as to_call
use Rattle.mg_model.specs.declared.failures.Failure.{Failure}
use Rattle.mg_model.specs.Accepted.{IsScript}
use Rattle.mg_model.specs.Agent.{Agent, Made, after_results, built_by, commands_of, made_after, none_made}
use Rattle.mg_model.specs.Board.{Board, IsSettled}
use Rattle.mg_model.specs.Delivery.{fresh, kept, discard, offer, offer_by}
use Rattle.mg_model.specs.Gateway.{Gateway, after_request, last_executed, link_in, numbered, offer_to, reply_of, sent_notes, start_of}
use Rattle.mg_model.specs.Messages.{Request, RequestCommand, Reply}
use Rattle.mg_model.specs.Numbers.{last_number}
use Rattle.mg_model.specs.RequestRun.{Running, RunsFrom}
use Rattle.mg_model.specs.Script.{Script}
use Rattle.mg_model.specs.World.{World, OccursTo}
use Rattle.mg_model.proofs.Cases.{the_some}
use Rattle.mg_model.proofs.Offered.{is_fresh_at}
use Rattle.mg_safety.proofs.Agents.EffectiveAgent.{results_keep}
use Rattle.mg_safety.proofs.Events.Others.{is_call_of}
use Rattle.mg_safety.proofs.GoingOn.InOrder.{IsInOrder}
use Rattle.mg_safety.proofs.GoingOn.Running.{request_runs}
use Rattle.mg_safety.proofs.GoingOn.Settling.{can_settle}
use Rattle.mg_safety.proofs.GoingOn.Taking.{Remain, fewer_remain}
use Rattle.mg_safety.proofs.GoodWorlds.EveryRun.{commands_carry}
use Rattle.mg_safety.proofs.Invariant.Shown.{LinesShown, Seen, naming}
use Rattle.mg_safety.proofs.Invariant.Sound.{Listed, IsCurrent, IsOutstanding, IsSent, IsSound, is_call, owned_in}
use Rattle.mg_safety.proofs.Invariant.Statements.{IsClosed}
use Rattle.mg_safety.proofs.Events.Executing.{HasRun}
use Rattle.mg_safety.proofs.Events.ExecutedCalls.{own_current, world_after}
use Rattle.mg_safety.proofs.Events.Others.{owners_agree}
use Rattle.mg_safety.proofs.Invariant.Sound.{IsCurrentAt}
use Rattle.mg_safety.proofs.Requests.FewNotes.{notes_few}
use Rattle.mg_safety.proofs.Requests.Run.{IsRunFrom, requests_come}

pub as_many : (script : Script) (a : Agent) (made : Made) (place : ℕ) (commands : List Command)
    → length (commands_of script a made place commands) ≡ length commands
as_many script a made place [] = refl
as_many script a made place (command ∷ more) = let rest = as_many script a (made_after made command place) (place + 1) more in omega (arith, rest)

not_less : (n m : ℕ) → n ≡ m → nat_lt n m ≡ false
not_less n m same = grind (arith, nat_tests)

is_kept_at : (g : Gateway) (request : Request) (answer : Reply) → g.retired request.call ≡ false → request.association ≡ g.association
    → (g.link request.call).last ≡ Some answer → answer.number ≡ request.number → offer_to g request ≡ kept answer
is_kept_at g request answer open_call present last number =
    ap (λ (retired : Bool). if retired then discard else offer (link_in g request.call) request.association request.number) open_call
    ∙ ap (λ (same : Bool). if same then offer_by (link_in g request.call).last request.number else discard) (eq-eqb request.association g.association present)
    ∙ ap (λ (o : Option Reply). offer_by (numbered o) request.number) last
    ∙ ap (λ (above : Bool). if above then fresh else if request.number == answer.number then kept answer else discard)
    (not_less answer.number request.number number)
    ∙ ap (λ (same : Bool). if same then kept answer else discard) (eq-eqb request.number answer.number (sym number))

-- ---- a call

module _ (script : Script) (Among : Listed) (is_script : IsScript script) (closes : IsClosed script Among) (w : World)
    (sound : IsSound script Among w) (order : IsInOrder w)
    (call : ℕ) (a : Agent) (there : w.agent call ≡ Some a) (k : IsCurrent script Among w.gateway a) where
  of_call : a.call ≡ call
  of_call = (sound.calls call a there).numbered

  module _ (request : Request) (o : IsOutstanding script a request) where
    pub its_call : request.call ≡ call
    its_call = o.call ∙ of_call

    pub among : Contains w.requests request
    among = order.outstanding call a request there o.phase

    pub present : request.association ≡ w.gateway.association
    present = o.association ∙ k.association

    open_call : w.gateway.retired request.call ≡ false
    open_call = ap w.gateway.retired its_call ∙ sound.gateway.retired call a there

    -- the kept reply is sent once more
    pub sends_again : (answer : Reply) → (w.gateway.link a.call).last ≡ Some answer → answer.number ≡ request.number
        → OccursTo script w call (to_call.Execute request.number None) (record w { replies = answer ∷ w.replies })
    sends_again answer last number = (
      request,
      (among, its_call, refl),
      inr (inl (record {
        answer = answer;
        kept = is_kept_at w.gateway request answer open_call present (ap (λ (c : ℕ). (w.gateway.link c).last) o.call ∙ last) number;
        after_is = refl;
      })),
    )

  -- the request is executed
  pub record Execution (s : IsSent script w.gateway a k.e k.c.link) : Type 0 where
    pub end : Running
    pub failure : Option Failure
    pub settled : Board
    pub is_settled : IsSettled end.board settled
    pub run : IsRunFrom script Among w.gateway a s.request.number None w.gateway.board k.c (built_by script a a.state) end failure
    pub few : length end.notes ≤ length s.request.commands
    pub occurs : OccursTo script w call (to_call.Execute s.request.number None) (world_after w s.request end settled failure)
    pub current : IsCurrentAt script Among (world_after w s.request end settled failure).gateway a run.run.c

  -- identifiers are left for its commands, and to spare
  module _ (s : IsSent script w.gateway a k.e k.c.link) (spare : ℕ) (remain : Remain w.gateway.board (length (built_by script a a.state) + spare))
      (room : (w.gateway.link call).notes + length s.request.commands ≤ last_number) where
    seen : Seen script (owned_in w.gateway a.call) (naming a) w.gateway.board k.c
    seen = subst (λ (x : Agent). Seen script (owned_in w.gateway a.call) (naming x) w.gateway.board k.c) s.effective k.shown

    found : (end : Running) × (failure : Option Failure)
        × RunsFrom s.request.number None (start_of w.gateway) 0 (commands_of script a none_made 0 (built_by script a a.state)) end failure
    found = request_runs script is_script Among closes w.gateway a k.c k.stands s.link_is k.state seen sound.gateway.accounted
        (fewer_remain w.gateway.board (length (built_by script a a.state) + spare) (length (built_by script a a.state)) (omega arith) remain) s.request.number

    ran : RunsFrom s.request.number None (start_of w.gateway) 0 s.request.commands found.0 found.1
    ran = subst (λ (commands : List RequestCommand). RunsFrom s.request.number None (start_of w.gateway) 0 commands found.0 found.1)
        (sym s.outstanding.commands) found.2

    from : IsRunFrom script Among w.gateway a s.request.number None w.gateway.board k.c (built_by script a a.state) found.0 found.1
    from = requests_come commands_carry script Among is_script closes w.gateway a k.c k.stands s.link_is k.state seen
        (subst (λ (x : Agent). LinesShown script x w.gateway.line k.c) s.effective k.lines_shown) sound.gateway.accounted s.request.number None
        found.0 found.1 found.2

    held_of : (l : ℕ) → is_call (w.gateway.holder l) a.call ≡ true → (i : ℕ) × (i < length script.lines) × (a.lines i ≡ l)
    held_of l held =
        let it = sound.gateway.held l a.call (is_call_of (w.gateway.holder l) a.call held) in
        (it.1, it.3, ap (λ (x : Agent). x.lines it.1) (the_some a it.0 (sym (ap w.agent of_call ∙ there) ∙ it.2)) ∙ it.4)

    settles : (board : Board) × IsSettled found.0.board board
    settles =
        let bound = after_results a (built_by script a a.state) found.0.results s.request.number in
        let keeps = results_keep a (built_by script a a.state) found.0.results s.request.number in
        can_settle script w.gateway a.call (naming a) (naming bound) k.c from.run.c found.0.board seen
        from.run.shown from.run.changes sound.gateway.accounted held_of keeps.lines
        order.settled

    newer : last_executed w.gateway s.request.call < s.request.number
    newer = subst (λ (c : ℕ). last_executed w.gateway c < s.request.number) (sym s.outstanding.call) s.above

    has_run : HasRun script Among w s.request found.0 found.1
    has_run = record {
      agent = a;
      open_call = ap w.agent (its_call s.request s.outstanding) ∙ there;
      call = sym s.outstanding.call;
      association = present s.request s.outstanding;
      newer = newer;
      below = (sound.calls call a there).outstanding s.request s.outstanding.phase;
      outstanding = s.outstanding;
      run = from.run;
    }

    pub executes : Execution s
    unfolding has_run
    executes = record {
      end = found.0;
      failure = found.1;
      settled = settles.0;
      is_settled = settles.1;
      run = from;
      few = let few = notes_few s.request.number None s.request.commands (start_of w.gateway) 0 found.0 found.1 ran in omega (arith, few);
      occurs = (
        s.request,
        (among s.request s.outstanding, its_call s.request s.outstanding, refl),
        inl (record {
          gateway = after_request w.gateway s.request found.0 settles.0 found.1;
          answer = reply_of s.request found.0 found.1;
          sent = sent_notes s.request.call s.request.association (w.gateway.link s.request.call).notes found.0.notes;
          executed = record {
            end = found.0;
            settled = settles.0;
            failure = found.1;
            is_fresh = is_fresh_at w.gateway s.request (open_call s.request s.outstanding) (present s.request s.outstanding) newer;
            room = subst (λ (c : ℕ). (w.gateway.link c).notes + length s.request.commands ≤ last_number) (sym (its_call s.request s.outstanding)) room;
            runs = ran;
            is_settled = settles.1;
            after_is = refl;
            reply_is = refl;
            notes_are = refl;
          };
          after_is = refl;
        }),
      );
      current = own_current script Among w s.request found.0 settles.0 found.1 sound has_run settles.1 owners_agree;
    }
