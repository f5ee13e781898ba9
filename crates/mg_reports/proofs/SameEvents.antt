-- An event happens in one way with the same replies, where messages are named by their numbers.
use Rattle.std.proofs.Common.{◌≡◌, ◌∙◌, ◌++◌, ◌==◌, if◌then◌else◌, ℕ, List, [], ◌∷◌, length, Option, Some, None, refl, sym, ap, subst, arith, inl, inr}
use Rattle.std.proofs.lemmas.List.{length-append as length_append}
use Rattle.mg_merge.proofs.Words.{Agent, AgentSteps, Begins, Board, CallEvent, ChosenRefusal, Event, Executes, Failure, Gateway, IsExecutedBy, IsFirst}
use Rattle.mg_merge.proofs.Words.{IsSettled, LineEvent, LineOccurs, Occurs, OccursTo, OfCall, Offer, Outcome, Reply, Request, Restart, Running, Script}
use Rattle.mg_merge.proofs.Words.{SentNote, World, after_request, agent_steps, discard, fresh, kept, line_places, noted, notes_from, offer_to, replied}
use Rattle.mg_merge.proofs.Words.{sent_notes, start_of, the_some, with_gateway, with_line, with_notes}
use Rattle.mg_alike.proofs.Words.{AreNamedByNumber}
use Rattle.mg_model.specs.declared.events.CallEvent.TheVariants as to_call
use Rattle.mg_model.specs.Agent as agents
use Rattle.mg_model.specs.Gateway as gateways
use Rattle.mg_model.proofs.Offered.{kept_at}
use Rattle.mg_model.proofs.Settled.{settled_same}
use Rattle.mg_reports.proofs.SameRequests.{first_same, same_run}
use Rattle.mg_alike.proofs.Events.Kept.{step_of}

-- ---- replies that end alike

abbrev rest_of : {A : Type 0} → List A → List A
rest_of [] = []
rest_of (x ∷ xs) = xs

-- two lists of one length that end a list are one
pub ends_same : {A : Type 0} (more also one other : List A) → more ++ one ≡ also ++ other → length one ≡ length other → one ≡ other
ends_same [] [] one other e same = e
ends_same [] (x ∷ also) one other e same = absurd (let long : length one ≡ length (x ∷ also ++ other) = ap length e in longer also other x one long same)
  where
    longer : {A : Type 0} (also other : List A) (x : A) (one : List A) → length one ≡ length (x ∷ also ++ other) → length one ≡ length other → ⊥
    longer also other x one long same = let sum = length_append also other in omega (arith, long, same, sum)
ends_same (x ∷ more) [] one other e same = absurd (let long : length (x ∷ more ++ one) ≡ length other = ap length e in
    let sum = length_append more one in omega (arith, long, same, sum))
ends_same (x ∷ more) (y ∷ also) one other e same = ends_same more also one other (ap rest_of e) same

-- ---- a request

-- what a request is offered is one thing
fresh_not_kept : (o : Offer Reply) (reply : Reply) → o ≡ fresh → o ≡ kept reply → ⊥
fresh_not_kept o reply e f = cc

fresh_not_discarded : (o : Offer Reply) → o ≡ fresh → o ≡ discard → ⊥
fresh_not_discarded o e f = cc

kept_not_discarded : (o : Offer Reply) (reply : Reply) → o ≡ kept reply → o ≡ discard → ⊥
kept_not_discarded o reply e f = cc

-- where it is executed with the same reply, the gateway and the notes after are the same
same_executed : (g : Gateway) (request : Request) (chosen : Option ChosenRefusal) (one other : Gateway) (reply answer : Reply) (notes sent : List SentNote)
    → IsExecutedBy g request chosen one reply notes → IsExecutedBy g request chosen other answer sent → reply ≡ answer → (one ≡ other) × (notes ≡ sent)
same_executed g request chosen one other reply answer notes sent x y same =
    let results : x.end.results ≡ y.end.results = ap (λ (r : Reply). r.results) (sym x.reply_is ∙ same ∙ y.reply_is) in
    let run = same_run request.number chosen (start_of g) 0 request.commands x.end y.end x.failure y.failure x.runs y.runs results in
    let settled : x.settled ≡ y.settled = settled_same y.end.board x.settled y.settled
    (subst (λ (r : Running). IsSettled r.board x.settled) run.0 x.is_settled) y.is_settled in (
      x.after_is ∙ ap (λ (r : Running). after_request g request r x.settled x.failure) run.0
          ∙ ap (λ (b : Board). after_request g request y.end b x.failure) settled
          ∙ ap (λ (f : Option Failure). after_request g request y.end y.settled f) run.1 ∙ sym y.after_is,
      x.notes_are ∙ ap (λ (r : Running). sent_notes request.call request.association (g.link request.call).notes r.notes) run.0 ∙ sym y.notes_are,
    )

-- lists that stand at the end of one list
abbrev pub EndAlike : List Reply → List Reply → Type 0
EndAlike one other = (more : List Reply) × (also : List Reply) × (more ++ one ≡ also ++ other)

same_first : (w one other : World) (request : Request) (chosen : Option ChosenRefusal) → IsFirst w request chosen one → IsFirst w request chosen other
    → EndAlike one.replies other.replies → one ≡ other
same_first w one other request chosen x y (more, also, e) =
    let replies : x.answer ∷ w.replies ≡ y.answer ∷ w.replies = ends_same more also (x.answer ∷ w.replies) (y.answer ∷ w.replies)
    (sym (ap (λ (v : World). more ++ v.replies) x.after_is) ∙ e ∙ ap (λ (v : World). also ++ v.replies) y.after_is) refl in
    let answer = first_same x.answer y.answer w.replies w.replies replies in
    let same = same_executed w.gateway request chosen x.gateway y.gateway x.answer y.answer x.sent y.sent x.executed y.executed answer in
    x.after_is
    ∙ ap (λ (g : Gateway). record (with_gateway w g) { replies = x.answer ∷ w.replies; notes = x.sent ++ w.notes }) same.0
    ∙ ap (λ (a : Reply). record (with_gateway w y.gateway) { replies = a ∷ w.replies; notes = x.sent ++ w.notes }) answer
    ∙ ap (λ (notes : List SentNote). record (with_gateway w y.gateway) { replies = y.answer ∷ w.replies; notes = notes ++ w.notes }) same.1
    ∙ sym y.after_is

same_execute : (w one other : World) (request : Request) (chosen : Option ChosenRefusal) → Executes w request chosen one → Executes w request chosen other
    → EndAlike one.replies other.replies → one ≡ other
same_execute w one other request chosen (inl x) (inl y) alike = same_first w one other request chosen x y alike
same_execute w one other request chosen (inl x) (inr (inl y)) alike = absurd (fresh_not_kept (offer_to w.gateway request) y.answer x.executed.is_fresh y.kept)
same_execute w one other request chosen (inl x) (inr (inr y)) alike = absurd (fresh_not_discarded (offer_to w.gateway request) x.executed.is_fresh y.0)
same_execute w one other request chosen (inr (inl x)) (inl y) alike = absurd (fresh_not_kept (offer_to w.gateway request) x.answer y.executed.is_fresh x.kept)
same_execute w one other request chosen (inr (inl x)) (inr (inl y)) alike =
    let answer = the_some x.answer y.answer (sym (kept_at w.gateway request x.answer x.kept) ∙ kept_at w.gateway request y.answer y.kept) in
    x.after_is ∙ ap (λ (a : Reply). record w { replies = a ∷ w.replies }) answer ∙ sym y.after_is
same_execute w one other request chosen (inr (inl x)) (inr (inr y)) alike = absurd (kept_not_discarded (offer_to w.gateway request) x.answer x.kept y.0)
same_execute w one other request chosen (inr (inr x)) (inl y) alike = absurd (fresh_not_discarded (offer_to w.gateway request) y.executed.is_fresh x.0)
same_execute w one other request chosen (inr (inr x)) (inr (inl y)) alike = absurd (kept_not_discarded (offer_to w.gateway request) y.answer y.kept x.0)
same_execute w one other request chosen (inr (inr x)) (inr (inr y)) alike = x.1 ∙ sym y.1

-- ---- the other events

same_step : (w one other : World) (call : ℕ) (step : Agent → Option Agent) → AgentSteps w call step one → AgentSteps w call step other → one ≡ other
same_step w one other call step x y =
    let before : x.before ≡ y.before = the_some x.before y.before (sym x.open_call ∙ y.open_call) in
    let agent : x.agent ≡ y.agent = the_some x.agent y.agent (sym x.steps ∙ ap step before ∙ y.steps) in
    x.after_is ∙ ap (λ (a : Agent). agent_steps w call a) agent ∙ sym y.after_is

same_line : (w one other : World) (line : ℕ) (event : LineEvent) → LineOccurs w line event one → LineOccurs w line event other → one ≡ other
same_line w one other line event x y =
    let h = x.happens in let k = y.happens in
    let call : h.call ≡ k.call = the_some h.call k.call (sym h.held ∙ k.held) in
    let outcome : h.outcome ≡ k.outcome = the_some h.outcome k.outcome (sym h.happens ∙ k.happens) in
    let notes : x.sent ≡ y.sent = h.notes_are ∙ ap (λ (c : ℕ). notes_from w.gateway c line h.outcome.note) call
    ∙ ap (λ (o : Outcome). notes_from w.gateway k.call line o.note) outcome ∙ sym k.notes_are in
    let gateway : x.gateway ≡ y.gateway = h.after_is ∙ ap (λ (c : ℕ). with_notes (with_line w.gateway line h.outcome.row) c (length x.sent)) call
    ∙ ap (λ (o : Outcome). with_notes (with_line w.gateway line o.row) k.call (length x.sent)) outcome
    ∙ ap (λ (sent : List SentNote). with_notes (with_line w.gateway line k.outcome.row) k.call (length sent)) notes ∙ sym k.after_is in
    x.after_is ∙ ap (λ (g : Gateway). record (with_gateway w g) { notes = x.sent ++ w.notes }) gateway
    ∙ ap (λ (sent : List SentNote). record (with_gateway w y.gateway) { notes = sent ++ w.notes }) notes ∙ sym y.after_is

same_begin : (script : Script) (w one other : World) (call old : ℕ) → Begins script w call old one → Begins script w call old other → one ≡ other
same_begin script w one other call old x y =
    let before : x.before ≡ y.before = the_some x.before y.before (sym x.open_call ∙ y.open_call) in
    x.after_is ∙ ap (λ (a : Agent). begun_world a) before ∙ sym y.after_is
  where
    begun_world : Agent → World
    begun_world a = record w {
      gateway = gateways.begun w.gateway old call;
      agent = λ c. if c == call then Some (agents.begun script call a) else if c == old then None else w.agent c;
    }

same_of_call : (script : Script) (w one other : World) (call : ℕ) (happens : CallEvent) → AreNamedByNumber w → OccursTo script w call happens one
    → OccursTo script w call happens other → EndAlike one.replies other.replies → one ≡ other
same_of_call script w one other call (to_call.OnLine line event) named x y alike = same_line w one other line.0 event x.1 y.1
same_of_call script w one other call (to_call.Execute number chosen) named (request, is, executes) (also, its, runs) alike =
    let same : request ≡ also = named.requests request also is.0 its.0 (is.1 ∙ sym its.1) (is.2 ∙ sym its.2) in
    same_execute w one other also chosen (subst (λ (r : Request). Executes w r chosen one) same executes) runs alike
same_of_call script w one other call (to_call.Reply number) named (answer, is, steps) (also, its, goes) alike =
    let same : answer ≡ also = named.replies answer also is.0 its.0 (is.1 ∙ sym its.1) (is.2 ∙ sym its.2) in
    same_step w one other call (λ a. replied script a also) (subst (λ (r : Reply). AgentSteps w call (λ a. replied script a r) one) same steps) goes
same_of_call script w one other call to_call.Pass named x y alike = same_step w one other call (agents.passed script) x y
same_of_call script w one other call (to_call.Note number) named (sent, is, steps) (also, its, goes) alike =
    let same : sent ≡ also = named.notes sent also is.0 its.0 (is.1 ∙ sym its.1) (is.2 ∙ sym its.2) in
    same_step w one other call (λ a. noted script a (line_places script) also)
    (subst (λ (n : SentNote). AgentSteps w call (λ a. noted script a (line_places script) n) one) same steps) goes
same_of_call script w one other call to_call.Timer named x y alike = same_step w one other call (agents.timed script) x y
same_of_call script w one other call (to_call.Begin old) named x y alike = same_begin script w one other call old.0 x y
same_of_call script w one other call (to_call.Hear association) named x y alike = same_step w one other call (λ a. agents.heard script a association.0) x.1 y.1

pub same_event : (script : Script) (w one other : World) (event : Event) → AreNamedByNumber w → Occurs script w event one → Occurs script w event other
    → EndAlike one.replies other.replies → one ≡ other
same_event script w one other (OfCall call happens) named x y alike = same_of_call script w one other call.0 happens named x y alike
same_event script w one other Restart named x y alike = x.1 ∙ sym y.1

-- ---- replies are only added

step_adds : (w after : World) (call : ℕ) (step : Agent → Option Agent) → AgentSteps w call step after → (more : List Reply) × (after.replies ≡ more ++ w.replies)
step_adds w after call step x = ([], ap (λ (v : World). v.replies) x.after_is)

of_call_adds : (script : Script) (w after : World) (call : ℕ) (happens : CallEvent) → OccursTo script w call happens after
    → (more : List Reply) × (after.replies ≡ more ++ w.replies)
of_call_adds script w after call (to_call.OnLine line event) x = ([], ap (λ (v : World). v.replies) x.1.after_is)
of_call_adds script w after call (to_call.Execute number chosen) (request, is, inl x) = (x.answer ∷ [], ap (λ (v : World). v.replies) x.after_is)
of_call_adds script w after call (to_call.Execute number chosen) (request, is, inr (inl x)) = (x.answer ∷ [], ap (λ (v : World). v.replies) x.after_is)
of_call_adds script w after call (to_call.Execute number chosen) (request, is, inr (inr x)) = ([], ap (λ (v : World). v.replies) x.1)
of_call_adds script w after call (to_call.Begin old) x = ([], ap (λ (v : World). v.replies) x.after_is)
of_call_adds script w after call happens occurs = let s = step_of script w after call happens tt occurs in step_adds w after call s.0 s.1

pub event_adds : (script : Script) (w after : World) (event : Event) → Occurs script w event after → (more : List Reply) × (after.replies ≡ more ++ w.replies)
event_adds script w after (OfCall call happens) x = of_call_adds script w after call.0 happens x
event_adds script w after Restart x = ([], ap (λ (v : World). v.replies) x.1)
