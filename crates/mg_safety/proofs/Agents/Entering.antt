-- An agent that enters a state: what it keeps of itself, what it sends, and that the configuration which the checker enters is shown then.
use Rattle.mg_safety.proofs.Invariant.Sound.{Listed}
use Rattle.mg_safety.proofs.Words.{◌≡◌, ◌∙◌, ◌+◌, ◌<◌, ◌≤◌, ℕ, Bool, true, false, List, [], ◌∷◌, Some, None, refl, sym, ap, subst, arith, inl, inr}
use Rattle.mg_safety.proofs.Words.{if◌then◌else◌, nat_le, Sent, Answered, Resting, Command, SubtractAll, Agent, Made, Phase, awaits_reply, awaits_pass, resting}
use Rattle.mg_safety.proofs.Words.{entered_with, entered, built_by, command_of, commands_of, made_after, none_made, request_of, Configuration}
use Rattle.mg_safety.proofs.Words.{last_number, Gateway, last_executed, LineRow, Request, RequestCommand, Names, built, Script, request_in, state_of, is_empty}
use Rattle.mg_safety.proofs.Words.{none_is_some, the_some, by_test, ◌⊎◌, Option}
use Rattle.mg_names.specs.declared.phases.LinkPhase as phases
use Rattle.mg_model.specs.Steps as steps
use Rattle.mg_safety.proofs.InvariantWords.{naming, Seen, LinesShown, Stands, IsOfScript, owned_in, IsCurrentAt}
use Rattle.mg_safety.proofs.Requests.RunKnown.{bound_agree}
use Rattle.mg_safety.proofs.Requests.RunSteps.{seen_still}

-- ---- what an agent keeps as it goes on

-- the agent b comes after e: it sends no request but one of its call and association, with a number that it has used
pub record Follows (e b : Agent) : Type 0 where
  pub call : b.call ≡ e.call
  pub association : b.association ≡ e.association
  pub lines : b.lines ≡ e.lines
  pub next : e.next ≤ b.next
  pub sends : (request : Request) → b.phase ≡ awaits_reply request
      → (request.call ≡ e.call) × (request.association ≡ e.association) × (request.number < b.next)
  pub above : (request : Request) → b.phase ≡ awaits_reply request → e.next ≤ request.number

-- the request that a phase names is one
pub same_request : (one other : Request) → awaits_reply one ≡ awaits_reply other → one ≡ other
same_request one other e = cc

pub not_passing : (request : Request) → awaits_pass ≡ awaits_reply request → ⊥
not_passing request e = cc

pub not_resting : (request : Request) → resting ≡ awaits_reply request → ⊥
not_resting request e = cc

pub follows_resting : (e : Agent) → Follows e (record e { phase = resting })
follows_resting e = record {
  call = refl;
  association = refl;
  lines = refl;
  next = omega arith;
  sends = λ request is. absurd (not_resting request is);
  above = λ request is. absurd (not_resting request is);
}

-- an agent that enters a state passes an empty request, or sends the state's
abbrev pub passing : Agent → ℕ → Agent
passing e state = record e { state = state; phase = awaits_pass }

abbrev pub asking : Script → Agent → ℕ → Agent
asking script e state = record e { state = state; phase = awaits_reply (request_of script e state); next = e.next + 1 }

pub enters : (script : Script) (e : Agent) (state : ℕ) (b : Agent) → entered script e state ≡ Some b
    → ((is_empty (built_by script e state) ≡ true) × (passing e state ≡ b)) ⊎ ((is_empty (built_by script e state) ≡ false) × (asking script e state ≡ b))
enters script e state b = by_request (is_empty (built_by script e state))
  where
    by_request : (empty : Bool) → entered_with script e state empty ≡ Some b
        → ((empty ≡ true) × (passing e state ≡ b)) ⊎ ((empty ≡ false) × (asking script e state ≡ b))
    by_request true is = inl (refl, the_some (passing e state) b is)
    by_request false is = inr (
      refl,
      by_test (λ (o : Option Agent). o ≡ Some b → asking script e state ≡ b) (Some (asking script e state)) None
          (nat_le e.next last_number) (λ room. the_some (asking script e state) b) (λ full none. absurd (none_is_some b none)) is,
    )

pub enters_follows : (script : Script) (e : Agent) (state : ℕ) (b : Agent) → entered script e state ≡ Some b → Follows e b
enters_follows script e state b is = elim (enters script e state b is) [
  | inl passes ↦ subst (Follows e) passes.1 (record {
    call = refl;
    association = refl;
    lines = refl;
    next = omega arith;
    sends = λ request is. absurd (not_passing request is);
    above = λ request is. absurd (not_passing request is);
  })
  | inr asks ↦ subst (Follows e) asks.1 (record {
    call = refl;
    association = refl;
    lines = refl;
    next = omega arith;
    sends = λ request is.
        let one : request_of script e state ≡ request = same_request (request_of script e state) request is in
        let number : e.next ≡ request.number = ap (λ (r : Request). r.number) one in
        (sym (ap (λ (r : Request). r.call) one), sym (ap (λ (r : Request). r.association) one), omega (arith, number));
    above = λ request is.
        let number : e.next ≡ request.number = ap (λ (r : Request). r.number) (same_request (request_of script e state) request is) in
        omega (arith, number);
  })
]

-- ---- the request of a state, built from what is bound, and from the configuration

-- an agent at rest between two steps: the gateway shows the configuration by the agent's names
pub record IsBetween (script : Script) (g : Gateway) (e : Agent) (c : Configuration) : Type 0 where
  pub association : e.association ≡ g.association
  pub next : last_executed g e.call < e.next
  pub of_script : IsOfScript script c
  pub shown : Seen script (owned_in g e.call) (naming e) g.board c
  pub lines_shown : LinesShown script e g.line c

pub built_same : (script : Script) (g : Gateway) (e : Agent) (c : Configuration) (state : ℕ) → IsBetween script g e c
    → built_by script e state ≡ request_in script c state
built_same script g e c state between =
    ap (λ (names : Names). built names (state_of script state).commands)
    (bound_agree script (owned_in g e.call) e g.board c between.shown between.of_script)

-- commands are built from lines and names alone
command_same : (script : Script) (e : Agent) (state next : ℕ) (phase : Phase) (made : Made) (command : Command)
    → command_of script e made command ≡ command_of script (record e { state = state; phase = phase; next = next }) made command
command_same script e state next phase made (SubtractAll j) = refl
command_same script e state next phase made command = refl

one_more : (x y : RequestCommand) (xs ys : List RequestCommand) → x ≡ y → xs ≡ ys → x ∷ xs ≡ y ∷ ys
one_more x y xs ys first rest = cc

commands_same : (script : Script) (e : Agent) (state next : ℕ) (phase : Phase) (made : Made) (place : ℕ) (commands : List Command)
    → commands_of script e made place commands
    ≡ commands_of script (record e { state = state; phase = phase; next = next }) made place commands
commands_same script e state next phase made place [] = refl
commands_same script e state next phase made place (command ∷ more) = one_more
    (command_of script e made command) (command_of script (record e { state = state; phase = phase; next = next }) made command)
    (commands_of script e (made_after made command place) (place + 1) more)
    (commands_of script (record e { state = state; phase = phase; next = next }) (made_after made command place) (place + 1) more)
    (command_same script e state next phase made command) (commands_same script e state next phase (made_after made command place) (place + 1) more)

-- ---- what is shown after a step

pub lines_still : (script : Script) (e : Agent) (line : ℕ → LineRow) (c : Configuration) (phase : Phase) (state next : ℕ) (accepted : ℕ → Bool)
    (link : phases.LinkPhase) → LinesShown script e line c
    → LinesShown script (record e { state = state; phase = phase; next = next; accepted = accepted }) line (record c { state = state; link = link })
lines_still script e line c phase state next accepted link s = record { events = s.events; silent = s.silent; expected = s.expected; unnamed = s.unnamed }

-- the agent enters a state where the configuration that the checker enters stands
module _ (script : Script) (Among : Listed) (g : Gateway) (e : Agent) (c : Configuration) (state : ℕ) (between : IsBetween script g e c)
    (stands : Stands script Among (steps.with_state script c state)) where
  abbrev next : Configuration
  next = steps.with_state script c state

  link_as : (empty : Bool) → is_empty (built_by script e state) ≡ empty → next.link ≡ (if empty then Answered else Sent)
  link_as empty is = ap (λ (p : Bool). if p then Answered else Sent) (sym (ap is_empty (built_same script g e c state between)) ∙ is)

  passes_on : is_empty (built_by script e state) ≡ true → IsCurrentAt script Among g (passing e state) next
  passes_on empty = record {
    current = record {
      association = between.association;
      c = next;
      e = passing e state;
      stands = stands;
      state = refl;
      at = inr (inr (inl (record { phase = refl; effective = refl; link_is = link_as true empty })));
      shown = seen_still script (owned_in g e.call) (naming e) g.board c state next.link between.shown;
      lines_shown = lines_still script e g.line c awaits_pass state e.next e.accepted next.link between.lines_shown;
    };
    is = refl;
  }

  asks_on : is_empty (built_by script e state) ≡ false → IsCurrentAt script Among g (asking script e state) next
  asks_on not_empty = record {
    current = record {
      association = between.association;
      c = next;
      e = asking script e state;
      stands = stands;
      state = refl;
      at = inl (record {
        request = request_of script e state;
        outstanding = record {
          phase = refl;
          call = refl;
          association = refl;
          commands = commands_same script e state (e.next + 1) (awaits_reply (request_of script e state)) none_made 0 (built_by script e state);
        };
        above = between.next;
        effective = refl;
        link_is = link_as false not_empty;
      });
      shown = seen_still script (owned_in g e.call) (naming e) g.board c state next.link between.shown;
      lines_shown = lines_still script e g.line c (awaits_reply (request_of script e state)) state (e.next + 1) e.accepted next.link between.lines_shown;
    };
    is = refl;
  }

pub enters_current : (script : Script) (Among : Listed) (g : Gateway) (e : Agent) (c : Configuration) (state : ℕ) (b : Agent)
    → IsBetween script g e c → Stands script Among (steps.with_state script c state) → entered script e state ≡ Some b
    → IsCurrentAt script Among g b (steps.with_state script c state)
enters_current script Among g e c state b between stands is = elim (enters script e state b is) [
  | inl passes ↦ subst (λ (x : Agent). IsCurrentAt script Among g x (steps.with_state script c state)) passes.1
      (passes_on script Among g e c state between stands passes.0)
  | inr asks ↦ subst (λ (x : Agent). IsCurrentAt script Among g x (steps.with_state script c state)) asks.1
      (asks_on script Among g e c state between stands asks.0)
]

-- the agent rests
pub rests_current : (script : Script) (Among : Listed) (g : Gateway) (e : Agent) (c : Configuration)
    → IsBetween script g e c → c.state ≡ e.state → Stands script Among (record c { link = Resting })
    → IsCurrentAt script Among g (record e { phase = resting }) (record c { link = Resting })
rests_current script Among g e c between state stands = record {
  current = record {
    association = between.association;
    c = record c { link = Resting };
    e = record e { phase = resting };
    stands = stands;
    state = state;
    at = inr (inr (inr (record { phase = refl; effective = refl; link_is = refl })));
    shown = seen_still script (owned_in g e.call) (naming e) g.board c c.state Resting between.shown;
    lines_shown = record {
      events = between.lines_shown.events;
      silent = between.lines_shown.silent;
      expected = between.lines_shown.expected;
      unnamed = between.lines_shown.unnamed;
    };
  };
  is = refl;
}
