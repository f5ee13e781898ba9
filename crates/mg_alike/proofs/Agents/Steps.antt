-- Agents that are alike step alike: what they enter, what a reply binds, and where a note leads.
use Rattle.std.proofs.Common.{◌≡◌, ◌∙◌, ◌+◌, ℕ, Bool, true, false, List, [], ◌∷◌, Option, Some, None, is_some, refl, sym, ap, subst, ◌==◌, nat_le, nat_lt}
use Rattle.std.proofs.Common.{if◌then◌else◌}
use Rattle.mg_merge.proofs.Words.{AddEphemeral, AddLine, Agent, Command, Done, Failure, ModifyLine, MoveLine, Note, Phase, Reply, Request, Script, SentNote}
use Rattle.mg_merge.proofs.Words.{after_result, after_results, answers, awaits_pass, awaits_reply, begun, built_by, entered, entered_if, entered_or_rests}
use Rattle.mg_merge.proofs.Words.{entered_or_stays, entered_with, expected_if, forgotten, heard, is_empty, is_listed, is_resting, last_number, leads_on}
use Rattle.mg_merge.proofs.Words.{line_in, may_accept, noted, passed_in, replied_to, request_of, resting, same_number, state_of, target_in, target_of, timed}
use Rattle.mg_merge.proofs.Words.{with_at}
use Rattle.mg_alike.proofs.Words.{AgentsAlike, AgentsStepAlike, DoneAlike, IsRenaming, OptionsAlike, Pairwise, PhasesAlike, Renaming, RepliesAlike}
use Rattle.mg_alike.proofs.Words.{RequestsAlike, StepsAlike}
use Rattle.mg_model.specs.declared.commands.Command.TheVariants.{Subtract, SubtractAll}
use Rattle.mg_model.specs.declared.commands.Termination.TheVariants as termination
use Rattle.mg_alike.proofs.Agents.Requests.{built_same, request_alike}
use Rattle.mg_alike.proofs.Shared.Options.{where_alike, listed_same, bound_if_alike}

-- ---- a step by a test

module _ (r : Renaming) where
  both_where : (test other : Bool) → other ≡ test → (m n : Option Agent) → StepsAlike r m n → StepsAlike r (if test then m else None) (if other then n else None)
  both_where test other same m n alike =
      subst (λ (b : Bool). StepsAlike r (if test then m else None) (if b then n else None)) (sym same) (go test)
    where
      go : (b : Bool) → StepsAlike r (if b then m else None) (if b then n else None)
      go true = alike
      go false = tt

-- the RequestIDs that are expected after lines were told to be free
abbrev unexpected : List ℕ → (ℕ → ℕ) → (ℕ → Option ℕ) → ℕ → Option ℕ
unexpected lines of expected i = if is_listed lines (Some (of i)) then None else expected i

-- ---- states that are entered

module _ (script : Script) (r : Renaming) where
  entered_with_alike : (a b : Agent) → AgentsAlike r a b → (state : ℕ) (empty : Bool) → RequestsAlike r (request_of script a state) (request_of script b state)
      → StepsAlike r (entered_with script a state empty) (entered_with script b state empty)
  entered_with_alike a b alike state true request = assumption
  entered_with_alike a b alike state false request =
      both_where r (nat_le a.next last_number) (nat_le b.next last_number) (ap (λ (n : ℕ). nat_le n last_number) alike.next)
      (Some (record a { state = state; phase = awaits_reply (request_of script a state); next = a.next + 1 }))
      (Some (record b { state = state; phase = awaits_reply (request_of script b state); next = b.next + 1 }))
      (assumption (ap (λ (n : ℕ). n + 1) alike.next))

  pub entered_alike : (a b : Agent) → AgentsAlike r a b → (state : ℕ) → StepsAlike r (entered script a state) (entered script b state)
  entered_alike a b alike state =
      subst (λ (commands : List Command). StepsAlike r (entered script a state) (entered_with script b state (is_empty commands))) (sym (built_same script r a b alike state))
      (entered_with_alike a b alike state (is_empty (built_by script a state)) (request_alike script r a b alike state))

  rests_alike : (a b : Agent) → AgentsAlike r a b → (o : Option ℕ) → StepsAlike r (entered_or_rests script a o) (entered_or_rests script b o)
  rests_alike a b alike None = assumption
  rests_alike a b alike (Some state) = entered_alike a b alike state

  if_alike : (a b : Agent) → AgentsAlike r a b → (o : Option ℕ) → StepsAlike r (entered_if script a o) (entered_if script b o)
  if_alike a b alike None = tt
  if_alike a b alike (Some state) = entered_alike a b alike state

  stays_alike : (a b : Agent) → AgentsAlike r a b → (o : Option ℕ) → StepsAlike r (entered_or_stays script a o) (entered_or_stays script b o)
  stays_alike a b alike None = alike
  stays_alike a b alike (Some state) = entered_alike a b alike state

  -- ---- what a reply binds

  module _ (renaming : IsRenaming r) where
    result_alike : (a b : Agent) → AgentsAlike r a b → (command : Command) (done other : Done) → DoneAlike r done other → (number : ℕ)
        → AgentsAlike r (after_result a command done number) (after_result b command other number)
    result_alike a b alike (AddLine create j i o) done other same number = assumption (
      bound_if_alike r.contexts create a.contexts b.contexts j done.context other.context alike.contexts same.context,
      ap (λ (x : ℕ → Option ℕ). expected_if (is_some o.events) x i number) alike.expected,
    )
    result_alike a b alike (AddEphemeral create j k o) done other same number = assumption (
      bound_if_alike r.contexts create a.contexts b.contexts j done.context other.context alike.contexts same.context,
      bound_if_alike r.ephemerals true a.ephemerals b.ephemerals k done.ephemeral other.ephemeral alike.ephemerals same.ephemeral,
    )
    result_alike a b alike (ModifyLine place i o) done other same number =
        assumption (ap (λ (x : ℕ → Option ℕ). expected_if (is_some o.events) x i number) alike.expected)
    result_alike a b alike (MoveLine j i o) done other same number =
        assumption (ap (λ (x : ℕ → Option ℕ). expected_if (is_some o.events) x i number) alike.expected)
    result_alike a b alike (Subtract j (termination.Line i)) done other same number =
        assumption (ap (λ (x : ℕ → Option ℕ). with_at x i None) alike.expected)
    result_alike a b alike (Subtract j (termination.Ephemeral k)) done other same number =
        assumption (bound_if_alike r.ephemerals true a.ephemerals b.ephemerals k None None alike.ephemerals tt)
    result_alike a b alike (SubtractAll j) done other same number = assumption (
      bound_if_alike r.contexts true a.contexts b.contexts j None None alike.contexts tt,
      unlisted,
      ap (λ (lines : List ℕ). unexpected lines b.lines b.expected) same.lines
          ∙ ap (λ (of : ℕ → ℕ). unexpected done.lines of b.expected) alike.lines
          ∙ ap (λ (x : ℕ → Option ℕ). unexpected done.lines a.lines x) alike.expected,
    )
      where
        unlisted : (k : ℕ) → OptionsAlike r.ephemerals (if is_listed done.ephemerals (a.ephemerals k) then None else a.ephemerals k)
            (if is_listed other.ephemerals (b.ephemerals k) then None else b.ephemerals k)
        unlisted k = subst (λ (test : Bool). OptionsAlike r.ephemerals (if is_listed done.ephemerals (a.ephemerals k) then None else a.ephemerals k)
            (if test then None else b.ephemerals k))
            (sym (listed_same r.ephemerals renaming.ephemerals done.ephemerals other.ephemerals same.ephemerals (a.ephemerals k) (b.ephemerals k) (alike.ephemerals k)))
            (where_alike r.ephemerals (is_listed done.ephemerals (a.ephemerals k)) None None (a.ephemerals k) (b.ephemerals k) tt (alike.ephemerals k))
    result_alike a b alike _ done other same number = alike

    pub results_alike : (commands : List Command) (results others : List Done) → Pairwise (DoneAlike r) results others → (number : ℕ) (a b : Agent)
        → AgentsAlike r a b → AgentsAlike r (after_results a commands results number) (after_results b commands others number)
    results_alike [] results others same number a b alike = alike
    results_alike (command ∷ more) [] [] same number a b alike = alike
    results_alike (command ∷ more) (done ∷ results) (other ∷ others) same number a b alike =
        results_alike more results others same.1 number (after_result a command done number) (after_result b command other number)
        (result_alike a b alike command done other same.0 number)
    results_alike _ _ _ same number a b alike = absurd same

    -- ---- a reply

    leads_alike : (a b x y : Agent) → b.state ≡ a.state → AgentsAlike r x y → (f : Option Failure) → StepsAlike r (leads_on script a x f) (leads_on script b y f)
    leads_alike a b x y state alike None = rw state (rests_alike x y alike (state_of script a.state).ok)
    leads_alike a b x y state alike (Some failure) = rw state (if_alike x y alike (state_of script a.state).fault)

    answers_same : (one other : Reply) (x y : Request) → RepliesAlike r one other → RequestsAlike r x y → answers other y ≡ answers one x
    answers_same one other x y replies requests =
        rw (replies.call, replies.association, replies.number, requests.call, requests.association, requests.number) refl

    replied_alike : (a b : Agent) → AgentsAlike r a b → (one other : Reply) → RepliesAlike r one other → (p q : Phase) → PhasesAlike r p q
        → StepsAlike r (replied_to script a p one) (replied_to script b q other)
    replied_alike a b alike one other replies (awaits_reply x) (awaits_reply y) requests =
        both_where r (answers one x) (answers other y) (answers_same one other x y replies requests)
        (leads_on script a (after_results a (built_by script a a.state) one.results one.number) one.failure)
        (leads_on script b (after_results b (built_by script b b.state) other.results other.number) other.failure)
        (rw replies.failure (leads_alike a b (after_results a (built_by script a a.state) one.results one.number)
        (after_results b (built_by script b b.state) other.results other.number) alike.state taken one.failure))
      where
        commands : built_by script b b.state ≡ built_by script a a.state
        commands = ap (λ (n : ℕ). built_by script b n) alike.state ∙ built_same script r a b alike a.state

        taken : AgentsAlike r (after_results a (built_by script a a.state) one.results one.number)
            (after_results b (built_by script b b.state) other.results other.number)
        taken = rw (replies.number, commands) (results_alike (built_by script a a.state) one.results other.results replies.results one.number a b alike)
    replied_alike a b alike one other replies awaits_pass awaits_pass phases = tt
    replied_alike a b alike one other replies resting resting phases = tt
    replied_alike a b alike one other replies _ _ phases = absurd phases

  -- ---- a pass

  passed_alike : (a b : Agent) → AgentsAlike r a b → (p q : Phase) → PhasesAlike r p q → StepsAlike r (passed_in script a p) (passed_in script b q)
  passed_alike a b alike awaits_pass awaits_pass phases =
      subst (λ (n : ℕ). StepsAlike r (entered_or_rests script a (state_of script a.state).ok) (entered_or_rests script b (state_of script n).ok)) (sym alike.state)
      (rests_alike a b alike (state_of script a.state).ok)
  passed_alike a b alike (awaits_reply x) (awaits_reply y) phases = tt
  passed_alike a b alike resting resting phases = tt
  passed_alike a b alike _ _ phases = absurd phases

  -- ---- at rest

  resting_same : (p q : Phase) → PhasesAlike r p q → is_resting q ≡ is_resting p
  resting_same (awaits_reply x) (awaits_reply y) phases = refl
  resting_same awaits_pass awaits_pass phases = refl
  resting_same resting resting phases = refl
  resting_same _ _ phases = absurd phases

  timed_alike : (a b : Agent) → AgentsAlike r a b → StepsAlike r (timed script a) (timed script b)
  timed_alike a b alike =
      both_where r (is_resting a.phase) (is_resting b.phase) (resting_same a.phase b.phase alike.phase) (entered_if script a (state_of script a.state).timer)
      (entered_if script b (state_of script b.state).timer)
      (rw alike.state (if_alike a b alike (state_of script a.state).timer))

  -- ---- a note

  module _ (a b : Agent) (alike : AgentsAlike r a b) where
    line_in_same : (l : ℕ) (places : List ℕ) → line_in b l places ≡ line_in a l places
    line_in_same l [] = refl
    line_in_same l (i ∷ more) =
        ap (λ (o : Option ℕ). if b.lines i == l then Some i else o) (line_in_same l more)
        ∙ ap (λ (lines : ℕ → ℕ). if lines i == l then Some i else line_in a l more) alike.lines

    target_same : (o : Option ℕ) (note : Note) → target_of script b o note ≡ target_of script a o note
    target_same None note = refl
    target_same (Some i) note =
        ap (λ (expected : ℕ → Option ℕ). if same_number (expected i) note.request then target_in (state_of script b.state).on i note.kind else None) alike.expected
        ∙ ap (λ (n : ℕ). if same_number (a.expected i) note.request then target_in (state_of script n).on i note.kind else None) alike.state

    accepts_same : (sent : SentNote) → may_accept script b sent ≡ may_accept script a sent
    accepts_same sent =
        rw (alike.call, resting_same a.phase b.phase alike.phase, alike.state, alike.association, alike.accepted) refl

    noted_alike : (places : List ℕ) (sent : SentNote) → StepsAlike r (noted script a places sent) (noted script b places sent)
    noted_alike places sent =
        both_where r (may_accept script a sent) (may_accept script b sent) (accepts_same sent)
        (entered_or_stays script (record a { accepted = with_at a.accepted sent.number true }) (target_of script a (line_in a sent.line places) sent.note))
        (entered_or_stays script (record b { accepted = with_at b.accepted sent.number true }) (target_of script b (line_in b sent.line places) sent.note))
        (rw (ap (λ (o : Option ℕ). target_of script b o sent.note) (line_in_same sent.line places) ∙ target_same (line_in a sent.line places) sent.note)
        (stays_alike (record a { accepted = with_at a.accepted sent.number true }) (record b { accepted = with_at b.accepted sent.number true }) taken
        (target_of script a (line_in a sent.line places) sent.note)))
      where
        taken : AgentsAlike r (record a { accepted = with_at a.accepted sent.number true }) (record b { accepted = with_at b.accepted sent.number true })
        taken = assumption (ap (λ (accepted : ℕ → Bool). with_at accepted sent.number true) alike.accepted)

    -- ---- a newer association, and a call that begins

    forgotten_alike : (association : ℕ) → AgentsAlike r (forgotten a association) (forgotten b association)
    forgotten_alike association = assumption

    heard_alike : (association : ℕ) → StepsAlike r (heard script a association) (heard script b association)
    heard_alike association =
        both_where r (nat_lt a.association association) (nat_lt b.association association) (ap (λ (n : ℕ). nat_lt n association) alike.association)
        (entered script (forgotten a association) script.restart) (entered script (forgotten b association) script.restart)
        (entered_alike (forgotten a association) (forgotten b association) (forgotten_alike association) script.restart)

    begun_alike : (call : ℕ) → AgentsAlike r (begun script call a) (begun script call b)
    begun_alike call = assumption

pub agents_step : AgentsStepAlike
agents_step script r a b renaming alike = record {
  entered = entered_alike script r a b alike;
  replied = λ one other replies. replied_alike script r renaming a b alike one other replies a.phase b.phase alike.phase;
  passed = passed_alike script r a b alike a.phase b.phase alike.phase;
  noted = noted_alike script r a b alike;
  timed = timed_alike script r a b alike;
  heard = heard_alike script r a b alike;
  begun = begun_alike script r a b alike;
}
