-- An agent that has a number left for a request enters a state.
use Rattle.std.proofs.Common.{◌≡◌, ◌∙◌, ◌+◌, ◌≤◌, ℕ, Bool, true, false, Option, Some, None, refl, sym, ap, arith}
use Rattle.std.specs.Prelude.{if◌then◌else◌, nat_le}
use Rattle.std.proofs.lemmas.Bool.Decides.{nat_tests}
use Rattle.mg_model.specs.Agent.{Agent, Phase, resting, awaits_pass, awaits_reply, built_by, entered, entered_if, entered_with, is_resting}
use Rattle.mg_model.specs.Agent.{request_of, timed}
use Rattle.mg_model.specs.Numbers.{last_number}
use Rattle.mg_model.specs.Script.{Script}
use Rattle.mg_model.specs.Tables.{below, is_empty, state_of}
use Rattle.mg_safety.proofs.Agents.Entering.{not_resting}

-- the agent that a state is entered with
pub record Enters (o : Option Agent) (state : ℕ) : Type 0 where
  pub agent : Agent
  pub is : o ≡ Some agent
  pub state_is : agent.state ≡ state
  pub has_entered : agent.phase ≡ resting → ⊥

pub at_most : (n m : ℕ) → n ≤ m → nat_le n m ≡ true
at_most n m below = grind (arith, nat_tests)

passes_not : awaits_pass ≡ resting → ⊥
passes_not e = cc

module _ (script : Script) (a : Agent) (room : a.next ≤ last_number) where
  pub entered_by : (state : ℕ) (empty : Bool) → Enters (entered_with script a state empty) state
  entered_by state true = record {
    agent = record a { state = state; phase = awaits_pass };
    is = refl;
    state_is = refl;
    has_entered = passes_not;
  }
  entered_by state false = record {
    agent = record a { state = state; phase = awaits_reply (request_of script a state); next = a.next + 1 };
    is = ap (λ (test : Bool). if test then Some (record a { state = state; phase = awaits_reply (request_of script a state); next = a.next + 1 }) else None)
        (at_most a.next last_number room);
    state_is = refl;
    has_entered = λ e. not_resting (request_of script a state) (sym e);
  }

  pub enters_state : (state : ℕ) → Enters (entered script a state) state
  enters_state state = entered_by state (is_empty (built_by script a state))

  pub timer_enters : (target : ℕ) → a.phase ≡ resting → (state_of script a.state).timer ≡ Some target → Enters (timed script a) target
  timer_enters target rests is =
      let b = enters_state target in
      record {
        agent = b.agent;
        is = ap (λ (phase : Phase). if is_resting phase then entered_if script a (state_of script a.state).timer else None) rests
            ∙ ap (entered_if script a) is ∙ b.is;
        state_is = b.state_is;
        has_entered = b.has_entered;
      }
