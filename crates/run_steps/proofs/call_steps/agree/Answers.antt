-- What was compared is the same.
use Rattle.std.proofs.Common.{◌≡◌, ◌∙◌, ℕ, List, length, sym, ap, arith}
use Rattle.mg_model.specs.declared.events.Event.{Event}
use Rattle.run_account.specs.Parts.{of_call}
use Rattle.run_account.specs.FinalState.{call_of}
use Rattle.run_steps.specs.CallsTold.{events_told, idle_told}
use Rattle.run_steps.proofs.SameTranscripts.{same_events}
use Rattle.run_steps.proofs.call_steps.agree.Goals as goal

pub returns : goal.returns
returns c =
    let steps = c.args.steps.now in
    let number : c.in-Some.number.0 ≡ call_of c.args.line.now = c.in-Some.ensures in
    let told : events_told (call_of c.args.line.now) steps ≡ c.as_slice-events.result.now =
    ap (λ (n : ℕ). events_told n steps) (sym number) ∙ sym c.in_ok-events.ensures ∙ sym c.as_slice-events.ensures.value in
    let same : c.as_slice-events.result.now ≡ c.as_slice.result.now =
    same_events c.as_slice-events.result.now c.as_slice.result.now (sym c.if-ne.false ∙ c.ne.ensures) in
    let count : length c.as_slice-events.result.now ≡ c.args.line.now.events = omega arith in
    let idle : c.idle_told.result ≡ c.args.line.now.idle = omega arith in record {
      transcript = told ∙ same ∙ c.as_slice.ensures.value ∙ c.in_ok-transcript.ensures ∙ ap (λ (n : ℕ). of_call n c.args.outcome.now.history) number;
      events = ap (λ (events : List Event). length events) told ∙ count;
      idle = ap (λ (n : ℕ). idle_told n steps) (sym number) ∙ sym c.idle_told.ensures ∙ idle;
    }
