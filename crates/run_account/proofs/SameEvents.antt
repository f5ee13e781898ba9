-- Two events that compare alike are one event.
use denote.Enum.Bare.{same_true}
use Rattle.std.proofs.Common.{◌≡◌, ◌∙◌, ◌==◌, ℕ, true, Option, None, Some, refl, ap, rules}
use Rattle.std.specs.Option.{option_eq}
use Rattle.std.proofs.lemmas.Bool.{and_parts, eqb-true}
use Rattle.mg_model.specs.contracts.events.CallEventPartialEq.TheImpl.{eq-value as call_events}
use Rattle.mg_model.specs.contracts.events.EventPartialEq.TheImpl.{eq-value as events}
use Rattle.mg_model.specs.contracts.failures.ChosenRefusalPartialEq.TheImpl.{eq-value as chosen_refusals}
use Rattle.mg_model.specs.contracts.failures.Refusal.{the_type as of_refusals}
use Rattle.mg_model.specs.contracts.failures.RefusalPartialEq.TheImpl.{eq-value as refusals}
use Rattle.mg_model.specs.contracts.line_events.Hook.{the_type as of_hooks}
use Rattle.mg_model.specs.contracts.line_events.HookPartialEq.TheImpl.{eq-value as hooks}
use Rattle.mg_model.specs.contracts.line_events.LineEventPartialEq.TheImpl.{eq-value as line_events}
use Rattle.mg_model.specs.declared.events.CallEvent.{CallEvent}
use Rattle.mg_model.specs.declared.events.CallEvent.TheVariants.{Begin, Execute, Hear, Note, OnLine, Pass, Reply, Timer}
use Rattle.mg_model.specs.declared.events.Event.{Event}
use Rattle.mg_model.specs.declared.events.Event.TheVariants.{OfCall, Restart}
use Rattle.mg_model.specs.declared.failures.ChosenRefusal.{ChosenRefusal}
use Rattle.mg_model.specs.declared.failures.Refusal.{Refusal}
use Rattle.mg_model.specs.declared.line_events.Hook.{Hook}
use Rattle.mg_model.specs.declared.line_events.LineEvent.{LineEvent}
use Rattle.mg_model.specs.declared.line_events.LineEvent.TheVariants.{Digit, Flash, Hook as HookTo, Pause, SignalEnd}
use Rattle.mg_names.specs.contracts.signals.Signal.{the_type as of_signals}
use Rattle.mg_names.specs.contracts.signals.SignalPartialEq.TheImpl.{eq-value as signals}
use Rattle.mg_names.specs.contracts.symbols.Symbol.{the_type as of_symbols}
use Rattle.mg_names.specs.contracts.symbols.SymbolPartialEq.TheImpl.{eq-value as symbols}
use Rattle.mg_names.specs.declared.identifiers.Assoc.{Assoc}
use Rattle.mg_names.specs.declared.identifiers.CallNo.{CallNo}
use Rattle.mg_names.specs.declared.identifiers.LineNo.{LineNo}
use Rattle.mg_names.specs.declared.signals.Signal.{Signal}
use Rattle.mg_names.specs.declared.symbols.Symbol.{Symbol}

-- ---- words

same_hook : (a b : Hook) → hooks.it a b ≡ true → a ≡ b
same_hook a b alike = same_true of_hooks (search rules) a b alike

same_symbol : (a b : Symbol) → symbols.it a b ≡ true → a ≡ b
same_symbol a b alike = same_true of_symbols (search rules) a b alike

same_signal : (a b : Signal) → signals.it a b ≡ true → a ≡ b
same_signal a b alike = same_true of_signals (search rules) a b alike

same_refusal : (a b : Refusal) → refusals.it a b ≡ true → a ≡ b
same_refusal a b alike = same_true of_refusals (search rules) a b alike

-- ---- numbers

same_call : (a b : CallNo) → (a.0 == b.0) ≡ true → a ≡ b
same_call a b alike = ap (λ (n : ℕ). record { 0 = n }) (eqb-true a.0 b.0 alike)

same_line : (a b : LineNo) → (a.0 == b.0) ≡ true → a ≡ b
same_line a b alike = ap (λ (n : ℕ). record { 0 = n }) (eqb-true a.0 b.0 alike)

same_association : (a b : Assoc) → (a.0 == b.0) ≡ true → a ≡ b
same_association a b alike = ap (λ (n : ℕ). record { 0 = n }) (eqb-true a.0 b.0 alike)

-- ---- events

same_line_event : (a b : LineEvent) → line_events.it a b ≡ true → a ≡ b
same_line_event (HookTo a) (HookTo b) alike = ap HookTo (same_hook a b alike)
same_line_event Flash Flash alike = refl
same_line_event (Digit a) (Digit b) alike = ap Digit (same_symbol a b alike)
same_line_event Pause Pause alike = refl
same_line_event (SignalEnd a) (SignalEnd b) alike = ap SignalEnd (same_signal a b alike)
same_line_event a b alike = cc

same_chosen : (a b : ChosenRefusal) → chosen_refusals.it a b ≡ true → a ≡ b
same_chosen a b alike =
    let parts = and_parts (a.place == b.place) (refusals.it a.refusal b.refusal) alike in
    ap (λ (n : ℕ). record { place = n; refusal = a.refusal }) (eqb-true a.place b.place parts.0)
    ∙ ap (λ (refusal : Refusal). record { place = b.place; refusal = refusal }) (same_refusal a.refusal b.refusal parts.1)

same_choice : (a b : Option ChosenRefusal) → option_eq chosen_refusals.it a b ≡ true → a ≡ b
same_choice None None alike = refl
same_choice None (Some b) alike = cc
same_choice (Some a) None alike = cc
same_choice (Some a) (Some b) alike = ap Some (same_chosen a b alike)

same_call_event : (a b : CallEvent) → call_events.it a b ≡ true → a ≡ b
same_call_event (OnLine line a) (OnLine other b) alike =
    let parts = and_parts (line.0 == other.0) (line_events.it a b) alike in
    let lines : line ≡ other = same_line line other parts.0 in
    let happened : a ≡ b = same_line_event a b parts.1 in
    cc
same_call_event (Execute m a) (Execute n b) alike =
    let parts = and_parts (m == n) (option_eq chosen_refusals.it a b) alike in
    let number : m ≡ n = eqb-true m n parts.0 in
    let chosen : a ≡ b = same_choice a b parts.1 in
    cc
same_call_event (Reply m) (Reply n) alike = ap Reply (eqb-true m n alike)
same_call_event Pass Pass alike = refl
same_call_event (Note m) (Note n) alike = ap Note (eqb-true m n alike)
same_call_event Timer Timer alike = refl
same_call_event (Begin a) (Begin b) alike = ap Begin (same_call a b alike)
same_call_event (Hear a) (Hear b) alike = ap Hear (same_association a b alike)
same_call_event a b alike = cc

pub same_event : (a b : Event) → events.it a b ≡ true → a ≡ b
same_event (OfCall call a) (OfCall other b) alike =
    let parts = and_parts (call.0 == other.0) (call_events.it a b) alike in
    let calls : call ≡ other = same_call call other parts.0 in
    let happened : a ≡ b = same_call_event a b parts.1 in
    cc
same_event Restart Restart alike = refl
same_event a b alike = cc
