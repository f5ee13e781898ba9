-- A configuration of the script that an entry includes is one of the entry's points.
use Rattle.mg_safety.proofs.Words.{◌≡◌, ◌∙◌, ◌<◌, ℕ, length, refl, sym, subst, inl, inr, nat_lt, if◌then◌else◌, cases_lt, Resting, Empty, Termination, Absent}
use Rattle.mg_safety.proofs.Words.{Configuration, Entry, Includes, IsPointOf, Script, unused, IsEntryOf, IsSlot, by_test, EventsName, ◌⊎◌}
use Rattle.mg_model.specs.declared.commands.Termination.TheVariants.{Line, Ephemeral}
use Rattle.mg_model.proofs.ConfigurationLemmas.{SameComponents, same_configurations}
use Rattle.mg_safety.proofs.InvariantWords.{IsOfScript}
use Rattle.mg_safety.proofs.Certificate.ChoiceNumbers.{choices_to, has_number}
use Rattle.mg_safety.proofs.Certificate.Declared.{slot_or_not, slots_or_not, unused_past}
use Rattle.mg_safety.proofs.Certificate.ListedValues.{state_given, link_given, spot_given, mode_given, events_given, plays_given, context_given, remote_given}
use Rattle.mg_safety.proofs.Certificate.ListedValues.{cut_given}

all_empty : (lines i : ℕ) → (if nat_lt i lines then Empty else Empty) ≡ Empty
all_empty lines i = by_test (λ (name : EventsName). name ≡ Empty) Empty Empty (nat_lt i lines) (λ e. refl) (λ e. refl)

-- what is declared is listed, and all else has its value before
or_listed : {Declared Not Same Listed : Type 0} → Declared ⊎ Not → (Declared → Listed) → (Not → Same) → Same ⊎ Listed
or_listed (inl declared) listed same = inr (listed declared)
or_listed (inr other) listed same = inl (same other)

module _ (script : Script) (entry : Entry) (of_entry : IsEntryOf script entry) (c : Configuration) (of_script : IsOfScript script c)
    (state : c.state ≡ entry.state) where
  -- the configuration to which the choices are made
  abbrev first : Configuration
  first = unused entry.lines entry.state Resting Empty

  spot_first : (t : Termination) → (IsSlot script t → ⊥) → first.spot t ≡ Absent
  spot_first (Line i) undeclared = unused_past entry.lines i (λ below. undeclared (subst (λ n. i < n) of_entry.lines below))
  spot_first (Ephemeral k) undeclared = refl

  all_given : SameComponents (choices_to c entry.components first) c
  all_given = record {
    state = state_given c entry.components first (sym state);
    link = link_given c entry.components first (inr of_entry.link);
    spot = λ t. spot_given c entry.components first t
        (or_listed (slot_or_not script t) (of_entry.spot t) (λ undeclared. spot_first t undeclared ∙ sym (of_script.spot t undeclared)));
    mode = λ t. mode_given c entry.components first t
        (or_listed (slot_or_not script t) (of_entry.mode t) (λ undeclared. sym (of_script.mode t undeclared)));
    events = λ i. events_given c entry.components first i
        (or_listed (cases_lt i (length script.lines)) (of_entry.event i) (λ past. all_empty entry.lines i ∙ sym (of_script.events i past)));
    plays = λ i. plays_given c entry.components first i
        (or_listed (cases_lt i (length script.lines)) (of_entry.play i) (λ past. sym (of_script.plays i past)));
    context = λ j. context_given c entry.components first j
        (or_listed (cases_lt j (length script.contexts)) (of_entry.context j) (λ past. sym (of_script.context j past)));
    remote = λ k. remote_given c entry.components first k
        (or_listed (cases_lt k (length script.ephemerals)) (of_entry.remote k) (λ past. sym (of_script.remote k past)));
    cut = λ t u. cut_given c entry.components first t u
        (or_listed (slots_or_not script t u) (λ slots. of_entry.cut t u slots.0 slots.1 slots.2) (λ undeclared. sym (of_script.cut t u undeclared)));
  }

pub is_point : (script : Script) (entry : Entry) (c : Configuration) → IsEntryOf script entry → IsOfScript script c → Includes entry c
    → (p : ℕ) × IsPointOf entry p c
is_point script entry c of_entry of_script included =
    let number = has_number c entry.components included.2 in
    let first = unused entry.lines entry.state Resting Empty in
    let given = same_configurations (choices_to c entry.components first) c (all_given script entry of_entry c of_script included.0) in
    (number.0, (number.1, sym (number.2 first ∙ given), included.1))
