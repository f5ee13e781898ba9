-- A note that is settled stays so under every step of the agent: what it accepted stays accepted in its association, and a newer association leaves the notes
-- of the older ones behind. So the oldest note that waits is found among those that aren't settled.
use Rattle.std.proofs.Common.{◌≡◌, ◌∙◌, ◌+◌, ◌<◌, ◌≤◌, ◌==◌, ◌++◌, ◌⊎◌, inl, inr, ℕ, Bool, true, false, List, [], ◌∷◌, length, get_or, take, drop, Option, Some, None, if◌then◌else◌, refl, sym, ap, subst, arith}
use Rattle.std.specs.Prelude.{◌&&◌, nat_le, nat_lt, not}
use Rattle.std.specs.List.{All, find}
use Rattle.std.specs.Option.{option_or}
use Rattle.std.proofs.lemmas.Bool.{eqb-true, eq-eqb, leb-true, ltb-true, le-leb}
use Rattle.std.proofs.lemmas.List.{take-append-drop, take-append-le, length-append}
use Rattle.std.proofs.lemmas.List.Elements.{All-contains, All-more, All-nil, All-weaker}
use Rattle.std.proofs.lemmas.List.Folds.{find-append}
use Rattle.mg_model.proofs.Cases.{and_first, and_second, denied, none_is_some, the_some}
use Rattle.mg_model.specs.declared.commands.Command.{Command}
use Rattle.mg_model.specs.declared.commands.Command.TheVariants.{AddLine, AddEphemeral, ModifyLine, ModifyEphemeral, MoveLine, MoveEphemeral, Subtract, SubtractAll, SetTopology}
use Rattle.mg_model.specs.declared.commands.Termination.TheVariants as termination
use Rattle.mg_model.specs.declared.failures.Failure.{Failure}
use Rattle.mg_model.specs.Agent.{Agent, Phase, awaits_reply, awaits_pass, resting, after_result, after_results, answers, built_by, entered, entered_if, entered_or_rests, entered_or_stays, entered_with, forgotten, heard, inbox_of, is_resting, leads_on, line_in, may_accept, noted, request_of, passed, passed_in, replied, replied_to, target_of, timed}
use Rattle.mg_model.specs.Delivery.{arrival, arrives_new, is_new, is_old, was_seen}
use Rattle.mg_model.specs.Items.{Done}
use Rattle.mg_model.specs.Messages.{Reply, SentNote}
use Rattle.mg_model.specs.Numbers.{last_number}
use Rattle.mg_model.specs.Reports.{is_waiting}
use Rattle.mg_model.specs.Script.{Script}
use Rattle.mg_model.specs.Tables.{is_empty, line_places, state_of}
use Rattle.mg_model.specs.Updates.{with_at}
use Rattle.mg_safety.proofs.Agents.EffectiveAgent.{results_keep}
use Rattle.agent.specs.Preparing.{stepped_by}
use Rattle.agent.specs.declared.delivered.Delivery.{Delivery}
use Rattle.agent.specs.declared.delivered.Delivery.TheVariants as delivery
use Rattle.shards.proofs.MessageLemmas.{same_found}
use Rattle.shards.proofs.OtherCalls.{none_found}
use Rattle.shards.specs.CallRecords.{AreSettled, is_settled}

-- ---- a step of the agent

-- what an agent accepted it has accepted still, or its association is a newer one
abbrev KeepsNotes : Agent → Agent → Type 0
KeepsNotes a b = ((b.association ≡ a.association) × ((number : ℕ) → a.accepted number ≡ true → b.accepted number ≡ true)) ⊎ (a.association < b.association)

abbrev GivesKept : Agent → Option Agent → Type 0
GivesKept a o = (b : Agent) → o ≡ Some b → KeepsNotes a b

gives_none : (a : Agent) → GivesKept a None
gives_none a b e = absurd (none_is_some b e)

gives : (a c : Agent) → KeepsNotes a c → GivesKept a (Some c)
gives a c kept b e = subst (KeepsNotes a) (the_some c b e) kept

enters_kept : (script : Script) (a c : Agent) (state : ℕ) → KeepsNotes a c → GivesKept a (entered script c state)
enters_kept script a c state kept = with_request (is_empty (built_by script c state))
  where
    with_number : (room : Bool) → GivesKept a (if room then Some (record c { state = state; phase = awaits_reply (request_of script c state); next = c.next + 1 }) else None)
    with_number true = gives a (record c { state = state; phase = awaits_reply (request_of script c state); next = c.next + 1 }) kept
    with_number false = gives_none a

    with_request : (empty : Bool) → GivesKept a (entered_with script c state empty)
    with_request true = gives a (record c { state = state; phase = awaits_pass }) kept
    with_request false = with_number (nat_le c.next last_number)

rests_kept : (script : Script) (a c : Agent) (target : Option ℕ) → KeepsNotes a c → GivesKept a (entered_or_rests script c target)
rests_kept script a c None kept = gives a (record c { phase = resting }) kept
rests_kept script a c (Some state) kept = enters_kept script a c state kept

if_kept : (script : Script) (a c : Agent) (target : Option ℕ) → KeepsNotes a c → GivesKept a (entered_if script c target)
if_kept script a c None kept = gives_none a
if_kept script a c (Some state) kept = enters_kept script a c state kept

stays_kept : (script : Script) (a c : Agent) (target : Option ℕ) → KeepsNotes a c → GivesKept a (entered_or_stays script c target)
stays_kept script a c None kept = gives a c kept
stays_kept script a c (Some state) kept = enters_kept script a c state kept

keeps_all : (a : Agent) → KeepsNotes a a
keeps_all a = inl (refl, λ number is. is)

-- a result changes nothing that was accepted
result_accepted : (a : Agent) (command : Command) (done : Done) (number : ℕ) → (after_result a command done number).accepted ≡ a.accepted
result_accepted a (AddLine create j i o) done number = refl
result_accepted a (AddEphemeral create j k o) done number = refl
result_accepted a (ModifyLine place i o) done number = refl
result_accepted a (ModifyEphemeral place k o) done number = refl
result_accepted a (MoveLine j i o) done number = refl
result_accepted a (MoveEphemeral j k o) done number = refl
result_accepted a (Subtract j (termination.Line i)) done number = refl
result_accepted a (Subtract j (termination.Ephemeral k)) done number = refl
result_accepted a (SubtractAll j) done number = refl
result_accepted a (SetTopology j t u topology) done number = refl

results_accepted : (a : Agent) (commands : List Command) (results : List Done) (number : ℕ) → (after_results a commands results number).accepted ≡ a.accepted
results_accepted a [] results number = refl
results_accepted a (command ∷ more) [] number = refl
results_accepted a (command ∷ more) (done ∷ results) number =
    results_accepted (after_result a command done number) more results number ∙ result_accepted a command done number

leads_kept : (script : Script) (a c : Agent) (failure : Option Failure) → KeepsNotes a c → GivesKept a (leads_on script a c failure)
leads_kept script a c None kept = rests_kept script a c (state_of script a.state).ok kept
leads_kept script a c (Some failure) kept = if_kept script a c (state_of script a.state).fault kept

replied_kept : (script : Script) (a : Agent) (reply : Reply) → GivesKept a (replied script a reply)
replied_kept script a reply = in_phase a.phase
  where
    kept : KeepsNotes a (after_results a (built_by script a a.state) reply.results reply.number)
    kept = inl (
      (results_keep a (built_by script a a.state) reply.results reply.number).association,
      λ number is. ap (λ (accepted : ℕ → Bool). accepted number) (results_accepted a (built_by script a a.state) reply.results reply.number) ∙ is,
    )

    answered : (fits : Bool) → GivesKept a (if fits
        then leads_on script a (after_results a (built_by script a a.state) reply.results reply.number) reply.failure else None)
    answered true = leads_kept script a (after_results a (built_by script a a.state) reply.results reply.number) reply.failure kept
    answered false = gives_none a

    in_phase : (phase : Phase) → GivesKept a (replied_to script a phase reply)
    in_phase (awaits_reply request) = answered (answers reply request)
    in_phase awaits_pass = gives_none a
    in_phase resting = gives_none a

passed_kept : (script : Script) (a : Agent) → GivesKept a (passed script a)
passed_kept script a = in_phase a.phase
  where
    in_phase : (phase : Phase) → GivesKept a (passed_in script a phase)
    in_phase awaits_pass = rests_kept script a a (state_of script a.state).ok (keeps_all a)
    in_phase (awaits_reply request) = gives_none a
    in_phase resting = gives_none a

noted_kept : (script : Script) (a : Agent) (call_table : List ℕ) (sent : SentNote) → GivesKept a (noted script a call_table sent)
noted_kept script a call_table sent = accepted (may_accept script a sent)
  where
    still : (number : ℕ) → a.accepted number ≡ true → (test : Bool) → (if test then true else a.accepted number) ≡ true
    still number is true = refl
    still number is false = is

    accepted : (may : Bool) → GivesKept a (if may then entered_or_stays script (record a { accepted = with_at a.accepted sent.number true }) (target_of script a (line_in a sent.line call_table) sent.note) else None)
    accepted true = stays_kept script a (record a { accepted = with_at a.accepted sent.number true }) (target_of script a (line_in a sent.line call_table) sent.note)
        (inl (refl, λ number is. still number is (number == sent.number)))
    accepted false = gives_none a

timed_kept : (script : Script) (a : Agent) → GivesKept a (timed script a)
timed_kept script a = at_rest (is_resting a.phase)
  where
    at_rest : (rests : Bool) → GivesKept a (if rests then entered_if script a (state_of script a.state).timer else None)
    at_rest true = if_kept script a a (state_of script a.state).timer (keeps_all a)
    at_rest false = gives_none a

heard_kept : (script : Script) (a : Agent) (association : ℕ) → GivesKept a (heard script a association)
heard_kept script a association = newer (nat_lt a.association association) refl
  where
    newer : (is_newer : Bool) → nat_lt a.association association ≡ is_newer → GivesKept a (if is_newer then entered script (forgotten a association) script.restart else None)
    newer true is = enters_kept script a (forgotten a association) script.restart (inr (ltb-true a.association association is))
    newer false is = gives_none a

stepped_kept : (script : Script) (a : Agent) (brought : Delivery) → GivesKept a (stepped_by script a brought)
stepped_kept script a (delivery.Reply reply) = replied_kept script a reply.now
stepped_kept script a delivery.Pass = passed_kept script a
stepped_kept script a (delivery.Note note) = noted_kept script a (line_places script) note.now
stepped_kept script a delivery.Timer = timed_kept script a
stepped_kept script a (delivery.Hear association) = heard_kept script a association.0

-- ---- what is settled stays so

-- a note that isn't new is of another association, or was accepted
was_accepted : (here accepted : Bool) → is_new (if here then (if accepted then was_seen else arrives_new) else is_old) ≡ false → here ≡ true → accepted ≡ true
was_accepted here true seen own = refl
was_accepted true false seen own = sym seen
was_accepted false false seen own = own

not_new : (here accepted : Bool) → (here ≡ true → accepted ≡ true) → not (is_new (if here then (if accepted then was_seen else arrives_new) else is_old)) ≡ true
not_new true true kept = refl
not_new true false kept = kept refl
not_new false accepted kept = refl

module _ (a b : Agent) (n : SentNote) (settled : is_settled a n ≡ true) where
  reached : n.association ≤ a.association
  reached = leb-true n.association a.association (and_first (nat_le n.association a.association) _ settled)

  seen : is_new (arrival (inbox_of a) n.association n.number) ≡ false
  seen = denied _ (and_second (nat_le n.association a.association) _ settled)

  both : n.association ≤ b.association → (n.association ≡ b.association → b.accepted n.number ≡ true) → is_settled b n ≡ true
  both least accepted =
      ap (λ test. test && not (is_new (arrival (inbox_of b) n.association n.number))) (le-leb n.association b.association least)
      ∙ not_new (n.association == b.association) (b.accepted n.number) (λ own. accepted (eqb-true n.association b.association own))

  stays_settled : KeepsNotes a b → is_settled b n ≡ true
  stays_settled (inl (same, kept)) =
      both (let least : n.association ≤ a.association = reached in omega (arith, least, same))
      (λ own. kept n.number (was_accepted (n.association == a.association) (a.accepted n.number) seen (eq-eqb n.association a.association (own ∙ same))))
  stays_settled (inr newer) =
      let least : n.association ≤ a.association = reached in
      both (omega (arith, least, newer)) (λ own. absurd (omega (arith, least, newer, own)))

-- under a step of the agent
pub settled_after : (script : Script) (a b : Agent) (brought : Delivery) (notes : List SentNote) (count : ℕ) → stepped_by script a brought ≡ Some b → AreSettled a notes count → AreSettled b notes count
settled_after script a b brought notes count steps settled = record {
  sent = settled.sent;
  each = All-weaker (λ (n : SentNote). is_settled a n ≡ true) (λ (n : SentNote). is_settled b n ≡ true)
      (λ n is. stays_settled a b n is (stepped_kept script a brought b steps)) (take count notes) settled.each;
}

-- where notes are added
pub settled_before : (a : Agent) (notes more : List SentNote) (count : ℕ) → AreSettled a notes count → AreSettled a (notes ++ more) count
settled_before a notes more count settled = record {
  sent = let within : count ≤ length notes = settled.sent in
      let longer : length (notes ++ more) ≡ length notes + length more = length-append notes more in omega (arith, within, longer);
  each = subst (All (λ (n : SentNote). is_settled a n ≡ true)) (sym (take-append-le count notes more settled.sent)) settled.each;
}

-- where the next is settled too
pub settled_more : (a : Agent) (notes : List SentNote) (count : ℕ) (next : SentNote) → count < length notes → next ≡ get_or notes count next → is_settled a next ≡ true
    → AreSettled a notes count → AreSettled a notes (count + 1)
settled_more a notes count next within here next_settled settled = record {
  sent = omega (arith, within);
  each = All-more (λ (n : SentNote). is_settled a n ≡ true) notes count next within settled.each (subst (λ (n : SentNote). is_settled a n ≡ true) here next_settled);
}

-- none is, so far
pub none_settled : (a : Agent) (notes : List SentNote) (count : ℕ) → count ≡ 0 → AreSettled a notes count
none_settled a notes count none = subst (AreSettled a notes) (sym none) (record { sent = omega arith; each = All-nil (λ (n : SentNote). is_settled a n ≡ true) })

-- ---- the oldest that waits

-- a note that is settled doesn't wait
settled_passes_not : (a : Agent) (n : SentNote) → is_settled a n ≡ true → is_waiting a n ≡ false
settled_passes_not a n settled = by_call (n.call == a.call) (denied _ (and_second (nat_le n.association a.association) _ settled))
  where
    by_call : (own : Bool) → is_new (arrival (inbox_of a) n.association n.number) ≡ false → (own && is_new (arrival (inbox_of a) n.association n.number)) ≡ false
    by_call true told = told
    by_call false told = refl

pub found_later : (a : Agent) (notes : List SentNote) (count : ℕ) → AreSettled a notes count → find (is_waiting a) (drop count notes) ≡ find (is_waiting a) notes
found_later a notes count settled =
    ap (λ o. option_or o (find (is_waiting a) (drop count notes))) (sym none) ∙ sym (find-append (is_waiting a) (take count notes) (drop count notes))
    ∙ ap (find (is_waiting a)) (take-append-drop count notes)
  where
    none : find (is_waiting a) (take count notes) ≡ None
    none = same_found (is_waiting a) (λ n. false) (take count notes)
        (λ n among. settled_passes_not a n (All-contains (λ (m : SentNote). is_settled a m ≡ true) (take count notes) n settled.each among))
        ∙ none_found (take count notes)
