-- A call that begins on the lines of another is an event of the world that the records show, and they show the world after it; and where it is refused as not
-- enabled, no call begins so in that world.
use Rattle.std.proofs.Common.{◌≡◌, ◌∙◌, ◌+◌, ◌++◌, ◌==◌, ◌⊎◌, inl, inr, ℕ, Bool, true, false, true≢false, List, [], length, Option, Some, None, Ok, if◌then◌else◌, reverse, refl, sym, ap, subst, arith}
use Rattle.std.specs.Prelude.{Contains, ◌-◌, is_some, nat_le, not, slice_get, ◌&&◌, ◌||◌}
use Rattle.std.specs.List.{find}
use Rattle.std.proofs.lemmas.Bool.{eqb-true, eqb-false, eq-eqb}
use Rattle.mg_model.proofs.Cases.{and_first, and_second, none_is_some, none_of, some_is_none, the_some}
use Rattle.mg_model.proofs.Single.{none_in}
use Rattle.mg_model.specs.Agent.{Agent, Phase, begun, is_resting}
use Rattle.mg_model.specs.Gateway as gateway
use Rattle.mg_model.specs.Gateway.{CallLink, Gateway, MayBegin}
use Rattle.mg_model.specs.Messages.{Request, Reply}
use Rattle.mg_model.specs.Reports.{is_of}
use Rattle.mg_model.specs.Script.{Script}
use Rattle.mg_model.specs.Tables.{state_of}
use Rattle.mg_model.specs.World.{World, HasEnded, begin, sent_in}
use Rattle.mg_model.proofs.Agents.{is_resting_is}
use Rattle.mg_safety.proofs.Events.Handover.{agent_new, agent_other, link_new, link_other, world_begun}
use Rattle.mg_safety.proofs.Invariant.Sound.{IsKnown}
use Rattle.mg_safety.proofs.Messages.NumberedWorlds.{IsNumbered}
use Rattle.gateway.specs.Beginnings.{IsBegun}
use Rattle.gateway.specs.Calls.{OpenCall, call_entry, is_retired_entry, open_entry}
use Rattle.gateway.specs.GatewayValue.{GatewayValue, gateway_of, is_open, is_taken}
use Rattle.gateway.proofs.Entries.{no_entry}
use Rattle.agent.specs.AgentValue.{agent_of}
use Rattle.shards.specs.Messages.{AreNumberedFrom, Messages, request_numbers, fits, joined, none_sent, placed, reply_for}
use Rattle.shards.proofs.MessageLemmas.{is_anothers, same_found}
use Rattle.shards.proofs.OtherCalls.{none_found, stays_shown}
use Rattle.shards.proofs.SettledNotes.{none_settled}
use Rattle.shards.specs.Beginnings.{IsBegunRecord, has_ended}
use Rattle.shards.specs.Shows.{LeadsOn, Shows, ShowsCall}
use Rattle.shards.specs.CallRecords.{IsTied, request_in}
use Rattle.shards.specs.declared.call_record.CallRecord.{CallRecord}

-- ---- numbers that were never used

pub free_number : (g : GatewayValue) (n : ℕ) → is_taken g n ≡ false → (is_open g n ≡ false) × ((gateway_of g).retired n ≡ false)
unfolding is_taken is_open gateway_of
free_number g n free = no_entry (call_entry g.calls n) free

entry_used : (entry : Option (Option OpenCall)) → is_some entry ≡ true → (is_some (open_entry entry) ≡ true) ⊎ (is_retired_entry entry ≡ true)
entry_used None there = absurd (true≢false (sym there))
entry_used (Some None) there = inr refl
entry_used (Some (Some c)) there = inl refl

pub used_number : (g : GatewayValue) (n : ℕ) → is_taken g n ≡ true → (is_open g n ≡ true) ⊎ ((gateway_of g).retired n ≡ true)
unfolding is_taken is_open gateway_of
used_number g n taken = entry_used (call_entry g.calls n) taken

-- ---- a call that has ended

pub ended_in : (script : Script) (w : World) (a : Agent) (association : ℕ) → w.gateway.association ≡ association → has_ended script a association ≡ true → HasEnded script w a
ended_in script w a association current is =
    let second = and_second (is_resting a.phase) _ is in
    record {
      is_end = and_first (state_of script a.state).is_end (a.association == association) second;
      at_rest = is_resting_is a.phase (and_first (is_resting a.phase) _ is);
      current = eqb-true a.association association (and_second (state_of script a.state).is_end (a.association == association) second) ∙ sym current;
    }

pub ended_so : (script : Script) (w : World) (a : Agent) (association : ℕ) → w.gateway.association ≡ association → HasEnded script w a → has_ended script a association ≡ true
ended_so script w a association current is =
    ap (λ (p : Phase). is_resting p && ((state_of script a.state).is_end && a.association == association)) is.at_rest
    ∙ ap (λ b. b && a.association == association) is.is_end
    ∙ eq-eqb a.association association (is.current ∙ current)

-- ---- nothing was sent

abbrev no_replies : List (Option Reply)
no_replies = []

no_place : (first n : ℕ) → joined (placed first no_replies n) ≡ None
no_place first n = by_order (nat_le first n)
  where
    by_order : (order : Bool) → joined (if order then slice_get no_replies (n - first) else None) ≡ None
    by_order true = refl
    by_order false = refl

pub no_reply : (first : ℕ) (which : Option ℕ) → reply_for (none_sent first) which ≡ None
no_reply first None = refl
no_reply first (Some n) = no_place first n

-- ---- the world after it

module _ (script : Script) (w : World) (g h : GatewayValue) (call_record : ℕ → Option CallRecord) (shows : Shows w g call_record) (numbered : IsNumbered w)
    (old new : ℕ) (s : CallRecord) (there : call_record old ≡ Some s) (b : IsBegun g old new h (Ok tt)) where
  abbrev a : Agent
  a = agent_of s.agent

  abbrev after : World
  after = world_begun script w new old a

  free : (is_open g new ≡ false) × ((gateway_of g).retired new ≡ false)
  free = free_number g new b.1

  pub differ : new ≡ old → ⊥
  differ same = true≢false (sym b.0 ∙ ap (is_open g) (sym same) ∙ free.0)

  no_agent : w.agent new ≡ None
  no_agent = shows.no_others new (none_of (call_record new) (sym (shows.open_calls new) ∙ free.0))

  not_retired : w.gateway.retired new ≡ false
  not_retired = ap (λ (x : Gateway). x.retired new) shows.gateway ∙ free.1

  not_known : IsKnown w new → ⊥
  not_known (inl (x, is)) = none_is_some x (sym no_agent ∙ is)
  not_known (inr gone) = true≢false (sym gone ∙ not_retired)

  other_request : (r : Request) → Contains w.requests r → r.call ≡ new → ⊥
  other_request r among is = not_known (subst (IsKnown w) is (numbered.requests.each_known r among))

  other_reply : (r : Reply) → Contains w.replies r → r.call ≡ new → ⊥
  other_reply r among is =
      let answered = numbered.replies.answered r among in other_request answered.0 answered.1 (answered.2 ∙ is)

  none_of_new : {A : Type 0} (of number : A → ℕ) (which : Option ℕ) (xs : List A) → ((x : A) → Contains xs x → of x ≡ new → ⊥)
      → find (λ x. is_of new which (of x) (number x)) xs ≡ None
  none_of_new of number which xs other =
      same_found (λ x. is_of new which (of x) (number x)) (λ x. false) xs (λ x among. is_anothers new (of x) which (number x) (other x among)) ∙ none_found xs

  module _ (ended : has_ended script a g.association ≡ true) (t : CallRecord) (x : IsBegunRecord script new s t) (call_table : ℕ → Option CallRecord)
      (records_are : (c : ℕ) → call_table c ≡ (if c == new then Some t else if c == old then None else call_record c)) where
    requests_of_none : (which : Option ℕ) → request_in t which ≡ None
    requests_of_none which =
        ap (λ (y : Agent). find (λ (r : Request). fits which r.number) (sent_in y.phase ++ reverse t.messages.sent.requests)) x.agent
        ∙ ap (λ (m : Messages). find (λ (r : Request). fits which r.number) (reverse m.requests)) x.sent

    tied : IsTied t
    tied = record {
      numbered = subst (λ (m : Messages). AreNumberedFrom m.first (request_numbers m.requests)) (sym x.sent) tt;
      places = ap (λ (m : Messages). length m.replies) x.sent ∙ sym (ap (λ (m : Messages). length m.requests + length (sent_in (agent_of t.agent).phase)) x.sent
          ∙ ap (λ (y : Agent). 0 + length (sent_in y.phase)) x.agent);
      awaited = λ r among. absurd (none_in r (subst (λ (y : Agent). Contains (sent_in y.phase) r) x.agent among));
      settled = none_settled (agent_of t.agent) t.messages.sent.notes t.settled x.settled;
      next = ap (λ (y : Agent). y.next) x.agent ∙ sym (ap (λ (m : Messages). m.first + length m.replies) x.sent ∙ omega arith);
    }

    new_shown : ShowsCall after new t
    new_shown = record {
      agent = agent_new script w new old a ∙ ap (λ (y : Agent). Some y) (sym x.agent);
      requests = λ which. none_of_new (λ (r : Request). r.call) (λ (r : Request). r.number) which w.requests other_request ∙ sym (requests_of_none which);
      replies = λ which. none_of_new (λ (r : Reply). r.call) (λ (r : Reply). r.number) which w.replies other_reply
          ∙ sym (ap (λ (m : Messages). reply_for m which) x.sent ∙ no_reply a.next which);
      notes_sent = λ n among. absurd (none_in n (subst (λ (m : Messages). Contains m.notes n) x.sent among));
      notes_kept = λ n among of_it. absurd (not_known (subst (IsKnown w) of_it (numbered.notes.each_known n among)));
      counted = ap (λ (link : CallLink). link.notes) (link_new w.gateway old new differ) ∙ sym (ap (λ (m : Messages). length m.notes) x.sent);
      tied = tied;
    }

    other_shown : (c : ℕ) (y : CallRecord) → (c ≡ new → ⊥) → (c ≡ old → ⊥) → call_record c ≡ Some y → ShowsCall after c y
    other_shown c y not_new not_old is =
        stays_shown w after c y (shows.calls c y is) (agent_other script w new old c a not_old not_new) (λ which. refl) (λ which. refl)
        (λ n among. among) (λ n among of_it. among) (ap (λ (link : CallLink). link.notes) (link_other w.gateway old new c not_old not_new))

    calls : (c : ℕ) (y : CallRecord) → call_table c ≡ Some y → ShowsCall after c y
    calls c y is = by_new (c == new) refl (sym (records_are c) ∙ is)
      where
        by_old : (test : Bool) → (c == old) ≡ test → (c ≡ new → ⊥) → (if test then None else call_record c) ≡ Some y → ShowsCall after c y
        by_old true this not_new at = absurd (none_is_some y at)
        by_old false other not_new at = other_shown c y not_new (eqb-false c old other) at

        by_new : (test : Bool) → (c == new) ≡ test → (if test then Some t else if c == old then None else call_record c) ≡ Some y → ShowsCall after c y
        by_new true this at = subst (λ n. ShowsCall after n y) (sym (eqb-true c new this))
            (subst (λ (z : CallRecord). ShowsCall after new z) (the_some t y at) new_shown)
        by_new false other at = by_old (c == old) refl (eqb-false c new other) at

    no_others : (c : ℕ) → call_table c ≡ None → after.agent c ≡ None
    no_others c none = by_new (c == new) (sym (records_are c) ∙ none)
      where
        by_old : (test : Bool) → (if test then None else call_record c) ≡ None → (if test then None else w.agent c) ≡ None
        by_old true at = refl
        by_old false at = shows.no_others c at

        by_new : (test : Bool) → (if test then Some t else if c == old then None else call_record c) ≡ None
            → (if test then Some (begun script new a) else if c == old then None else w.agent c) ≡ None
        by_new true at = absurd (some_is_none t at)
        by_new false at = by_old (c == old) at

    open_calls : (c : ℕ) → is_open h c ≡ is_some (call_table c)
    open_calls c = b.4 c ∙ by_new (c == new) ∙ ap is_some (sym (records_are c))
      where
        by_old : (test : Bool) → (not test && is_open g c) ≡ is_some (if test then None else call_record c)
        by_old true = refl
        by_old false = shows.open_calls c

        by_new : (test : Bool) → (test || (not (c == old) && is_open g c)) ≡ is_some (if test then Some t else if c == old then None else call_record c)
        by_new true = refl
        by_new false = by_old (c == old)

    may : MayBegin w.gateway old
    may = subst (λ (x : Gateway). MayBegin x old) (sym shows.gateway) b.2

    current : w.gateway.association ≡ g.association
    unfolding gateway_of
    current = ap (λ (x : Gateway). x.association) shows.gateway

    pub begin_leads_on : LeadsOn script w (begin new old) h call_table
    begin_leads_on = record {
      after = after;
      occurs = record {
        before = a;
        open_call = (shows.calls old s there).agent;
        ended = ended_in script w a g.association current ended;
        may = may;
        unused = no_agent;
        not_retired = not_retired;
        after_is = refl;
      };
      shown = record {
        gateway = ap (λ (x : Gateway). gateway.begun x old new) shows.gateway ∙ sym b.3;
        open_calls = open_calls;
        calls = calls;
        no_others = no_others;
      };
    }
