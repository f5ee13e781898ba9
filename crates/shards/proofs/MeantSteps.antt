-- A step means, in each world that a shard shows, the event that the record of its call gives.
use Rattle.std.proofs.Common.{◌≡◌, ◌∙◌, ◌==◌, ℕ, true, List, Option, Some, None, refl, sym, ap, subst}
use Rattle.std.specs.Prelude.{Contains, IfSome, option_map}
use Rattle.std.specs.List.{find}
use Rattle.std.proofs.lemmas.Bool.{eqb-true, eq-eqb}
use Rattle.mg_model.proofs.Cases.{and_first, none_is_some}
use Rattle.mg_model.specs.declared.plans.PlanStep.{PlanStep}
use Rattle.mg_model.specs.declared.plans.PlanStep.TheVariants.{GoesOff, GoesOn, Flashes, Dials, Pauses, Ends, Executes, TakesReply, Passes, TakesNote, TimesOut, Hears, Begins, Restarts}
use Rattle.mg_model.specs.Agent.{Agent, inbox_of}
use Rattle.mg_model.specs.Delivery.{arrival, is_new}
use Rattle.mg_model.specs.Gateway.{Gateway}
use Rattle.mg_model.specs.Messages.{Request, Reply, SentNote}
use Rattle.mg_model.specs.Reports.{is_of, is_waiting, refusal_at}
use Rattle.mg_model.specs.World.{World, execute, hear, note, reply}
use Rattle.gateway.specs.GatewayValue.{gateway_of}
use Rattle.agent.specs.AgentValue.{agent_of}
use Rattle.shards.specs.Messages.{AreNumberedFrom, note_numbers, reply_for}
use Rattle.shards.proofs.FoundNotes.{lowest_found, none_passes}
use Rattle.shards.proofs.MessageLemmas.{found_in}
use Rattle.shards.proofs.ShardLemmas.{world_numbered}
use Rattle.shards.proofs.ShardSteps.{AreSameRecords, none_same, one_same, refused_counts, shard_unchanged, step_refused}
use Rattle.shards.specs.Meaning.{HasNumberedNotes, IsCountedAs, IsMeant, IsSameEntry, IsTiedEntry, IsToldOf, MeansIn, event_in, event_of_entry, event_told}
use Rattle.shards.specs.Shards.{IsShard, IsUnchanged, ShardValue}
use Rattle.shards.specs.Shows.{ShowsCall}
use Rattle.shards.specs.Standings.{TellsStanding}
use Rattle.shards.specs.CallTable.{OthersStay, record_in}
use Rattle.shards.specs.CallRecords.{request_in}
use Rattle.shards.specs.declared.call_record.CallRecord.{CallRecord}
use Rattle.shards.specs.declared.meant.Meant.{Meant}

module _ (w : World) (s : CallRecord) (shows : ShowsCall w (agent_of s.agent).call s) (numbered : AreNumberedFrom 1 (note_numbers s.messages.sent.notes))
    (association next : ℕ) (told : w.gateway.association ≡ association) where
  abbrev a : Agent
  a = agent_of s.agent

  request_meant : (which place : Option ℕ) → MeansIn w (Some a) next (Executes which place) (event_in s association next (Executes which place))
  request_meant which place = by_found (request_in s which) (shows.requests which)
    where
      by_found : (found : Option Request) → find (λ (r : Request). is_of a.call which r.call r.number) w.requests ≡ found
          → MeansIn w (Some a) next (Executes which place) (option_map (λ (r : Request). execute a.call r.number (refusal_at place)) found)
      by_found None none = λ event means. none_is_some means.0 (sym none ∙ means.1)
      by_found (Some r) is = (r, is, refl)

  reply_meant : (which : Option ℕ) → MeansIn w (Some a) next (TakesReply which) (event_in s association next (TakesReply which))
  reply_meant which = by_found (reply_for s.messages.sent which) (shows.replies which)
    where
      by_found : (found : Option Reply) → find (λ (r : Reply). is_of a.call which r.call r.number) w.replies ≡ found
          → MeansIn w (Some a) next (TakesReply which) (option_map (λ (r : Reply). reply a.call r.number) found)
      by_found None none = λ event means. none_is_some means.0 (sym none ∙ means.1)
      by_found (Some r) is = (r, is, refl)

  -- a note that waits is one of the record's
  is_kept : (n : SentNote) → Contains w.notes n → is_waiting a n ≡ true → Contains s.messages.sent.notes n
  is_kept n among waits = shows.notes_kept n among
      (eqb-true n.call a.call (and_first (n.call == a.call) (is_new (arrival (inbox_of a) n.association n.number)) waits))

  oldest_meant : MeansIn w (Some a) next (TakesNote None) (event_in s association next (TakesNote None))
  oldest_meant = by_found (find (is_waiting a) s.messages.sent.notes) refl
    where
      by_found : (found : Option SentNote) → find (is_waiting a) s.messages.sent.notes ≡ found
          → MeansIn w (Some a) next (TakesNote None) (option_map (λ (n : SentNote). note a.call n.number) found)
      by_found None none = λ event means.
          none_passes (is_waiting a) s.messages.sent.notes none means.0 (is_kept means.0 means.1.0 means.1.1) means.1.1
      by_found (Some n) is =
          let here = found_in (is_waiting a) s.messages.sent.notes n is in (
            n,
            (
              (shows.notes_sent n here.0).0,
              here.1,
              λ other among waits.
                  lowest_found (is_waiting a) 1 s.messages.sent.notes numbered n is other (is_kept other among waits) waits,
            ),
            refl,
          )

  numbered_meant : (number : ℕ) → MeansIn w (Some a) next (TakesNote (Some number)) (event_in s association next (TakesNote (Some number)))
  numbered_meant number = by_found (find (λ (n : SentNote). n.number == number) s.messages.sent.notes) refl
    where
      by_found : (found : Option SentNote) → find (λ (n : SentNote). n.number == number) s.messages.sent.notes ≡ found
          → MeansIn w (Some a) next (TakesNote (Some number)) (option_map (λ (n : SentNote). note a.call n.number) found)
      by_found None none = λ event means.
          none_passes (λ (n : SentNote). n.number == number) s.messages.sent.notes none means.0
          (shows.notes_kept means.0 means.1.0 means.1.1) (eq-eqb means.0.number number means.1.2)
      by_found (Some n) is =
          let here = found_in (λ (n : SentNote). n.number == number) s.messages.sent.notes n is in
          let sent = shows.notes_sent n here.0 in
          (n, (sent.0, sent.1, eqb-true n.number number here.1), refl)

  step_meant : (step : PlanStep) → MeansIn w (Some a) next step (event_in s association next step)
  step_meant (GoesOff l) = refl
  step_meant (GoesOn l) = refl
  step_meant (Flashes l) = refl
  step_meant (Dials l symbol) = refl
  step_meant (Pauses l) = refl
  step_meant (Ends l signal) = refl
  step_meant (Executes which place) = request_meant which place
  step_meant (TakesReply which) = reply_meant which
  step_meant Passes = refl
  step_meant (TakesNote None) = oldest_meant
  step_meant (TakesNote (Some number)) = numbered_meant number
  step_meant TimesOut = refl
  step_meant Hears = ap (hear a.call) (sym told)
  step_meant Begins = refl
  step_meant Restarts = refl

-- ---- in a shard

module _ (v : ShardValue) (call next : ℕ) (step : PlanStep) where
  -- the event of the record of a call is meant
  record_meant : (s : CallRecord) → record_in v.call_table call ≡ Some s → AreNumberedFrom 1 (note_numbers s.messages.sent.notes)
      → IsMeant v call next step (event_in s v.gateway.association next step)
  unfolding gateway_of
  record_meant s there numbered w is =
      let shows = is.shows.calls call s there in
      let own : (agent_of s.agent).call ≡ call = (world_numbered v w is).agents call (agent_of s.agent) shows.agent in
      subst (λ (agent : Option Agent). MeansIn w agent next step (event_in s v.gateway.association next step)) (sym shows.agent)
      (step_meant w s (subst (λ c. ShowsCall w c s) (sym own) shows) numbered v.gateway.association next (ap (λ (g : Gateway). g.association) is.shows.gateway) step)

  -- and nothing of a call without one
  entry_meant : (entry : Option CallRecord) → record_in v.call_table call ≡ entry → HasNumberedNotes entry → IsMeant v call next step (event_of_entry entry v.gateway.association next step)
  entry_meant None there numbered w is =
      subst (λ (agent : Option Agent). MeansIn w agent next step None) (sym (is.shows.no_others call there)) refl
  entry_meant (Some s) there numbered w is = record_meant s there (numbered s refl) w is

  pub is_meant : HasNumberedNotes (record_in v.call_table call) → IsMeant v call next step (event_of_entry (record_in v.call_table call) v.gateway.association next step)
  is_meant numbered = entry_meant (record_in v.call_table call) refl numbered

-- the record of a call that a shard holds is tied
pub tied_entry : (v : ShardValue) (call : ℕ) → IsShard v → IsTiedEntry (record_in v.call_table call)
tied_entry v call was s there = (was.is_world.shows.calls call s there).tied

-- where the record of one call is as it was, nothing has changed
module _ (v : ShardValue) (call : ℕ) (entries : List (ℕ × CallRecord)) (same : IsSameEntry (record_in v.call_table call) (record_in entries call))
    (others : OthersStay v.call_table call entries) where
  abbrev after : ShardValue
  after = record v { call_table = entries }

  same_records : (entry : Option CallRecord) → record_in v.call_table call ≡ entry → IsSameEntry entry (record_in entries call) → AreSameRecords v.call_table entries
  same_records None there none = none_same v.call_table entries call others there none
  same_records (Some s) there (t, is, alike) = one_same v.call_table entries call s t there is alike others

  call_table : AreSameRecords v.call_table entries
  call_table = same_records (record_in v.call_table call) refl same

  pub entry_unchanged : IsUnchanged v after
  entry_unchanged = step_refused v v.gateway entries (refl, λ c. refl) call_table

  pub entry_kept : IsShard v → IsShard after
  entry_kept was = shard_unchanged v after was entry_unchanged (refused_counts v v.gateway entries (refl, λ c. refl) call_table was.counts)

-- ---- with where the call is

module _ (v : ShardValue) (call association next : ℕ) (step : PlanStep) where
  pub told_stands : (entry : Option CallRecord) → record_in v.call_table call ≡ entry → (told : Option Meant) → IsToldOf entry association next step told
      → TellsStanding v call (option_map (λ (t : Meant). t.standing) told)
  told_stands None there None is w shown = shown.shows.no_others call there
  told_stands None there (Some told) is w shown = absurd is
  told_stands (Some s) there None is w shown = absurd is
  told_stands (Some s) there (Some told) is w shown = record {
    agent = agent_of s.agent;
    open_call = (shown.shows.calls call s there).agent;
    association = is.0.association;
    state = is.0.state;
    at_rest = is.0.at_rest;
  }

  pub told_event : (entry : Option CallRecord) (told : Option Meant) → IsToldOf entry association next step told
      → event_told told ≡ event_of_entry entry association next step
  told_event None None is = refl
  told_event None (Some told) is = absurd is
  told_event (Some s) None is = absurd is
  told_event (Some s) (Some told) is = is.1

  pub told_counted : (entry : Option CallRecord) (told : Option Meant) → IsToldOf entry association next step told → (entries : List (ℕ × CallRecord))
      → IsSameEntry entry (record_in entries call) → IfSome told (λ (t : Meant). IsCountedAs (record v { call_table = entries }) call t.events)
  told_counted None None is entries same = tt
  told_counted None (Some told) is entries same = absurd is
  told_counted (Some s) None is entries same = tt
  told_counted (Some s) (Some told) is entries (t, there, alike) = record { call_record = t; held = there; counted = is.2 ∙ sym alike.events }
