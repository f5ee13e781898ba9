-- Calls that are opened on a new gateway, with their records, are a shard in which nothing happened yet.
use Rattle.std.proofs.Common.{◌≡◌, ◌∙◌, ◌+◌, ◌<◌, ◌≤◌, ◌++◌, ◌==◌, inl, inr, ℕ, Bool, true, false, List, [], ◌∷◌, length, map, Option, Some, None, if◌then◌else◌, reverse, refl, sym, ap, subst}
use Rattle.std.specs.Prelude.{Contains, is_some, option_map}
use Rattle.std.specs.List.{find}
use Rattle.std.proofs.lemmas.List.Elements.{Contains-append_cases, Contains-append_left, Contains-append_right}
use Rattle.mg_model.proofs.Cases.{none_is_some, the_some}
use Rattle.mg_model.proofs.Single.{none_in}
use Rattle.identifiers.specs.Class.{is_of_class}
use Rattle.mg_names.specs.declared.identifiers.LineNo.{LineNo}
use Rattle.mg_model.specs.Agent.{Agent}
use Rattle.mg_model.specs.Agent as model
use Rattle.mg_model.specs.Gateway.{Gateway}
use Rattle.mg_model.specs.Messages.{Request}
use Rattle.mg_model.specs.Script.{Script}
use Rattle.mg_model.specs.World.{IsOpening, Opened, Runs, World, sent_in}
use Rattle.mg_model.specs.Accepted.{HasFewCommands, IsScript}
use Rattle.mg_merge.specs.Identifiers.{most_shards}
use Rattle.mg_safety.specs.Headline.{RunsAreGood}
use Rattle.gateway.specs.GatewayValue.{GatewayValue, gateway_of, is_open}
use Rattle.gateway.specs.Openings.{first_gateway}
use Rattle.agent.specs.AgentValue.{agent_of}
use Rattle.agent.specs.CallValue.{CallValue}
use Rattle.agent.specs.declared.call.Next.{Next}
use Rattle.shards.specs.Messages.{AreNumberedFrom, Messages, fits, none_sent, reply_for, request_numbers}
use Rattle.systems.specs.Openings.{Opens}
use Rattle.systems.specs.Systems.{System, agent_in, with_call, world_of}
use Rattle.systems.proofs.OpenedCalls.{IsOpened, calls_opened}
use Rattle.shards.proofs.SettledNotes.{none_settled}
use Rattle.shards.proofs.ShownBegins.{no_reply}
use Rattle.shards.specs.Opening.{AreEntered, AreOpenedOn, IsEntered, OpensOne, call_of, system_of}
use Rattle.shards.specs.Shards.{IsShard, ShardValue, opened_as}
use Rattle.shards.specs.Shows.{ShowsCall}
use Rattle.shards.specs.CallTable.{record_in}
use Rattle.shards.specs.CallRecords.{IsTied, request_in}
use Rattle.shards.specs.declared.opened.OpenedCall.{OpenedCall}
use Rattle.shards.specs.declared.call_record.CallRecord.{CallRecord}

-- ---- one call more

same_calls : {f g : ℕ → Option CallValue} → ((n : ℕ) → f n ≡ g n) → f ≡ g
same_calls h = λ i n. h n i

map_ended : (calls : List OpenedCall) (one : OpenedCall) → map opened_as (calls ++ one ∷ []) ≡ map opened_as calls ++ opened_as one ∷ []
map_ended [] one = refl
map_ended (first ∷ more) one = ap (λ rest. opened_as first ∷ rest) (map_ended more one)

-- no call is open, and nothing was sent
pub none_opened : (script : Script) (first stride : ℕ) (lines : List LineNo) (g : GatewayValue) → gateway_of g ≡ first_gateway (is_of_class first stride) lines
    → ((call : ℕ) → is_open g call ≡ false) → AreOpenedOn script [] first stride g []
unfolding record_in
none_opened script first stride lines g gateway no_call = record {
  done = [];
  opened = record {
    class = is_of_class first stride;
    lines = lines;
    gateway = gateway;
    no_call = no_call;
    calls = refl;
    requests = refl;
    replies = refl;
    notes = refl;
  };
  has = λ o among. among;
  each = λ o among. among;
  class = ap (λ (x : Gateway). x.board.class) gateway;
  call_table = λ c t is. absurd (none_is_some t is);
}

module _ (script : Script) (calls : List OpenedCall) (first stride : ℕ) (g h : GatewayValue) (old new : List (ℕ × CallRecord)) (one : OpenedCall)
    (was : AreOpenedOn script calls first stride g old) (x : OpensOne script g h old new one) where
  calls_are : (λ c. option_map (call_of script) (record_in new c)) ≡ with_call (λ c. option_map (call_of script) (record_in old c)) one.call.0 (call_of script x.call_record)
  calls_are = same_calls (λ c. ap (option_map (call_of script)) (x.call_table c) ∙ by_test c (c == one.call.0))
    where
      by_test : (c : ℕ) (test : Bool) → option_map (call_of script) (if test then Some x.call_record else record_in old c)
          ≡ (if test then Some (call_of script x.call_record) else option_map (call_of script) (record_in old c))
      by_test c true = refl
      by_test c false = refl

  opens : Opens script (opened_as one) (system_of script g old) (system_of script h new)
  opens = record {
    lines = one.lines.items;
    all_lines = x.all_lines;
    lines_are = refl;
    may = x.may;
    gateway = x.gateway;
    open_calls = x.open_calls;
    call = call_of script x.call_record;
    of_script = refl;
    entered = x.first.agent;
    calls = calls_are;
    requests = refl;
    replies = refl;
    notes = refl;
  }

  pub one_opened : AreOpenedOn script (calls ++ one ∷ []) first stride h new
  one_opened = record {
    done = opened_as one ∷ was.done;
    opened = (system_of script g old, (was.opened, opens));
    has = λ o among. subst (λ (os : List Opened). Contains os o) (sym (map_ended calls one)) (elim (Contains-append_cases (opened_as one ∷ []) was.done o among) [
      | inl here ↦ Contains-append_right (map opened_as calls) (opened_as one ∷ []) o here
      | inr before ↦ Contains-append_left (map opened_as calls) (opened_as one ∷ []) o (was.has o before)
    ]);
    each = λ o among. elim (Contains-append_cases (map opened_as calls) (opened_as one ∷ []) o (subst (λ (os : List Opened). Contains os o) (map_ended calls one) among)) [
      | inl before ↦ Contains-append_right (opened_as one ∷ []) was.done o (was.each o before)
      | inr here ↦ Contains-append_left (opened_as one ∷ []) was.done o here
    ];
    class = ap (λ (y : Gateway). y.board.class) x.gateway ∙ was.class;
    call_table = λ c t is. record_at c t (c == one.call.0) (sym (x.call_table c) ∙ is);
  }
    where
      record_at : (c : ℕ) (t : CallRecord) (test : Bool) → (if test then Some x.call_record else record_in old c) ≡ Some t → (t.events ≡ 0) × (t.messages.sent ≡ none_sent 1) × (t.settled ≡ 0)
      record_at c t true is = subst (λ (y : CallRecord). (y.events ≡ 0) × (y.messages.sent ≡ none_sent 1) × (y.settled ≡ 0)) (the_some x.call_record t is) (x.first.events, x.first.sent, x.first.settled)
      record_at c t false is = was.call_table c t is

pub entered_more : (script : Script) (calls : List OpenedCall) (nexts : List Next) (one : OpenedCall) (next : Next) → AreEntered script calls nexts
    → IsEntered script one next → AreEntered script (calls ++ one ∷ []) (nexts ++ next ∷ [])
entered_more script [] [] one next are is = (is, tt)
entered_more script (first ∷ calls) (n ∷ nexts) one next are is = (are.0, entered_more script calls nexts one next are.1 is)
entered_more script [] (n ∷ nexts) one next are is = absurd are
entered_more script (first ∷ calls) [] one next are is = absurd are

-- ---- calls in another order are the same opening

module _ (script : Script) (xs ys : List Opened) (w : World) (has : (o : Opened) → Contains xs o → Contains ys o) (each : (o : Opened) → Contains ys o → Contains xs o) where
  reordered : IsOpening script xs w → IsOpening script ys w
  reordered is = record {
    distinct = record {
      calls_differ = λ a b in_a in_b. is.distinct.calls_differ a b (each a in_a) (each b in_b);
      lines_differ = λ a b in_a in_b. is.distinct.lines_differ a b (each a in_a) (each b in_b);
    };
    lines = record {
      held = λ l c. (
        (λ holds. let by = (is.lines.held l c).0 holds in record { one = by.one; i = by.i; among = has by.one by.among; is_call = by.is_call; within = by.within; is_line = by.is_line }),
        (λ by. (is.lines.held l c).1 record { one = by.one; i = by.i; among = each by.one by.among; is_call = by.is_call; within = by.within; is_line = by.is_line }),
      );
      stand = is.lines.stand;
      armed = is.lines.armed;
      others_null = is.lines.others_null;
    };
    gateway = is.gateway;
    agents = record {
      opened = λ o among. is.agents.opened o (each o among);
      no_other = λ c a there. let by = is.agents.no_other c a there in (by.0, has by.0 by.1, by.2);
    };
    messages = is.messages;
  }

-- ---- the shard

module _ (script : Script) (calls : List OpenedCall) (first stride : ℕ) (g : GatewayValue) (entries : List (ℕ × CallRecord))
    (x : AreOpenedOn script calls first stride g entries) where
  abbrev system : System
  system = system_of script g entries

  abbrev w : World
  w = world_of system

  abbrev o : IsOpened script x.done system
  o = calls_opened script x.done system x.opened

  agent_at : (c : ℕ) (t : CallRecord) → record_in entries c ≡ Some t → w.agent c ≡ Some (agent_of t.agent)
  agent_at c t is = ap (λ (call_record : Option CallRecord). option_map agent_in (option_map (call_of script) call_record)) is

  -- each agent is at rest, and its first request has number 1
  pub record IsFresh (t : CallRecord) : Type 0 where
    pub rests : sent_in (agent_of t.agent).phase ≡ []
    pub next : (agent_of t.agent).next ≡ 1

  fresh : (c : ℕ) (t : CallRecord) → record_in entries c ≡ Some t → IsFresh t
  fresh c t is =
      let one = o.is_opening.agents.no_other c (agent_of t.agent) (agent_at c t is) in
      let same : model.opened script one.0.call one.0.lines ≡ agent_of t.agent =
      the_some _ (agent_of t.agent) (sym (o.is_opening.agents.opened one.0 one.1) ∙ ap w.agent one.2 ∙ agent_at c t is) in
      record { rests = ap (λ (a : Agent). sent_in a.phase) (sym same); next = ap (λ (a : Agent). a.next) (sym same) }

  no_request : (c : ℕ) (t : CallRecord) → record_in entries c ≡ Some t → (which : Option ℕ) → request_in t which ≡ None
  no_request c t is which =
      ap (λ (sent : List Request). find (λ (r : Request). fits which r.number) (sent ++ reverse t.messages.sent.requests)) (fresh c t is).rests
      ∙ ap (λ (m : Messages). find (λ (r : Request). fits which r.number) (reverse m.requests)) (x.call_table c t is).1

  tied : (c : ℕ) (t : CallRecord) → record_in entries c ≡ Some t → IsTied t
  tied c t is =
      let sent = (x.call_table c t is).1 in
      record {
        numbered = subst (λ (m : Messages). AreNumberedFrom m.first (request_numbers m.requests)) (sym sent) tt;
        places = ap (λ (m : Messages). length m.replies) sent ∙ sym (ap (λ (m : Messages). length m.requests + length (sent_in (agent_of t.agent).phase)) sent
            ∙ ap (λ (requests : List Request). 0 + length requests) (fresh c t is).rests);
        awaited = λ r among. absurd (none_in r (subst (λ (requests : List Request). Contains requests r) (fresh c t is).rests among));
        next = (fresh c t is).next ∙ sym (ap (λ (m : Messages). m.first + length m.replies) sent);
        settled = none_settled (agent_of t.agent) t.messages.sent.notes t.settled (x.call_table c t is).2;
      }

  shown : (c : ℕ) (t : CallRecord) → record_in entries c ≡ Some t → ShowsCall w c t
  shown c t is = record {
    agent = agent_at c t is;
    requests = λ which. sym (no_request c t is which);
    replies = λ which. sym (ap (λ (m : Messages). reply_for m which) (x.call_table c t is).1 ∙ no_reply 1 which);
    notes_sent = λ n among. absurd (none_in n (subst (λ (m : Messages). Contains m.notes n) (x.call_table c t is).1 among));
    notes_kept = λ n among of_it. absurd (none_in n among);
    counted = ap (λ link. (link c).notes) o.is_opening.gateway.no_reply_kept ∙ sym (ap (λ (m : Messages). length m.notes) (x.call_table c t is).1);
    tied = tied c t is;
  }

  mapped : (call_record : Option CallRecord) → is_some (option_map (call_of script) call_record) ≡ is_some call_record
  mapped None = refl
  mapped (Some t) = refl

  abbrev opened_value : ShardValue
  opened_value = record { script = script; first = first; stride = stride; calls = calls; gateway = g; call_table = entries; history = [] }

  pub shard_opened : IsScript script → HasFewCommands script → RunsAreGood script → first < stride → stride ≤ most_shards → IsShard opened_value
  unfolding Runs
  shard_opened accepted few_commands safe within few_shards = record {
    accepted = accepted;
    few_commands = few_commands;
    safe = safe;
    within = within;
    few_shards = few_shards;
    world = w;
    is_world = record {
      start = w;
      opens = reordered script x.done (map opened_as calls) w x.has x.each o.is_opening;
      class = x.class;
      runs = refl;
      shows = record {
        gateway = refl;
        open_calls = λ c. sym (o.are_open c) ∙ mapped (record_in entries c);
        calls = shown;
        no_others = λ c none. ap (λ (call_record : Option CallRecord). option_map agent_in (option_map (call_of script) call_record)) none;
      };
    };
    counts = record { counted = λ c t is. (x.call_table c t is).0; unused = λ c not_open not_retired. refl };
  }
