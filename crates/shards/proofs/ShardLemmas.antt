-- What a shard keeps is kept where its event leads on, and where nothing changes.
use Rattle.std.proofs.Common.{◌≡◌, ◌∙◌, ◌+◌, ◌<◌, ◌≤◌, ◌++◌, ℕ, suc, Bool, true, false, List, [], ◌∷◌, map, if◌then◌else◌, refl, sym, ap, subst, arith}
use Rattle.identifiers.specs.Class.{is_of_class}
use Rattle.mg_model.specs.declared.events.Event.{Event}
use Rattle.mg_model.specs.declared.events.Event.TheVariants.{Restart}
use Rattle.mg_model.specs.Script.{Script}
use Rattle.mg_model.specs.World.{World, Occurs, IsOpening, Runs, is_of_call}
use Rattle.mg_safety.proofs.Messages.NamedMessages.{opening_numbered, runs_numbered}
use Rattle.mg_safety.proofs.Messages.NumberedWorlds.{IsNumbered}
use Rattle.mg_model.specs.Gateway.{Gateway}
use Rattle.mg_model.specs.Accepted.{HasFewCommands, IsScript}
use Rattle.mg_merge.specs.Identifiers.{most_shards}
use Rattle.mg_safety.specs.Headline.{RunsAreGood}
use Rattle.gateway.specs.Answers.{IsNext}
use Rattle.gateway.specs.GatewayValue.{GatewayValue, gateway_of}
use Rattle.shards.proofs.ShownRestarts.{restart_shown}
use Rattle.shards.specs.Shards.{CountsEvents, HasHappened, HasSameOpening, IsShard, IsWorldOf, ShardValue, events_of, opened_as}
use Rattle.shards.specs.Shows.{LeadsOn}
use Rattle.shards.specs.CallTable.{record_in}
use Rattle.shards.specs.declared.opened.OpenedCall.{OpenedCall}

-- ---- one event more

-- a run goes on by an event
runs_on : (script : Script) (history : List Event) (event : Event) (w between end : World) → Runs script history w between → Occurs script between event end
    → Runs script (history ++ event ∷ []) w end
unfolding Runs
runs_on script [] event w between end runs occurs = (end, (subst (λ (x : World). Occurs script x event end) runs occurs, refl))
runs_on script (first ∷ more) event w between end (next, (happens, runs)) occurs = (next, (happens, runs_on script more event next between end runs occurs))

-- it is counted where it is the call's
pub one_more : (call : ℕ) (history : List Event) (event : Event) → events_of call (history ++ event ∷ []) ≡ events_of call history + (if is_of_call call event then 1 else 0)
one_more call [] event = by_test (is_of_call call event)
  where
    by_test : (test : Bool) → (if test then 1 else 0) ≡ 0 + (if test then 1 else 0)
    by_test true = refl
    by_test false = refl
one_more call (first ∷ more) event = by_test (is_of_call call first) (one_more call more event)
  where
    by_test : (test : Bool) → events_of call (more ++ event ∷ []) ≡ events_of call more + (if is_of_call call event then 1 else 0)
        → (if test then suc (events_of call (more ++ event ∷ [])) else events_of call (more ++ event ∷ []))
        ≡ (if test then suc (events_of call more) else events_of call more) + (if is_of_call call event then 1 else 0)
    by_test true later = omega (arith, later)
    by_test false later = later

-- ---- worlds

-- messages are numbered in a world that a shard shows
pub world_numbered : (v : ShardValue) (w : World) → IsWorldOf v w → IsNumbered w
world_numbered v w is = runs_numbered v.script v.history is.start w (opening_numbered v.script (map opened_as v.calls) is.start is.opens) is.runs

-- where an event leads on, the world that it leads to is the shard's
pub led_on : (old new : ShardValue) (event : Event) → HasSameOpening old new → new.history ≡ old.history ++ event ∷ [] → (w : World) → IsWorldOf old w
    → LeadsOn old.script w event new.gateway (record_in new.call_table) → (after : World) × (Occurs old.script w event after × IsWorldOf new after)
led_on old new event same history w is leads = (
  leads.after,
  (
    leads.occurs,
    record {
      start = is.start;
      opens = subst (λ (script : Script). IsOpening script (map opened_as new.calls) is.start) (sym same.script) (subst (λ (calls : List OpenedCall). IsOpening old.script (map opened_as calls) is.start) (sym same.calls) is.opens);
      class = is.class ∙ ap (λ first. is_of_class first old.stride) (sym same.first) ∙ ap (is_of_class new.first) (sym same.stride);
      runs = subst (λ (script : Script). Runs script new.history is.start leads.after) (sym same.script)
          (subst (λ (events : List Event). Runs old.script events is.start leads.after) (sym history) (runs_on old.script old.history event is.start w leads.after is.runs leads.occurs));
      shows = leads.shown;
    },
  ),
)

pub still_within : (old new : ShardValue) → HasSameOpening old new → old.first < old.stride → new.first < new.stride
still_within old new same within = subst (λ n. n < new.stride) (sym same.first) (subst (λ n. old.first < n) (sym same.stride) within)

-- what happened to a shard keeps what its type keeps
pub shard_after : (old new : ShardValue) (event : Event) → IsShard old → HasHappened old new event → CountsEvents new → IsShard new
shard_after old new event was happened counts = record {
  accepted = subst IsScript (sym happened.same.script) was.accepted;
  few_commands = subst HasFewCommands (sym happened.same.script) was.few_commands;
  safe = subst RunsAreGood (sym happened.same.script) was.safe;
  within = still_within old new happened.same was.within;
  few_shards = subst (λ n. n ≤ most_shards) (sym happened.same.stride) was.few_shards;
  world = (happened.worlds was.world was.is_world).0;
  is_world = (happened.worlds was.world was.is_world).1.1;
  counts = counts;
}

-- ---- a restart

module _ (old : ShardValue) (h : GatewayValue) (events : List Event) (association : ℕ) (history : events ≡ old.history ++ Restart ∷ [])
    (next : IsNext old.gateway h association) where
  abbrev later : ShardValue
  later = record old { gateway = h; history = events }

  pub restart_happened : HasHappened old later Restart
  restart_happened = record {
    same = record { script = refl; first = refl; stride = refl; calls = refl };
    history = history;
    worlds = λ w is. led_on old later Restart (record { script = refl; first = refl; stride = refl; calls = refl }) history w is
        (restart_shown old.script w old.gateway h (record_in old.call_table) association is.shows next);
  }

  same_count : (call : ℕ) → events_of call events ≡ events_of call old.history
  same_count call = ap (events_of call) history ∙ one_more call old.history Restart ∙ omega arith

  pub restart_counts : CountsEvents old → CountsEvents later
  unfolding gateway_of
  restart_counts counts = record {
    counted = λ call s is. counts.counted call s is ∙ sym (same_count call);
    unused = λ call not_open not_retired. same_count call
        ∙ counts.unused call (sym (next.open_calls call) ∙ not_open) (sym (ap (λ (g : Gateway). g.retired call) next.restarts) ∙ not_retired);
  }
