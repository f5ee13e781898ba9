-- The restart is added to the history, and the gateway's is the world's.
use Rattle.std.proofs.Common.{◌≡◌, ◌∙◌, List, [], ◌∷◌, ◌++◌, ap, subst}
use Rattle.mg_model.specs.declared.events.Event.{Event}
use Rattle.mg_model.specs.declared.events.Event.TheVariants.{Restart}
use Rattle.shards.proofs.ShardLemmas.{restart_counts, restart_happened, shard_after}
use Rattle.shards.specs.Shards.{HasHappened, ShardValue}
use Rattle.shards.proofs.shard.Shard.restart.Goals as goal

pub invariant_of-self-2 : goal.invariant_of-self-2
invariant_of-self-2 c =
    shard_after _ _ Restart c.self.invariant (restart_happened _ c.restart.new.self c.push_reserved.new.self.items c.in-Ok-restart.association.0 history c.in-Ok-restart.ensures)
    (restart_counts _ c.restart.new.self c.push_reserved.new.self.items c.in-Ok-restart.association.0 history c.in-Ok-restart.ensures c.self.invariant.counts)
  where
    history : c.push_reserved.new.self.items ≡ c.self.inside.history.items ++ Restart ∷ []
    history = c.push_reserved.ensures.items ∙ ap (λ (events : List Event). events ++ Restart ∷ []) c.in-Ok.ensures.items

pub returns : goal.returns
returns c = (
  subst (λ (v : ShardValue). HasHappened v (record {
    script = c.self.inside.script.now;
    first = c.self.inside.first;
    stride = c.self.inside.stride;
    calls = c.self.inside.calls.items;
    gateway = c.restart.new.self;
    call_table = c.self.inside.call_table.entries;
    history = c.push_reserved.new.self.items;
  }) Restart) c.self.view_is
      (restart_happened _ c.restart.new.self c.push_reserved.new.self.items c.in-Ok-restart.association.0 history c.in-Ok-restart.ensures),
  c.in-Ok-restart.ensures.answered,
)
  where
    history : c.push_reserved.new.self.items ≡ c.self.inside.history.items ++ Restart ∷ []
    history = c.push_reserved.ensures.items ∙ ap (λ (events : List Event). events ++ Restart ∷ []) c.in-Ok.ensures.items
