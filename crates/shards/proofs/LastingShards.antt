-- Identifiers last in a shard, by the law of runs.
use Rattle.std.proofs.Common.{◌∙◌, ◌%◌, ℕ, Bool, map, ap}
use Rattle.std.proofs.lemmas.Bool.{eq-eqb}
use Rattle.mg_merge.specs.Identifiers.{IdentifiersAreLeft as AreLeftBehind, IdentifiersLast}
use Rattle.shards.specs.Lasting.{IdentifiersAreLeft, IdentifiersLasted}
use Rattle.shards.specs.Shards.{IsShard, ShardValue, opened_as}

pub lasting : (v : ShardValue) → IsShard v → IdentifiersLast → IdentifiersLasted v
lasting v is last w shows few =
    last v.script (map opened_as v.calls) v.history shows.start w v.first v.stride is.few_commands is.within is.few_shards
    (λ n of_class. ap (λ (class : ℕ → Bool). class n) shows.class ∙ eq-eqb (n % v.stride) v.first of_class) shows.opens shows.runs few

pub left : (v : ShardValue) → IsShard v → AreLeftBehind → IdentifiersAreLeft v
left v is behind w shows few =
    behind v.script (map opened_as v.calls) v.history shows.start w v.first v.stride is.few_commands is.within is.few_shards
    (λ n of_class. ap (λ (class : ℕ → Bool). class n) shows.class ∙ eq-eqb (n % v.stride) v.first of_class) shows.opens shows.runs few
