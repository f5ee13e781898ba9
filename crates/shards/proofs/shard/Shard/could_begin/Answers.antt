-- Only a call that has ended is one on whose lines another begins.
use Rattle.std.proofs.Common.{inl, ap}
use Rattle.agent.specs.Calls.{variant_of}
use Rattle.agent.specs.declared.call.Next.{Next}
use Rattle.shards.proofs.PossibleEvents.{none_begins}
use Rattle.shards.specs.Stepping.{is_ended}
use Rattle.shards.proofs.shard.Shard.could_begin.Goals as goal

pub returns-in-Resting : goal.returns-in-Resting
returns-in-Resting c =
    inl (none_begins c.args.self.now c.args.next.now c.args.call.0 c.args.old.0 (ap (λ (n : Next). is_ended (variant_of n)) c.in-Resting.is))

pub returns-in-Waiting : goal.returns-in-Waiting
returns-in-Waiting c =
    inl (none_begins c.args.self.now c.args.next.now c.args.call.0 c.args.old.0 (ap (λ (n : Next). is_ended (variant_of n)) c.in-Waiting.is))
