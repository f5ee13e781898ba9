use Rattle.std.proofs.Common.{rules, option_map}
use Rattle.std.specs.Prelude.{nat_eq}
use Rattle.std.proofs.lemmas.Map.Made.{map_same_pairs, lookup-map_values}
use Rattle.gateway.specs.Calls.{call_entry, restarting}
use Rattle.gateway.proofs.calls.restart.Goals as goal

pub returns : goal.returns
unfolding call_entry
returns c =
    let same = map_same_pairs _ (option_map (restarting c.args.association.0)) _ (λ k v b w f' t. search rules) _ _ c.retain.ensures.filtered in
    λ n. rw same (lookup-map_values (option_map (restarting c.args.association.0)) (nat_eq n) c.args.calls.now.entries)
