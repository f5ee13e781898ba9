use Rattle.std.proofs.Common.{rules}
use Rattle.std.specs.Prelude.{nat_eq}
use Rattle.std.proofs.lemmas.Map.Made.{map_same_pairs}
use Rattle.mg_model.specs.LineEvents.{cleared}
use Rattle.line_events.specs.Rows.{row_of}
use Rattle.line_events.proofs.RowsChanged.{lookup-changed}
use Rattle.line_events.proofs.rows.clear_all.Goals as goal

pub returns : goal.returns
unfolding row_of
returns c =
    let same = map_same_pairs _ cleared _ (λ k v b w f' t. search rules) _ _ c.retain.ensures.filtered in
    λ n. rw same (lookup-changed cleared (nat_eq n) c.args.rows.now.entries)
