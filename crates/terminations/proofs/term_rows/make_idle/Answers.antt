use Rattle.std.proofs.Common.{rules}
use Rattle.std.specs.Prelude.{nat_eq}
use Rattle.std.proofs.lemmas.Map.Made.{map_same_pairs}
use Rattle.mg_model.specs.Board.{null_row}
use Rattle.terminations.proofs.TermRowLemmas.{lookup-idle}
use Rattle.terminations.proofs.term_rows.make_idle.Goals as goal

pub returns : goal.returns
returns c =
    let same = map_same_pairs _ (λ row. null_row) _ (λ k v b w f' t. search rules) _ _ c.retain.ensures.filtered in
    λ n. rw same (lookup-idle (nat_eq n) c.args.rows.now.entries)
