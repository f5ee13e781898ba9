-- A restart of a shard beside that of the merge: one restart of the merge stands for those of all shards.
use Rattle.std.proofs.Common.{◌∙◌, ◌+◌, ℕ, refl, sym, ap, ◌≡◌, true, Some, None}
use Rattle.mg_merge.proofs.Words.{Board, Eph, Script, World, board_restarted, cleared, false_not_true, link_restarted, none_is_some, restarted, row_restarted}
use Rattle.mg_merge.proofs.Words.{with_gateway}
use Rattle.mg_model.proofs.Settled.{restarted_gone, restarted_in_null}
use Rattle.mg_merge.proofs.Scopes.{Scope, IsWithin, IsPart}
use Rattle.mg_merge.proofs.Events.Worlds.{IsContained, IsBeside, IsMerge}

within_restarted : (s : Scope) (b : Board) → IsWithin s b → IsWithin s (board_restarted b)
within_restarted s b within = record {
  class = within.class;
  outside = λ t other. restarted_in_null t (b.row t);
  places = λ t real. absurd (real (restarted_in_null t (b.row t)));
  ephemerals = λ k there. absurd (false_not_true (sym (restarted_gone k (b.row (Eph k))) ∙ there));
}

pub contained_restarted : (script : Script) (s : Scope) (w : World) → IsContained script s w → IsContained script s (with_gateway w (restarted w.gateway))
contained_restarted script s w contained = record {
  board = within_restarted s w.gateway.board contained.board;
  holder = contained.holder;
  creator = λ k c is. absurd (none_is_some c is);
  link = λ c answer is. absurd (none_is_some answer is);
  agents = contained.agents;
  requests = contained.requests;
  replies = contained.replies;
}

pub beside_restarted : (s : Scope) (w m : World) → IsBeside s w m → IsBeside s (with_gateway w (restarted w.gateway)) (with_gateway m (restarted m.gateway))
beside_restarted s w m along = assumption (
  ap (λ (n : ℕ). n + 1) along.association,
  parts,
  λ (l : ℕ) (own : s.lines l ≡ true). ap cleared (along.line l own),
  λ (c : ℕ) (own : s.numbers c ≡ true). ap link_restarted (along.link c own),
  none_created,
)
  where
    parts : IsPart s (board_restarted w.gateway.board) (board_restarted m.gateway.board)
    parts = record {
      class = along.board.class;
      row = λ t own. ap (row_restarted t) (along.board.row t own);
      cut = λ t u own also. refl;
      used_context = λ n own. refl;
      used_ephemeral = λ n own. refl;
      members = λ t real class. absurd (real (restarted_in_null t (m.gateway.board.row t)));
    }

    none_created : (k c : ℕ) → None ≡ Some c → s.numbers c ≡ true → s.class k ≡ true
    none_created k c is own = absurd (none_is_some c is)

pub merge_restarted : (m : World) → IsMerge (with_gateway m (restarted m.gateway))
merge_restarted m = record {
  board = record {
    places = λ t real. absurd (real (restarted_in_null t (m.gateway.board.row t)));
    zeroth = restarted_gone 0 (m.gateway.board.row (Eph 0));
  };
  contexts = λ c. (λ used. absurd (false_not_true used), λ there. absurd (there.0 (sym there.1.1 ∙ restarted_in_null there.1.0 (m.gateway.board.row there.1.0))));
  ephemerals = λ k. sym (restarted_gone k (m.gateway.board.row (Eph k)));
  creator = λ k none. refl;
}
