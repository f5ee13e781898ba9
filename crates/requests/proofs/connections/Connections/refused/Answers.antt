use Rattle.std.proofs.Common.{◌≡◌, Some, sym, subst}
use Rattle.mg_names.specs.declared.codes.Code.{Code}
use Rattle.mg_model.specs.declared.failures.Refusal.{Refusal}
use Rattle.mg_model.specs.declared.items.Item.{Item}
use Rattle.mg_model.specs.Failures.{code_of}
use Rattle.mg_model.specs.Items.{Applies}
use Rattle.mg_model.specs.RequestRun.{IsRefusedWith}
use Rattle.contexts.specs.BoardValue.{board_of}
use Rattle.requests.specs.Connected.{Connected, board_in}
use Rattle.requests.proofs.RefusalLemmas.{refused_legal}
use Rattle.requests.proofs.connections.Connections.refused.Goals as goal

-- the same of the value that is seen
seen : (v w : Connected) (item : Item) (chosen : Refusal) (code other : Code) → v ≡ w → other ≡ code →
    IsRefusedWith (board_in v) item (Some chosen) code → IsRefusedWith (board_in w) item (Some chosen) other
seen v w item chosen code other same is refused =
    subst (λ (c : Code). IsRefusedWith (board_in w) item (Some chosen) c) (sym is)
    (subst (λ (x : Connected). IsRefusedWith (board_in x) item (Some chosen) code) same refused)

pub returns-in-None : goal.returns-in-None
returns-in-None c =
    seen _ _ c.args.item.now c.args.chosen (code_of c.args.chosen) _ c.self.view_is c.code.ensures
    (refused_legal (board_of c.self.inside.board.value) c.args.item.now c.args.chosen
    (λ code. subst (λ b. Applies (board_of b) c.args.item.now code → ⊥) c.deref.ensures (c.in-None.ensures code)))
