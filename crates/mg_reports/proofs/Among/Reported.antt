-- What a call tells among others it tells alone.
use Rattle.std.proofs.Common.{◌≡◌, ◌∙◌, ◌++◌, ℕ, Bool, [], ◌∷◌, Some, sym, ap, subst, ◌%◌, true, List, refl, IsTrue, Contains}
use Rattle.mg_merge.proofs.Words.{Agent, IsOpening, Opened, Progress, ReportLine, Script, World, eqb-true, only_here, only_one, plan_calls, start_as, the_some}
use Rattle.mg_reports.specs.Among.{ReportsAmongOthers}
use Rattle.mg_reports.proofs.Along.{AreAlong}
use Rattle.mg_reports.proofs.Among.Placed.{are_placed, placed_in}
use Rattle.mg_reports.proofs.Among.Turns.{all_turns}
use Rattle.mg_reports.proofs.Among.Within.{is_within, within_itself}
use Rattle.mg_reports.proofs.Lines.{line_same}
use Rattle.mg_reports.proofs.Openings.{at_start}
use Rattle.mg_reports.proofs.Runs.{told}
use Rattle.mg_alike.proofs.Alone.Opening.{calls_open_alone}

-- ---- an opening of the call alone, on a gateway that may give every number

abbrev with_every : World → World
with_every w = record w { gateway = record w.gateway { board = record w.gateway.board { class = λ n. true } } }

-- whatever numbers its gateway gives, it is an opening
opens_with_every : (script : Script) (calls : List Opened) (w : World) → IsOpening script calls w → IsOpening script calls (with_every w)
opens_with_every script calls w opens = assumption

opens_alone_with_every : (script : Script) (calls : List Opened) (one : Opened) (start : World) → Contains calls one → IsOpening script calls start
    → (lone : World) × (IsOpening script (one ∷ []) lone × ((n : ℕ) → IsTrue (lone.gateway.board.class n)))
opens_alone_with_every script calls one start among opens =
    let alone = calls_open_alone script calls one start among opens in
    (with_every alone.0, (opens_with_every script (one ∷ []) alone.0 alone.1.0, λ n. refl))

-- ---- what is told

-- where the one is, but for its world, the other tells the same
same_told : (script : Script) (keep : ℕ → Bool) (start first : World) (end other : Progress) (it : AreAlong script keep start first end other) (a : Agent)
    → end.world.agent end.standing ≡ Some a → told script a end ≡ told script it.2.treat.other other
same_told script keep start first end other it a there =
    ap (λ (x : Agent). told script x end) (the_some a it.2.treat.one (sym there ∙ it.2.treat.alike.open_one))
    ∙ ap (λ (line : ReportLine). end.retired ++ line ∷ [])
    (sym (line_same script end it.0 it.2.treat.renaming it.2.treat.one it.2.treat.other it.2.treat.alike))
    ∙ ap (λ (q : Progress). told script it.2.treat.other q) (sym it.1)

pub reports_among : ReportsAmongOthers
reports_among script entries is_script listed none_broken few calls one among small apart start opens turns end goes a there =
    let alone = opens_alone_with_every script calls one start among opens in
    let it = all_turns script entries is_script listed none_broken few calls one small start alone.0 opens alone.1.0 alone.1.1 turns (start_as one start) alone.0 end
    (at_start script (is_within one.call) calls (one ∷ []) one start alone.0 opens alone.1.0 among (only_here one) (within_itself one.call small)
    (λ other its within. apart other its (eqb-true (other.call % plan_calls) one.call within))
    (λ other its within. ap (λ (o : Opened). o.call) (sym (only_one one other its)))) goes a there in
    record {
      placed = placed_in turns;
      placing = are_placed turns;
      start = alone.0;
      end = it.0;
      agent = it.2.2.treat.other;
      opens = alone.1.0;
      every_number = alone.1.1;
      runs = it.1;
      stands = subst (λ (q : Progress). q.world.agent q.standing ≡ Some it.2.2.treat.other) (sym it.2.1) it.2.2.treat.alike.open_other;
      lines_are = same_told script (is_within one.call) start alone.0 end it.0 it.2 a there;
    }
