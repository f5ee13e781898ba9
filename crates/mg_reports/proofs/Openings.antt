-- A call of two openings is beside itself in them, where of some calls it is the only one of each.
use Rattle.std.proofs.Common.{◌≡◌, ◌∙◌, ℕ, Bool, List, [], refl, sym, ap, IsTrue, Contains}
use Rattle.mg_merge.proofs.Words.{IsOpening, Opened, Runs, Script, World}
use Rattle.mg_alike.proofs.Events.Others.{openings_alike}
use Rattle.mg_reports.proofs.Beside.{AreBeside}
use Rattle.mg_reports.proofs.Only.{IsOnly}

-- of these calls one alone is of an opening
abbrev pub IsOnlyOpened : (keep : ℕ → Bool) → List Opened → Opened → Type 0
IsOnlyOpened keep calls one = (other : Opened) → Contains calls other → IsTrue (keep other.call) → other.call ≡ one.call

only_opened : (script : Script) (keep : ℕ → Bool) (calls : List Opened) (one : Opened) (w : World) → IsOpening script calls w → IsOnlyOpened keep calls one
    → IsOnly keep w one.call
only_opened script keep calls one w opens only other b its there =
    let it = opens.agents.no_other other b there in sym it.2 ∙ only it.0 it.1 (ap keep it.2 ∙ its)

pub at_start : (script : Script) (keep : ℕ → Bool) (calls others : List Opened) (one : Opened) (start first : World) → IsOpening script calls start
    → IsOpening script others first → Contains calls one → Contains others one → IsTrue (keep one.call) → IsOnlyOpened keep calls one
    → IsOnlyOpened keep others one → AreBeside script keep start first one.call start first
unfolding Runs
at_start script keep calls others one start first opens also_opens among also_among kept only also_only = record {
  past = [];
  history = [];
  runs = refl;
  also_runs = refl;
  treat = openings_alike script calls others one start first opens also_opens among also_among;
  kept = kept;
  only = only_opened script keep calls one start opens only;
  also_only = only_opened script keep others one first also_opens also_only;
  in_step = record {
    requests = rw (opens.messages.no_request, also_opens.messages.no_request) tt;
    replies = rw (opens.messages.no_answer, also_opens.messages.no_answer) tt;
    retired = λ c its. ap (λ (f : ℕ → Bool). f c) also_opens.gateway.none_retired ∙ sym (ap (λ (f : ℕ → Bool). f c) opens.gateway.none_retired);
  };
}
