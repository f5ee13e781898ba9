-- The request of the state `talk` is executed in any world where the call can be joined and sent no request before.
use Rattle.std.proofs.Common.{◌≡◌, ◌≤◌, ℕ, false, [], None, refl, ap, arith}
use Rattle.mg_model.proofs.Offered.{is_fresh_at, number_of}
use Rattle.mg_examples.proofs.Words.{World, IsFirst, Opened}
use Rattle.mg_examples.proofs.TwoLinesJoined.{IsReady, with_both, both_settled, to_talk, r2, runs_through, all_done, talking_gateway, talking_world}

module _ (w : World) (one : Opened) (context : ℕ) (ready : IsReady w.gateway.board one context) where
  pub executes : w.gateway.retired one.call ≡ false → (w.gateway.link one.call).last ≡ None → (w.gateway.link one.call).notes ≤ 1
      → IsFirst w (to_talk one w.gateway.association) None (talking_world w one context ready)
  executes open_call none few = record {
    gateway = talking_gateway w one context ready;
    answer = all_done w one context ready;
    sent = [];
    executed = record {
      end = r2 w one context ready None;
      settled = with_both w.gateway.board one context;
      failure = None;
      is_fresh = is_fresh_at w.gateway (to_talk one w.gateway.association) open_call refl
          (let last : number_of (w.gateway.link one.call).last ≡ 0 = ap number_of none in omega (arith, last));
      room = omega (arith, few);
      runs = runs_through w one context ready None;
      is_settled = both_settled w.gateway.board one context ready;
      after_is = refl;
      reply_is = refl;
      notes_are = refl;
    };
    after_is = refl;
  }
