use Rattle.std.proofs.Common.{◌≡◌, ◌+◌, length}
use Rattle.mg_model.specs.Gateway.{sent_notes}
use Rattle.requests.specs.Views.{line_notes}
use Rattle.gateway.proofs.numbering.numbered.Given as goal

abbrev pub invariant-loop-noted : goal.invariant-loop-noted
invariant-loop-noted l = record {
  number : l.number ≡ l.last + length l.yielded;
  sent : l.sent.items ≡ sent_notes l.request.call l.request.association l.last (line_notes l.yielded);
}
