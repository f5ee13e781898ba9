-- The call is open on its lines, as many as the script has, and its record has the agent that it was entered with.
use Rattle.std.proofs.Common.{◌≡◌, ◌∙◌, List, length, Ok, refl, sym, ap, subst}
use Rattle.mg_names.specs.declared.identifiers.LineNo.{LineNo}
use Rattle.mg_model.specs.Agent.{opened}
use Rattle.gateway.specs.GatewayValue.{gateway_of, is_taken}
use Rattle.gateway.specs.Openings as gateway
use Rattle.systems.specs.Openings.{line_at}
use Rattle.shards.proofs.opening.open_one.Goals as goal

pub returns-in-Ok-enter : goal.returns-in-Ok-enter
returns-in-Ok-enter c = (
  record {
    all_lines = ap (λ (lines : List LineNo). length lines) (sym same) ∙ c.if-lines.false ∙ c.lines.ensures.value;
    may = subst (λ (lines : List LineNo). gateway.opening (gateway_of c.args.gateway.now) (is_taken c.args.gateway.now c.args.call.now.call.0) lines ≡ Ok tt) same c.in-Ok.ensures.answer;
    gateway = c.in-Ok.ensures.opened ∙ ap (gateway.opened (gateway_of c.args.gateway.now) c.args.call.now.call.0) same;
    open_calls = c.in-Ok.ensures.open_calls;
    call_record = record { agent = c.enter.result; events = 0; messages = c.new.result; settled = 0 };
    first = record {
      agent = c.enter.ensures ∙ ap (λ (lines : List LineNo). opened c.args.script.now c.args.call.now.call.0 (line_at lines)) same;
      events = refl;
      sent = c.new.ensures;
      settled = refl;
    };
    call_table = c.in-Ok-put.ensures.put;
  },
  record {
    kind = c.in-Ok-enter.ensures.kind;
    agent = c.in-Ok-enter.ensures.agent ∙ ap (λ (lines : List LineNo). opened c.args.script.now c.args.call.now.call.0 (line_at lines)) same;
    of_script = c.in-Ok-enter.ensures.script;
    transcript = c.in-Ok-enter.ensures.transcript;
  },
)
  where
    same : c.as_slice-lines.result.now ≡ c.args.call.now.lines.items
    same = c.as_slice-lines.ensures.value
