use Rattle.std.proofs.Common.{is_some, map, rules, sym, subst, List}
use Rattle.std.proofs.lemmas.Fn.{filter_same}
use Rattle.mg_names.specs.declared.identifiers.CallNo.{CallNo}
use Rattle.mg_model.specs.Items.{Lists}
use Rattle.gateway.specs.Calls.{call_in}
use Rattle.gateway.proofs.ListLemmas.{lists_open}
use Rattle.gateway.proofs.calls.open_calls.Goals as goal

pub returns : goal.returns
returns c =
    let same = filter_same _ (λ (n : CallNo). is_some (call_in c.args.calls.now.entries n.0)) _ (λ x b f' k. search rules) _ _ c.retain.ensures.filtered in
    subst (λ (found : List CallNo). Lists (λ n. is_some (call_in c.args.calls.now.entries n)) (map (λ (n : CallNo). n.0) found)) (sym same)
    (lists_open c.args.calls.now.entries c.in_ok-found.found.items c.in_ok-found.ensures)
