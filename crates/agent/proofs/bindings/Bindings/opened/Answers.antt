-- The lines and what is expected of them, in tables of four; there is no line past the fourth.
use Rattle.std.proofs.Common.{◌≡◌, ℕ, ◌≤◌, None, Some, nat_lt, if◌then◌else◌, length, map, slice_index_or, arith}
use Rattle.std.proofs.lemmas.List.{length-map}
use Rattle.std.proofs.lemmas.Bool.Decides.{nat_tests}
use Rattle.mg_model.specs.Numbers.{opening_request}
use Rattle.mg_names.specs.declared.identifiers.LineNo.{LineNo}
use Rattle.agent.specs.Parts.{agent_in}
use Rattle.agent.proofs.Fours.{four_of, past_four}
use Rattle.agent.proofs.bindings.Bindings.opened.Goals as goal

-- nothing is expected of a line that is not there
past_lines : (n i : ℕ) → n ≤ 4 → 4 ≤ i → (if nat_lt i n then Some opening_request else None) ≡ None
past_lines n i few past = grind (arith, nat_tests)

pub returns-clause-lines : goal.returns-clause-lines
unfolding agent_in
returns-clause-lines c =
    let numbers = map (λ (l : LineNo). l.0) c.args.lines.now in
    let few : length numbers ≤ 4 = rw length-map c.requires in
    four_of (λ i. slice_index_or numbers i 0) 0 _ _ _ _ c.number_at.ensures c.number_at-2.ensures c.number_at-3.ensures c.number_at-4.ensures
    (λ i past. past_four numbers i 0 few past)

pub returns-clause-expected : goal.returns-clause-expected
unfolding agent_in
returns-clause-expected c =
    let count = length c.args.script.now.lines in
    let few : count ≤ 4 = c.opening.ensures.few in
    four_of (λ i. if nat_lt i count then Some opening_request else None) None _ _ _ _ c.opening.ensures.value c.opening-2.ensures.value c.opening-3.ensures.value c.opening-4.ensures.value
    (λ i past. past_lines count i few past)
