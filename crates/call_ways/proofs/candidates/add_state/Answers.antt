-- What can be warned of the state, its lines, its marks and its commands, one behind the other.
use Rattle.std.proofs.Common.{◌≡◌, ◌∙◌, ◌++◌, ◌∷◌, [], ℕ, List, length, map, ap, append_assoc}
use Rattle.std.specs.List.{flat_map}
use Rattle.mg_model.specs.Script.{Script}
use Rattle.mg_model.specs.Tables.{state_of}
use Rattle.mg_model.specs.declared.transitions.Pair.{Pair}
use Rattle.mg_model.specs.declared.commands.Command.{Command}
use Rattle.call_ways.specs.Candidates.{of_command, of_line}
use Rattle.call_ways.specs.Numbers.{numbers}
use Rattle.call_ways.specs.declared.warning.Warning.{Warning}
use Rattle.call_ways.specs.declared.warning.Warning.TheVariants as warning
use Rattle.call_ways.proofs.Moving.{on_ok}
use Rattle.call_ways.proofs.candidates.add_state.Goals as goal

-- four lists behind a list, one behind the other
in_a_row : (old a b d e : List Warning) → ((((old ++ a) ++ b) ++ d) ++ e) ≡ (old ++ (a ++ (b ++ (d ++ e))))
in_a_row old a b d e =
    append_assoc ((old ++ a) ++ b) d e ∙ append_assoc (old ++ a) b (d ++ e) ∙ append_assoc old a (b ++ (d ++ e))

pub returns : goal.returns
returns c =
    let script : Script = c.args.script.now in
    let s : ℕ = c.args.state in
    let old : List Warning = c.args.list.now.items in
    let state : List Warning = warning.StateUnlisted s ∷ warning.StateNeverLeft s ∷ [] in
    let lines : List Warning = flat_map (of_line s) (0 ∷ 1 ∷ 2 ∷ 3 ∷ []) in
    let marks : List Pair → List Warning = map (λ (pair : Pair). warning.MarkUnneeded s pair) in
    let commands : List Command → List Warning = λ (xs : List Command). flat_map (of_command s) (numbers (length xs)) in
    let before : c.add_marks.new.list.items ≡ ((old ++ state) ++ lines) ++ marks (state_of script s).talk =
    c.in_ok-add_marks.ensures
    ∙ ap (λ (xs : List Warning). xs ++ marks c.talk_of.result.now)
    (c.in_ok-add_lines.ensures ∙ ap (λ (xs : List Warning). xs ++ lines) c.in_ok-extend_from_slice.ensures.items)
    ∙ ap (λ (pairs : List Pair). ((old ++ state) ++ lines) ++ marks pairs) c.talk_of.ensures in
    on_ok c.add_commands.result _ _
    (λ added. added ∙ ap (λ (xs : List Warning). xs ++ commands c.commands_of.result.now) before
    ∙ ap (λ (xs : List Command). (((old ++ state) ++ lines) ++ marks (state_of script s).talk) ++ commands xs) c.commands_of.ensures
    ∙ in_a_row old state lines (marks (state_of script s).talk) (commands (state_of script s).commands))
    c.add_commands.ensures
