-- A request runs alike where one signal alone is told: on the same board, with the same results, notes and failure, and what is left of each line.
use Rattle.std.proofs.Common.{Bool, List, None, Option, Some, [], ap, false, if◌then◌else◌, inl, inr, map, not, refl, subst, sym, true, ℕ, ◌++◌, ◌+◌, ◌==◌}
use Rattle.std.proofs.Common.{◌||◌, ◌∙◌, ◌∷◌, ◌≡◌}
use Rattle.std.specs.Prelude.{filter, option_map}
use Rattle.mg_names.specs.declared.codes.Code.{Code}
use Rattle.mg_names.specs.declared.identifiers.TermId.TheVariants as term
use Rattle.mg_names.specs.declared.signals.Signal.{Signal}
use Rattle.mg_model.specs.declared.failures.ChosenRefusal.{ChosenRefusal}
use Rattle.mg_model.specs.declared.failures.Failure.{Failure}
use Rattle.mg_model.specs.declared.items.Item.{Item}
use Rattle.mg_model.specs.declared.references.TerminationRef.TheVariants as reference
use Rattle.mg_model.specs.Board.{Board}
use Rattle.mg_model.specs.Items.{Done, IsExecuted, subtracts}
use Rattle.mg_model.specs.LineEvents.{LineRow, Outcome, cleared}
use Rattle.mg_model.specs.Messages.{RequestCommand, add_line, modify, move}
use Rattle.mg_model.specs.Numbers.{the_line}
use Rattle.mg_model.specs.RequestRun.{Fails, IsRefusedWith, LineDescriptors, RaisedNote, Running, RunsFrom, Succeeds, after_command, chosen_at, described_row}
use Rattle.mg_model.specs.RequestRun.{descriptors_for, has_new_events, item_at, line_after, note_from, raised, standing, with_descriptors}
use Rattle.call_ends.proofs.OneSignal.Lines.{cleared_alone, described_alone, row_alone}
use Rattle.call_ends.proofs.OneSignal.Messages.{command_alone, descriptors_alone}

-- the board of a request doesn't depend on signals, nor do its results and notes
abbrev pub running_alone : Signal → Running → Running
running_alone g r = record r { line = λ l. row_alone g (r.line l) }

abbrev on_alone : Signal → LineDescriptors → LineDescriptors
on_alone g on = record on { descriptors = descriptors_alone g on.descriptors }

module _ (g : Signal) where
  -- ---- what a command is for

  item_alone : (results : List Done) (command : RequestCommand) → item_at results (command_alone g command) ≡ item_at results command
  item_alone results (add_line c l d) = refl
  item_alone results command = refl

  for_alone : (command : RequestCommand) → descriptors_for (command_alone g command) ≡ option_map (on_alone g) (descriptors_for command)
  for_alone (add_line c l d) = refl
  for_alone (modify c (reference.Line l) d) = refl
  for_alone (modify c (reference.Ephemeral k) d) = refl
  for_alone (move c (reference.Line l) d) = refl
  for_alone (move c (reference.Ephemeral k) d) = refl
  for_alone command = refl

  -- ---- after a command

  described_row_alone : (o : Option LineDescriptors) (row : LineRow) (l number : ℕ)
      → described_row (option_map (on_alone g) o) (row_alone g row) l number ≡ row_alone g (described_row o row l number)
  described_row_alone None row l number = refl
  described_row_alone (Some on) row l number = by (on.line == l)
    where
      by : (b : Bool)
          → (if b then (with_descriptors (row_alone g row) (descriptors_alone g on.descriptors) number).row else row_alone g row)
          ≡ row_alone g (if b then (with_descriptors row on.descriptors number).row else row)
      by true = ap (λ (o : Outcome). o.row) (described_alone g row on.descriptors number)
      by false = refl

  module _ (r : Running) (command : RequestCommand) (item : Item) (number : ℕ) where
    line_alone : (l : ℕ) → line_after (running_alone g r) (command_alone g command) item number l ≡ row_alone g (line_after r command item number l)
    line_alone l = by (subtracts r.board item (term.Line (the_line l)))
      where
        by : (b : Bool)
            → (if b then cleared (row_alone g (r.line l)) else described_row (descriptors_for (command_alone g command)) (row_alone g (r.line l)) l number)
            ≡ row_alone g (if b then cleared (r.line l) else described_row (descriptors_for command) (r.line l) l number)
        by true = cleared_alone g (r.line l)
        by false =
            ap (λ (o : Option LineDescriptors). described_row o (row_alone g (r.line l)) l number) (for_alone command)
            ∙ described_row_alone (descriptors_for command) (r.line l) l number

    abbrev standing_by : Option LineDescriptors → List RaisedNote
    standing_by o = filter (λ (n : RaisedNote). not (subtracts r.board item (term.Line (the_line n.line)) || has_new_events o n.line)) r.notes

    standing_alone : standing (running_alone g r) (command_alone g command) item ≡ standing r command item
    standing_alone = ap standing_by (for_alone command) ∙ by (descriptors_for command)
      where
        by : (o : Option LineDescriptors) → standing_by (option_map (on_alone g) o) ≡ standing_by o
        by None = refl
        by (Some on) = refl

    raised_alone : raised (running_alone g r) (descriptors_for (command_alone g command)) number ≡ raised r (descriptors_for command) number
    raised_alone = ap (λ (o : Option LineDescriptors). raised (running_alone g r) o number) (for_alone command) ∙ by (descriptors_for command)
      where
        by : (o : Option LineDescriptors) → raised (running_alone g r) (option_map (on_alone g) o) number ≡ raised r o number
        by None = refl
        by (Some on) = ap (λ (o : Outcome). note_from on.line o.note) (described_alone g (r.line on.line) on.descriptors number)

    after_alone : (board : Board) (done : Done)
        → running_alone g (after_command r command item board done number) ≡ after_command (running_alone g r) (command_alone g command) item board done number
    after_alone board done = λ i. record {
      board = board;
      line = λ l. sym (line_alone l) i;
      results = r.results ++ done ∷ [];
      notes = sym standing_alone i ++ sym raised_alone i;
    }

  -- ---- the run

  succeeds_alone : (r : Running) (command : RequestCommand) (place : ℕ) (chosen : Option ChosenRefusal) (number : ℕ) (next : Running)
      → Succeeds r command place chosen number next → Succeeds (running_alone g r) (command_alone g command) place chosen number (running_alone g next)
  succeeds_alone r command place chosen number next s =
      let same = sym (item_alone r.results command) in
      record {
        board = s.board;
        done = s.done;
        not_chosen = s.not_chosen;
        executed = subst (λ (item : Item). IsExecuted r.board item s.board s.done) same s.executed;
        next_is = ap (running_alone g) s.next_is
            ∙ after_alone r command (item_at r.results command) number s.board s.done
            ∙ ap (λ (item : Item). after_command (running_alone g r) (command_alone g command) item s.board s.done number) same;
      }

  fails_alone : (r : Running) (command : RequestCommand) (place : ℕ) (chosen : Option ChosenRefusal) (code : Code)
      → Fails r command place chosen code → Fails (running_alone g r) (command_alone g command) place chosen code
  fails_alone r command place chosen code =
      subst (λ (item : Item). IsRefusedWith r.board item (chosen_at chosen place) code) (sym (item_alone r.results command))

  pub runs_alone : (number : ℕ) (chosen : Option ChosenRefusal) (r : Running) (place : ℕ) (commands : List RequestCommand) (end : Running)
      (failure : Option Failure) → RunsFrom number chosen r place commands end failure
      → RunsFrom number chosen (running_alone g r) place (map (command_alone g) commands) (running_alone g end) failure
  unfolding RunsFrom
  runs_alone number chosen r place [] end failure (is, none) = (ap (running_alone g) is, none)
  runs_alone number chosen r place (command ∷ more) end failure (inl (next, succeeds, rest)) =
      inl (running_alone g next, succeeds_alone r command place chosen number next succeeds, runs_alone number chosen next (place + 1) more end failure rest)
  runs_alone number chosen r place (command ∷ more) end failure (inr (code, fails, is, failed)) =
      inr (code, fails_alone r command place chosen code fails, ap (running_alone g) is, failed)
