-- A request of a shard runs on the gateway of the merge as it runs on the shard's: command by command, up to the same failure or the end, with
-- the same results and notes.
use Rattle.std.proofs.Common.{◌≡◌, ◌∙◌, ◌+◌, ◌++◌, ℕ, suc, Bool, true, false, List, [], ◌∷◌, length, Option, Some, None, refl, sym, ap, subst, inl, inr, ◌==◌}
use Rattle.std.proofs.Common.{◌||◌, not, filter, if◌then◌else◌}
use Rattle.mg_merge.proofs.Words.{All, All-head, All-push, All-tail, Board, Chosen, ChosenRefusal, Code, Done, Fails, Failure, IsExecuted, IsFresh, IsLegal}
use Rattle.mg_merge.proofs.Words.{IsResult, IsUsedUp, Item, Line, LineDescriptors, LineRow, MayRefuse, RaisedNote, RequestCommand, Running, RunsFrom, Succeeds}
use Rattle.mg_merge.proofs.Words.{after_command, chosen_at, cleared, creates_context, creates_ephemeral, described_row, descriptors_for, different}
use Rattle.mg_merge.proofs.Words.{filter_agree, has_new_events, item_at, line_after, none_is_some, not_both, note_from, only_if, raised, standing, subtracts}
use Rattle.mg_merge.proofs.Words.{the_some, where_false, with_descriptors}
use Rattle.mg_merge.proofs.Commands.SameCodes.{leaves_same, applies_on, applies_back}
use Rattle.mg_merge.proofs.Commands.Changes.{not_leaving, fresh_context, fresh_ephemeral}
use Rattle.mg_merge.proofs.Commands.ExecutedAlike.{IsExecutedBeside, beside}
use Rattle.mg_merge.proofs.Commands.IdentifiersLeft.{Remain, remain_after, remain_in_merge, not_used_up}
use Rattle.mg_merge.proofs.Commands.NamedItems.{NamesCommand, IsDoneBy, item_named, described_mine}
use Rattle.mg_merge.proofs.Scopes.{Scope, NamesItem, IsContextOf, IsEphemeralOf, IsWithin, IsPart, IsWhole, IsSameOutside}

-- a request that runs on the shard's gateway, and on that of the merge
pub record RunsBeside (s : Scope) (r m : Running) : Type 0 where
  pub within : IsWithin s r.board
  pub part : IsPart s r.board m.board
  pub whole : IsWhole m.board
  pub line : (l : ℕ) → s.lines l ≡ true → m.line l ≡ r.line l
  pub results : m.results ≡ r.results
  pub notes : m.notes ≡ r.notes
  pub made : All (IsDoneBy s) r.results

-- what isn't the shard's is as it was
pub record KeepsOthers (s : Scope) (m after : Running) : Type 0 where
  pub board : IsSameOutside s m.board after.board
  pub line : (l : ℕ) → s.lines l ≡ false → after.line l ≡ m.line l

pub same_outside : (s : Scope) (m : Board) → IsSameOutside s m m
same_outside s m = assumption

pub outside_on : (s : Scope) (m between after : Board) → IsSameOutside s m between → IsSameOutside s between after → IsSameOutside s m after
outside_on s m between after first second = record {
  class = λ n. second.class n ∙ first.class n;
  row = λ t other. second.row t other ∙ first.row t other;
  cut = λ t u other also. second.cut t u other also ∙ first.cut t u other also;
  used_context = λ n other. second.used_context n other ∙ first.used_context n other;
  used_ephemeral = λ n other. second.used_ephemeral n other ∙ first.used_ephemeral n other;
}

-- ---- a command that is executed

-- the row of a line after a command, by whether it leaves
abbrev row_by : Bool → RequestCommand → LineRow → ℕ → ℕ → LineRow
row_by leaves command row l number = if leaves then cleared row else described_row (descriptors_for command) row l number

-- the shard's results are the shard's
done_by : (s : Scope) (b : Board) (within : IsWithin s b) (item : Item) (names : NamesItem s item) (legal : IsLegal b item) (chosen : Chosen)
    (fresh : IsFresh b item chosen) (done : Done) → IsResult b item chosen done → IsDoneBy s done
done_by s b within item names legal chosen fresh done result = record {
  context = λ n e. context n (creates_context item) refl (sym result.context ∙ e);
  ephemeral = λ k e. ephemeral k (creates_ephemeral item) refl (sym result.ephemeral ∙ e);
}
  where
    context : (n : ℕ) (creates : Bool) → creates_context item ≡ creates → only_if creates chosen.context ≡ Some n → IsContextOf s n
    context n true e is = subst (IsContextOf s) (the_some chosen.context n is) (fresh_context s b within item names legal chosen fresh e)
    context n false e is = absurd (none_is_some n is)

    ephemeral : (k : ℕ) (creates : Bool) → creates_ephemeral item ≡ creates → only_if creates chosen.ephemeral ≡ Some k → IsEphemeralOf s k
    ephemeral k true e is = subst (IsEphemeralOf s) (the_some chosen.ephemeral k is) (fresh_ephemeral s b within item names legal chosen fresh e)
    ephemeral k false e is = absurd (none_is_some k is)

module _ (s : Scope) (r m : Running) (along : RunsBeside s r m) (command : RequestCommand) (names : NamesCommand s command) (number : ℕ) where
  item : Item
  item = item_at r.results command

  item_names : NamesItem s item
  unfolding item
  item_names = item_named s r.results along.made command names

  item_same : item_at m.results command ≡ item
  unfolding item
  item_same = ap (λ results. item_at results command) along.results

  -- the same terminations leave
  leaves_too : IsLegal r.board item → (l : ℕ)
      → subtracts m.board (item_at m.results command) (Line (record { 0 = l })) ≡ subtracts r.board item (Line (record { 0 = l }))
  leaves_too legal l =
      ap (λ i. subtracts m.board i (Line (record { 0 = l }))) item_same
      ∙ leaves_same s r.board m.board along.within along.part along.whole item item_names legal (Line (record { 0 = l }))

  line_same : IsLegal r.board item → (l : ℕ) → s.lines l ≡ true
      → line_after m command (item_at m.results command) number l ≡ line_after r command item number l
  line_same legal l own =
      ap (λ leaves. row_by leaves command (m.line l) l number) (leaves_too legal l)
      ∙ ap (λ row. row_by (subtracts r.board item (Line (record { 0 = l }))) command row l number) (along.line l own)

  line_stays : IsLegal r.board item → (l : ℕ) → s.lines l ≡ false → line_after m command (item_at m.results command) number l ≡ m.line l
  line_stays legal l other =
      ap (λ leaves. row_by leaves command (m.line l) l number)
      (leaves_too legal l ∙ not_leaving s r.board along.within item item_names legal (Line (record { 0 = l })) other)
      ∙ go (descriptors_for command) refl
    where
      go : (o : Option LineDescriptors) → descriptors_for command ≡ o → described_row o (m.line l) l number ≡ m.line l
      go None e = refl
      go (Some with_it) e = where_false (with_it.line == l) (with_descriptors (m.line l) with_it.descriptors number).row (m.line l)
          (different with_it.line l (λ is. not_both (sym (ap s.lines is) ∙ described_mine s command names with_it e) other))

  raised_same : raised m (descriptors_for command) number ≡ raised r (descriptors_for command) number
  raised_same = go (descriptors_for command) refl
    where
      go : (o : Option LineDescriptors) → descriptors_for command ≡ o → raised m o number ≡ raised r o number
      go None e = refl
      go (Some with_it) e = ap (λ row. note_from with_it.line (with_descriptors row with_it.descriptors number).note)
          (along.line with_it.line (described_mine s command names with_it e))

  standing_same : IsLegal r.board item → standing m command (item_at m.results command) ≡ standing r command item
  standing_same legal =
      filter_agree (λ (n : RaisedNote). not (subtracts m.board (item_at m.results command) (Line (record { 0 = n.line })) || has_new_events (descriptors_for command) n.line))
      (λ (n : RaisedNote). not (subtracts r.board item (Line (record { 0 = n.line })) || has_new_events (descriptors_for command) n.line))
      (λ n. ap (λ leaves. not (leaves || has_new_events (descriptors_for command) n.line)) (leaves_too legal n.line)) m.notes
      ∙ ap (λ notes. filter (λ (n : RaisedNote). not (subtracts r.board item (Line (record { 0 = n.line })) || has_new_events (descriptors_for command) n.line)) notes) along.notes

  -- what becomes of the request in the merge
  pub record SucceedsBeside (place : ℕ) (refusal : Option ChosenRefusal) (next : Running) : Type 0 where
    pub merged : Running
    pub succeeds : Succeeds m command place refusal number merged
    pub beside_it : RunsBeside s next merged
    pub others : KeepsOthers s m merged

  pub succeeds_too : (place wanted : ℕ) (refusal : Option ChosenRefusal) (next : Running) → Remain r.board (suc wanted)
      → Succeeds r command place refusal number next → SucceedsBeside place refusal next × Remain next.board wanted
  unfolding item
  succeeds_too place wanted refusal next left x =
      let ran = x.executed in
      let kept : IsUsedUp m.board item → ⊥ =
      not_used_up m.board wanted (remain_in_merge s r.board m.board (suc wanted) along.within along.part left) item in
      let there : IsExecutedBeside s m.board item x.board x.done = subst (λ after. IsExecutedBeside s m.board item after x.done) (sym ran.effect_is)
      (beside s r.board m.board along.within along.part along.whole item item_names kept x.done ran.legal ran.chosen ran.fresh ran.result) in
      let merged : Running = after_command m command (item_at m.results command) there.merged x.done number in
      let it : RunsBeside s (after_command r command item x.board x.done number) merged = record {
        within = there.within;
        part = there.part;
        whole = there.whole;
        line = line_same ran.legal;
        results = ap (λ results. results ++ x.done ∷ []) along.results;
        notes = ap (λ notes. notes ++ raised m (descriptors_for command) number) (standing_same ran.legal)
            ∙ ap (λ notes. standing r command item ++ notes) raised_same;
        made = All-push (IsDoneBy s) r.results x.done along.made
            (done_by s r.board along.within item item_names ran.legal ran.chosen ran.fresh x.done ran.result);
      } in (
        record {
          merged = merged;
          succeeds = record {
            board = there.merged;
            done = x.done;
            not_chosen = x.not_chosen;
            executed = subst (λ i. IsExecuted m.board i there.merged x.done) (sym item_same) there.executed;
            next_is = refl;
          };
          beside_it = subst (λ (after : Running). RunsBeside s after merged) (sym x.next_is) it;
          others = record { board = there.outside; line = line_stays ran.legal };
        },
        rw (x.next_is, ran.effect_is) (remain_after r.board item ran.chosen wanted left),
      )

  -- ---- a command that is refused

  pub fails_too : (place wanted : ℕ) (refusal : Option ChosenRefusal) (code : Code) → Remain r.board (suc wanted)
      → Fails r command place refusal code → Fails m command place refusal code
  unfolding item
  fails_too place wanted refusal code left fails =
      rw item_same (record { may = onward code fails.may; first = λ earlier before may. fails.first earlier before (back earlier may) })
    where
      onward : (code : Code) → MayRefuse r.board item (chosen_at refusal place) code → MayRefuse m.board item (chosen_at refusal place) code
      onward code (inl applies) = inl (applies_on s r.board m.board along.within along.part along.whole item item_names
          (not_used_up r.board wanted left item) code applies)
      onward code (inr is) = inr is

      back : (code : Code) → MayRefuse m.board item (chosen_at refusal place) code → MayRefuse r.board item (chosen_at refusal place) code
      back code (inl applies) = inl (applies_back s r.board m.board along.within along.part along.whole item item_names
          (not_used_up m.board wanted (remain_in_merge s r.board m.board (suc wanted) along.within along.part left) item) code applies)
      back code (inr is) = inr is

-- ---- the whole request

pub record EndsBeside (s : Scope) (number : ℕ) (refusal : Option ChosenRefusal) (m : Running) (place : ℕ) (commands : List RequestCommand) (end : Running)
    (failure : Option Failure) : Type 0 where
  pub merged : Running
  pub runs : RunsFrom number refusal m place commands merged failure
  pub beside_it : RunsBeside s end merged
  pub others : KeepsOthers s m merged

keeps_itself : (s : Scope) (m : Running) → KeepsOthers s m m
keeps_itself s m = record { board = same_outside s m.board; line = λ l other. refl }

keeps_on : (s : Scope) (m between after : Running) → KeepsOthers s m between → KeepsOthers s between after → KeepsOthers s m after
keeps_on s m between after first second = record {
  board = outside_on s m.board between.board after.board first.board second.board;
  line = λ l other. second.line l other ∙ first.line l other;
}

pub runs_too : (s : Scope) (number : ℕ) (refusal : Option ChosenRefusal) (end : Running) (failure : Option Failure) (commands : List RequestCommand)
    (place : ℕ) (r m : Running) → All (NamesCommand s) commands → Remain r.board (length commands) → RunsBeside s r m
    → RunsFrom number refusal r place commands end failure → EndsBeside s number refusal m place commands end failure
unfolding RunsFrom
runs_too s number refusal end failure [] place r m names left along runs = record {
  merged = m;
  runs = (refl, runs.1);
  beside_it = subst (λ (last : Running). RunsBeside s last m) (sym runs.0) along;
  others = keeps_itself s m;
}
runs_too s number refusal end failure (command ∷ more) place r m names left along (inl (next, executes, rest)) =
    let one = succeeds_too s r m along command (All-head (NamesCommand s) command more names) number place (length more) refusal next left executes in
    let step = one.0 in
    let it = runs_too s number refusal end failure more (place + 1) next step.merged (All-tail (NamesCommand s) command more names) one.1 step.beside_it rest in
    record {
      merged = it.merged;
      runs = inl (step.merged, step.succeeds, it.runs);
      beside_it = it.beside_it;
      others = keeps_on s m step.merged it.merged step.others it.others;
    }
runs_too s number refusal end failure (command ∷ more) place r m names left along (inr (code, fails, last, is)) = record {
  merged = m;
  runs = inr (code, fails_too s r m along command (All-head (NamesCommand s) command more names) number place (length more) refusal code left fails, refl, is);
  beside_it = subst (λ (x : Running). RunsBeside s x m) (sym last) along;
  others = keeps_itself s m;
}
