-- A command of a request that runs in two worlds: both execute it, or both refuse it with one code; and after it the two requests are alike.
use Rattle.std.proofs.Common.{◌≡◌, ◌∙◌, ◌<◌, ◌++◌, ℕ, zero, suc, Bool, true, List, [], ◌∷◌, length, Option, Some, None, option_map, refl, sym, ap, subst, arith}
use Rattle.std.proofs.Common.{inl, inr, ◌||◌, not, filter, if◌then◌else◌}
use Rattle.std.proofs.Math.Path.{fun_ext}
use Rattle.mg_merge.proofs.Words.{AddLine, Agent, AlreadyInContext, Board, Chosen, Code, Command, Done, InsufficientResources, InternalFailure, IsCommandOf}
use Rattle.mg_merge.proofs.Words.{IsFresh, IsLegal, IsRefusedWith, IsResult, IsUsedUp, Item, Line, LineDescriptors, LineRow, Made, MayRefuse, ModifyLine}
use Rattle.mg_merge.proofs.Words.{MoveLine, NotInContext, RaisedNote, Refusal, RequestCommand, Running, Script, UnknownContext, UnknownTermination}
use Rattle.mg_merge.proofs.Words.{after_command, cleared, code_of, command_of, described_row, descriptors_for, effect, eqb-true, false_not_true, has_new_events}
use Rattle.mg_merge.proofs.Words.{is_line, line_after, line_descriptors, none_is_some, note_from, on_line, raised, rank, same_itself, standing, subtracts}
use Rattle.mg_merge.proofs.Words.{the_line, with_descriptors}
use Rattle.mg_alike.proofs.Words.{BoardsAlike, DoneAlike, IsRenaming, Pairwise, Renaming}
use Rattle.mg_alike.proofs.Commands.Changes.{boards_after, use_after}
use Rattle.mg_alike.proofs.Commands.Reading.{applies_onward, applies_back}
use Rattle.mg_alike.proofs.Commands.Renamed.{renamed, renamed_wider, renaming_after}
use Rattle.mg_alike.proofs.Commands.Results.{done_after, lines_same}
use Rattle.mg_alike.proofs.Commands.Twins.{Twin, one_of, other_of, IsTwin, InUse}
use Rattle.mg_alike.proofs.Shared.Pairs.{results_more}

-- a request that runs in two worlds
pub record RunningAlike (r : Renaming) (held : ℕ → Bool) (x y : Running) : Type 0 where
  pub renaming : IsRenaming r
  pub boards : BoardsAlike r held x.board y.board
  pub ready : InUse r held x.board y.board
  pub lines : (l : ℕ) → held l ≡ true → y.line l ≡ x.line l
  pub results : Pairwise (DoneAlike r) x.results y.results
  pub notes : y.notes ≡ x.notes

-- ---- codes

abbrev code_at : ℕ → Code
code_at zero = UnknownContext
code_at (suc zero) = UnknownTermination
code_at (suc (suc zero)) = AlreadyInContext
code_at (suc (suc (suc zero))) = NotInContext
code_at (suc (suc (suc (suc zero)))) = InternalFailure
code_at (suc (suc (suc (suc (suc n))))) = InsufficientResources

of_rank : (code : Code) → code_at (rank code) ≡ code
of_rank UnknownContext = refl
of_rank _ = refl

-- the first of two sets of codes, of which each is the other
pub one_code : (b m : Board) (item other : Item) (refusal : Option Refusal) → ((code : Code) → MayRefuse b item refusal code → MayRefuse m other refusal code)
    → ((code : Code) → MayRefuse m other refusal code → MayRefuse b item refusal code) → (code also : Code) → IsRefusedWith b item refusal code
    → IsRefusedWith m other refusal also → code ≡ also
one_code b m item other refusal onward back code also x y = sym (of_rank code) ∙ ap code_at same ∙ of_rank also
  where
    same : rank code ≡ rank also
    same = omega (arith, not_below, not_above)
      where
        not_below : rank code < rank also → ⊥
        not_below below = y.first code below (onward code x.may)

        not_above : rank also < rank code → ⊥
        not_above above = x.first also above (back also y.may)

-- ---- the descriptors that a command has for a line

module _ (script : Script) (a b : Agent) (lines : b.lines ≡ a.lines) (made : Made) where
  pub descriptors_same : (command : Command) → descriptors_for (command_of script b made command) ≡ descriptors_for (command_of script a made command)
  descriptors_same (AddLine create j i o) = ap (λ (of : ℕ → ℕ). Some (on_line (of i) (line_descriptors script o))) lines
  descriptors_same (ModifyLine place i o) = ap (λ (of : ℕ → ℕ). Some (on_line (of i) (line_descriptors script o))) lines
  descriptors_same (MoveLine j i o) = ap (λ (of : ℕ → ℕ). Some (on_line (of i) (line_descriptors script o))) lines
  descriptors_same _ = refl

-- a line for which a command has descriptors is the call's
pub descriptors_held : (script : Script) (a : Agent) (made : Made) (held : ℕ → Bool) → ((i : ℕ) → i < length script.lines → held (a.lines i) ≡ true)
    → (command : Command) → IsCommandOf script command → (l : ℕ) → is_line (descriptors_for (command_of script a made command)) l ≡ true → held l ≡ true
descriptors_held script a made held own (AddLine create j i o) declared l e = subst (λ (n : ℕ). held n ≡ true) (eqb-true (a.lines i) l e) (own i declared.1)
descriptors_held script a made held own (ModifyLine place i o) declared l e = subst (λ (n : ℕ). held n ≡ true) (eqb-true (a.lines i) l e) (own i declared.1)
descriptors_held script a made held own (MoveLine j i o) declared l e = subst (λ (n : ℕ). held n ≡ true) (eqb-true (a.lines i) l e) (own i declared.1)
descriptors_held script a made held own _ declared l e = absurd (false_not_true e)

-- ---- lines and notes after a command

raised_same : (x y : Running) (held : ℕ → Bool) → ((l : ℕ) → held l ≡ true → y.line l ≡ x.line l) → (given : Option LineDescriptors)
    → ((l : ℕ) → is_line given l ≡ true → held l ≡ true) → (number : ℕ) → raised y given number ≡ raised x given number
raised_same x y held lines None own number = refl
raised_same x y held lines (Some on) own number =
    ap (λ (row : LineRow). note_from on.line (with_descriptors row on.descriptors number).note) (lines on.line (own on.line (same_itself on.line)))

module _ (r : Renaming) (held : ℕ → Bool) (x y : Running) (alike : RunningAlike r held x y) (twin : Twin) (is : IsTwin r held twin) (command other : RequestCommand)
    (same : descriptors_for other ≡ descriptors_for command) (own : (l : ℕ) → is_line (descriptors_for command) l ≡ true → held l ≡ true) (number : ℕ) where
  line_same : (l : ℕ) → held l ≡ true → line_after y other (other_of twin) number l ≡ line_after x command (one_of twin) number l
  line_same l its =
      ap (λ (test : Bool). if test then cleared (y.line l) else described_row (descriptors_for other) (y.line l) l number)
      (lines_same r held alike.renaming x.board y.board alike.boards alike.ready twin is (the_line l))
      ∙ ap (λ (given : Option LineDescriptors). if subtracts x.board (one_of twin) (Line (the_line l)) then cleared (y.line l) else described_row given (y.line l) l number) same
      ∙ ap (λ (row : LineRow). if subtracts x.board (one_of twin) (Line (the_line l)) then cleared row else described_row (descriptors_for command) row l number) (alike.lines l its)

  standing_same : standing y other (other_of twin) ≡ standing x command (one_of twin)
  standing_same =
      ap (λ (test : RaisedNote → Bool). filter test y.notes) (fun_ext (λ (n : RaisedNote).
      ap (λ (leaves : Bool). not (leaves || has_new_events (descriptors_for other) n.line))
      (lines_same r held alike.renaming x.board y.board alike.boards alike.ready twin is (the_line n.line))
      ∙ ap (λ (given : Option LineDescriptors). not (subtracts x.board (one_of twin) (Line (the_line n.line)) || has_new_events given n.line)) same))
      ∙ ap (λ (notes : List RaisedNote). filter (λ (n : RaisedNote). not (subtracts x.board (one_of twin) (Line (the_line n.line)) || has_new_events (descriptors_for command) n.line)) notes)
      alike.notes

  notes_same : (after last : Board) (done also : Done)
      → (after_command y other (other_of twin) last also number).notes ≡ (after_command x command (one_of twin) after done number).notes
  notes_same after last done also =
      ap (λ (notes : List RaisedNote). notes ++ raised y (descriptors_for other) number) standing_same
      ∙ ap (λ (given : Option LineDescriptors). standing x command (one_of twin) ++ raised y given number) same
      ∙ ap (λ (notes : List RaisedNote). standing x command (one_of twin) ++ notes) (raised_same x y held alike.lines (descriptors_for command) own number)

  -- ---- both execute it

  pub after_alike : (one also : Chosen) (done told : Done) → IsFresh x.board (one_of twin) one → IsFresh y.board (other_of twin) also
      → IsResult x.board (one_of twin) one done → IsResult y.board (other_of twin) also told
      → RunningAlike (renamed r (one_of twin) one also) held (after_command x command (one_of twin) (effect x.board (one_of twin) one) done number)
      (after_command y other (other_of twin) (effect y.board (other_of twin) also) told number)
  after_alike one also done told fresh new first second = record {
    renaming = renaming_after r held alike.renaming x.board y.board alike.ready twin is one also fresh new;
    boards = boards_after r held alike.renaming x.board y.board alike.boards alike.ready twin is one also fresh new;
    ready = use_after r held alike.renaming x.board y.board alike.boards alike.ready twin is one also fresh new;
    lines = line_same;
    results = pushed x.results y.results
        (results_more r (renamed r (one_of twin) one also) (renamed_wider r (one_of twin) one also) x.results y.results alike.results)
        (done_after r held alike.renaming x.board y.board alike.boards alike.ready twin is one also done told first second);
    notes = notes_same (effect x.board (one_of twin) one) (effect y.board (other_of twin) also) done told;
  }
    where
      pushed : (results others : List Done) → Pairwise (DoneAlike (renamed r (one_of twin) one also)) results others → DoneAlike (renamed r (one_of twin) one also) done told
          → Pairwise (DoneAlike (renamed r (one_of twin) one also)) (results ++ done ∷ []) (others ++ told ∷ [])
      pushed [] [] results_alike new = (new, tt)
      pushed (p ∷ results) (q ∷ others) results_alike new = (results_alike.0, pushed results others results_alike.1 new)
      pushed _ _ results_alike new = absurd results_alike

-- ---- both refuse it

module _ (r : Renaming) (held : ℕ → Bool) (x y : Running) (alike : RunningAlike r held x y) (twin : Twin) (is : IsTwin r held twin)
    (left : IsUsedUp x.board (one_of twin) → ⊥) (also : IsUsedUp y.board (other_of twin) → ⊥) where
  pub refuses_onward : (refusal : Option Refusal) (code : Code) → MayRefuse x.board (one_of twin) refusal code → MayRefuse y.board (other_of twin) refusal code
  refuses_onward refusal code (inl applies) = inl (applies_onward r held alike.renaming x.board y.board alike.boards alike.ready twin is left code applies)
  refuses_onward refusal code (inr chosen) = inr chosen

  pub refuses_back : (refusal : Option Refusal) (code : Code) → MayRefuse y.board (other_of twin) refusal code → MayRefuse x.board (one_of twin) refusal code
  refuses_back refusal code (inl applies) = inl (applies_back r held alike.renaming x.board y.board alike.boards alike.ready twin is also code applies)
  refuses_back refusal code (inr chosen) = inr chosen

  pub refused_alike : (refusal : Option Refusal) (code its : Code) → IsRefusedWith x.board (one_of twin) refusal code → IsRefusedWith y.board (other_of twin) refusal its
      → code ≡ its
  refused_alike refusal code its first second = one_code x.board y.board (one_of twin) (other_of twin) refusal (refuses_onward refusal) (refuses_back refusal) code its first second

  -- the one board can't execute what the other refuses
  pub legal_back : IsLegal x.board (one_of twin) → (refusal : Option Refusal) → refusal ≡ None → (code : Code) → IsRefusedWith y.board (other_of twin) refusal code → ⊥
  legal_back legal refusal none code fails = elim fails.may [
    | inl applies ↦ legal code (applies_back r held alike.renaming x.board y.board alike.boards alike.ready twin is also code applies)
    | inr chosen ↦ none_is_some code (sym (ap (option_map code_of) none) ∙ chosen)
  ]

  pub legal_onward : IsLegal y.board (other_of twin) → (refusal : Option Refusal) → refusal ≡ None → (code : Code) → IsRefusedWith x.board (one_of twin) refusal code → ⊥
  legal_onward legal refusal none code fails = elim fails.may [
    | inl applies ↦ legal code (applies_onward r held alike.renaming x.board y.board alike.boards alike.ready twin is left code applies)
    | inr chosen ↦ none_is_some code (sym (ap (option_map code_of) none) ∙ chosen)
  ]
