-- A request raises one note at most for each of its commands.
use Rattle.std.proofs.Common.{◌≡◌, ◌∙◌, ◌+◌, ◌≤◌, ℕ, Bool, List, [], ◌∷◌, length, length-append, Option, Some, None, ap, arith, inl, inr}
use Rattle.std.specs.Prelude.{filter}
use Rattle.std.proofs.lemmas.List.Sums.{count_by-le-length, length-filter}
use Rattle.mg_model.specs.declared.failures.ChosenRefusal.{ChosenRefusal}
use Rattle.mg_model.specs.declared.failures.Failure.{Failure}
use Rattle.mg_model.specs.LineEvents.{Note}
use Rattle.mg_model.specs.Messages.{RequestCommand}
use Rattle.mg_model.specs.RequestRun.{LineDescriptors, Running, RunsFrom, descriptors_for, item_at, note_from, raised, standing}

few_from : (l : ℕ) (o : Option Note) → length (note_from l o) ≤ 1
few_from l None = omega arith
few_from l (Some note) = omega arith

few_raised : (r : Running) (on : Option LineDescriptors) (number : ℕ) → length (raised r on number) ≤ 1
few_raised r None number = omega arith
few_raised r (Some on) number = few_from on.line _

fewer_kept : {A : Type 0} (test : A → Bool) (xs : List A) → length (filter test xs) ≤ length xs
fewer_kept test xs = let count = length-filter test xs in let few = count_by-le-length test xs in omega (arith, count, few)

pub notes_few : (number : ℕ) (chosen : Option ChosenRefusal) (commands : List RequestCommand) (r : Running) (place : ℕ) (end : Running)
    (failure : Option Failure) → RunsFrom number chosen r place commands end failure → length end.notes ≤ length r.notes + length commands
unfolding RunsFrom
notes_few number chosen [] r place end failure runs =
    let same : length end.notes ≡ length r.notes = ap (λ (x : Running). length x.notes) runs.0 in omega (arith, same)
notes_few number chosen (command ∷ more) r place end failure (inl (next, x, rest)) =
    let later = notes_few number chosen more next (place + 1) end failure rest in
    let item = item_at r.results command in
    let stand = fewer_kept _ r.notes in
    let few = few_raised r (descriptors_for command) number in
    let count : length next.notes ≡ length (standing r command item) + length (raised r (descriptors_for command) number) =
    ap (λ (y : Running). length y.notes) x.next_is ∙ length-append (standing r command item) (raised r (descriptors_for command) number) in
    let kept : length (standing r command item) ≤ length r.notes = stand in
    omega (arith, later, few, count, kept)
notes_few number chosen (command ∷ more) r place end failure (inr (code, fails, last, is)) =
    let same : length end.notes ≡ length r.notes = ap (λ (x : Running). length x.notes) last in omega (arith, same)
