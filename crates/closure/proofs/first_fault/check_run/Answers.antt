-- One more entry is kept, and adds its points; where no entry is left the run has ended.
use Rattle.std.proofs.Common.{◌≡◌, ◌∙◌, ◌≤◌, List, Some, length, refl, subst, sym, arith}
use Rattle.std.specs.List.{slice_get}
use Rattle.std.proofs.lemmas.Option.{slice_get_read}
use Rattle.mg_model.specs.Entries.{Entry, HasPoints}
use Rattle.closure.specs.Findings.{IsEntryKept, IsFirstPoint}
use Rattle.closure.specs.Runs.{RunHasPoints}
use Rattle.closure.proofs.RunLemmas.{counted_past_end, one_more_counted, one_more_of_run, run_past_end, run_up_to}
use Rattle.closure.proofs.first_fault.check_run.Goals as goal

pub loop-place-preserved : goal.loop-place-preserved
loop-place-preserved c =
    let script = c.args.script.now in
    let entries : List Entry = c.args.cert.now in
    let place = c.loop-place.place in
    let entry : Entry = c.in-Some.entry.now in
    let n = c.from-points.result in
    let at : slice_get entries place ≡ Some entry =
    slice_get_read entries (length entries) place entry refl (rw c.entries.ensures at c.in-Some.ensures.lookup.3.0) (rw c.entries.ensures at c.in-Some.ensures.lookup.1) in
    let walked : IsEntryKept script entries entry × HasPoints entry c.in-Ok.count =
    subst (λ (es : List Entry). IsEntryKept script es entry × HasPoints entry c.in-Ok.count) c.loop-place.invariant.same c.in-Ok.ensures.walked in
    let counted : HasPoints entry n = subst (HasPoints entry) (sym c.from-points.ensures) walked.1 in
    record {
      same = c.in-Ok.ensures.same ∙ c.loop-place.invariant.same;
      from = omega (arith, c.loop-place.invariant.from);
      within = λ l. omega (arith, c.loop-place-test.true);
      fits = omega (arith, c.loop-place.invariant.fits, c.from-points.ensures);
      kept = one_more_of_run script entries c.args.first place entry at c.loop-place.invariant.kept walked.0;
      counted = one_more_counted entries c.args.first place entry c.loop-place.points n at counted c.loop-place.invariant.counted;
    }

pub returns-in_default : goal.returns-in_default
returns-in_default c =
    let entries : List Entry = c.args.cert.now in
    let place = c.loop-place.place in
    let past : length entries ≤ place = rw c.entries.ensures at c.in_default.ensures.lookup.3 in (
      run_past_end c.args.script.now entries c.args.first place c.args.last past c.loop-place.invariant.kept,
      λ within. (
        counted_past_end entries c.args.first place c.args.last c.loop-place.points past (omega (arith, past, c.loop-place-test.true)) c.loop-place.invariant.counted,
        omega (arith, c.loop-place.invariant.fits, c.loop-place-test.true),
      ),
    )

pub returns-in-Err : goal.returns-in-Err
returns-in-Err c =
    let script = c.args.script.now in
    let entries : List Entry = c.args.cert.now in
    let place = c.loop-place.place in
    let entry : Entry = c.in-Some.entry.now in
    record {
      place = place;
      from = c.loop-place.invariant.from;
      below = c.loop-place-test.true;
      entry = entry;
      at_place = slice_get_read entries (length entries) place entry refl (rw c.entries.ensures at c.in-Some.ensures.lookup.3.0) (rw c.entries.ensures at c.in-Some.ensures.lookup.1);
      number = c.in-Err.found.number;
      broken = c.in-Err.found.broken;
      first_point = subst (λ (es : List Entry). IsFirstPoint script es entry c.in-Err.found.number c.in-Err.found.broken) c.loop-place.invariant.same c.in-Err.ensures.walked;
      before = c.loop-place.invariant.kept;
      named = c.fault_at.ensures;
    }

pub returns : goal.returns
returns c =
    let entries : List Entry = c.args.cert.now in
    let place = c.loop-place.place in (
      run_up_to c.args.script.now entries c.args.first place c.args.last (omega (arith, c.loop-place-test.false)) c.loop-place.invariant.kept,
      λ within.
          let all : place ≡ c.args.last = omega (arith, c.loop-place.invariant.within within, c.loop-place-test.false) in (
            subst (λ last. RunHasPoints entries c.args.first last c.loop-place.points) all c.loop-place.invariant.counted,
            omega (arith, c.loop-place.invariant.fits, all),
          ),
    )
