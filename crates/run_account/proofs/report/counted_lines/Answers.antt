-- What is counted of the call is told, and the call that stands as the shard shows it; or why it isn't.
use Rattle.std.proofs.Common.{◌≡◌, ◌∙◌, ℕ, List, None, Some, length, refl, ap, subst}
use Rattle.std.specs.Prelude.{slice_get}
use Rattle.std.proofs.lemmas.Option.{slice_get_read}
use Rattle.run_shards.specs.Standings.{StandsAs}
use Rattle.run_shards.specs.ReportLines.{lines_told, phase_standing}
use Rattle.run_shards.specs.CallCount.{CallCount}
use Rattle.run_shards.specs.CallPhase.{CallPhase}
use Rattle.run_account.specs.Disagreements.{not_open, numbers_end}
use Rattle.run_account.proofs.report.counted_lines.Goals as goal

pub returns-in_default-number_of-clause-not_counted : goal.returns-in_default-number_of-clause-not_counted
returns-in_default-number_of-clause-not_counted c =
    let counts = c.deref.result.now in
    let own = c.in-Some.own.now in
    let at = c.in-Some.ensures.lookup in
    numbers_end own
    (subst (λ (ks : List CallCount). slice_get ks c.args.number ≡ Some own) c.deref.ensures.value
    (slice_get_read counts (length counts) c.args.number own refl at.3.0 (at.3.1 own)))
    c.in_default-number_of.ensures.none

pub returns-in_default-standing-clause-not_counted : goal.returns-in_default-standing-clause-not_counted
returns-in_default-standing-clause-not_counted c =
    let counts = c.deref.result.now in
    let own = c.in-Some.own.now in
    let at = c.in-Some.ensures.lookup in
    not_open own
    (subst (λ (ks : List CallCount). slice_get ks c.args.number ≡ Some own) c.deref.ensures.value
    (slice_get_read counts (length counts) c.args.number own refl at.3.0 (at.3.1 own)))
    (λ w is. subst (λ (n : ℕ). w.agent n ≡ None) c.in-Some-number_of.ensures.number (c.in_default-standing.ensures w is))

pub returns-clause-counted : goal.returns-clause-counted
returns-clause-counted c =
    let script = c.args.script.now in
    let counts = c.deref.result.now in
    let own = c.in-Some.own.now in
    let at = c.in-Some.ensures.lookup in
    let standing = c.in-Some-standing.standing in
    record {
      own = own;
      is_own = subst (λ (ks : List CallCount). slice_get ks c.args.number ≡ Some own) c.deref.ensures.value
          (slice_get_read counts (length counts) c.args.number own refl at.3.0 (at.3.1 own));
      standing = standing;
      stands = λ w is. subst (λ (n : ℕ). StandsAs w n standing) c.in-Some-number_of.ensures.number (c.in-Some-standing.ensures w is);
      told = c.in_ok-lines_of.ensures.0 script
          ∙ ap (λ (phase : CallPhase). lines_told script own standing.state phase)
          (c.phase_of-phase.ensures ∙ ap (λ (n : ℕ). phase_standing script standing n) c.association.ensures);
      numbered = c.in_ok-lines_of.ensures.1;
    }
