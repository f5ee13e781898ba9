-- The shard and the transcripts of the call are among all.
use Rattle.std.proofs.Common.{◌≡◌, ◌∙◌, List, [], length, refl, sym, ap, subst}
use Rattle.std.specs.Prelude.{◌%◌, Some, slice_get, slice_index_or, ℕ}
use Rattle.std.proofs.lemmas.List.{get_or-map}
use Rattle.std.proofs.lemmas.Option.{slice_get_read}
use Rattle.mg_model.specs.declared.events.Event.{Event}
use Rattle.run_account.specs.Comparing.{trails_of}
use Rattle.run_shards.specs.Taking.{trail_of}
use Rattle.run_account.specs.FinalState.{HaveLines, IsLeftBy}
use Rattle.run_account.specs.OtherLines.{AreUnlike, unlike}
use Rattle.run_account.proofs.final_state.are_left.Goals as goal

pub returns-clause-left : goal.returns-clause-left
returns-clause-left c told l among =
    let planned_calls = c.args.planned_calls.now in
    let shards = c.args.shards.now in
    let planned = c.in-Some.planned.now in
    let shard = c.in-Some-get.shard.now in
    let call = c.args.call in
    let planned_at = c.in-Some.ensures.lookup in
    let shard_at = c.in-Some-get.ensures.lookup in
    let is = c.are_left_by.ensures.left told l among in
    let here : slice_get shards c.in-Some-checked_rem.place ≡ Some shard =
    slice_get_read shards (length shards) c.in-Some-checked_rem.place shard refl shard_at.3.0 (shard_at.3.1 shard) in
    let own : trail_of planned ≡ slice_index_or (trails_of planned_calls) call [] =
    ap trail_of (planned_at.3.1 planned) ∙ sym (get_or-map trail_of planned_calls call planned [] planned_at.3.0) in
    record {
      shard = shard;
      own_shard = subst (λ (n : ℕ). slice_get shards n ≡ Some shard)
          (c.in-Some-checked_rem.ensures.1 ∙ ap (λ (n : ℕ). n % c.args.count) (sym is.0)) here;
      is_left = subst (λ (trail : List Event). IsLeftBy c.args.script.now shard trail l)
          (own ∙ ap (λ (n : ℕ). slice_index_or (trails_of planned_calls) n []) (sym is.0)) is.1;
    }

pub returns-clause-all : goal.returns-clause-all
returns-clause-all c told =
    let planned_calls = c.args.planned_calls.now in
    let planned = c.in-Some.planned.now in
    let planned_at = c.in-Some.ensures.lookup in
    subst (λ (trail : List Event). HaveLines trail c.args.lines.now)
    (ap trail_of (planned_at.3.1 planned) ∙ sym (get_or-map trail_of planned_calls c.args.call planned [] planned_at.3.0))
    (c.are_left_by.ensures.all told)

pub returns-clause-no : goal.returns-clause-no
returns-clause-no c told =
    let planned_calls = c.args.planned_calls.now in
    let shards = c.args.shards.now in
    let planned = c.in-Some.planned.now in
    let shard = c.in-Some-get.shard.now in
    let planned_at = c.in-Some.ensures.lookup in
    let shard_at = c.in-Some-get.ensures.lookup in
    let here : slice_get shards c.in-Some-checked_rem.place ≡ Some shard =
    slice_get_read shards (length shards) c.in-Some-checked_rem.place shard refl shard_at.3.0 (shard_at.3.1 shard) in
    unlike shard (subst (λ (n : ℕ). slice_get shards n ≡ Some shard) c.in-Some-checked_rem.ensures.1 here)
    (subst (λ (trail : List Event). AreUnlike c.args.script.now shard trail c.args.call c.args.lines.now)
    (ap trail_of (planned_at.3.1 planned) ∙ sym (get_or-map trail_of planned_calls c.args.call planned [] planned_at.3.0))
    (c.are_left_by.ensures.no told))
