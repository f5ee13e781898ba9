-- What the arrows tell of commands is so of the calls that enter over them.
use Rattle.std.proofs.Common.{◌≡◌, ◌∙◌, ◌↔◌, ◌<◌, ◌≤◌, ℕ, Bool, false, [], IsTrue, List, Some, length, map, refl, sym, ap, subst, arith}
use Rattle.std.specs.List.{slice_get}
use Rattle.std.proofs.lemmas.Bool.{false_from_ne_true}
use Rattle.std.proofs.lemmas.List.{length-map}
use Rattle.std.proofs.lemmas.Option.{same_Some, slice_get_within}
use Rattle.closure.proofs.FindingLemmas.{refuted}
use Rattle.mg_model.specs.Script.{Script}
use Rattle.mg_model.specs.Tables.{state_of}
use Rattle.mg_model.specs.Entries.{Entry}
use Rattle.call_ways.specs.declared.arrows.Arrow.{Arrow}
use Rattle.call_ways.specs.declared.crossings.Crossing.{Crossing}
use Rattle.call_ways.specs.declared.fates.Fate.{Fate}
use Rattle.call_ways.specs.declared.fates.Fate.TheVariants as fate
use Rattle.call_ways.specs.declared.warning.Warning.TheVariants as warning
use Rattle.call_ways.specs.Arrows.{IsEnteredEmpty, IsEnteredSending, arrows_of}
use Rattle.call_ways.specs.Fates.{AreCrossings, HasFate, IsCrossing, arrow_in, has, set_at}
use Rattle.call_ways.specs.Meeting.{IsFirstAlone, IsMetAmong}
use Rattle.call_ways.specs.Warnings.{IsEmptyEachTime, IsMet, IsNeverDone, IsWarning}
use Rattle.call_ways.proofs.Lists.{at_map, in_map}

module _ (script : Script) (entries : List Entry) (list : List Crossing) (are : AreCrossings script entries list) where
  arrow_at : (a : ℕ) (told : Crossing) → slice_get list a ≡ Some told → slice_get (arrows_of script) a ≡ Some told.arrow
  arrow_at a told at = subst (λ (xs : List Arrow). slice_get xs a ≡ Some told.arrow) are.arrows (at_map arrow_in list a told at)

  same_arrow : (a : ℕ) (told : Crossing) (arrow : Arrow) → slice_get list a ≡ Some told → slice_get (arrows_of script) a ≡ Some arrow → told.arrow ≡ arrow
  same_arrow a told arrow at there = same_Some told.arrow arrow (sym (arrow_at a told at) ∙ there)

  pub none_past : (a : ℕ) (arrow : Arrow) → length list ≤ a → slice_get (arrows_of script) a ≡ Some arrow → ⊥
  none_past a arrow past at =
      let within : a < length (arrows_of script) = slice_get_within (arrows_of script) a arrow at in
      let long : length (arrows_of script) ≡ length (map arrow_in list) = ap length (sym are.arrows) in
      omega (arith, within, past, long, length-map list arrow_in)

  met_is : (s place : ℕ) (it : Fate) → IsMetAmong list s place it ↔ IsMet script entries s place it
  met_is s place it = (
    λ met.
        let told : Crossing = met.1.0 in
        (met.0, (told.arrow, (arrow_at met.0 told met.1.1.0, (met.1.1.1.0, ((are.each met.0 told met.1.1.0).fates place it).0 met.1.1.1.1)))),
    λ met.
        let there = in_map arrow_in list met.0 met.1.0 (subst (λ (xs : List Arrow). slice_get xs met.0 ≡ Some met.1.0) (sym are.arrows) met.1.1.0) in
        let told : Crossing = there.0 in
        let same : told.arrow ≡ met.1.0 = there.1.1 in
        let has_fate : HasFate script entries told.arrow place it = subst (λ (a : Arrow). HasFate script entries a place it) (sym same) met.1.1.1.1 in (
          met.0,
          (told, (there.1.0, (ap (λ (a : Arrow). a.to) same ∙ met.1.1.1.0, ((are.each met.0 told there.1.0).fates place it).1 has_fate))),
        ),
  )

  -- ---- a command that is never sent

  module _ (s place : ℕ) (left_out not_reached refused done : Bool) (first : IsTrue left_out ↔ IsMetAmong list s place fate.LeftOut)
      (second : IsTrue not_reached ↔ IsMetAmong list s place fate.NotReached) (third : IsTrue refused ↔ IsMetAmong list s place fate.Refused)
      (fourth : IsTrue done ↔ IsMetAmong list s place fate.Done) where
    no_other : (not_reached ≡ false) → (refused ≡ false) → (done ≡ false) → (it : Fate) → (it ≡ fate.LeftOut → ⊥) → IsMet script entries s place it → ⊥
    no_other two three four fate.LeftOut differs met = differs refl
    no_other two three four fate.NotReached differs met = refuted not_reached two (second.1 ((met_is s place fate.NotReached).1 met))
    no_other two three four fate.Refused differs met = refuted refused three (third.1 ((met_is s place fate.Refused).1 met))
    no_other two three four fate.Done differs met = refuted done four (fourth.1 ((met_is s place fate.Done).1 met))

    pub unsent_is : (holds : Bool) → IsTrue holds ↔ IsFirstAlone left_out not_reached refused done
        → IsTrue holds ↔ IsWarning script entries (warning.CommandUnsent s place)
    unsent_is holds says = (
      λ yes.
          let alone = says.0 yes in
          ((met_is s place fate.LeftOut).0 (first.0 alone.0), no_other alone.1.0 alone.1.1.0 alone.1.1.1),
      λ is.
          let two : not_reached ≡ false =
          false_from_ne_true not_reached (λ yes. is.1 fate.NotReached (λ bad. cc) ((met_is s place fate.NotReached).0 (second.0 yes))) in
          let three : refused ≡ false =
          false_from_ne_true refused (λ yes. is.1 fate.Refused (λ bad. cc) ((met_is s place fate.Refused).0 (third.0 yes))) in
          let four : done ≡ false =
          false_from_ne_true done (λ yes. is.1 fate.Done (λ bad. cc) ((met_is s place fate.Done).0 (fourth.0 yes))) in
          says.1 (first.1 ((met_is s place fate.LeftOut).1 is.0), (two, (three, four))),
    )

  -- ---- a command that is never done

  module _ (a : ℕ) (told : Crossing) (at : slice_get list a ≡ Some told) where
    crossing : IsCrossing script entries told
    crossing = are.each a told at

    pub refused_is : (place : ℕ) (refused done holds : Bool) → refused ≡ has (set_at told.fates.items place) fate.Refused
        → done ≡ has (set_at told.fates.items place) fate.Done → IsTrue holds ↔ IsFirstAlone refused done false false
        → IsTrue holds ↔ IsWarning script entries (warning.CommandRefused a place)
    refused_is place refused done holds refused_so done_so says = (
      λ yes.
          let alone = says.0 yes in
          record {
            arrow = told.arrow;
            at_place = arrow_at a told at;
            refused = (crossing.fates place fate.Refused).0 (sym refused_so ∙ alone.0);
            never_done = λ has_done. refuted done alone.1.0 (done_so ∙ (crossing.fates place fate.Done).1 has_done);
          },
      λ (never : IsNeverDone script entries a place).
          let same : told.arrow ≡ never.arrow = same_arrow a told never.arrow at never.at_place in
          let is_refused : HasFate script entries told.arrow place fate.Refused =
          subst (λ (x : Arrow). HasFate script entries x place fate.Refused) (sym same) never.refused in
          let not_done : done ≡ false =
          false_from_ne_true done (λ yes. never.never_done (subst (λ (x : Arrow). HasFate script entries x place fate.Done) same
          ((crossing.fates place fate.Done).0 (sym done_so ∙ yes)))) in
          says.1 (refused_so ∙ (crossing.fates place fate.Refused).1 is_refused, (not_done, (refl, refl))),
    )

    -- ---- a request that is always empty

    pub empty_is : (holds : Bool) → ((state_of script told.arrow.to).commands ≡ [] → ⊥) → IsTrue holds ↔ IsFirstAlone told.empty told.sending false false
        → IsTrue holds ↔ IsWarning script entries (warning.RequestEmpty a)
    empty_is holds has_some says = (
      λ yes.
          let alone = says.0 yes in
          record {
            arrow = told.arrow;
            at_place = arrow_at a told at;
            has_commands = has_some;
            empty = crossing.empty.0 alone.0;
            never_sent = λ sent. refuted told.sending alone.1.0 (crossing.sending.1 sent);
          },
      λ (each : IsEmptyEachTime script entries a).
          let same : told.arrow ≡ each.arrow = same_arrow a told each.arrow at each.at_place in
          let not_sent : told.sending ≡ false =
          false_from_ne_true told.sending (λ yes. each.never_sent (subst (IsEnteredSending script entries) same (crossing.sending.0 yes))) in
          says.1 (crossing.empty.1 (subst (IsEnteredEmpty script entries) (sym same) each.empty), (not_sent, (refl, refl))),
    )

    pub bare_is_none : (state_of script told.arrow.to).commands ≡ [] → IsEmptyEachTime script entries a → ⊥
    bare_is_none none each =
        let same : told.arrow ≡ each.arrow = same_arrow a told each.arrow at each.at_place in
        each.has_commands (subst (λ (x : Arrow). (state_of script x.to).commands ≡ []) same none)
