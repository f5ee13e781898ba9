-- Configurations that differ in components alone of which any value is as good: one is well formed where the other is, also as components are given values.
use Rattle.std.proofs.Common.{◌≡◌, ◌∙◌, ◌⊎◌, ℕ, suc, ◌==◌, ◌&&◌, Bool, true, false, if◌then◌else◌, IsTrue, List, ◌∷◌, Contains, inl, inr, refl, sym, ap, subst, arith}
use Rattle.std.specs.List.{slice_index_or}
use Rattle.mg_names.specs.declared.modes.Mode.{Mode}
use Rattle.mg_model.specs.declared.commands.Termination.{Termination}
use Rattle.mg_model.specs.declared.commands.Termination.TheVariants.{Ephemeral}
use Rattle.mg_model.specs.declared.components.Spot.{Spot}
use Rattle.mg_model.specs.declared.components.Spot.TheVariants.{Absent}
use Rattle.mg_model.specs.Configuration.{Configuration, IsWellFormed, is_in, is_live, is_present, is_same}
use Rattle.mg_model.specs.Entries.{Component, Choice, choices_of, same_choice, links, spots, modes, events, plays, contexts, remotes, cuts, link_choice, spot_choice, mode_choice, events_choice, plays_choice, context_choice, remote_choice, cut_choice}
use Rattle.mg_model.proofs.Cases.{false_not_true}
use Rattle.closure.specs.Counting.{HasForm, IsCutFree, IsModeFree, KeepsWellformedness, NoneGivesPlace, StandTogether}
use Rattle.closure.proofs.FormedPlaces.{stands_alike}
use Rattle.closure.proofs.GivenValues.{alike, both_given, both_true, choice_at, one_given, other_given, same_termination}

-- ---- one form is well formed, or isn't

present_not_absent : (spot : Spot) → IsTrue (is_present spot) → spot ≡ Absent → ⊥
present_not_absent spot present absent = false_not_true (sym (ap is_present absent) ∙ present)

-- another configuration is well formed where a mode differs only of what is there, and a cut only of what stands together
like_formed : (a b : Configuration) → ((t : Termination) → b.spot t ≡ a.spot t) → ((j : ℕ) → b.context j ≡ a.context j)
    → ((k : ℕ) → b.remote k ≡ a.remote k) → ((t : Termination) → (b.mode t ≡ a.mode t) ⊎ IsTrue (is_present (a.spot t)))
    → ((t u : Termination) → (b.cut t u ≡ a.cut t u) ⊎ StandTogether a t u) → IsWellFormed a → IsWellFormed b
like_formed a b spot context remote mode cut formed = record {
  live = λ j. ap is_live (context j) ∙ formed.live j ∙ sym (stands_alike b.spot a.spot j (λ t. ap (λ (s : Spot). is_in s j) (spot t)));
  absent_mode = λ k absent. elim (mode (Ephemeral k)) [
    | inl same ↦ same ∙ formed.absent_mode k (sym (spot (Ephemeral k)) ∙ absent)
    | inr there ↦ absurd (present_not_absent (a.spot (Ephemeral k)) there (sym (spot (Ephemeral k)) ∙ absent))
  ];
  absent_remote = λ k absent. remote k ∙ formed.absent_remote k (sym (spot (Ephemeral k)) ∙ absent);
  named = λ k i to. subst (λ (s : Spot). IsTrue (is_present s)) (sym (spot (Ephemeral i))) (formed.named k i (sym (remote k) ∙ to));
  cut_within = λ t u is. together t u (elim (cut t u) [
    | inl same ↦ formed.cut_within t u (sym same ∙ is)
    | inr stand ↦ stand
  ]);
}
  where
    together : (t u : Termination) → StandTogether a t u → StandTogether b t u
    together t u stand = (
      stand.0,
      (
        subst (λ (s : Spot). IsTrue (is_in s stand.0)) (sym (spot t)) stand.1.0,
        subst (λ (s : Spot). IsTrue (is_in s stand.0)) (sym (spot u)) stand.1.1,
      ),
    )

module _ (rest : List Component) (low c : Configuration) (of_form : HasForm rest low c) where
  pub form_formed : IsWellFormed low → IsWellFormed c
  form_formed = like_formed low c of_form.spot of_form.context of_form.remote
      (λ t. elim (of_form.mode t) [ inl same ↦ inl same | inr free ↦ inr free.0 ])
      (λ t u. elim (of_form.cut t u) [ inl same ↦ inl same | inr free ↦ inr free.0 ])

  pub low_formed : IsWellFormed c → IsWellFormed low
  low_formed = like_formed c low (λ t. sym (of_form.spot t)) (λ j. sym (of_form.context j)) (λ k. sym (of_form.remote k))
      (λ t. elim (of_form.mode t) [
        | inl same ↦ inl (sym same)
        | inr free ↦ inr (subst (λ (s : Spot). IsTrue (is_present s)) (sym (of_form.spot t)) free.0)
      ])
      (λ t u. elim (of_form.cut t u) [
        | inl same ↦ inl (sym same)
        | inr free ↦ inr (
          free.0.0,
          (
            subst (λ (s : Spot). IsTrue (is_in s free.0.0)) (sym (of_form.spot t)) free.0.1.0,
            subst (λ (s : Spot). IsTrue (is_in s free.0.0)) (sym (of_form.spot u)) free.0.1.1,
          ),
        )
      ])

-- ---- as components are given their values

pub form_itself : (rest : List Component) (c : Configuration) → HasForm rest c c
form_itself rest c = record {
  spot = λ t. refl;
  context = λ j. refl;
  remote = λ k. refl;
  mode = λ t. inl refl;
  cut = λ t u. inl refl;
}

fewer : (component : Component) (rest : List Component) (t : Termination) → NoneGivesPlace (component ∷ rest) t → NoneGivesPlace rest t
fewer component rest t none values has = none values (suc has.0, omega (arith, has.1), has.2)

-- a place that another component gives isn't this one's
not_here : (u t : Termination) (values : List Spot) (rest : List Component) (b : Bool) → is_same t u ≡ b → NoneGivesPlace (spots u values ∷ rest) t → b ≡ false
not_here u t values rest false same none = refl
not_here u t values rest true same none = absurd (none values
    (subst (λ (x : Termination). Contains (spots u values ∷ rest) (spots x values)) (sym (same_termination t u same)) (0, omega arith, refl)))

module _ (rest : List Component) (low c : Configuration) where
  -- with one component fewer to come what was free still is
  pub form_stays : (component : Component) → HasForm (component ∷ rest) low c → HasForm rest low c
  form_stays component form = record {
    spot = form.spot;
    context = form.context;
    remote = form.remote;
    mode = λ t. elim (form.mode t) [ inl same ↦ inl same | inr free ↦ inr (free.0, fewer component rest t free.1) ];
    cut = λ t u. elim (form.cut t u) [
      | inl same ↦ inl same
      | inr free ↦ inr (free.0, (fewer component rest t free.1.0, fewer component rest u free.1.1))
    ];
  }

  place_kept : (u t : Termination) (values : List Spot) (v : Spot) → NoneGivesPlace (spots u values ∷ rest) t
      → low.spot t ≡ (if is_same t u then v else low.spot t)
  place_kept u t values v none = sym (ap (λ (b : Bool). if b then v else low.spot t) (not_here u t values rest (is_same t u) refl none))

  mode_given : (u t : Termination) (values : List Spot) (v : Spot) → (c.mode t ≡ low.mode t) ⊎ IsModeFree (spots u values ∷ rest) low t
      → (c.mode t ≡ low.mode t) ⊎ IsModeFree rest (spot_choice u v low) t
  mode_given u t values v was = elim was [
    | inl same ↦ inl same
    | inr free ↦ inr (subst (λ (s : Spot). IsTrue (is_present s)) (place_kept u t values v free.1) free.0, fewer (spots u values) rest t free.1)
  ]

  cut_given : (u t x : Termination) (values : List Spot) (v : Spot) → (c.cut t x ≡ low.cut t x) ⊎ IsCutFree (spots u values ∷ rest) low t x
      → (c.cut t x ≡ low.cut t x) ⊎ IsCutFree rest (spot_choice u v low) t x
  cut_given u t x values v was = elim was [
    | inl same ↦ inl same
    | inr free ↦ inr (
      (
        free.0.0,
        (
          subst (λ (s : Spot). IsTrue (is_in s free.0.0)) (place_kept u t values v free.1.0) free.0.1.0,
          subst (λ (s : Spot). IsTrue (is_in s free.0.0)) (place_kept u x values v free.1.1) free.0.1.1,
        ),
      ),
      (fewer (spots u values) rest t free.1.0, fewer (spots u values) rest x free.1.1),
    )
  ]

  -- a component that is given one value in both
  pub form_given : (component : Component) (place : ℕ) → HasForm (component ∷ rest) low c
      → HasForm rest ((slice_index_or (choices_of component) place same_choice) low) ((slice_index_or (choices_of component) place same_choice) c)
  form_given (links values) place form =
      let was : HasForm rest low c = form_stays (links values) form in
      choice_at (λ (g : Choice). HasForm rest (g low) (g c)) link_choice values place was
      (λ v. record { spot = was.spot; context = was.context; remote = was.remote; mode = was.mode; cut = was.cut })
  form_given (spots u values) place form =
      choice_at (λ (g : Choice). HasForm rest (g low) (g c)) (spot_choice u) values place (form_stays (spots u values) form)
      (λ v. record {
        spot = λ t. alike (is_same t u) v (c.spot t) (low.spot t) (form.spot t);
        context = form.context;
        remote = form.remote;
        mode = λ t. mode_given u t values v (form.mode t);
        cut = λ t x. cut_given u t x values v (form.cut t x);
      })
  form_given (modes u values) place form =
      let was : HasForm rest low c = form_stays (modes u values) form in
      choice_at (λ (g : Choice). HasForm rest (g low) (g c)) (mode_choice u) values place was
      (λ v. record {
        spot = was.spot;
        context = was.context;
        remote = was.remote;
        mode = λ t. both_given (λ (m : Mode). IsModeFree rest low t) (is_same t u) v (c.mode t) (low.mode t) (was.mode t);
        cut = was.cut;
      })
  form_given (events i values) place form =
      let was : HasForm rest low c = form_stays (events i values) form in
      choice_at (λ (g : Choice). HasForm rest (g low) (g c)) (events_choice i) values place was
      (λ v. record { spot = was.spot; context = was.context; remote = was.remote; mode = was.mode; cut = was.cut })
  form_given (plays i values) place form =
      let was : HasForm rest low c = form_stays (plays i values) form in
      choice_at (λ (g : Choice). HasForm rest (g low) (g c)) (plays_choice i) values place was
      (λ v. record { spot = was.spot; context = was.context; remote = was.remote; mode = was.mode; cut = was.cut })
  form_given (contexts n values) place form =
      let was : HasForm rest low c = form_stays (contexts n values) form in
      choice_at (λ (g : Choice). HasForm rest (g low) (g c)) (context_choice n) values place was
      (λ v. record {
        spot = was.spot;
        context = λ j. alike (j == n) v (c.context j) (low.context j) (was.context j);
        remote = was.remote;
        mode = was.mode;
        cut = was.cut;
      })
  form_given (remotes n values) place form =
      let was : HasForm rest low c = form_stays (remotes n values) form in
      choice_at (λ (g : Choice). HasForm rest (g low) (g c)) (remote_choice n) values place was
      (λ v. record {
        spot = was.spot;
        context = was.context;
        remote = λ k. alike (k == n) v (c.remote k) (low.remote k) (was.remote k);
        mode = was.mode;
        cut = was.cut;
      })
  form_given (cuts u w values) place form =
      let was : HasForm rest low c = form_stays (cuts u w values) form in
      choice_at (λ (g : Choice). HasForm rest (g low) (g c)) (cut_choice u w) values place was
      (λ v. record {
        spot = was.spot;
        context = was.context;
        remote = was.remote;
        mode = was.mode;
        cut = λ t x. both_given (λ (b : Bool). IsCutFree rest low t x) (is_same t u && is_same x w) v (c.cut t x) (low.cut t x) (was.cut t x);
      })

  mode_here : (u t : Termination) → IsModeFree rest low u → is_same t u ≡ true → IsModeFree rest low t
  mode_here u t free here = subst (IsModeFree rest low) (sym (same_termination t u here)) free

  cut_here : (u w t x : Termination) → IsCutFree rest low u w → (is_same t u && is_same x w) ≡ true → IsCutFree rest low t x
  cut_here u w t x free here =
      let both = both_true (is_same t u) (is_same x w) here in
      subst (λ (s : Termination). IsCutFree rest low s x) (sym (same_termination t u both.0))
      (subst (λ (s : Termination). IsCutFree rest low u s) (sym (same_termination x w both.1)) free)

  -- a component of which any value is as good is given one in the other alone, and in the one
  pub form_raised : (component : Component) (place : ℕ) → KeepsWellformedness rest low component → HasForm rest low c
      → HasForm rest low ((slice_index_or (choices_of component) place same_choice) c)
  form_raised (links values) place free was = absurd free
  form_raised (spots u values) place free was = absurd free
  form_raised (contexts n values) place free was = absurd free
  form_raised (remotes n values) place free was = absurd free
  form_raised (events i values) place free was = choice_at (λ (g : Choice). HasForm rest low (g c)) (events_choice i) values place was
      (λ v. record { spot = was.spot; context = was.context; remote = was.remote; mode = was.mode; cut = was.cut })
  form_raised (plays i values) place free was = choice_at (λ (g : Choice). HasForm rest low (g c)) (plays_choice i) values place was
      (λ v. record { spot = was.spot; context = was.context; remote = was.remote; mode = was.mode; cut = was.cut })
  form_raised (modes u values) place free was = choice_at (λ (g : Choice). HasForm rest low (g c)) (mode_choice u) values place was
      (λ v. record {
        spot = was.spot;
        context = was.context;
        remote = was.remote;
        mode = λ t. one_given (IsModeFree rest low t) (is_same t u) v (c.mode t) (low.mode t) (mode_here u t free) (was.mode t);
        cut = was.cut;
      })
  form_raised (cuts u w values) place free was = choice_at (λ (g : Choice). HasForm rest low (g c)) (cut_choice u w) values place was
      (λ v. record {
        spot = was.spot;
        context = was.context;
        remote = was.remote;
        mode = was.mode;
        cut = λ t x. one_given (IsCutFree rest low t x) (is_same t u && is_same x w) v (c.cut t x) (low.cut t x) (cut_here u w t x free) (was.cut t x);
      })

  pub form_lowered : (component : Component) (place : ℕ) → KeepsWellformedness rest low component → HasForm rest low c
      → HasForm rest ((slice_index_or (choices_of component) place same_choice) low) c
  form_lowered (links values) place free was = absurd free
  form_lowered (spots u values) place free was = absurd free
  form_lowered (contexts n values) place free was = absurd free
  form_lowered (remotes n values) place free was = absurd free
  form_lowered (events i values) place free was = choice_at (λ (g : Choice). HasForm rest (g low) c) (events_choice i) values place was
      (λ v. record { spot = was.spot; context = was.context; remote = was.remote; mode = was.mode; cut = was.cut })
  form_lowered (plays i values) place free was = choice_at (λ (g : Choice). HasForm rest (g low) c) (plays_choice i) values place was
      (λ v. record { spot = was.spot; context = was.context; remote = was.remote; mode = was.mode; cut = was.cut })
  form_lowered (modes u values) place free was = choice_at (λ (g : Choice). HasForm rest (g low) c) (mode_choice u) values place was
      (λ v. record {
        spot = was.spot;
        context = was.context;
        remote = was.remote;
        mode = λ t. other_given (IsModeFree rest low t) (is_same t u) v (c.mode t) (low.mode t) (mode_here u t free) (was.mode t);
        cut = was.cut;
      })
  form_lowered (cuts u w values) place free was = choice_at (λ (g : Choice). HasForm rest (g low) c) (cut_choice u w) values place was
      (λ v. record {
        spot = was.spot;
        context = was.context;
        remote = was.remote;
        mode = was.mode;
        cut = λ t x. other_given (IsCutFree rest low t x) (is_same t u && is_same x w) v (c.cut t x) (low.cut t x) (cut_here u w t x free) (was.cut t x);
      })
