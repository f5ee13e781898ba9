-- The configurations that calls come to from one of the two openings with a telephone of line i are closed under the steps of a script of which one signal alone is told, where line i may
-- play exactly where it was given the signal last.
use Rattle.std.proofs.Common.{Bool, Contains, List, [], ap, false, inl, inr, refl, subst, sym, true, ℕ, ◌++◌, ◌∷◌, ◌≡◌}
use Rattle.std.proofs.lemmas.Bool.{false_from_ne_true}
use Rattle.mg_names.specs.declared.signals.Signal.{Signal}
use Rattle.mg_model.specs.Configuration.{Configuration, IsWellFormed}
use Rattle.mg_model.specs.Entries.{Entry, IsCovered}
use Rattle.mg_model.specs.LineEvents.{silent}
use Rattle.mg_model.specs.Obligations.{CreatedAreUnbound, EndedIsCleared, JoinedAreMarked, NamesAreLive}
use Rattle.mg_model.specs.Paths as paths
use Rattle.mg_model.specs.Script.{Script}
use Rattle.mg_model.specs.Steps.{Step, opening, reset, steps_of}
use Rattle.mg_model.proofs.Cases.{false_not_true, not_both}
use Rattle.mg_safety.proofs.Invariant.Sound.{IsOfScript, Stands}
use Rattle.mg_safety.proofs.Invariant.Statements.{IsClosed}
use Rattle.call_ends.proofs.OneSignal.Effects.{IsHeard, plays_silent, with_plays}
use Rattle.call_ends.proofs.OneSignal.Sets.{script_alone}
use Rattle.call_ends.proofs.OneSignal.Steps.{step_too}
use Rattle.call_ends.specs.Telephones.{ComesFrom, Goes, GoesBy, Point, after_restart, start_point, told_after}
use Rattle.call_ends.specs.declared.telephone.Manner.TheVariants.{Anyhow}
use Rattle.call_ends.specs.declared.telephone.Telephone.{Telephone}

module _ (g : Signal) (script : Script) (entries : List Entry) (i : ℕ) (lifted : Bool) where
  -- the script of which the signal alone is told
  abbrev lone : Script
  lone = script_alone g script

  -- as a call opens
  abbrev start : Point
  start = start_point script lifted

  -- what is left of a configuration to which calls come from there
  pub record IsLeft (left : Configuration) : Type 0 where
    pub c : Configuration
    pub phone : Telephone
    pub comes : ComesFrom Anyhow script entries i start (c, phone)
    pub stands : Stands script (IsCovered entries) c
    pub is : left ≡ with_plays c left.plays
    pub heard : IsHeard g i c.plays left.plays phone.told

  -- a way goes on
  goes_on : (from : Point) (way : List Point) (to next : Point) → GoesBy Anyhow script entries i from way to → Goes Anyhow script entries i to next
      → GoesBy Anyhow script entries i from (way ++ next ∷ []) next
  goes_on from [] to next is goes = (subst (λ (p : Point). Goes Anyhow script entries i p next) (sym is) goes, refl)
  goes_on from (step ∷ more) to next (first, rest) goes = (first, goes_on step more to next rest goes)

  -- ---- what differs in what plays alone

  module _ (c : Configuration) (left : ℕ → Bool) (less : (j : ℕ) → left j ≡ true → c.plays j ≡ true) where
    silent_too : (j : ℕ) → c.plays j ≡ false → left j ≡ false
    silent_too j is = false_from_ne_true (left j) (λ e. not_both (less j e) is)

    of_script_too : IsOfScript script c → IsOfScript lone (with_plays c left)
    of_script_too of_script = record {
      spot = of_script.spot;
      mode = of_script.mode;
      events = of_script.events;
      plays = λ j beyond. silent_too j (of_script.plays j beyond);
      context = of_script.context;
      remote = of_script.remote;
      cut = of_script.cut;
    }

    formed_too : IsWellFormed c → IsWellFormed (with_plays c left)
    formed_too formed = record {
      live = formed.live;
      absent_mode = formed.absent_mode;
      absent_remote = formed.absent_remote;
      named = formed.named;
      cut_within = formed.cut_within;
    }

    path_too : (k j : ℕ) → paths.HasPath (with_plays c left) k j → paths.HasPath c k j
    path_too k j path = record { another = path.another; crossings = path.crossings; goes = path.goes }

    marked_too : JoinedAreMarked script c → JoinedAreMarked lone (with_plays c left)
    marked_too marked k j first second (inl path) = marked k j first second (inl (path_too k j path))
    marked_too marked k j first second (inr path) = marked k j first second (inr (path_too j k path))

    cleared_too : EndedIsCleared script c → EndedIsCleared lone (with_plays c left)
    cleared_too cleared rests ends =
        let was = cleared rests ends in
        record { in_null = was.in_null; silent = λ j within. silent_too j (was.silent j within); armed = was.armed; no_ephemeral = was.no_ephemeral }

    live_too : NamesAreLive c → NamesAreLive (with_plays c left)
    live_too live used = let was = live used in record { contexts = was.contexts; remotes = was.remotes }

  -- ---- they are closed

  module _ (closes : IsClosed script (IsCovered entries)) where
    stands_too : (c : Configuration) (phone : Telephone) → ComesFrom Anyhow script entries i start (c, phone) → Stands script (IsCovered entries) c → (left : ℕ → Bool)
        → IsHeard g i c.plays left phone.told → Stands lone IsLeft (with_plays c left)
    stands_too c phone comes stands left heard = record {
      of_script = of_script_too c left heard.less stands.of_script;
      formed = formed_too c left heard.less stands.formed;
      covered = record { c = c; phone = phone; comes = comes; stands = stands; is = refl; heard = heard };
    }

    nothing_heard : (plain : ℕ → Bool) → IsHeard g i plain (λ j. false) silent
    nothing_heard plain = record { told = plays_silent g; less = λ j e. absurd (false_not_true e) }

    steps_too : (left : Configuration) (step : Step) → Stands lone IsLeft left → Contains (steps_of lone left) step
        → Stands lone IsLeft step.1
    steps_too left step stands among =
        let was = stands.covered in
        let too = step_too g script i was.c left.plays was.phone.told was.heard step
        (subst (λ (d : Configuration). Contains (steps_of lone d) step) was.is among) in
        let on = closes.steps was.c (too.name, too.to) was.stands too.among in
        let next : Telephone = record { told = told_after script i was.c was.phone.told too.name; lifted = was.phone.lifted } in
        let comes : ComesFrom Anyhow script entries i start (too.to, next) = (
          was.comes.0 ++ (too.to, next) ∷ [],
          goes_on start was.comes.0 (was.c, was.phone) (too.to, next) was.comes.1
              (inl (too.name, (too.among, (on.covered, refl)))),
        ) in
        subst (Stands lone IsLeft) (sym (ap (λ (s : Step). s.1) too.is)) (stands_too too.to next comes on too.left too.heard)

    pub left_closed : IsClosed lone IsLeft
    left_closed = record {
      opening = stands_too (opening script) start.1 ([], refl) closes.opening (λ j. false) (nothing_heard (λ j. false));
      reset = stands_too (reset script) (after_restart start.1)
          ((reset script, after_restart start.1) ∷ [], (inr (inl (refl, (refl, (closes.reset.covered, refl)))), refl))
          closes.reset (λ j. false) (nothing_heard (λ j. false));
      marked = λ left stands.
          let was = stands.covered in
          subst (JoinedAreMarked lone) (sym was.is) (marked_too was.c left.plays was.heard.less (closes.marked was.c was.stands));
      cleared = λ left stands.
          let was = stands.covered in
          subst (EndedIsCleared lone) (sym was.is) (cleared_too was.c left.plays was.heard.less (closes.cleared was.c was.stands));
      unbound = λ left stands. let was = stands.covered in subst (CreatedAreUnbound lone) (sym was.is) (closes.unbound was.c was.stands);
      live = λ left stands.
          let was = stands.covered in
          subst NamesAreLive (sym was.is) (live_too was.c left.plays was.heard.less (closes.live was.c was.stands));
      steps = steps_too;
    }
